-- Contract: the query that a text is, by the places of its words. The contract of read_query says that this is the query of QueryForm,
-- that every place lies in the text, and that the query is within the bounds.
use Rattle.std.specs.Prelude.{◌≤◌, ℕ, length, Bool, false, true, List, ◌∷◌, ◌≡◌}
use Rattle.std.proofs.Math.Option.{Option, map, none, some}
use Rattle.condition.specs.Answers.{comparisons_at}
use Rattle.condition.specs.Cond.{Cond}
use Rattle.condition.specs.CondForm.{Compared, condition_in_form}
use Rattle.form.specs.Walks.{names_at}
use Rattle.lists.specs.Lists.{there}
use Rattle.query.specs.QueryForm as form
use Rattle.query.specs.QueryForm.{QueryForm, query_of}
use Rattle.text.specs.Reader.{from}
use Rattle.text.specs.Walking.{word_end_at}
use Rattle.text.specs.Words.{Word, word_of}
use Rattle.std.specs.Prelude as prelude
use Rattle.std.specs.Prelude.{None, Some}
use Rattle.query.specs.declared.reading.Head.{Head}
use Rattle.query.specs.declared.reading.Question.{Question}
use Rattle.query.specs.declared.reading.Test.{Test}
use Rattle.query.specs.declared.reading.Test.TheVariants as test
use Rattle.query.specs.declared.reading.Verb.{Verb}
use Rattle.query.specs.declared.reading.Verb.TheVariants as verb
use Rattle.query.specs.declared.reading.Wanted.{Wanted}
use Rattle.query.specs.declared.reading.Wanted.TheVariants as wanted

-- the condition, if there is one
unfoldable pub condition_at : List ℕ → Test → Option (Cond Compared)
condition_at s test.Always = none
condition_at s (test.When t n) = map (λ x. x.0) (condition_in_form (from s t))

-- the columns that are selected, the first of them standing at a position
unfoldable pub selected_from : List ℕ → ℕ → List Word
selected_from s p = word_of s p ∷ names_at s (word_end_at s p)

-- how rows are asked for
unfoldable pub verb_of : Verb → form.Verb
verb_of verb.Select = form.select
verb_of verb.Blank = form.blank
verb_of verb.Sure = form.surely
verb_of verb.Possible = form.possibly

-- what is asked for
unfoldable pub wanted_at : List ℕ → Wanted → form.Wanted Word
wanted_at s (wanted.Rows v p n) = form.rows_of (verb_of v) (selected_from s p)
wanted_at s wanted.Count = form.counts_only

-- the query that a question stands for
unfoldable pub form_at : List ℕ → Question → QueryForm
form_at s q = record {
  user = word_of s q.head.user;
  role = word_of s q.head.role;
  purpose = word_of s q.head.purpose;
  table = word_of s q.head.table;
  wanted = wanted_at s q.wanted;
  condition = condition_at s q.test;
}

-- whether rows are asked for
unfoldable pub asks_rows : Wanted → Bool
asks_rows (wanted.Rows v p n) = true
asks_rows wanted.Count = false

-- how rows are asked for; a count withholds as a select does
unfoldable pub verb_in : Wanted → Verb
verb_in (wanted.Rows v p n) = v
verb_in wanted.Count = verb.Select

-- how many columns are selected
unfoldable pub chosen_count : Wanted → ℕ
chosen_count (wanted.Rows v p n) = n
chosen_count wanted.Count = 0

-- how many comparisons the condition has
unfoldable pub comparison_count : Test → ℕ
comparison_count test.Always = 0
comparison_count (test.When t n) = n

-- the four words lie in the text
pub record HeadWithin (s : List ℕ) (h : Head) : Type 0 where
  pub user : h.user ≤ length s
  pub role : h.role ≤ length s
  pub purpose : h.purpose ≤ length s
  pub table : h.table ≤ length s

-- the bracket of a condition lies in the text, and the condition has as many comparisons as the code says
pub record Tests (s : List ℕ) (t n : ℕ) : Type 0 where
  pub place : t ≤ length s
  pub reads : there (condition_in_form (from s t)) ≡ true
  pub number : length (comparisons_at s t) ≡ n

-- the same for a condition that may be absent
unfoldable pub TestWithin : List ℕ → Test → Type 0
TestWithin s test.Always = Unit {0}
TestWithin s (test.When t n) = Tests s t n

-- the first selected column lies in the text, and there are as many columns as the code says
pub record Selects (s : List ℕ) (p n : ℕ) : Type 0 where
  pub place : p ≤ length s
  pub number : length (selected_from s p) ≡ n

-- the same for columns that may not be asked for
unfoldable pub WantedWithin : List ℕ → Wanted → Type 0
WantedWithin s (wanted.Rows v p n) = Selects s p n
WantedWithin s wanted.Count = Unit {0}

-- the places of a question lie in the text, and its numbers are right
pub record Within (s : List ℕ) (q : Question) : Type 0 where
  pub head : HeadWithin s q.head
  pub wanted : WantedWithin s q.wanted
  pub test : TestWithin s q.test

-- at most 16 columns and 64 comparisons
pub record Few (q : Question) : Type 0 where
  pub columns : chosen_count q.wanted ≤ 16
  pub tests : comparison_count q.test ≤ 64

-- the question stands for the query that the text is; its places lie in the text, and it is within the bounds
pub record IsQuery (s : List ℕ) (q : Question) : Type 0 where
  pub is : query_of s ≡ some (form_at s q)
  pub within : Within s q
  pub few : Few q

-- THE QUERY: the code's answer is the question that stands for the text's query, or says that the text is none
unfoldable pub ReadsQuery : List ℕ → prelude.Option Question → Type 0
ReadsQuery s None = query_of s ≡ none
ReadsQuery s (Some q) = IsQuery s q
