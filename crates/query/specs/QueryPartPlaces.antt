-- Contract: what the answers of the functions stand for that read parts of a query; these are not called from outside. Each contract says
-- that the reader gives what the code's answer stands for, and that every place lies in the text.
use Rattle.std.specs.Prelude.{ℕ, leb, Bool, ◌&&◌, List, ◌≡◌}
use Rattle.std.proofs.Math.Option.{Option, none, some}
use Rattle.condition.specs.Cond.{Cond}
use Rattle.condition.specs.CondForm.{Compared, condition_in_form}
use Rattle.query.specs.JoinForm.{JoinForm}
use Rattle.query.specs.QueryPlaces.{HeadWithin, Selects, TestWithin, Within, chosen_count, comparison_count, condition_at, form_at, selected_from}
use Rattle.query.specs.QueryForm.{QueryForm, column_list}
use Rattle.text.specs.Brackets.{next, optional}
use Rattle.text.specs.Reader.{Left, Reader, ◌>>=◌, from}
use Rattle.text.specs.Words.{Word, name, word_of}
use Rattle.std.specs.Prelude as prelude
use Rattle.std.specs.Prelude.{None, Some}
use Rattle.query.specs.declared.reading.Question.{Question}
use Rattle.query.specs.declared.reading.Head.{Head}
use Rattle.query.specs.declared.reading.Test.{Test}

-- what comes behind the four words of a head
abbrev pub AfterHead : Type 0 → Type 0
AfterHead A = Word → Word → Word → Word → Reader A

-- the four words, and then what comes behind them
unfoldable pub head_then : {A : Type 0} → AfterHead A → Reader A
head_then K = do
  u ← next name
  r ← next name
  p ← next name
  t ← next name
  K u r p t

-- the same by the code's answer for the four words
unfoldable pub head_to : {A : Type 0} → List ℕ → AfterHead A → prelude.Option (Head × ℕ) → Option (A × Left)
head_to s K None = none
head_to s K (Some (h, e)) = K (word_of s h.user) (word_of s h.role) (word_of s h.purpose) (word_of s h.table) (from s e)

-- their places lie in the text
unfoldable pub HeadedWithin : List ℕ → prelude.Option (Head × ℕ) → Type 0
HeadedWithin s None = Unit {0}
HeadedWithin s (Some (h, e)) = HeadWithin s h

-- the code's answer r stands for the four words, whatever comes behind them, in a query of one table or in a join
pub record ReadsHead (s : List ℕ) (at : ℕ) (r : prelude.Option (Head × ℕ)) : Type 0 where
  pub is : (K : AfterHead QueryForm) → head_then K (from s at) ≡ head_to s K r
  pub joins : (K : AfterHead JoinForm) → head_then K (from s at) ≡ head_to s K r
  pub within : HeadedWithin s r

-- the columns of a select, by the code's answer
unfoldable pub listed_at : List ℕ → prelude.Option (ℕ × ℕ × ℕ) → Option (List Word × Left)
listed_at s None = none
listed_at s (Some (p, n, e)) = some (selected_from s p, from s e)

-- their place and their number
unfoldable pub ListedWithin : List ℕ → prelude.Option (ℕ × ℕ × ℕ) → Type 0
ListedWithin s None = Unit {0}
ListedWithin s (Some (p, n, e)) = Selects s p n

-- the code's answer r stands for the column bracket
pub record ReadsColumns (s : List ℕ) (at : ℕ) (r : prelude.Option (ℕ × ℕ × ℕ)) : Type 0 where
  pub is : next column_list (from s at) ≡ listed_at s r
  pub within : ListedWithin s r

-- the condition that may be absent, by the code's answer
unfoldable pub tested_at : List ℕ → prelude.Option (Test × ℕ) → Option (Option (Cond Compared) × Left)
tested_at s None = none
tested_at s (Some (t, e)) = some (condition_at s t, from s e)

-- its place and its number of comparisons
unfoldable pub TestedWithin : List ℕ → prelude.Option (Test × ℕ) → Type 0
TestedWithin s None = Unit {0}
TestedWithin s (Some (t, e)) = TestWithin s t

-- the code's answer r stands for the condition that may be absent
pub record ReadsTest (s : List ℕ) (at : ℕ) (r : prelude.Option (Test × ℕ)) : Type 0 where
  pub is : optional condition_in_form (from s at) ≡ tested_at s r
  pub within : TestedWithin s r

-- what stands behind a keyword, by the code's answer
unfoldable pub body_at : List ℕ → prelude.Option (Question × ℕ) → Option (QueryForm × Left)
body_at s None = none
body_at s (Some (q, e)) = some (form_at s q, from s e)

-- its places and numbers
unfoldable pub BodyWithin : List ℕ → prelude.Option (Question × ℕ) → Type 0
BodyWithin s None = Unit {0}
BodyWithin s (Some (q, e)) = Within s q

-- the code's answer r stands for what a reader gives
pub record ReadsBody (s : List ℕ) (o : Option (QueryForm × Left)) (r : prelude.Option (Question × ℕ)) : Type 0 where
  pub is : o ≡ body_at s r
  pub within : BodyWithin s r

-- the numbers of a question are within the bounds
unfoldable pub is_bounded : Question → Bool
is_bounded q = leb (chosen_count q.wanted) 16 && leb (comparison_count q.test) 64
