-- Contract: what the code stores of the words that name columns: their places, from left to right.
use Rattle.std.specs.Prelude.{◌+◌, ◌≤◌, ℕ, length, take, List, ◌++◌, map, ◌≡◌}
use Rattle.condition.specs.Answers.{compared_at}
use Rattle.condition.specs.Cond.{comparisons_in}
use Rattle.query.specs.QueryForm.{named_words}
use Rattle.query.specs.QueryPlaces.{TestWithin, comparison_count, condition_at, form_at}
use Rattle.text.specs.Words.{Word, word_of}
use Rattle.query.specs.declared.reading.Question.{Question}
use Rattle.query.specs.declared.reading.Test.{Test}

-- the words at the first r places
abbrev pub words_at : List ℕ → ℕ → List ℕ → List Word
words_at s r places = map (word_of s) (take r places)

-- the operators of the condition's comparisons stand at the first of the places ops
pub record TestsPlaced (s : List ℕ) (t : Test) (ops : List ℕ) : Type 0 where
  pub few : comparison_count t ≤ 64
  pub number : length (comparisons_in (condition_at s t)) ≡ comparison_count t
  pub compared : map (compared_at s) (take (comparison_count t) ops) ≡ comparisons_in (condition_at s t)

-- THE NAMED COLUMNS: the first r places are those of the words that name columns in the query, and ops those of its operators
pub record NamesPlaced (s : List ℕ) (q : Question) (r : ℕ) (places ops : List ℕ) : Type 0 where
  pub small : r ≤ 80
  pub words : words_at s r places ≡ named_words (form_at s q)
  pub tests : TestsPlaced s q.test ops

-- ---- for the functions that are not called from outside; before is the lent part before the call, after is what it is then

-- the first r places are those of these words, if they have room
pub record PlacesStored (s : List ℕ) (ws : List Word) (r : ℕ) (before after : List ℕ) : Type 0 where
  pub small : r ≤ length before
  pub same : length after ≡ length before
  pub named : length ws ≤ length before → words_at s r after ≡ ws

-- behind the first k places stand those of the columns that n comparisons name, at most `most` of them
pub record ComparedStored (s ops : List ℕ) (most n k r : ℕ) (before after : List ℕ) : Type 0 where
  pub small : k ≤ length before → r ≤ length before
  pub named : n ≤ most → k + n ≤ length before → words_at s r after ≡ words_at s k before ++ map (λ x. x.of) (map (compared_at s) (take n ops))

-- the same for a condition that may be absent; the places of its operators are ops
pub record TestStored (s : List ℕ) (t : Test) (k r : ℕ) (before after ops : List ℕ) : Type 0 where
  pub small : k ≤ length before → r ≤ length before
  pub placed : TestWithin s t → comparison_count t ≤ 64 → TestsPlaced s t ops
  pub named : TestWithin s t → comparison_count t ≤ 64 → k + comparison_count t ≤ length before → words_at s r after ≡ words_at s k before ++ map (λ x. x.of) (comparisons_in (condition_at s t))
