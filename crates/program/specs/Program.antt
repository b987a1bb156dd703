-- Contract: short-circuit programs of conditions: for each comparison, in the order of the text, where to go on when it holds and when
-- it does not. What a program comes to, and the program of a condition.
use Rattle.std.specs.Prelude.{◌+◌, ◌≤◌, suc, zero, ℕ, eqb, get_or, length, Bool, cond, false, not, true, List, [], ◌++◌, ◌∷◌, map, ◌≡◌}
use Rattle.std.proofs.lemmas.List.Edits.{sets}
use Rattle.std.proofs.Math.Option.{some}
use Rattle.condition.specs.Answers.{condition_by, numbered, read_to}
use Rattle.condition.specs.CondForm.{Compared, Naming, plainly}
use Rattle.std.specs.Prelude.{Option}
use Rattle.text.specs.Reader.{Left, from}
use Rattle.condition.specs.Cond.{Cond, Conds, both, comparisons, either, holds_two, last, more, negate, test}

-- how many comparisons a program has room for. This number says that the condition holds, and the one behind it that it does not
abbrev pub room : ℕ
room = 64

-- one comparison: the number to go on with where it holds, and where it does not; it stands under an odd number of `not`s
pub record Branch : Type 0 where
  pub on_true : ℕ
  pub on_false : ℕ
  pub odd : Bool

abbrev pub branch : ℕ → ℕ → Bool → Branch
branch y n o = record { on_true = y; on_false = n; odd = o }

-- where a program comes to that begins with step k and is to go on with number t: steps are passed by until number t is
-- there. f tells whether the comparison of a number holds, read under an odd number of `not`s or an even one
unfoldable pub run : (Bool → ℕ → Bool) → ℕ → List Branch → ℕ → ℕ
run f k [] t = t
run f k (e ∷ es) t = run f (k + 1) es (cond (eqb t k) (cond (f e.odd k) e.on_true e.on_false) t)

-- the m steps from number k on, as three lists hold them
unfoldable pub branches_of : List ℕ → List ℕ → List Bool → ℕ → ℕ → List Branch
branches_of ts fs os k zero = []
branches_of ts fs os k (suc m) = branch (get_or ts k 0) (get_or fs k 0) (get_or os k false) ∷ branches_of ts fs os (k + 1) m

-- the truths of the comparisons under an even number of `not`s, and under an odd one
abbrev pub truth_in : List Bool → List Bool → Bool → ℕ → Bool
truth_in evens odds o k = cond o (get_or odds k false) (get_or evens k false)

-- the program of m steps that three lists hold says that the condition holds
abbrev pub comes_to : (Bool → ℕ → Bool) → List ℕ → List ℕ → List Bool → ℕ → Bool
comes_to f ts fs os m = eqb (run f 0 (branches_of ts fs os 0 m) 0) room

-- what the code's answer r and the lists that it stored say of the condition at a position of the text s: where it ends and how
-- many comparisons it has; and, where there is room for them, that running the program is evaluating the condition,
-- whatever tells which comparisons hold under an even number of `not`s and under an odd one
pub record ProgrammedBy (way : Naming) (s : List ℕ) (at : ℕ) (r : Option (ℕ × ℕ)) (ts fs : List ℕ) (os : List Bool) : Type 0 where
  pub reads : r ≡ read_to (condition_by way (from s at))
  pub runs : (c : Cond Compared) (l : Left) → condition_by way (from s at) ≡ some (c, l) → length (comparisons c) ≤ room → (f : Bool → ℕ → Bool) → comes_to f ts fs os (length (comparisons c)) ≡ holds_two (f false) (f true) (numbered 0 c)

-- the same of the condition of a form
abbrev pub Programmed : List ℕ → ℕ → Option (ℕ × ℕ) → List ℕ → List ℕ → List Bool → Type 0
Programmed s at r ts fs os = ProgrammedBy plainly s at r ts fs os

-- ---- for the functions that are not called from outside

-- the steps of a condition whose first comparison has the number k: it goes on with y where it holds and with n where not
unfoldable mutual
  pub code : {C : Type 0} → ℕ → ℕ → ℕ → Bool → Cond C → List Branch
  code k y n o (test c) = branch y n o ∷ []
  code k y n o (negate c) = code k n y (not o) c
  code k y n o (both cs) = code_all k y n o cs
  code k y n o (either cs) = code_any k y n o cs

  -- all of them hold: the first that does not decides
  pub code_all : {C : Type 0} → ℕ → ℕ → ℕ → Bool → Conds C → List Branch
  code_all k y n o (last c) = code k y n o c
  code_all k y n o (more c cs) = code k (k + length (comparisons c)) n o c ++ code_all (k + length (comparisons c)) y n o cs

  -- one of them holds: the first that does decides
  pub code_any : {C : Type 0} → ℕ → ℕ → ℕ → Bool → Conds C → List Branch
  code_any k y n o (last c) = code k y n o c
  code_any k y n o (more c cs) = code k y (k + length (comparisons c)) o c ++ code_any (k + length (comparisons c)) y n o cs

-- three lists became others by storing steps from number k on, as many as have room
pub record Written (k : ℕ) (es : List Branch) (ts fs : List ℕ) (os : List Bool) (ts' fs' : List ℕ) (os' : List Bool) : Type 0 where
  pub trues : ts' ≡ sets ts k (map (λ (e : Branch). e.on_true) es)
  pub falses : fs' ≡ sets fs k (map (λ (e : Branch). e.on_false) es)
  pub odds : os' ≡ sets os k (map (λ (e : Branch). e.odd) es)
