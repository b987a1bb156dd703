-- `principals::attributes::find_attribute` meets its contract: the clock's by their words, the others in the array. Assumes nothing.
use Prim.Native.Nat.{◌+◌, ◌<◌, ℕ}
use mathlib.Core.List.{List}
use mathlib.Core.Option.{map}
use mathlib.Core.Path.{◌∙◌, ◌≡◌, ap, subst, sym}
use native.Mathlib.Omega.{arith}
use Rattle.document.specs.Policy.{Attribute}
use Rattle.principals.proofs.AttributeLaws.{found_day, found_hour, found_later, found_year}
use Rattle.principals.specs.Attributes.{Attributes}
use Rattle.workspace.specs.Found.{FoundBelow, found_as}
use Rattle.std.specs.Prelude.{Option}
use Rattle.lists.specs.Lists.{find_index}
use Rattle.text.specs.Words.{is_called, word_of}
use Rattle.principals.proofs.attributes.find_attribute.Goals.{After-find_name, In_ok-n}
use Rattle.principals.proofs.attributes.find_attribute.Goals as goal

pub returns-then-is_word : goal.returns-then-is_word
unfolding is_called
returns-then-is_word c = (λ xs h. sym (found_year (word_of c.args.line.now c.args.i) h (sym c.is_word.ensures ∙ c.if-is_word.true)), omega arith)

pub returns-then-is_word-2 : goal.returns-then-is_word-2
unfolding is_called
returns-then-is_word-2 c = (λ xs h. sym (found_day (word_of c.args.line.now c.args.i) h (sym c.is_word.ensures ∙ c.if-is_word.false) (sym c.is_word-2.ensures ∙ c.if-is_word-2.true)), omega arith)

pub returns-then-is_word-3 : goal.returns-then-is_word-3
unfolding is_called
returns-then-is_word-3 c = (λ xs h. sym (found_hour (word_of c.args.line.now c.args.i) h (sym c.is_word.ensures ∙ c.if-is_word.false) (sym c.is_word-2.ensures ∙ c.if-is_word-2.false) (sym c.is_word-3.ensures ∙ c.if-is_word-3.true)), omega arith)

pub returns-then-k-gt-ATTRIBUTES : goal.returns-then-k-gt-ATTRIBUTES
returns-then-k-gt-ATTRIBUTES c = (λ xs h. absurd (omega (arith, h.few, c.if-k-gt-ATTRIBUTES.true)), tt)

-- what is found in the array, taken to all attributes
later : (c : After-find_name) (xs : List Attribute) → Attributes c.args.text.now c.args.ws.now c.args.k xs
    → map (λ i. 3 + i) (found_as c.find_name.result) ≡ find_index (λ (x : Attribute). is_called (word_of c.args.line.now c.args.i) x.name) xs
unfolding is_called
later c xs h =
    found_later (word_of c.args.line.now c.args.i) h (sym c.is_word.ensures ∙ c.if-is_word.false) (sym c.is_word-2.ensures ∙ c.if-is_word-2.false) (sym c.is_word-3.ensures ∙ c.if-is_word-3.false)
    (found_as c.find_name.result) (c.find_name.ensures.0 (omega arith))

-- its number is below k
below : (c : In_ok-n) → c.in_ok-n.n < c.args.k
below c = subst (λ (r : Option ℕ). FoundBelow r c.args.k) c.in_ok-n.was c.find_name.ensures.1

pub overflow_add-result : goal.overflow_add-result
overflow_add-result c = omega (arith, below c, c.if-k-gt-ATTRIBUTES.false)

pub returns : goal.returns
returns c = (λ xs h. sym (ap (λ (r : Option ℕ). map (λ i. 3 + i) (found_as r)) c.in_ok-n.was) ∙ later (goal.at.returns c).After-find_name xs h, omega (arith, below c))

pub returns-in_err-n : goal.returns-in_err-n
returns-in_err-n c = (
  λ xs h. ap found_as c.from_residual.ensures ∙ sym (ap (λ (r : Option ℕ). map (λ i. 3 + i) (found_as r)) c.in_err-n.was) ∙ later (goal.at.returns-in_err-n c).After-find_name xs h,
  subst (λ (r : Option ℕ). FoundBelow r (3 + c.args.k)) (sym c.from_residual.ensures) tt,
)
