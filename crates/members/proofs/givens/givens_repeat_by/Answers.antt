-- `members::givens::givens_repeat_by` meets its contract. The loop's invariant: n values were passed and their names met, and the first repeat
-- behind them is the first of all. Assumes nothing.
use lib.ListN.{take}
use mathlib.Core.Bool.{false}
use mathlib.Core.Path.{◌∙◌, ◌≡◌, ap, refl, sym}
use native.Mathlib.Omega.{arith}
use Rattle.members.proofs.GivenLaws.{given_names, pair_less, repeats_here, repeats_onward, repeats_over, rest_onward, space_here, tests_onward}
use Rattle.form.proofs.WalkSteps.{pair_after}
use Rattle.workspace.proofs.MetLaws.{met_none}
use Rattle.lists.specs.Lists.{any_of, there}
use Rattle.text.specs.Offending.{repeated}
use Rattle.text.specs.Words.{is_called, word_of}
use Rattle.members.proofs.givens.givens_repeat_by.Goals.{Joined-not-is_new, then-not-is_new+else-given_before, else-not-is_new}
use Rattle.members.proofs.givens.givens_repeat_by.Goals as goal

pub loop-a-init : goal.loop-a-init
unfolding repeated
loop-a-init c = (omega arith, refl, refl, met_none _, refl)

pub overflow_add-j : goal.overflow_add-j
overflow_add-j c = omega (arith, space_here c.args.line.now c.loop-a.j (sym c.byte_at.ensures ∙ c.loop-a-test.true))

pub shape_of-met-then-given_before : goal.shape_of-met-then-given_before
shape_of-met-then-given_before c = omega (arith, c.loop-a.invariant.4)

pub returns-then-given_before : goal.returns-then-given_before
returns-then-given_before c = sym (repeats_here c.args.line.now
    c.loop-a.j
    c.first_in-a.result
    c.loop-a.n
    (given_names c.args.line.now c.args.gs)
    (sym c.byte_at.ensures ∙ c.loop-a-test.true)
    c.first_in-a.ensures
    c.loop-a.invariant.1
    (sym c.given_before.ensures ∙ c.if-given_before.true)) ∙ ap there
    c.loop-a.invariant.2

pub overflow_add-j-in-loop-a : goal.overflow_add-j-in-loop-a
overflow_add-j-in-loop-a c = omega (
  arith,
  space_here c.args.line.now
      c.loop-a.j
      (sym c.byte_at.ensures ∙ c.loop-a-test.true),
)

-- the name is none of those before: it is surely new, or it was compared with them
absent : (c : Joined-not-is_new) → any_of (λ v. is_called
    (word_of c.args.line.now c.first_in-a.result)
    v.bytes) (take c.loop-a.n
    (given_names c.args.line.now c.args.gs)) ≡ false
absent c = elim c.if-not-is_new.branch [
  | then-not-is_new+else-given_before v ↦ sym v.given_before.ensures ∙ v.if-given_before.false
  | else-not-is_new v ↦ c.is_new.ensures.none _ c.loop-a.invariant.3 v.if-not-is_new.false
]

pub overflow_add-n : goal.overflow_add-n
overflow_add-n c = omega (
  arith,
  space_here
      c.args.line.now
      c.loop-a.j
      (sym c.byte_at.ensures ∙ c.loop-a-test.true),
  c.loop-a.invariant.0,
)

pub loop-a-smaller : goal.loop-a-smaller
loop-a-smaller c = pair_less c.args.line.now
    c.loop-a.j
    (sym c.byte_at.ensures ∙ c.loop-a-test.true)
    c.pair_end-j.result c.pair_end-j.ensures

pub loop-a-preserved : goal.loop-a-preserved
loop-a-preserved c = let entry = c.args in (
  omega (arith, c.pair_end-j.ensures, pair_after entry.line.now c.loop-a.j, c.loop-a.invariant.0),
  rest_onward entry.line.now c.loop-a.j
      c.first_in-a.result
      c.loop-a.n (given_names entry.line.now entry.gs)
      (sym c.byte_at.ensures ∙ c.loop-a-test.true)
      c.first_in-a.ensures
      c.loop-a.invariant.1 c.pair_end-j.result c.pair_end-j.ensures,
  repeats_onward entry.line.now c.loop-a.j
      c.first_in-a.result
      c.loop-a.n (given_names entry.line.now entry.gs)
      (sym c.byte_at.ensures ∙ c.loop-a-test.true)
      c.first_in-a.ensures
      c.loop-a.invariant.1 c.pair_end-j.result c.pair_end-j.ensures
      (absent (goal.at.loop-a-preserved c).Joined-not-is_new) ∙ c.loop-a.invariant.2,
  c.is_new.ensures.more _ _
      c.loop-a.invariant.3 (tests_onward entry.line.now
      c.loop-a.j
      c.first_in-a.result
      c.loop-a.n (given_names entry.line.now entry.gs)
      (sym c.byte_at.ensures ∙ c.loop-a-test.true)
      c.first_in-a.ensures
      c.loop-a.invariant.1),
  omega (arith, c.loop-a.invariant.4),
)

pub shape_of-met : goal.shape_of-met
shape_of-met c = c.loop-a.invariant.4

pub returns : goal.returns
returns c = sym (repeats_over c.args.line.now c.loop-a.j
    (take c.loop-a.n (given_names c.args.line.now c.args.gs))
    (λ e. c.loop-a-test.false (c.byte_at.ensures ∙ e))) ∙ ap there c.loop-a.invariant.2
