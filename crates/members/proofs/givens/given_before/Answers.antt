-- `members::givens::given_before` meets its contract. The loop's invariant: the name is among those left of the first n exactly when it is
-- among all of them. Assumes nothing.
use Prim.Native.Nat.{◌-◌}
use lib.ListN.{take}
use mathlib.Core.Path.{◌∙◌, ◌≡◌, ap, sym}
use native.Mathlib.Omega.{arith}
use Rattle.members.proofs.GivenLaws.{among_here, among_none, among_onward, among_over, given_names, space_here}
use Rattle.lists.specs.Lists.{any_of}
use Rattle.text.proofs.OffendingLaws.{same_word}
use Rattle.text.specs.Words.{is_called, word_of}
use Rattle.members.proofs.givens.given_before.Goals as goal

pub loop-i-init : goal.loop-i-init
loop-i-init c = let e : c.args.n - 0 ≡ c.args.n = omega arith in (omega arith, ap (λ m. any_of (same_word (word_of c.args.line.now c.args.w)) (take m (given_names c.args.line.now c.args.gs))) e)

pub returns-then-byte_at-ne32 : goal.returns-then-byte_at-ne32
returns-then-byte_at-ne32 c = let entry = c.args in sym
    (among_over (same_word (word_of entry.line.now entry.w)) entry.line.now c.loop-i.j (entry.n - c.loop-i.i) (λ e. c.if-byte_at-ne32.true (c.byte_at.ensures ∙ e))) ∙ c.loop-i.invariant.1

pub overflow_add-j : goal.overflow_add-j
overflow_add-j c = omega (arith, space_here c.args.line.now c.loop-i.j (sym c.byte_at.ensures ∙ c.if-byte_at-ne32.false))

pub returns-then-same_name : goal.returns-then-same_name
unfolding is_called
returns-then-same_name c = let entry = c.args in sym (among_here
    (same_word (word_of entry.line.now entry.w)) entry.line.now c.loop-i.j
    c.first_in-a.result entry.n c.loop-i.i
    (sym c.byte_at.ensures ∙ c.if-byte_at-ne32.false) c.first_in-a.ensures
    (omega arith) (sym c.same_name.ensures ∙ c.if-same_name.true)) ∙ c.loop-i.invariant.1

pub overflow_add-j-in-loop-i : goal.overflow_add-j-in-loop-i
overflow_add-j-in-loop-i c = omega (arith, space_here c.args.line.now c.loop-i.j (sym c.byte_at.ensures ∙ c.if-byte_at-ne32.false))

pub loop-i-preserved : goal.loop-i-preserved
unfolding is_called
loop-i-preserved c = let entry = c.args in (
  omega arith,
  among_onward
      (same_word (word_of entry.line.now entry.w)) entry.line.now c.loop-i.j
      c.first_in-a.result entry.n c.loop-i.i
      (sym c.byte_at.ensures ∙ c.if-byte_at-ne32.false)
      c.first_in-a.ensures (omega arith) c.pair_end-j.result c.pair_end-j.ensures
      (sym c.same_name.ensures ∙ c.if-same_name.false) ∙ c.loop-i.invariant.1,
)

pub returns : goal.returns
returns c = let entry = c.args in sym (among_none (same_word (word_of entry.line.now entry.w)) (given_names entry.line.now c.loop-i.j) (entry.n - c.loop-i.i) (omega arith)) ∙ c.loop-i.invariant.1
