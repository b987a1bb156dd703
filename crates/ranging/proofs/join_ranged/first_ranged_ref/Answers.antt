-- `ranging::join_ranged::first_ranged_ref` meets its contract. The loop's invariant: the columns that were passed have no range.
-- Assumes nothing.
use Prim.Native.Nat.{◌-◌}
use Rattle.answer.specs.Ranged.{ranged_ref}
use Rattle.query.specs.JoinForm.{join_refs}
use Rattle.ranging.proofs.RangedRefs.{ref_plain, ref_ranged}
use Rattle.resolving.proofs.FirstAt.{first_there, none_there}
use Rattle.text.specs.Words.{word_of}
use borrow.Author.Count.{below_more, below_none}
use lib.ListN.{get_or}
use mathlib.Core.Path.{sym}
use native.Mathlib.Omega.{arith}
use Rattle.ranging.proofs.join_ranged.first_ranged_ref.Goals as goal

pub loop-i-init : goal.loop-i-init
loop-i-init c = (omega arith, λ d s k j h w g. below_none _)

pub bounds-columns-i : goal.bounds-columns-i
bounds-columns-i c = omega (arith, c.loop-i-test.true, c.requires)

pub returns-then-is_ref_ranged : goal.returns-then-is_ref_ranged
returns-then-is_ref_ranged c = let a = c.args in
    λ d s k j h w g.
    sym (first_there (ranged_ref d j) (join_refs j) a.n g.number c.loop-i.i
    (word_of s (get_or a.words.now c.loop-i.i 0)) c.loop-i-test.true
    (c.loop-i.invariant.1 d s k j h w g)
    (λ r e. ref_ranged d h g c.loop-i.i c.is_ref_ranged.result
    (c.is_ref_ranged.ensures d s k j h w) r e c.if-is_ref_ranged.true))

pub loop-i-preserved : goal.loop-i-preserved
loop-i-preserved c = (
  omega (arith, c.loop-i-test.true),
  λ d s k j h w g. below_more _ c.loop-i.i (c.loop-i.invariant.1 d s k j h w g)
      (λ r e. ref_plain d h g c.loop-i.i c.is_ref_ranged.result (c.is_ref_ranged.ensures d s k j h w) r e c.if-is_ref_ranged.false),
)

pub returns : goal.returns
returns c = λ d s k j h w g. sym (none_there (ranged_ref d j) (join_refs j) c.args.n g.number
    (λ m l. c.loop-i.invariant.1 d s k j h w g m (omega (arith, l, c.loop-i-test.false))))
