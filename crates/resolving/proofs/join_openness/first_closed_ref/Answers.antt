-- `resolving::join_openness::first_closed_ref` meets its contract. The loop's invariant: the columns that were passed are open.
-- Assumes nothing.
use Prim.Native.Nat.{◌-◌}
use Rattle.query.specs.Join.{closed_ref}
use Rattle.resolving.proofs.ClosedRefs.{closed_at}
use Rattle.resolving.proofs.FirstAt.{first_there, none_there}
use Rattle.text.proofs.OffendingLaws.{unless_false, unless_true}
use Rattle.text.specs.Words.{word_of}
use borrow.Author.Count.{below_more, below_none}
use lib.ListN.{get_or}
use mathlib.Core.Path.{◌∙◌, sym}
use native.Mathlib.Omega.{arith}
use Rattle.resolving.proofs.join_openness.first_closed_ref.Goals as goal

pub loop-i-init : goal.loop-i-init
loop-i-init c = (omega arith, λ d text s k j rs h o g. below_none _)

pub bounds-columns-i : goal.bounds-columns-i
bounds-columns-i c = omega (arith, c.loop-i-test.true, c.requires)

pub bounds-words-i : goal.bounds-words-i
bounds-words-i c = omega (arith, c.loop-i-test.true, c.requires)

pub returns-then-not-is_ref_open : goal.returns-then-not-is_ref_open
returns-then-not-is_ref_open c = let a = c.args in
    λ d text s k j rs h o g.
    sym (first_there (closed_ref d j) rs a.n g.number c.loop-i.i
    (word_of s (get_or a.words.now c.loop-i.i 0)) c.loop-i-test.true
    (c.loop-i.invariant.1 d text s k j rs h o g)
    (λ r e. closed_at h g c.loop-i.i c.is_ref_open.result
    (c.is_ref_open.ensures d text s k _ j h o) r e ∙ unless_false _ _ c.if-not-is_ref_open.true))

pub loop-i-preserved : goal.loop-i-preserved
loop-i-preserved c = (
  omega (arith, c.loop-i-test.true),
  λ d text s k j rs h o g. below_more _ c.loop-i.i (c.loop-i.invariant.1 d text s k j rs h o g)
      (λ r e. closed_at h g c.loop-i.i c.is_ref_open.result (c.is_ref_open.ensures d text s k _ j h o) r e ∙
      unless_true _ _ c.if-not-is_ref_open.false),
)

pub returns : goal.returns
returns c = λ d text s k j rs h o g. sym (none_there (closed_ref d j) rs c.args.n g.number
    (λ m l. c.loop-i.invariant.1 d text s k j rs h o g m (omega (arith, l, c.loop-i-test.false))))
