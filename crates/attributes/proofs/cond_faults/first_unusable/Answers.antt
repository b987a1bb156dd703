-- `attributes::cond_faults::first_unusable` meets its contract. The loop's invariant: the attributes that were passed are usable. Assumes nothing.
use Prim.Native.Nat.{◌-◌, ◌≤◌}
use borrow.Author.Count.{below_more, below_none}
use lib.ListN.{get_or, length}
use mathlib.Core.Bool.{true}
use mathlib.Core.Option.{some}
use mathlib.Core.Path.{◌∙◌, ◌≡◌, ap, sym}
use native.Mathlib.Omega.{arith}
use Rattle.document.specs.NameFaults.{usable_for}
use Rattle.text.proofs.FirstOffending.{first_missing_lem, none_missing}
use Rattle.text.proofs.WalkingLaws.{next_within}
use Rattle.text.specs.Walking.{next_word}
use Rattle.text.specs.Words.{word_of}
use Rattle.attributes.proofs.cond_faults.first_unusable.Goals as goal

pub loop-j-init : goal.loop-j-init
loop-j-init c = (omega arith, λ d g h. below_none _)

pub bounds-ops-j : goal.bounds-ops-j
bounds-ops-j c = omega (arith, c.requires)

pub returns-then-not-usable : goal.returns-then-not-usable
returns-then-not-usable c = let s = c.args.line.now in
    let many : c.args.count ≤ length c.args.ops.now = c.requires.1 in
    let at : c.next_word-at.result ≡ next_word s (get_or c.args.ops.now c.loop-j.j 0) = c.next_word-at.ensures in (
      (λ d g h.
          ap (λ p. some (word_of s p)) at
          ∙ sym (first_missing_lem (usable_for d c.args.role)
          (λ p. word_of s (next_word s p)) c.args.ops.now
          c.args.count
          c.loop-j.j many c.loop-j-test.true
          (c.loop-j.invariant.1 d g h)
          (ap (λ p. usable_for d c.args.role (word_of s p)) (sym at) ∙ sym (c.usable.ensures d g h) ∙ c.if-not-usable.true))),
      (λ near. omega
          (arith, at, next_within s (get_or c.args.ops.now c.loop-j.j 0) (near c.loop-j.j c.loop-j-test.true))),
    )

pub loop-j-preserved : goal.loop-j-preserved
loop-j-preserved c = let s = c.args.line.now in
    let at : c.next_word-at.result ≡ next_word s (get_or c.args.ops.now c.loop-j.j 0) = c.next_word-at.ensures in (
      omega (arith, c.loop-j-test.true),
      (λ d g h. below_more _ c.loop-j.j (c.loop-j.invariant.1 d g h)
          (ap (λ p. usable_for d c.args.role (word_of s p)) (sym at) ∙ sym (c.usable.ensures d g h) ∙ c.if-not-usable.false)),
    )

pub returns : goal.returns
returns c = let s = c.args.line.now in
    let many : c.args.count ≤ length c.args.ops.now = c.requires.1 in (
      (λ d g h. sym (none_missing (usable_for d c.args.role) (λ p. word_of s (next_word s p))
          c.args.ops.now c.args.count many
          (λ i l. c.loop-j.invariant.1 d g h i (omega (arith, l, c.loop-j-test.false))))),
      (λ near. tt),
    )
