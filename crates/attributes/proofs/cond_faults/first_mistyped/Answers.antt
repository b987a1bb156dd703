-- `attributes::cond_faults::first_mistyped` meets its contract. The loop's invariant: the comparisons that were passed are of the right type.
-- Assumes nothing.
use Prim.Native.Nat.{◌-◌, ◌≤◌}
use borrow.Author.Count.{below_more, below_none}
use lib.ListN.{get_or, length}
use mathlib.Core.Path.{◌∙◌, ◌≡◌, ap, sym}
use native.Mathlib.Omega.{arith}
use Rattle.condition.specs.Answers.{compared_at, kind_of}
use Rattle.condition.specs.CondForm.{mistyped}
use Rattle.document.specs.Lookup.{attribute_kind}
use Rattle.document.specs.Policy.{Policy}
use Rattle.attributes.proofs.CondLineLaws.{mistyped_near}
use Rattle.principals.specs.Attributes.{Attributes}
use Rattle.text.proofs.FirstOffending.{first_of, none_of}
use Rattle.text.specs.CodeEnds.{offending_value}
use Rattle.text.specs.Walking.{next_word}
use Rattle.text.specs.Words.{word_of, written_of}
use Rattle.attributes.proofs.cond_faults.first_mistyped.Goals.{After-wrong_type}
use Rattle.attributes.proofs.cond_faults.first_mistyped.Goals as goal

pub loop-j-init : goal.loop-j-init
loop-j-init c = (omega arith, λ d h. below_none _)

pub bounds-ops-j : goal.bounds-ops-j
bounds-ops-j c = omega (arith, c.requires)

-- what the code found is what is wrong with the comparison
found : (c : After-wrong_type) (d : Policy) → Attributes
    c.args.text.now
    c.args.attributes.now
    c.args.n d.attributes → offending_value
    c.args.line.now c.wrong_type.result ≡ mistyped (attribute_kind d (word_of
    c.args.line.now
    (next_word c.args.line.now (get_or c.args.ops.now c.loop-j.j 0))))
    (compared_at c.args.line.now (get_or
    c.args.ops.now c.loop-j.j 0))
found c d h =
    let s = c.args.line.now in
    let kind : kind_of c.kind_named-kind.result ≡ attribute_kind d
    (word_of s (next_word s (get_or c.args.ops.now c.loop-j.j 0))) = c.kind_named-kind.ensures d h ∙ ap
    (λ p. attribute_kind d (word_of s p)) c.next_word.ensures in
    c.wrong_type.ensures ∙ ap (λ k. mistyped k (compared_at s (get_or c.args.ops.now c.loop-j.j 0))) kind

pub returns-in-Some : goal.returns-in-Some
returns-in-Some c = let s = c.args.line.now in
    let many : c.args.count ≤ length
    c.args.ops.now = c.requires.1 in
    let op = get_or c.args.ops.now c.loop-j.j 0 in (
      (λ d h.
          sym (first_of (λ p. mistyped (attribute_kind d (word_of s (next_word s p))) (compared_at s p))
          c.args.ops.now
          c.args.count
          c.loop-j.j (written_of s c.in-Some.p) many
          c.loop-j-test.true
          (c.loop-j.invariant.1 d h)
          (sym (found (goal.at.returns-in-Some c).After-wrong_type d h) ∙ ap (offending_value s) c.in-Some.is))),
      (λ near. mistyped_near s (kind_of c.kind_named-kind.result) op c.in-Some.p
          (near c.loop-j.j c.loop-j-test.true)
          (sym (ap (offending_value s) c.in-Some.is) ∙ c.wrong_type.ensures)),
    )

pub loop-j-preserved : goal.loop-j-preserved
loop-j-preserved c = (
  omega (arith, c.loop-j-test.true),
  (λ d h. below_more _ c.loop-j.j
      (c.loop-j.invariant.1 d h)
      (sym (found (goal.at.loop-j-preserved c).After-wrong_type d h) ∙ ap (offending_value c.args.line.now) c.in_default.is)),
)

pub returns : goal.returns
returns c = let s = c.args.line.now in
    let many : c.args.count ≤ length c.args.ops.now = c.requires.1 in (
      (λ d h. sym (none_of (λ p. mistyped (attribute_kind d (word_of s (next_word s p))) (compared_at s p)) c.args.ops.now c.args.count many (λ i l. c.loop-j.invariant.1 d h i (omega (arith, l, c.loop-j-test.false))))),
      (λ near. tt),
    )
