-- `belonging::values::walk_values` meets its contract. The loop's invariant: the values stored and those still to come are all. Assumes
-- nothing.
use Prim.Native.Nat.{◌-◌, ℕ}
use borrow.Author.Rules.{rules}
use lib.ListN.{length}
use mathlib.Core.List.{List}
use mathlib.Core.Path.{◌∙◌, ap, subst, sym}
use native.Mathlib.Omega.{arith}
use Rattle.belonging.proofs.ValueLaws.{Walked, kept_long, pair_less, second_near, space_here, walk_on, walk_over, walk_start}
use Rattle.belonging.proofs.values.walk_values.Goals as goal

pub loop-a-init : goal.loop-a-init
loop-a-init c = (search rules, λ long e. walk_start c.args.text.now c.args.attributes.now c.args.k c.args.line.now c.args.place c.args.places.now long e)

pub overflow_add-j : goal.overflow_add-j
overflow_add-j c = omega (arith, space_here c.args.line.now c.loop-a.j (sym c.byte_at.ensures ∙ c.loop-a-test.true))

pub overflow_add-j-in-loop-a : goal.overflow_add-j-in-loop-a
overflow_add-j-in-loop-a c = omega (arith, space_here c.args.line.now c.loop-a.j (sym c.byte_at.ensures ∙ c.loop-a-test.true))

pub keep_first-requires : goal.keep_first-requires
keep_first-requires c = omega (arith, second_near c.args.line.now c.loop-a.j (sym c.byte_at.ensures ∙ c.loop-a-test.true), c.second_in-v.ensures, c.well_formed)

pub overflow_add-j-in-loop-a-2 : goal.overflow_add-j-in-loop-a-2
overflow_add-j-in-loop-a-2 c = omega (arith, space_here c.args.line.now c.loop-a.j (sym c.byte_at.ensures ∙ c.loop-a-test.true))

pub loop-a-smaller : goal.loop-a-smaller
loop-a-smaller c = pair_less c.args.line.now c.loop-a.j (sym c.byte_at.ensures ∙ c.loop-a-test.true) c.pair_end-j.result c.pair_end-j.ensures

pub loop-a-preserved : goal.loop-a-preserved
loop-a-preserved c = let a = c.args in
    let now = c.loop-a in
    (ap length c.keep_first.ensures ∙ kept_long now.places c.attribute_number-n.result c.second_in-v.result ∙ now.invariant.0, λ long e. subst (λ (ps : List ℕ). Walked a.text.now a.attributes.now a.k a.line.now a.place ps c.pair_end-j.result) (sym c.keep_first.ensures) (walk_on a.text.now a.attributes.now a.k a.line.now a.place now.places now.j c.first_in-a.result c.second_in-v.result c.attribute_number-n.result c.pair_end-j.result (now.invariant.0 ∙ long) (sym c.byte_at.ensures ∙ c.loop-a-test.true) c.first_in-a.ensures c.second_in-v.ensures c.pair_end-j.ensures c.attribute_number-n.ensures (now.invariant.1 long e)))

pub shape_of-places : goal.shape_of-places
shape_of-places c = c.loop-a.invariant.0

pub returns : goal.returns
returns c d h long e = walk_over c.args.text.now c.args.attributes.now c.args.k c.args.line.now c.args.place c.loop-a.places c.loop-a.j (λ t. c.loop-a-test.false (c.byte_at.ensures ∙ t)) (c.loop-a.invariant.1 long e) d h
