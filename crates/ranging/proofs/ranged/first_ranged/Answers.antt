-- `ranging::ranged::first_ranged` meets its contract. The loop's invariant: the columns that were passed have no range. Assumes nothing.
use Prim.Native.Nat.{◌-◌}
use Rattle.ranging.proofs.RangedLaws.{NamedColumns, first_ranged, none_ranged, plain_found}
use borrow.Author.Count.{below_more, below_none}
use mathlib.Core.Bool.{not, true}
use mathlib.Core.Path.{◌∙◌, ap}
use native.Mathlib.Omega.{arith}
use Rattle.ranging.proofs.ranged.first_ranged.Goals as goal

pub loop-i-init : goal.loop-i-init
loop-i-init c = (omega arith, λ d s g. below_none _)

pub returns-then-i-places : goal.returns-then-i-places
returns-then-i-places c d s h a b e = absurd (omega (arith, a, c.loop-i-test.true, c.if-i-places.true))

pub returns-then-i-columns : goal.returns-then-i-columns
returns-then-i-columns c d s h a b e = absurd (omega (arith, b, c.loop-i-test.true, c.if-i-columns.true))

pub returns-then-column_ranged : goal.returns-then-column_ranged
returns-then-column_ranged c d s h a b e = let x = c.args in
    let l = c.loop-i in
    let g : NamedColumns c.args.text.now c.args.rows.now
    c.args.count c.args.t
    c.args.places.now c.args.n
    c.args.columns.now d s = record { rows = h; long_places = a; long_columns = b; are = e } in
    first_ranged g l.i c.loop-i-test.true (l.invariant.1 d s g)
    (plain_found g l.i c.loop-i-test.true c.column_ranged.result c.column_ranged.ensures ∙ ap not c.if-column_ranged.true)

pub loop-i-preserved : goal.loop-i-preserved
loop-i-preserved c = let l = c.loop-i in (
  omega (arith, c.loop-i-test.true),
  λ d s g. below_more _ l.i (l.invariant.1 d s g)
      (plain_found g l.i c.loop-i-test.true c.column_ranged.result c.column_ranged.ensures ∙ ap not c.if-column_ranged.false),
)

pub returns : goal.returns
returns c d s h a b e = let g : NamedColumns c.args.text.now c.args.rows.now c.args.count c.args.t
    c.args.places.now c.args.n c.args.columns.now d s = record { rows = h; long_places = a; long_columns = b; are = e } in
    none_ranged g (λ j less. c.loop-i.invariant.1 d s g j (omega (arith, less, c.loop-i-test.false)))
