-- `resolving::openness::first_closed` meets its contract. The loop's invariant: the columns that were passed are open.
-- Assumes nothing.
use Prim.Native.Nat.{◌-◌}
use borrow.Author.Count.{below_more, below_none}
use mathlib.Core.Bool.{true}
use mathlib.Core.Path.{◌∙◌, sym}
use native.Mathlib.Omega.{arith}
use Rattle.resolving.proofs.OpennessLaws.{Named, first_closed, none_closed, open_found}
use Rattle.resolving.proofs.openness.first_closed.Goals as goal

pub loop-i-init : goal.loop-i-init
loop-i-init c = (omega arith, λ d p s g. below_none _)

pub returns-then-i-places : goal.returns-then-i-places
returns-then-i-places c d text s k p h l a b o e = absurd (omega (arith, a, c.loop-i-test.true, c.if-i-places.true))

pub returns-then-i-columns : goal.returns-then-i-columns
returns-then-i-columns c d text s k p h l a b o e = absurd (omega (arith, b, c.loop-i-test.true, c.if-i-columns.true))

pub returns-then-not-column_open : goal.returns-then-not-column_open
returns-then-not-column_open c d text s k p h l a b o e = let entry = c.args in
    let g : Named entry.tables.now entry.t entry.said.now entry.places.now entry.n entry.columns.now d p s = record { text = text; k = k; held = h; inside = l; long_places = a; long_columns = b; labels = o; are = e } in
    first_closed g c.loop-i.i c.loop-i-test.true (c.loop-i.invariant.1 d p s g)
    (sym (open_found g c.loop-i.i c.loop-i-test.true c.column_open.result c.column_open.ensures) ∙ c.if-not-column_open.true)

pub loop-i-preserved : goal.loop-i-preserved
loop-i-preserved c = (
  omega (arith, c.loop-i-test.true),
  (λ d p s g. below_more _ c.loop-i.i (c.loop-i.invariant.1 d p s g)
      (sym (open_found g c.loop-i.i c.loop-i-test.true c.column_open.result c.column_open.ensures) ∙ c.if-not-column_open.false)),
)

pub returns : goal.returns
returns c d text s k p h l a b o e = let entry = c.args in
    let g : Named entry.tables.now entry.t entry.said.now entry.places.now entry.n entry.columns.now d p s = record { text = text; k = k; held = h; inside = l; long_places = a; long_columns = b; labels = o; are = e } in
    none_closed g (λ j less. c.loop-i.invariant.1 d p s g j (omega (arith, less, c.loop-i-test.false)))
