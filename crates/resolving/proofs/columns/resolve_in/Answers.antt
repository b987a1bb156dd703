-- `resolving::columns::resolve_in` meets its contract. The loop's invariant: the words before the loop's place are resolved.
-- Assumes nothing.
use Prim.Native.Nat.{◌-◌}
use lib.ListN.{get_or, length-set}
use mathlib.Core.Path.{◌∙◌, ap, refl, sym}
use native.Mathlib.Omega.{arith}
use Rattle.document.specs.Lookup.{columns_at}
use Rattle.workspace.specs.Found.{found_as}
use Rattle.resolving.proofs.Resolving.{resolving_done, resolving_more, resolving_start, resolving_stop}
use Rattle.resolving.proofs.TableReads.{column_read}
use Rattle.text.specs.Words.{word_of}
use Rattle.resolving.proofs.columns.resolve_in.Goals as goal

pub loop-i-init : goal.loop-i-init
loop-i-init c = let entry = c.args in (omega arith, refl, λ d k h l p q. resolving_start (columns_at d entry.t) entry.query.now entry.n entry.places.now entry.columns.now)

pub shape_of-columns-then-i-places : goal.shape_of-columns-then-i-places
shape_of-columns-then-i-places c = c.loop-i.invariant.1

pub returns-then-i-places : goal.returns-then-i-places
returns-then-i-places c = λ d k h l p q. absurd (omega (arith, p))

pub shape_of-columns-then-i-columns : goal.shape_of-columns-then-i-columns
shape_of-columns-then-i-columns c = c.loop-i.invariant.1

pub returns-then-i-columns : goal.returns-then-i-columns
returns-then-i-columns c = λ d k h l p q. absurd (omega (arith, q, c.loop-i.invariant.1))

pub shape_of-columns-in_default : goal.shape_of-columns-in_default
shape_of-columns-in_default c = c.loop-i.invariant.1

pub returns-in_default : goal.returns-in_default
returns-in_default c = let entry = c.args in λ d k h l p q. resolving_stop (columns_at d entry.t) entry.query.now entry.n entry.places.now c.loop-i.columns c.loop-i.i (c.loop-i.invariant.2 d k h l p q) c.loop-i-test.true p (column_read entry.text.now entry.tables.now k entry.t d h l (word_of entry.query.now (get_or entry.places.now c.loop-i.i 0)) _ (sym (ap found_as c.in_default.is) ∙ c.find_column-c.ensures.0 k d.tables h l))

pub loop-i-preserved : goal.loop-i-preserved
loop-i-preserved c = let entry = c.args in (omega arith, simp length-set c.loop-i.invariant.1, λ d k h l p q. resolving_more (columns_at d entry.t) entry.query.now entry.n entry.places.now c.loop-i.columns c.loop-i.i (c.loop-i.invariant.2 d k h l p q) c.loop-i-test.true p (omega (arith, q, c.loop-i.invariant.1)) c.in-Some.m (column_read entry.text.now entry.tables.now k entry.t d h l (word_of entry.query.now (get_or entry.places.now c.loop-i.i 0)) _ (sym (ap found_as c.in-Some.is) ∙ c.find_column-c.ensures.0 k d.tables h l)))

pub shape_of-columns : goal.shape_of-columns
shape_of-columns c = c.loop-i.invariant.1

pub returns : goal.returns
returns c = let entry = c.args in λ d k h l p q. resolving_done (columns_at d entry.t) entry.query.now entry.n entry.places.now c.loop-i.columns c.loop-i.i (c.loop-i.invariant.2 d k h l p q) (omega arith) p
