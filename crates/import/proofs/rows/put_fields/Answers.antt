-- `import::rows::put_fields` meets its contract. The loop's invariant: to write the fields from the loop's place on comes to the
-- same as to write them all at the start. Assumes nothing.
use Prim.Native.Nat.{◌<◌}
use Rattle.import.proofs.RowLaws.{fields_done, fields_next, fields_start}
use Rattle.text.proofs.Lefts.{before_end}
use Rattle.text.specs.Walking.{past}
use lib.ListN.{length}
use mathlib.Core.Path.{◌∙◌, ap, refl, sym}
use native.Mathlib.Omega.{arith}
use Rattle.import.proofs.rows.put_fields.Goals.{Else-byte_at-ne44}
use Rattle.import.proofs.rows.put_fields.Goals as goal

pub loop-next-init : goal.loop-next-init
loop-next-init c = fields_start _ _ _ _

pub shape_of-out-then-byte_at-ne44 : goal.shape_of-out-then-byte_at-ne44
shape_of-out-then-byte_at-ne44 c = c.put_field-p.ensures.kept ∙ c.loop-next.invariant.kept

pub returns-then-byte_at-ne44 : goal.returns-then-byte_at-ne44
returns-then-byte_at-ne44 c = let entry = c.args in fields_done entry.s.now entry.at c.put_field-p.result c.loop-next.invariant c.put_field-p.ensures (λ e. c.if-byte_at-ne44.true (c.byte_at.ensures ∙ e)) _ refl (c.skip_byte-next.ensures ∙ ap (past 10 entry.s.now) c.skip_byte.ensures)

-- a comma stands in the file
comma : (c : Else-byte_at-ne44) → c.put_field-p.result.at < length c.args.s.now
comma c = before_end c.args.s.now c.put_field-p.result.at (λ o. absurd (omega (arith, o, c.byte_at.ensures, c.if-byte_at-ne44.false)))

pub overflow_add-i : goal.overflow_add-i
overflow_add-i c = omega (arith, comma c)

pub loop-next-smaller : goal.loop-next-smaller
loop-next-smaller c = omega (arith, comma c, c.put_field-p.ensures.on)

pub loop-next-preserved : goal.loop-next-preserved
loop-next-preserved c = let entry = c.args in fields_next entry.s.now entry.at c.put_field-p.result c.loop-next.invariant c.put_field-p.ensures (sym c.byte_at.ensures ∙ c.if-byte_at-ne44.false)
