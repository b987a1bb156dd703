-- `import::rows::put_field` meets its contract. Assumes nothing.
use Prim.Native.Nat.{◌+◌}
use Rattle.csv_text.proofs.FieldLaws.{plain_room}
use Rattle.import.proofs.RowLaws.{field_placed}
use Rattle.csv_text.specs.Fields.{plain_bytes}
use Rattle.text.proofs.WalkingLaws.{past_forward}
use Rattle.text.specs.Walking.{past}
use lib.ListN.{drop, length}
use mathlib.Core.Logic.{⊎_elim}
use mathlib.Core.Path.{◌∙◌, ◌≡◌, ap}
use native.Mathlib.Omega.{arith}
use Rattle.import.proofs.rows.put_field.Goals.{After-copy_plain-c}
use Rattle.import.proofs.rows.put_field.Goals as goal

-- where the plain bytes end that begin behind the quote, or at the field's start
ends : (c : After-copy_plain-c) → c.copy_plain-c.result.at ≡ past 34 c.args.s.now c.args.at + length (plain_bytes (drop (past 34 c.args.s.now c.args.at) c.args.s.now))
ends c = c.copy_plain-c.ensures.ends ∙ ap (λ p. p + length (plain_bytes (drop p c.args.s.now))) c.skip_byte-start.ensures

pub overflow_sub-result : goal.overflow_sub-result
overflow_sub-result c = let entry = c.args in omega (arith, c.skip_byte-start.ensures, past_forward 34 entry.s.now entry.at)

pub overflow_add-result : goal.overflow_add-result
overflow_add-result c = let entry = c.args in ⊎_elim (λ l. omega (arith, l, ends ((goal.at.overflow_add-result c).After-copy_plain-c), c.skip_byte-start.ensures)) (λ l. omega (arith, l, ends ((goal.at.overflow_add-result c).After-copy_plain-c), c.skip_byte-start.ensures)) (plain_room entry.s.now entry.at)

pub shape_of-out : goal.shape_of-out
shape_of-out c = c.copy_plain-c.ensures.wrote.kept ∙ c.put_byte-next.ensures.kept

pub returns : goal.returns
returns c = let entry = c.args in field_placed entry.s.now entry.at _ c.skip_byte-start.ensures c.put_byte-next.ensures c.copy_plain-c.ensures.wrote (omega (arith, c.copy_plain-c.ensures.ends)) (past_forward 34 entry.s.now entry.at)
