-- `query::reading::column_list` meets its contract: a space, a bracket, a name, and names each behind a space.
-- Assumes nothing.
use Prim.Native.Nat.{◌+◌}
use lib.ListN.{get_or}
use mathlib.Core.Path.{◌∙◌, ◌≡◌, sym}
use native.Mathlib.Omega.{arith}
use Rattle.form.proofs.PartLaws.{names_to, space_before}
use Rattle.query.proofs.PartsRead.{columns_no_space, columns_none, columns_open, columns_read, columns_shut, columns_wrong, names_few}
use Rattle.query.proofs.WholeLaws.{closes_before}
use Rattle.text.proofs.EndLaws.{end_none}
use Rattle.text.proofs.Lefts.{before_end}
use Rattle.text.specs.Brackets.{many}
use Rattle.text.specs.Words.{name}
use Rattle.query.proofs.reading.column_list.Goals.{Else-byte_at-ne32, Else-byte_at-ne40, Else-byte_at-ne41}
use Rattle.query.proofs.reading.column_list.Goals as goal

space : (c : Else-byte_at-ne32) → get_or c.args.s.now c.args.at 0 ≡ 32
space c = sym c.byte_at.ensures ∙ c.if-byte_at-ne32.false

opens : (c : Else-byte_at-ne40) → get_or c.args.s.now (c.args.at + 1) 0 ≡ 40
opens c = sym c.byte_at-2.ensures ∙ c.if-byte_at-ne40.false

closes : (c : Else-byte_at-ne41) → get_or c.args.s.now c.in_ok-f.f 0 ≡ 41
closes c = sym c.byte_at-3.ensures ∙ c.if-byte_at-ne41.false

pub returns-then-byte_at-ne32 : goal.returns-then-byte_at-ne32
returns-then-byte_at-ne32 c = columns_no_space c.args.s.now c.args.at (λ z. c.if-byte_at-ne32.true (c.byte_at.ensures ∙ z))

pub overflow_add-b : goal.overflow_add-b
overflow_add-b c = omega (arith, space_before c.args.s.now c.args.at (space c))

pub returns-then-byte_at-ne40 : goal.returns-then-byte_at-ne40
returns-then-byte_at-ne40 c = columns_shut c.args.s.now c.args.at (space (goal.at.returns-then-byte_at-ne40 c).Else-byte_at-ne32) (λ z. c.if-byte_at-ne40.true (c.byte_at-2.ensures ∙ z))

pub overflow_add-p : goal.overflow_add-p
overflow_add-p c = omega (arith, before_end c.args.s.now (c.args.at + 1) (λ z. absurd (omega (arith, opens c, z))))

pub returns-in_err-e : goal.returns-in_err-e
returns-in_err-e c = rw c.from_residual.ensures
    (columns_none c.args.s.now
    c.args.at (space (goal.at.returns-in_err-e c).Else-byte_at-ne32)
    (opens (goal.at.returns-in_err-e c).Else-byte_at-ne40) (sym c.name_end.ensures ∙ c.in_err-e.was))

pub returns-in_err-f : goal.returns-in_err-f
returns-in_err-f c = rw c.from_residual-in_err-f.ensures
    (columns_wrong c.args.s.now
    c.args.at
    (space (goal.at.returns-in_err-f c).Else-byte_at-ne32)
    (opens (goal.at.returns-in_err-f c).Else-byte_at-ne40)
    (sym c.name_end.ensures ∙ c.in_ok-e.was)
    (end_none (many name) c.args.s.now c.in_ok-e.e (sym c.names_end.ensures ∙ c.in_err-f.was)))

pub returns-then-byte_at-ne41 : goal.returns-then-byte_at-ne41
returns-then-byte_at-ne41 c = columns_open
    c.args.s.now
    c.args.at (space
    (goal.at.returns-then-byte_at-ne41 c).Else-byte_at-ne32) (opens
    (goal.at.returns-then-byte_at-ne41 c).Else-byte_at-ne40) (sym
    c.name_end.ensures ∙ c.in_ok-e.was)
    (names_to
    c.args.s.now
    c.in_ok-e.e c.in_ok-f.f
    c.names_end.ensures c.in_ok-f.was) (λ z. c.if-byte_at-ne41.true
    (c.byte_at-3.ensures ∙ z))

pub overflow_add-result : goal.overflow_add-result
overflow_add-result c = omega (arith, c.count_names-n.ensures, names_few c.args.s.now c.in_ok-e.e)

pub overflow_add-result-2 : goal.overflow_add-result-2
overflow_add-result-2 c = omega (arith, closes_before c.args.s.now c.in_ok-f.f (closes (goal.at.overflow_add-result-2 c).Else-byte_at-ne41))

pub returns : goal.returns
returns c = columns_read
    c.args.s.now
    c.args.at
    (space (goal.at.returns c).Else-byte_at-ne32) (opens
    (goal.at.returns c).Else-byte_at-ne40) (sym
    c.name_end.ensures ∙ c.in_ok-e.was)
    (names_to
    c.args.s.now
    c.in_ok-e.e c.in_ok-f.f
    c.names_end.ensures c.in_ok-f.was) (closes (goal.at.returns c).Else-byte_at-ne41)
    c.count_names-n.ensures
