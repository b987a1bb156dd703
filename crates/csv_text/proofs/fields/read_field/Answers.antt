-- `csv_text::fields::read_field` meets its contract: a field is a name or number if its word is one and takes the whole field. Assumes nothing.
use Prim.Native.Nat.{◌+◌}
use Rattle.csv_text.proofs.FieldLaws.{field_ended, field_longer, field_unended, field_whole, read_fit, read_unfit, word_room, word_unfit}
use Rattle.csv_text.specs.Fields.{field}
use Rattle.text.proofs.ByteLaws.{run_within}
use Rattle.text.proofs.CodeLaws.{word_at_lem, word_nothing}
use Rattle.text.proofs.WalkingLaws.{past_forward}
use Rattle.text.specs.CodeEnds.{word_end}
use Rattle.text.specs.Numbers.{is_value}
use Rattle.text.specs.Reader.{from}
use Rattle.text.specs.Walking.{past}
use Rattle.text.specs.Words.{word_at}
use lib.ListN.{drop, length, length-drop}
use mathlib.Core.Bool.{false, true}
use mathlib.Core.Logic.{⊎_elim}
use mathlib.Core.Path.{◌∙◌, ◌≡◌, ap, subst, sym}
use native.Mathlib.Omega.{arith}
use Rattle.csv_text.proofs.fields.read_field.Goals.{After-field_end, After-field_end-2}
use Rattle.csv_text.proofs.fields.read_field.Goals as goal

-- no name or number begins the field: it is looked for from its first byte on
slow : (c : After-field_end) → c.field_end.result ≡ word_end (field (from c.args.s.now c.args.at))
slow c = c.field_end.ensures 0 (omega (arith, c.skip_byte-start.ensures)) (omega arith)

pub returns-in_err-e : goal.returns-in_err-e
returns-in_err-e c = c.from_residual.ensures ∙ field_unended c.args.s.now c.args.at (sym (slow ((goal.at.returns-in_err-e c).After-field_end)) ∙ c.in_err-e.was)

pub returns-in_default : goal.returns-in_default
returns-in_default c = let s = c.args.s.now in
    let at = c.args.at in
    let f = field_ended s at c.in_ok-e.e (sym (slow ((goal.at.returns-in_default c).After-field_end)) ∙ c.in_ok-e.was) in
    let n : is_value (word_at s (past 34 s at)) ≡ false = ap (λ p. is_value (word_at s p)) (sym c.skip_byte-start.ensures) ∙ word_nothing s c.skip_byte-start.result is_value (sym c.short_value_end.ensures ∙ c.in_default.is) in
    read_unfit s at f (word_unfit s at f.is n)

-- the word behind the quote, or at the field's start: it is a name or number, and where it ends
word : (c : After-field_end-2) → (is_value (word_at c.args.s.now (past 34 c.args.s.now c.args.at)) ≡ true) × (c.in-Some.w ≡ past 34 c.args.s.now c.args.at + length (word_at c.args.s.now (past 34 c.args.s.now c.args.at)))
word c =
    subst (λ p. (is_value (word_at c.args.s.now p) ≡ true) × (c.in-Some.w ≡ p + length (word_at c.args.s.now p))) c.skip_byte-start.ensures
    (word_at_lem c.args.s.now c.skip_byte-start.result is_value c.in-Some.w (sym c.short_value_end.ensures ∙ c.in-Some.is))

quick : (c : After-field_end-2) → c.field_end-2.result ≡ word_end (field (from c.args.s.now c.args.at))
quick c = c.field_end-2.ensures (length (word_at c.args.s.now (past 34 c.args.s.now c.args.at))) (word c).1 (omega arith)

pub returns-in_err-e-2 : goal.returns-in_err-e-2
returns-in_err-e-2 c = c.from_residual-in_err-e-2.ensures ∙ field_unended c.args.s.now c.args.at (sym (quick ((goal.at.returns-in_err-e-2 c).After-field_end-2)) ∙ c.in_err-e-2.was)

pub overflow_sub-start : goal.overflow_sub-start
overflow_sub-start c = omega (arith, c.skip_byte-start.ensures, past_forward 34 c.args.s.now c.args.at)

pub overflow_add-w : goal.overflow_add-w
overflow_add-w c = ⊎_elim (λ l. omega (arith, l, (word ((goal.at.overflow_add-w c).After-field_end-2)).1, c.skip_byte-start.ensures)) (λ l. omega (arith, l, (word ((goal.at.overflow_add-w c).After-field_end-2)).1, c.skip_byte-start.ensures)) (word_room c.args.s.now c.args.at)

pub overflow_sub-result : goal.overflow_sub-result
overflow_sub-result c = omega (arith, (word ((goal.at.overflow_sub-result c).After-field_end-2)).1, c.skip_byte-start.ensures)

pub overflow_add-result : goal.overflow_add-result
overflow_add-result c = omega (arith, (word ((goal.at.overflow_add-result c).After-field_end-2)).1, c.skip_byte-start.ensures, run_within (drop (past 34 c.args.s.now c.args.at) c.args.s.now), length-drop (past 34 c.args.s.now c.args.at) c.args.s.now)

pub returns-then-w-start : goal.returns-then-w-start
returns-then-w-start c = let s = c.args.s.now in
    let at = c.args.at in
    let f = field_ended s at c.in_ok-e-2.e (sym (quick ((goal.at.returns-then-w-start c).After-field_end-2)) ∙ c.in_ok-e-2.was) in
    let w = field_whole s at f.is (omega (arith, (word ((goal.at.returns-then-w-start c).After-field_end-2)).1, c.skip_byte-start.ensures, c.if-w-start.true)) in
    read_fit s at f (ap is_value w ∙ (word ((goal.at.returns-then-w-start c).After-field_end-2)).0) (omega (arith, (word ((goal.at.returns-then-w-start c).After-field_end-2)).1, c.skip_byte-start.ensures, ap length w))

pub returns : goal.returns
returns c = let s = c.args.s.now in
    let at = c.args.at in
    let f = field_ended s at c.in_ok-e-2.e (sym (quick ((goal.at.returns c).After-field_end-2)) ∙ c.in_ok-e-2.was) in
    read_unfit s at f (field_longer s at f.is (λ e. c.if-w-start.false (omega (arith, e, (word ((goal.at.returns c).After-field_end-2)).1, c.skip_byte-start.ensures))))
