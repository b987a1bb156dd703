-- `calendar::cell_values::cell_value_end` meets its contract: a bracket opens, or else a name or number stands there. Assumes nothing.
use mathlib.Core.Path.{◌∙◌, ap, sym}
use Rattle.calendar.specs.CellValues.{cell_value, enclosed_value}
use Rattle.text.proofs.Spaces.{if_here, if_not}
use Rattle.text.specs.CodeEnds.{word_end}
use Rattle.text.specs.Words.{value}
use Rattle.calendar.proofs.cell_values.cell_value_end.Goals as goal

pub returns-then-byte_at-eq40 : goal.returns-then-byte_at-eq40
unfolding cell_value
returns-then-byte_at-eq40 c = let s = c.args.s.now in
    let at = c.args.at in
    c.enclosed_end.ensures ∙ sym (ap word_end (if_here 40 enclosed_value value s at (sym c.byte_at.ensures ∙ c.if-byte_at-eq40.true)))

pub returns : goal.returns
unfolding cell_value
returns c = let s = c.args.s.now in
    let at = c.args.at in
    c.value_end.ensures ∙ sym (ap word_end (if_not 40 enclosed_value value s at (λ z. c.if-byte_at-eq40.false (c.byte_at.ensures ∙ z))))
