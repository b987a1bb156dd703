-- `text::brackets::optional_name` meets its contract: a space calls for a name, and elsewhere there is none.
-- Assumes nothing.
use Prim.Native.Nat.{◌+◌}
use mathlib.Core.Path.{◌∙◌, ap, sym}
use native.Mathlib.Omega.{arith}
use Rattle.text.proofs.CodeLaws.{word_none, word_to}
use Rattle.text.proofs.Spaces.{optional_here, optional_not, space_here}
use Rattle.text.specs.CodeEnds.{optional_of}
use Rattle.text.specs.Names.{is_name}
use Rattle.text.specs.Words.{name}
use Rattle.text.proofs.brackets.optional_name.Goals as goal

pub returns-then-byte_at-ne32 : goal.returns-then-byte_at-ne32
returns-then-byte_at-ne32 c = let s = c.args.s.now in
    let at = c.args.at in
    sym (ap optional_of (optional_not name s at (λ z. c.if-byte_at-ne32.true (c.byte_at.ensures ∙ z))))

pub overflow_add-at : goal.overflow_add-at
overflow_add-at c = omega (arith, (space_here c.args.s.now c.args.at _ c.byte_at.ensures c.if-byte_at-ne32.false).1)

pub overflow_add-result : goal.overflow_add-result
overflow_add-result c = omega (arith, (space_here c.args.s.now c.args.at _ c.byte_at.ensures c.if-byte_at-ne32.false).1)

pub returns : goal.returns
returns c = let s = c.args.s.now in
    let at = c.args.at in
    let h = space_here s at _ c.byte_at.ensures c.if-byte_at-ne32.false in
    let k = word_to s (at + 1) is_name c.in_ok-e.e (sym c.name_end.ensures ∙ c.in_ok-e.was) in
    rw (optional_here name s at h.0, k)

pub returns-in_err-e : goal.returns-in_err-e
returns-in_err-e c = let s = c.args.s.now in
    let at = c.args.at in
    let h = space_here s at _ c.byte_at.ensures c.if-byte_at-ne32.false in
    let k = word_none s (at + 1) is_name (sym c.name_end.ensures ∙ c.in_err-e.was) in
    c.from_residual.ensures ∙ rw (optional_here name s at h.0, k)
