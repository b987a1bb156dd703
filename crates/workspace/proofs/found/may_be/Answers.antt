-- `workspace::found::may_be` meets its contract: a text that ends before, or a byte that differs, tells the words apart. Assumes nothing.
use Prim.Native.Nat.{◌+◌, ◌-◌, ◌<◌}
use borrow.Author.Tests.{ne_eqb}
use lib.ListN.{get_or}
use mathlib.Core.Path.{◌∙◌, ap, refl, sym}
use native.Mathlib.Omega.{arith}
use Rattle.workspace.proofs.SameLaws.{differ_first, differ_last, same_beyond}
use Rattle.lists.proofs.Tests.{true_not_false}
use Rattle.text.specs.Names.{same_byte}
use Rattle.workspace.proofs.found.may_be.Goals as goal

pub returns-then-len-eq0 : goal.returns-then-len-eq0
returns-then-len-eq0 c line i sized f l isn't = true_not_false refl isn't

pub returns-then-text-len : goal.returns-then-text-len
returns-then-text-len c line i sized f l isn't = let a = c.args in
    same_beyond line i a.len a.text.now a.p sized (omega arith) ∙ ne_eqb a.len 0 c.if-len-eq0.false

pub overflow_sub-text : goal.overflow_sub-text
overflow_sub-text c = omega arith

pub returns-then-text-len-2 : goal.returns-then-text-len-2
returns-then-text-len-2 c line i sized f l isn't = let a = c.args in
    same_beyond line i a.len a.text.now a.p sized (omega arith) ∙ ne_eqb a.len 0 c.if-len-eq0.false

pub returns-then-same_byte : goal.returns-then-same_byte
returns-then-same_byte c line i sized f l isn't = let a = c.args in
    let some : 0 < c.args.len = omega arith in
    differ_first line i a.len a.text.now a.p sized some (ap (λ b. same_byte b (get_or a.text.now a.p 0)) (sym f) ∙ sym c.same_byte-then-same_byte.ensures ∙ isn't)

pub returns : goal.returns
returns c line i sized f l isn't = let a = c.args in
    let some : 0 < c.args.len = omega arith in
    differ_last line i a.len a.text.now a.p sized some (ap (λ b. same_byte b (get_or a.text.now (a.p + (a.len - 1)) 0)) (sym l) ∙ sym c.same_byte.ensures ∙ c.if-same_byte.false)
