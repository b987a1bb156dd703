-- `walks::purposes::read_below` meets its contract: two names behind `(purpose `, and nothing behind them. Assumes nothing.
use Prim.Native.Nat.{◌<◌}
use borrow.Author.Tests.{not-false}
use lib.ListN.{get_or, length}
use mathlib.Core.Path.{◌∙◌, ◌≡◌, ap, sym}
use native.Mathlib.Omega.{arith}
use Rattle.stepping.proofs.FoundLaws.{is_some_false}
use Rattle.walks.proofs.PurposeLines.{below_form, space}
use Rattle.workspace.specs.Found.{found_as}
use Rattle.text.proofs.Lefts.{before_end}
use Rattle.walks.proofs.purposes.read_below.Goals.{Else-byte_at-ne32}
use Rattle.walks.proofs.purposes.read_below.Goals as goal

-- a space stands between the names
parted : (c : Else-byte_at-ne32) → get_or c.args.line.now c.seek_purpose-n.result.end 0 ≡ 32
parted c = sym c.byte_at.ensures ∙ c.if-byte_at-ne32.false

pub overflow_add-v : goal.overflow_add-v
overflow_add-v c = let h = parted ((goal.at.overflow_add-v c).Else-byte_at-ne32) in omega (arith, before_end c.args.line.now c.seek_purpose-n.result.end (λ z. absurd (omega (arith, h, z))))

pub returns : goal.returns
returns c = let entry = c.args in
    let s = entry.line.now in
    let b = sym
    c.begins.ensures ∙ not-false _
    c.if-not-begins.false-raw in
    let n = c.seek_purpose-n.ensures in
    let p = c.seek_purpose-p.ensures in
    let first = space s b in
    let inside : 8 < length
    entry.line.now = before_end
    entry.line.now 8
    (λ z. absurd (omega (arith, first, z))) in
    record {
      form = below_form s b _ _ n.ends
          (c.is_name_to.ensures c.if-not-is_name_to.false n.ends)
          (parted ((goal.at.returns c).Else-byte_at-ne32)) p.ends
          (c.is_name_to-2.ensures c.if-not-is_name_to-2.false p.ends)
          (sym c.closes.ensures ∙ c.if-not-closes.false);
      within = omega (arith, inside);
      hash = n.hash;
      fresh = λ ns N. sym (ap found_as (is_some_false c.is_some.ensures c.if-is_some.false)) ∙ n.is ns N;
      known = λ ns N. sym (ap found_as c.in_ok-parent.was) ∙ p.is ns N;
    }
