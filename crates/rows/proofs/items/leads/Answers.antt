-- `rows::items::leads` meets its contract. Assumes nothing.
use Prim.Native.Nat.{◌+◌}
use Rattle.document.proofs.RowItems.{bracket_behind, bracket_leading, led_name, led_values, no_leading, no_values_behind}
use Rattle.lists.proofs.Tests.{true_not_false}
use Rattle.stepping.proofs.FoundLaws.{is_some_false, is_some_true}
use Rattle.text.proofs.CodeLaws.{word_at_lem, word_nothing}
use Rattle.text.proofs.Spaces.{space_here}
use Rattle.text.specs.Names.{is_name}
use lib.ListN.{get_or}
use mathlib.Core.Bool.{false}
use mathlib.Core.Path.{◌∙◌, ◌≡◌, refl, sym}
use native.Mathlib.Omega.{arith}
use Rattle.rows.proofs.items.leads.Goals as goal

pub returns-then-byte_at-ne32 : goal.returns-then-byte_at-ne32
returns-then-byte_at-ne32 c = let entry = c.args in
    let s = entry.line.now in
    let at = entry.at in
    let e : get_or s at 0 ≡ 32 → ⊥ = λ z. c.if-byte_at-ne32.true (c.byte_at.ensures ∙ z) in
    (λ z. true_not_false z refl, λ z. (no_leading s at e, λ values. no_values_behind s at values e))

pub overflow_add-at : goal.overflow_add-at
overflow_add-at c = let entry = c.args in omega (arith, (space_here entry.line.now entry.at _ c.byte_at.ensures c.if-byte_at-ne32.false).1)

pub returns-then-byte_at-eq40 : goal.returns-then-byte_at-eq40
returns-then-byte_at-eq40 c = let entry = c.args in
    let s = entry.line.now in
    let at = entry.at in
    let e = sym c.byte_at.ensures ∙ c.if-byte_at-ne32.false in
    let o = sym c.byte_at-2.ensures ∙ c.if-byte_at-eq40.true in
    (λ z. true_not_false z refl, λ z. (bracket_leading s at e o, λ values. bracket_behind s at values e o))

pub overflow_add-at-2 : goal.overflow_add-at-2
overflow_add-at-2 c = let entry = c.args in omega (arith, (space_here entry.line.now entry.at _ c.byte_at.ensures c.if-byte_at-ne32.false).1)

pub returns : goal.returns
returns c = let entry = c.args in
    let s = entry.line.now in
    let at = entry.at in
    let e = sym c.byte_at.ensures ∙ c.if-byte_at-ne32.false in
    let o : get_or s (at + 1) 0 ≡ 40 → ⊥ = λ z. c.if-byte_at-eq40.false (c.byte_at-2.ensures ∙ z) in (
      (λ z. (e, o, (word_at_lem s (at + 1) is_name _ (sym c.name_end.ensures ∙ (is_some_true c.is_some.ensures z).1)).0)),
      (λ z. let n = word_nothing s (at + 1) is_name (sym c.name_end.ensures ∙ is_some_false c.is_some.ensures z) in
          (led_name s at e o false n, led_values s at e o false n)),
    )
