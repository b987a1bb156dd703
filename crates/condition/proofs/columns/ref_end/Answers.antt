use Prim.Native.Nat.{◌+◌}
use lib.ListN.{get_or}
use mathlib.Core.Bool.{true}
use mathlib.Core.Path.{◌∙◌, ◌≡◌, sym}
use native.Mathlib.Omega.{arith}
use Rattle.condition.proofs.SubjectLaws.{ref_closed, ref_unclosed, ref_unkeyed, ref_unnamed, ref_unopened}
use Rattle.text.proofs.Lefts.{before_end}
use Rattle.text.specs.Bytes.{ascii}
use Rattle.text.specs.Names.{same_name}
use Rattle.text.specs.Words.{word_at}
use Rattle.condition.proofs.columns.ref_end.Goals as goal

pub returns-then-byte_at-ne40 : goal.returns-then-byte_at-ne40
returns-then-byte_at-ne40 c = let x = c.args in
    ref_unopened x.s.now x.at (λ z. c.if-byte_at-ne40.true (c.byte_at.ensures ∙ z))

pub overflow_add-k : goal.overflow_add-k
overflow_add-k c = let x = c.args in
    let b : get_or x.s.now x.at 0 ≡ 40 = sym c.byte_at.ensures ∙ c.if-byte_at-ne40.false in
    omega (arith, before_end x.s.now x.at (λ z. absurd (omega (arith, b, z))))

pub returns-then-not-is_word : goal.returns-then-not-is_word
returns-then-not-is_word c = let x = c.args in
    let b : get_or x.s.now x.at 0 ≡ 40 = sym c.byte_at.ensures ∙ c.if-byte_at-ne40.false in
    ref_unkeyed x.s.now x.at b (sym c.is_word.ensures ∙ c.if-not-is_word.true)

pub returns-in_err-e : goal.returns-in_err-e
returns-in_err-e c = let x = c.args in
    let b : get_or x.s.now x.at 0 ≡ 40 = sym c.byte_at.ensures ∙ c.if-byte_at-ne40.false in
    let h : same_name (word_at x.s.now (x.at + 1)) (ascii "of") ≡ true = sym c.is_word.ensures ∙ c.if-not-is_word.false in
    c.from_residual.ensures ∙ ref_unnamed x.s.now x.at b h c.word_end.ensures c.ref_body_end.ensures c.in_err-e.was

pub returns-then-byte_at-ne41 : goal.returns-then-byte_at-ne41
returns-then-byte_at-ne41 c = let x = c.args in
    let b : get_or x.s.now x.at 0 ≡ 40 = sym c.byte_at.ensures ∙ c.if-byte_at-ne40.false in
    let h : same_name (word_at x.s.now (x.at + 1)) (ascii "of") ≡ true = sym c.is_word.ensures ∙ c.if-not-is_word.false in
    ref_unclosed x.s.now x.at b h c.word_end.ensures c.ref_body_end.ensures c.in_ok-e.was (λ z. c.if-byte_at-ne41.true (c.byte_at-2.ensures ∙ z))

pub overflow_add-result : goal.overflow_add-result
overflow_add-result c = let x = c.args in
    let e = c.in_ok-e.e in
    let z : get_or x.s.now e 0 ≡ 41 = sym c.byte_at-2.ensures ∙ c.if-byte_at-ne41.false in
    omega (arith, before_end x.s.now e (λ y. absurd (omega (arith, z, y))))

pub returns : goal.returns
returns c = let x = c.args in
    let b : get_or x.s.now x.at 0 ≡ 40 = sym c.byte_at.ensures ∙ c.if-byte_at-ne40.false in
    let h : same_name (word_at x.s.now (x.at + 1)) (ascii "of") ≡ true = sym c.is_word.ensures ∙ c.if-not-is_word.false in
    ref_closed x.s.now x.at b h c.word_end.ensures c.ref_body_end.ensures c.in_ok-e.was (sym c.byte_at-2.ensures ∙ c.if-byte_at-ne41.false)
