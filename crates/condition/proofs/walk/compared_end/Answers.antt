use Prim.Native.Nat.{◌+◌}
use lib.ListN.{get_or}
use mathlib.Core.Path.{◌∙◌, ◌≡◌, ap, sym}
use native.Mathlib.Omega.{arith}
use Rattle.condition.proofs.OperatorLaws.{compared_alone, compared_unnamed, compared_unspaced, compared_value, end_map}
use Rattle.condition.proofs.SubjectLaws.{forward_subject}
use Rattle.condition.specs.Answers.{naming_by}
use Rattle.condition.specs.Cond.{test}
use Rattle.condition.specs.CondForm.{Naming, constant, subject}
use Rattle.text.proofs.EndLaws.{end_none, end_read}
use Rattle.text.proofs.Lefts.{before_end}
use Rattle.text.specs.CodeEnds.{word_end}
use Rattle.text.specs.Reader.{from}
use Rattle.text.specs.Words.{Word}
use Rattle.condition.proofs.walk.compared_end.Goals as goal

pub returns-then-byte_at-ne32 : goal.returns-then-byte_at-ne32
returns-then-byte_at-ne32 c = let s = c.args.s.now in
    let at = c.args.at in
    let d = c.args.depth in
    let way : Naming = naming_by c.args.joined in
    λ o w. sym (ap word_end (compared_unspaced way d o w s at (λ z. c.if-byte_at-ne32.true (c.byte_at.ensures ∙ z))))

pub overflow_add-at : goal.overflow_add-at
overflow_add-at c = let s = c.args.s.now in
    let at = c.args.at in
    let d = c.args.depth in
    let way : Naming = naming_by c.args.joined in
    let b : get_or s at 0 ≡ 32 = sym c.byte_at.ensures ∙ c.if-byte_at-ne32.false in
    omega (arith, before_end s at (λ z. absurd (omega (arith, b, z))))

pub returns-in_err-e : goal.returns-in_err-e
returns-in_err-e c = let s = c.args.s.now in
    let at = c.args.at in
    let d = c.args.depth in
    let way : Naming = naming_by c.args.joined in
    let b : get_or s at 0 ≡ 32 = sym c.byte_at.ensures ∙ c.if-byte_at-ne32.false in
    λ o w. c.from_residual.ensures ∙ sym (ap word_end (compared_unnamed way d o w s at b (end_none (subject way d) s (at + 1) (sym c.subject_end.ensures ∙ c.in_err-e.was))))

pub returns-then-byte_at-ne32-2 : goal.returns-then-byte_at-ne32-2
returns-then-byte_at-ne32-2 c = let s = c.args.s.now in
    let at = c.args.at in
    let d = c.args.depth in
    let way : Naming = naming_by c.args.joined in
    let b : get_or s at 0 ≡ 32 = sym c.byte_at.ensures ∙ c.if-byte_at-ne32.false in
    let e = c.in_ok-e.e in
    let n = end_read (subject way d) s (at + 1) (forward_subject way d) e (sym c.subject_end.ensures ∙ c.in_ok-e.was) in
    λ o w. sym (ap word_end (compared_alone way d o w s at b n.0 e n.1 (λ z. c.if-byte_at-ne32-2.true (c.byte_at-2.ensures ∙ z))))

pub overflow_add-e : goal.overflow_add-e
overflow_add-e c = let s = c.args.s.now in
    let e = c.in_ok-e.e in
    let b2 : get_or s e 0 ≡ 32 = sym c.byte_at-2.ensures ∙ c.if-byte_at-ne32-2.false in
    omega (arith, before_end s e (λ z. absurd (omega (arith, b2, z))))

pub returns : goal.returns
returns c = let s = c.args.s.now in
    let at = c.args.at in
    let d = c.args.depth in
    let way : Naming = naming_by c.args.joined in
    let b : get_or s at 0 ≡ 32 = sym c.byte_at.ensures ∙ c.if-byte_at-ne32.false in
    let e = c.in_ok-e.e in
    let n = end_read (subject way d) s (at + 1) (forward_subject way d) e (sym c.subject_end.ensures ∙ c.in_ok-e.was) in
    let b2 : get_or s e 0 ≡ 32 = sym c.byte_at-2.ensures ∙ c.if-byte_at-ne32-2.false in
    λ o w. c.constant_end.ensures ∙ sym (ap word_end (compared_value way d o w s at b n.0 e n.1 b2) ∙ end_map (λ (v : Word). test (record { op = o; operator = w; of = n.0; value = v })) (constant d (from s (e + 1))))
