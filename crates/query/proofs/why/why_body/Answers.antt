-- `query::why::why_body` meets its contract: two names, a number and a name, each behind a space. Assumes nothing.
use Rattle.form.proofs.PartLaws.{name_to, space_before}
use Rattle.query.proofs.PartsRead.{Named}
use Rattle.query.proofs.WhyRead.{why_words, why_wrong_1, why_wrong_2, why_wrong_3, why_wrong_4, why_wrong_5}
use Rattle.query.specs.WhyPlaces.{why_to}
use Rattle.text.proofs.EndLaws.{end_none}
use Rattle.text.specs.Brackets.{next}
use Rattle.text.specs.Words.{name}
use lib.ListN.{get_or}
use mathlib.Core.Path.{◌∙◌, ◌≡◌, sym}
use native.Mathlib.Omega.{arith}
use Rattle.query.proofs.why.why_body.Goals.{Else-byte_at-ne32, In_ok-e, In_ok-f, In_ok-h}
use Rattle.query.proofs.why.why_body.Goals as goal

purpose : (c : In_ok-e) → Named c.args.s.now c.args.at c.in_ok-e.e
purpose c = name_to c.args.s.now c.args.at c.in_ok-e.e c.spaced_name_end.ensures c.in_ok-e.was

table : (c : In_ok-f) → Named c.args.s.now c.in_ok-e.e c.in_ok-f.f
table c = name_to c.args.s.now c.in_ok-e.e c.in_ok-f.f c.spaced_name_end-2.ensures c.in_ok-f.was

space : (c : Else-byte_at-ne32) → get_or c.args.s.now c.in_ok-f.f 0 ≡ 32
space c = sym c.byte_at.ensures ∙ c.if-byte_at-ne32.false

column : (c : In_ok-h) → Named c.args.s.now c.in_ok-g.g c.in_ok-h.h
column c = name_to c.args.s.now c.in_ok-g.g c.in_ok-h.h c.spaced_name_end-3.ensures c.in_ok-h.was

pub returns-in_err-e : goal.returns-in_err-e
unfolding why_to
returns-in_err-e c = let s = c.args.s.now in
    rw c.from_residual.ensures (why_wrong_1 s c.args.at (end_none (next name) s c.args.at (sym c.spaced_name_end.ensures ∙ c.in_err-e.was)))

pub returns-in_err-f : goal.returns-in_err-f
unfolding why_to
returns-in_err-f c = let s = c.args.s.now in
    let at = goal.at.returns-in_err-f c in
    rw c.from_residual-in_err-f.ensures
    (why_wrong_2 s c.args.at (purpose at.In_ok-e) (end_none (next name) s c.in_ok-e.e (sym c.spaced_name_end-2.ensures ∙ c.in_err-f.was)))

pub returns-then-byte_at-ne32 : goal.returns-then-byte_at-ne32
unfolding why_to
returns-then-byte_at-ne32 c = let at = goal.at.returns-then-byte_at-ne32 c in
    why_wrong_3 c.args.s.now c.args.at (purpose at.In_ok-e) (table at.In_ok-f) (λ z. c.if-byte_at-ne32.true (c.byte_at.ensures ∙ z))

pub overflow_add-f : goal.overflow_add-f
overflow_add-f c = omega (arith, space_before c.args.s.now c.in_ok-f.f (space c))

pub returns-in_err-g : goal.returns-in_err-g
unfolding why_to
returns-in_err-g c = let at = goal.at.returns-in_err-g c in
    rw c.from_residual-in_err-g.ensures
    (why_wrong_4 c.args.s.now c.args.at (purpose at.In_ok-e) (table at.In_ok-f) (space at.Else-byte_at-ne32)
    (sym c.number_end.ensures ∙ c.in_err-g.was))

pub returns-in_err-h : goal.returns-in_err-h
unfolding why_to
returns-in_err-h c = let s = c.args.s.now in
    let at = goal.at.returns-in_err-h c in
    rw c.from_residual-in_err-h.ensures
    (why_wrong_5 s c.args.at (purpose at.In_ok-e) (table at.In_ok-f) (space at.Else-byte_at-ne32)
    (sym c.number_end.ensures ∙ c.in_ok-g.was) (end_none (next name) s c.in_ok-g.g (sym c.spaced_name_end-3.ensures ∙ c.in_err-h.was)))

pub overflow_add-result : goal.overflow_add-result
overflow_add-result c = omega (arith, purpose (goal.at.overflow_add-result c).In_ok-e)

pub overflow_add-result-2 : goal.overflow_add-result-2
overflow_add-result-2 c = omega (arith, table (goal.at.overflow_add-result-2 c).In_ok-f)

pub overflow_add-result-3 : goal.overflow_add-result-3
overflow_add-result-3 c = omega (arith, space_before c.args.s.now c.in_ok-f.f (space (goal.at.overflow_add-result-3 c).Else-byte_at-ne32))

pub overflow_add-result-4 : goal.overflow_add-result-4
overflow_add-result-4 c = omega (arith, column (goal.at.overflow_add-result-4 c).In_ok-h)

pub returns : goal.returns
unfolding why_to
returns c = let at = goal.at.returns c in
    why_words c.args.s.now c.args.at (purpose at.In_ok-e) (table at.In_ok-f) (space at.Else-byte_at-ne32)
    (sym c.number_end.ensures ∙ c.in_ok-g.was) (column at.In_ok-h)
