-- `form::lines::label_body` meets its contract: a name and two sets, each behind a space.
-- Assumes nothing.
use Prim.Native.Nat.{◌+◌, ◌≤◌}
use lib.ListN.{length}
use mathlib.Core.Option.{some}
use mathlib.Core.Path.{◌∙◌, ◌≡◌, ap, subst, sym}
use native.Mathlib.Omega.{arith}
use Rattle.form.proofs.LabelPlaces.{deny_stands}
use Rattle.form.proofs.NoneLaws.{body_none}
use Rattle.form.proofs.PartLaws.{Behind, name_to}
use Rattle.form.specs.BodyPlaces.{BodyWithin, SetWithin, body_at, set_at}
use Rattle.form.specs.FormReader.{label_form, purpose_set}
use Rattle.form.specs.Places.{Within, line_at}
use Rattle.form.specs.Walks.{names_at}
use Rattle.text.proofs.EndLaws.{end_none}
use Rattle.text.specs.Brackets.{next}
use Rattle.text.specs.Bytes.{ascii}
use Rattle.text.specs.Reader.{from}
use Rattle.text.specs.Words.{name, word_of}
use Rattle.form.proofs.lines.label_body.Goals.{In_ok-e, In_ok-p, In_ok-q}
use Rattle.form.proofs.lines.label_body.Goals as goal

first : (c : In_ok-e) → Behind name (word_of c.args.s.now (c.args.at + 1)) c.args.s.now c.args.at c.in_ok-e.e
first c = name_to c.args.s.now c.args.at c.in_ok-e.e c.spaced_name_end.ensures c.in_ok-e.was

allowed : (c : In_ok-p) → next (purpose_set (ascii "allow")) (from c.args.s.now c.in_ok-e.e) ≡ some (names_at c.args.s.now c.in_ok-p.p, from c.args.s.now c.in_ok-p.f)
unfolding set_at
allowed c = c.read_set.ensures.is ∙ ap (set_at c.args.s.now) c.in_ok-p.was

allowed_in : (c : In_ok-p) → c.in_ok-p.p ≤ length c.args.s.now
unfolding SetWithin
allowed_in c = subst (SetWithin c.args.s.now) c.in_ok-p.was c.read_set.ensures.within

denied : (c : In_ok-q) → next (purpose_set (ascii "deny")) (from c.args.s.now c.in_ok-p.f) ≡ some (names_at c.args.s.now c.in_ok-q.q, from c.args.s.now c.in_ok-q.g)
unfolding set_at
denied c = c.read_set-2.ensures.is ∙ ap (set_at c.args.s.now) c.in_ok-q.was

denied_in : (c : In_ok-q) → c.in_ok-q.q ≤ length c.args.s.now
unfolding SetWithin
denied_in c = subst (SetWithin c.args.s.now) c.in_ok-q.was c.read_set-2.ensures.within

pub returns-in_err-e : goal.returns-in_err-e
unfolding label_form
returns-in_err-e c = body_none c.args.s.now c.from_residual.ensures (rw (end_none (next name) c.args.s.now c.args.at (sym c.spaced_name_end.ensures ∙ c.in_err-e.was)))

pub returns-in_err-p : goal.returns-in_err-p
unfolding label_form set_at
returns-in_err-p c = body_none c.args.s.now c.from_residual-in_err-p.ensures (rw ((first (goal.at.returns-in_err-p c).In_ok-e).is, c.read_set.ensures.is ∙ ap (set_at c.args.s.now) c.in_err-p.was))

pub returns-in_err-q : goal.returns-in_err-q
unfolding label_form set_at
returns-in_err-q c = body_none c.args.s.now c.from_residual-in_err-q.ensures (rw ((first (goal.at.returns-in_err-q c).In_ok-e).is, allowed (goal.at.returns-in_err-q c).In_ok-p, c.read_set-2.ensures.is ∙ ap (set_at c.args.s.now) c.in_err-q.was))

pub overflow_add-result : goal.overflow_add-result
overflow_add-result c = omega (arith, first (goal.at.overflow_add-result c).In_ok-e)

pub returns : goal.returns
unfolding label_form body_at line_at BodyWithin Within
returns c = record { is = rw ((first (goal.at.returns c).In_ok-e).is, allowed (goal.at.returns c).In_ok-p, denied (goal.at.returns c).In_ok-q); within = (omega (arith, first (goal.at.returns c).In_ok-e), allowed_in (goal.at.returns c).In_ok-p, denied_in (goal.at.returns c).In_ok-q, deny_stands c.args.s.now _ _ _ _ _ _ _ _ (first (goal.at.returns c).In_ok-e).is (allowed (goal.at.returns c).In_ok-p) (denied (goal.at.returns c).In_ok-q)) }
