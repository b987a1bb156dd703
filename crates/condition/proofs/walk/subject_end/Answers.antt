use mathlib.Core.Path.{◌∙◌}
use Rattle.condition.proofs.SubjectLaws.{subject_flat, subject_name, subject_ref}
use Rattle.condition.proofs.walk.subject_end.Goals as goal

pub returns-then-not-joined : goal.returns-then-not-joined
returns-then-not-joined c = let x = c.args in
    c.name_end.ensures ∙ subject_name x.s.now x.at x.joined x.depth (rw c.if-not-joined.true)

pub returns-then-depth-eq0 : goal.returns-then-depth-eq0
returns-then-depth-eq0 c = let x = c.args in
    subject_flat x.s.now x.at x.joined x.depth (rw c.if-not-joined.false) c.if-depth-eq0.true

pub returns : goal.returns
returns c = let x = c.args in
    c.ref_end.ensures ∙ subject_ref x.s.now x.at x.joined x.depth (rw c.if-not-joined.false) c.if-depth-eq0.false
