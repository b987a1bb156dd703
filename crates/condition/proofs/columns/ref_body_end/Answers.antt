use mathlib.Core.Path.{◌∙◌}
use Rattle.condition.proofs.SubjectLaws.{body_off, body_on}
use Rattle.condition.proofs.columns.ref_body_end.Goals as goal

pub returns-in_err-e : goal.returns-in_err-e
returns-in_err-e c = let x = c.args in
    c.from_residual.ensures ∙ body_off x.s.now x.at c.spaced_name_end.ensures c.in_err-e.was

pub returns : goal.returns
returns c = let x = c.args in
    body_on x.s.now x.at c.spaced_name_end.ensures c.in_ok-e.was c.spaced_name_end-2.ensures
