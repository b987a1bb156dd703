-- `reasons::lines::explain_line` meets its contract: 11, or what the line's words give. Assumes nothing.
use Rattle.answer.specs.Why.{explain}
use Rattle.query.specs.WhyForm.{WhyForm}
use Rattle.query.specs.WhyPlaces.{why_line}
use Rattle.reasons.specs.Explaining.{explain_line, explained_as}
use Rattle.text.specs.Refusal.{◌>>=◌, need, pointing_all, query}
use mathlib.Core.Option.{Option}
use mathlib.Core.Path.{◌∙◌, ap, sym}
use Rattle.reasons.proofs.lines.explain_line.Goals as goal

pub returns-in_default : goal.returns-in_default
unfolding explain_line explained_as why_line need ◌>>=◌ pointing_all
returns-in_default c d K = let s = c.args.line.now in
    sym (ap (λ (o : Option WhyForm). need o (pointing_all 11 query s) >>= explain d) (c.read_why-a.ensures ∙ ap (why_line s) c.in_default.is))

pub returns : goal.returns
unfolding explain_line why_line need ◌>>=◌
returns c d K = let s = c.args.line.now in
    c.explain_words.ensures d K ∙ sym (ap (λ (o : Option WhyForm). need o (pointing_all 11 query s) >>= explain d) (c.read_why-a.ensures ∙ ap (why_line s) c.in-Some.is))
