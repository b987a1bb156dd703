-- `judging::marking::marking_of` meets its contract. Assumes nothing.
use Rattle.document.specs.NoteFaults.{is_nested}
use Rattle.relations.specs.Labels.{verdict_for}
use mathlib.Core.Path.{◌∙◌, ap, sym}
use Rattle.judging.proofs.marking.marking_of.Goals as goal

pub returns : goal.returns
returns c = record {
  nested = λ l. c.is_nested-nested.ensures _ _ ∙ ap is_nested (sym (c.table_scheme.ensures l));
  strong = λ l. c.said_of-strong.ensures ∙ ap (verdict_for c.args.said.now) (c.strong_label.ensures l);
  weak = λ l. c.said_of-weak.ensures ∙ ap (verdict_for c.args.said.now) (c.weak_label.ensures l);
}
