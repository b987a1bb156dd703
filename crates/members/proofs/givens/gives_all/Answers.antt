-- `members::givens::gives_all` meets its contract. Assumes nothing.
use lib.Dec.{eqb}
use lib.ListN.{length, length-map}
use mathlib.Core.Path.{◌∙◌, ap, sym}
use Rattle.members.proofs.GivenLaws.{given_names, gives_counted, gives_other, gives_repeated}
use Rattle.form.specs.Form.{GivenForm}
use Rattle.form.specs.Walks.{givens_at}
use Rattle.members.proofs.givens.gives_all.Goals as goal

pub returns-then-givens_repeat : goal.returns-then-givens_repeat
returns-then-givens_repeat c = let entry = c.args in λ d m h q. sym (gives_repeated d entry.role (given_names entry.line.now entry.gs) q (sym c.givens_repeat.ensures ∙ c.if-givens_repeat.true))

pub returns-then-not-givens_of_role : goal.returns-then-not-givens_of_role
returns-then-not-givens_of_role c = let entry = c.args in λ d m h q. sym
    (gives_other d entry.role (given_names entry.line.now entry.gs) q (sym c.givens_repeat.ensures ∙ c.if-givens_repeat.false) (sym (c.givens_of_role.ensures d m h) ∙ c.if-not-givens_of_role.true))

pub returns : goal.returns
returns c = let entry = c.args in λ d m h q.
    ap (λ x. eqb x c.role_attributes-held.result) (c.givens_count-given.ensures ∙ sym (length-map (givens_at entry.line.now entry.gs) (λ (g : GivenForm). g.attribute)))
    ∙ ap (eqb (length (given_names entry.line.now entry.gs))) (c.role_attributes-held.ensures entry.text.now d m h)
    ∙ sym (gives_counted d entry.role (given_names entry.line.now entry.gs) q
    (sym c.givens_repeat.ensures ∙ c.if-givens_repeat.false)
    (sym (c.givens_of_role.ensures d m h) ∙ c.if-not-givens_of_role.false))
