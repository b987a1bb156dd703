-- `tables::label_storing::store_label` meets its contract: its sets hold the purposes that its line names. Assumes nothing.
use Rattle.form.specs.Walks.{names_at}
use Rattle.tables.proofs.SetLaws.{label_stored}
use Rattle.tables.proofs.label_storing.store_label.Goals as goal

pub returns : goal.returns
returns c d l P N ok h denies = let a = c.args in
    label_stored l d a.l _ h c.place-pos.ensures (names_at a.line.now a.allowed) (names_at a.line.now a.denied) denies N ok
    (λ room. c.add_label.ensures a.text.now _ _ _ N room (c.set_of-allow.ensures d.policy P) (c.set_of-deny.ensures d.policy P))
