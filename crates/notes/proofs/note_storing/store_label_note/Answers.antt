-- `notes::note_storing::store_label_note` meets its contract. Assumes nothing.
use Prim.Native.Nat.{◌<◌}
use Rattle.document.specs.Lookup.{label_of, table_of}
use Rattle.lists.specs.Lists.{or_zero, there}
use Rattle.notes.proofs.LabelNoteStored.{by_flag, known_label_lem, label_stored, number_below}
use Rattle.text.specs.Words.{word_of}
use Rattle.workspace.specs.Found.{found_as}
use mathlib.Core.Bool.{false, true}
use mathlib.Core.Path.{◌∙◌, ◌≡◌, ap}
use native.Mathlib.Omega.{arith}
use Rattle.notes.proofs.note_storing.store_label_note.Goals as goal

pub returns-then-strong : goal.returns-then-strong
unfolding table_of label_of
returns-then-strong c d sets L T N ok = let a = c.args in
    let known = known_label_lem d a.line.now (word_of a.line.now a.t) (word_of a.line.now a.l) a.strong ok in
    let found : found_as c.find_label.result ≡ label_of d.policy (word_of a.line.now a.l) = c.find_label.ensures.0 sets _ L in
    let below : or_zero (found_as c.find_label.result) < a.count = number_below c.find_label.result a.count (ap there found ∙ known) c.find_label.ensures.1 in
    let small : c.number-y.result < 64 = omega (arith, below, L.few, c.number-y.ensures) in
    label_stored d a.line.now (word_of a.line.now a.t) (word_of a.line.now a.l) a.strong T N ok
    (c.number-x.ensures ∙ ap or_zero (c.find_table.ensures.0 _ T))
    (c.number-y.ensures ∙ ap or_zero found)
    (by_flag c.number-y.result a.strong true c.if-strong.true (c.set_strong.ensures small))

pub returns : goal.returns
unfolding table_of label_of
returns c d sets L T N ok = let a = c.args in
    let known = known_label_lem d a.line.now (word_of a.line.now a.t) (word_of a.line.now a.l) a.strong ok in
    let found : found_as c.find_label.result ≡ label_of d.policy (word_of a.line.now a.l) = c.find_label.ensures.0 sets _ L in
    let below : or_zero (found_as c.find_label.result) < a.count = number_below c.find_label.result a.count (ap there found ∙ known) c.find_label.ensures.1 in
    let small : c.number-y.result < 64 = omega (arith, below, L.few, c.number-y.ensures) in
    label_stored d a.line.now (word_of a.line.now a.t) (word_of a.line.now a.l) a.strong T N ok
    (c.number-x.ensures ∙ ap or_zero (c.find_table.ensures.0 _ T))
    (c.number-y.ensures ∙ ap or_zero found)
    (by_flag c.number-y.result a.strong false c.if-strong.false (c.set_weak.ensures small))
