-- `notes::note_faults::label_note_fault` meets its contract. Assumes nothing.
use Rattle.notes.proofs.LabelNoteFaults.{in_its_place, no_label, no_table, out_of_its_place}
use Rattle.stepping.proofs.FoundLaws.{is_none_false, is_none_true}
use Rattle.notes.proofs.note_faults.label_note_fault.Goals as goal

pub returns-in_default : goal.returns-in_default
returns-in_default c = let a = c.args in
    no_table a.text.now a.labels.now a.tables.now a.rows.now a.c a.line.now a.t a.l a.strong c.find_table.result c.find_table.ensures.0 c.in_default.is

pub returns-then-is_none : goal.returns-then-is_none
returns-then-is_none c = let a = c.args in
    no_label a.text.now a.labels.now a.tables.now a.rows.now a.c a.line.now a.t a.l a.strong
    c.find_table.result
    c.find_table.ensures.0 c.in-Some.x
    c.in-Some.is c.find_table.ensures.1
    c.find_label.result (λ sets ls h. c.find_label.ensures.0 sets ls h) (is_none_true c.is_none.ensures c.if-is_none.true)

pub returns-then-is_out_of_place : goal.returns-then-is_out_of_place
returns-then-is_out_of_place c = let a = c.args in
    let known = is_none_false c.is_none.ensures c.if-is_none.false in
    out_of_its_place a.text.now a.labels.now a.tables.now a.rows.now a.c a.line.now a.t a.l a.strong
    c.find_table.result
    c.find_table.ensures.0
    c.in-Some.x c.in-Some.is
    c.find_table.ensures.1
    c.find_label.result (λ sets ls h. c.find_label.ensures.0 sets ls h)
    known.0 known.1 c.is_out_of_place.result
    c.is_out_of_place.ensures c.if-is_out_of_place.true

pub returns : goal.returns
returns c = let a = c.args in
    let known = is_none_false c.is_none.ensures c.if-is_none.false in
    in_its_place a.text.now a.labels.now a.tables.now a.rows.now a.c a.line.now a.t a.l a.strong
    c.find_table.result
    c.find_table.ensures.0
    c.in-Some.x c.in-Some.is
    c.find_table.ensures.1
    c.find_label.result (λ sets ls h. c.find_label.ensures.0 sets ls h)
    known.0 known.1 c.is_out_of_place.result
    c.is_out_of_place.ensures c.if-is_out_of_place.false
