-- `stages::granted::ask_granted` meets its contract: the table and the named columns by number, or 15; then 16, then 27, then 31, then
-- 17, and the rows. Assumes nothing.
use Rattle.document.specs.Lookup.{table_of}
use Rattle.query.specs.QueryPlaces.{form_at}
use Rattle.stages.proofs.Chain.{dated_passes, dated_refused, gives_refused, gives_same, known_passes, known_refused, nothing_found, open_passes, open_refused, plain_passes, plain_refused, table_refused, typed_passes, typed_refused}
use Rattle.stages.proofs.Preparing.{comparable, dates_judged, parts_judged, parts_known, prepared, ranges_judged, resolves_known, resolves_unknown, table_found, table_unknown, types_judged, verb_is}
use mathlib.Core.Path.{◌∙◌}
use Rattle.stages.proofs.granted.ask_granted.Goals as goal

pub returns-in_default : goal.returns-in_default
unfolding form_at table_of
returns-in_default c d held = let a = c.args in
    gives_refused (table_refused d _ _ a.query.now a.q.head.table (table_unknown d.policy (form_at a.query.now a.q) (nothing_found c.in_default.is (c.find_table-table.ensures.0 d.policy.tables held.tables)))) c.refused_at.ensures

pub returns-in-Some-unknown : goal.returns-in-Some-unknown
unfolding form_at table_of
returns-in-Some-unknown c d held = let a = c.args in
    let table = table_found d.policy (form_at a.query.now a.q) c.in-Some.is (c.find_table-table.ensures.0 d.policy.tables held.tables) c.find_table-table.ensures.1 in
    let placed = c.named_places-n.ensures held.query in
    let resolves = c.resolve_columns-unknown.ensures d.policy _ held.tables table.inside placed.small in
    gives_refused (known_refused d _ _ a.query.now c.in-Some-unknown.is (resolves_unknown a.q table placed resolves)) c.refused_at-in-Some-unknown.ensures

pub returns-in-Some-wrong : goal.returns-in-Some-wrong
unfolding form_at table_of
returns-in-Some-wrong c d held = let a = c.args in
    let table = table_found d.policy (form_at a.query.now a.q) c.in-Some.is (c.find_table-table.ensures.0 d.policy.tables held.tables) c.find_table-table.ensures.1 in
    let placed = c.named_places-n.ensures held.query in
    let resolves = c.resolve_columns-unknown.ensures d.policy _ held.tables table.inside placed.small in
    let columns = resolves_known a.q table placed resolves c.in_default-unknown.is in
    let read = c.read_tests.ensures a.text.now d.policy (comparable a.q held.query table columns placed.tests c.marking_of.result c.sought_in-s.ensures held.tables) in
    let types = types_judged a.q held.query table columns placed.tests c.mistyped_test-wrong.result c.marking_of.result c.sought_in-s.ensures read (c.mistyped_test-wrong.ensures a.query.now) in
    gives_refused (known_passes d _ _ a.query.now c.in_default-unknown.is (resolves_unknown a.q table placed resolves) ∙ typed_refused d _ _ a.query.now c.in-Some-wrong.is types) c.refused_written.ensures

pub returns-in-Some-ranged : goal.returns-in-Some-ranged
unfolding form_at table_of
returns-in-Some-ranged c d held = let a = c.args in
    let table = table_found d.policy (form_at a.query.now a.q) c.in-Some.is (c.find_table-table.ensures.0 d.policy.tables held.tables) c.find_table-table.ensures.1 in
    let placed = c.named_places-n.ensures held.query in
    let resolves = c.resolve_columns-unknown.ensures d.policy _ held.tables table.inside placed.small in
    let columns = resolves_known a.q table placed resolves c.in_default-unknown.is in
    let read = c.read_tests.ensures a.text.now d.policy (comparable a.q held.query table columns placed.tests c.marking_of.result c.sought_in-s.ensures held.tables) in
    let types = types_judged a.q held.query table columns placed.tests c.mistyped_test-wrong.result c.marking_of.result c.sought_in-s.ensures read (c.mistyped_test-wrong.ensures a.query.now) in
    let ranges = ranges_judged d a.q table placed resolves c.in_default-unknown.is c.ranged_column-ranged.result c.takes_ranges-taken.result (c.takes_ranges-taken.ensures ∙ verb_is a.q _ c.marking_of.result c.sought_in-s.ensures) (c.ranged_column-ranged.ensures d a.query.now held.rows) in
    gives_refused (known_passes d _ _ a.query.now c.in_default-unknown.is (resolves_unknown a.q table placed resolves) ∙ typed_passes d _ _ a.query.now c.in_default-wrong.is types ∙ plain_refused d _ _ a.query.now c.in-Some-ranged.is ranges) c.refused_at-in-Some-ranged.ensures

pub returns-in-Some-absent : goal.returns-in-Some-absent
unfolding form_at table_of
returns-in-Some-absent c d held = let a = c.args in
    let table = table_found d.policy (form_at a.query.now a.q) c.in-Some.is (c.find_table-table.ensures.0 d.policy.tables held.tables) c.find_table-table.ensures.1 in
    let placed = c.named_places-n.ensures held.query in
    let resolves = c.resolve_columns-unknown.ensures d.policy _ held.tables table.inside placed.small in
    let columns = resolves_known a.q table placed resolves c.in_default-unknown.is in
    let read = c.read_tests.ensures a.text.now d.policy (comparable a.q held.query table columns placed.tests c.marking_of.result c.sought_in-s.ensures held.tables) in
    let types = types_judged a.q held.query table columns placed.tests c.mistyped_test-wrong.result c.marking_of.result c.sought_in-s.ensures read (c.mistyped_test-wrong.ensures a.query.now) in
    let ranges = ranges_judged d a.q table placed resolves c.in_default-unknown.is c.ranged_column-ranged.result c.takes_ranges-taken.result (c.takes_ranges-taken.ensures ∙ verb_is a.q _ c.marking_of.result c.sought_in-s.ensures) (c.ranged_column-ranged.ensures d a.query.now held.rows) in
    let dates = dates_judged a.q held.query table columns placed.tests c.missing_date-absent.result c.marking_of.result c.sought_in-s.ensures read c.missing_date-absent.ensures in
    gives_refused (known_passes d _ _ a.query.now c.in_default-unknown.is (resolves_unknown a.q table placed resolves) ∙ typed_passes d _ _ a.query.now c.in_default-wrong.is types ∙ plain_passes d _ _ a.query.now c.in_default-ranged.is ranges ∙ dated_refused d _ _ a.query.now c.in-Some-absent.is dates) c.refused_written-in-Some-absent.ensures

pub returns-in-Some-closed : goal.returns-in-Some-closed
unfolding form_at table_of
returns-in-Some-closed c d held = let a = c.args in
    let table = table_found d.policy (form_at a.query.now a.q) c.in-Some.is (c.find_table-table.ensures.0 d.policy.tables held.tables) c.find_table-table.ensures.1 in
    let placed = c.named_places-n.ensures held.query in
    let resolves = c.resolve_columns-unknown.ensures d.policy _ held.tables table.inside placed.small in
    let columns = resolves_known a.q table placed resolves c.in_default-unknown.is in
    let read = c.read_tests.ensures a.text.now d.policy (comparable a.q held.query table columns placed.tests c.marking_of.result c.sought_in-s.ensures held.tables) in
    let types = types_judged a.q held.query table columns placed.tests c.mistyped_test-wrong.result c.marking_of.result c.sought_in-s.ensures read (c.mistyped_test-wrong.ensures a.query.now) in
    let ranges = ranges_judged d a.q table placed resolves c.in_default-unknown.is c.ranged_column-ranged.result c.takes_ranges-taken.result (c.takes_ranges-taken.ensures ∙ verb_is a.q _ c.marking_of.result c.sought_in-s.ensures) (c.ranged_column-ranged.ensures d a.query.now held.rows) in
    let dates = dates_judged a.q held.query table columns placed.tests c.missing_date-absent.result c.marking_of.result c.sought_in-s.ensures read c.missing_date-absent.ensures in
    let closed = parts_judged a.q table placed resolves c.in_default-unknown.is c.closed_part-closed.result held.said (c.closed_part-closed.ensures d.policy a.text.now _ _ held.tables held.notes table.inside) in
    gives_refused (known_passes d _ _ a.query.now c.in_default-unknown.is (resolves_unknown a.q table placed resolves) ∙ typed_passes d _ _ a.query.now c.in_default-wrong.is types ∙ plain_passes d _ _ a.query.now c.in_default-ranged.is ranges ∙ dated_passes d _ _ a.query.now c.in_default-absent.is dates ∙ open_refused d _ _ a.query.now c.in-Some-closed.is closed) c.refused_at-in-Some-closed.ensures

pub returns : goal.returns
unfolding form_at table_of
returns c d held = let a = c.args in
    let table = table_found d.policy (form_at a.query.now a.q) c.in-Some.is (c.find_table-table.ensures.0 d.policy.tables held.tables) c.find_table-table.ensures.1 in
    let placed = c.named_places-n.ensures held.query in
    let resolves = c.resolve_columns-unknown.ensures d.policy _ held.tables table.inside placed.small in
    let columns = resolves_known a.q table placed resolves c.in_default-unknown.is in
    let read = c.read_tests.ensures a.text.now d.policy (comparable a.q held.query table columns placed.tests c.marking_of.result c.sought_in-s.ensures held.tables) in
    let types = types_judged a.q held.query table columns placed.tests c.mistyped_test-wrong.result c.marking_of.result c.sought_in-s.ensures read (c.mistyped_test-wrong.ensures a.query.now) in
    let ranges = ranges_judged d a.q table placed resolves c.in_default-unknown.is c.ranged_column-ranged.result c.takes_ranges-taken.result (c.takes_ranges-taken.ensures ∙ verb_is a.q _ c.marking_of.result c.sought_in-s.ensures) (c.ranged_column-ranged.ensures d a.query.now held.rows) in
    let dates = dates_judged a.q held.query table columns placed.tests c.missing_date-absent.result c.marking_of.result c.sought_in-s.ensures read c.missing_date-absent.ensures in
    let closed = parts_judged a.q table placed resolves c.in_default-unknown.is c.closed_part-closed.result held.said (c.closed_part-closed.ensures d.policy a.text.now _ _ held.tables held.notes table.inside) in
    gives_same (known_passes d _ _ a.query.now c.in_default-unknown.is (resolves_unknown a.q table placed resolves) ∙ typed_passes d _ _ a.query.now c.in_default-wrong.is types ∙ plain_passes d _ _ a.query.now c.in_default-ranged.is ranges ∙ dated_passes d _ _ a.query.now c.in_default-absent.is dates ∙ open_passes d _ _ a.query.now c.in_default-closed.is closed)
    (c.ask_rows.ensures d (form_at a.query.now a.q) (prepared a.q held table columns placed.tests (parts_known a.query.now a.q c.in_default-unknown.is (resolves_unknown a.q table placed resolves) c.in_default-closed.is closed) c.marking_of.result c.marking_of.ensures c.sought_in-s.ensures read c.in_default-wrong.is (c.mistyped_test-wrong.ensures a.query.now)))
