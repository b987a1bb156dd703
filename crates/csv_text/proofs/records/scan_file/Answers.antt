-- `csv_text::records::scan_file` meets its contract. The loop's invariant: what is counted, and what comes from the records from the
-- loop's place on, is what the whole file comes to. Assumes nothing.
use Rattle.csv_text.proofs.RecordLaws.{RecordGot, record_got, record_lost}
use Rattle.csv_text.proofs.ScanLaws.{scan_broken, scan_done, scan_other, widely_more, widely_start, width_now}
use Rattle.csv_text.specs.Records.{width}
use mathlib.Core.Path.{◌∙◌, ◌≡◌, sym}
use native.Mathlib.Omega.{arith}
use Rattle.csv_text.proofs.records.scan_file.Goals.{After-expected_width-w, In-Some}
use Rattle.csv_text.proofs.records.scan_file.Goals as goal

pub loop-i-init : goal.loop-i-init
loop-i-init c = widely_start _

pub returns-in_default : goal.returns-in_default
returns-in_default c = scan_broken c.args.s.now (width c.args.s.now) c.loop-i.invariant.scanning c.loop-i-test.true (record_lost c.args.s.now c.loop-i.i (sym c.read_record.ensures ∙ c.in_default.is))

-- the record that was read in this turn
turn : (c : In-Some) → RecordGot c.args.s.now c.loop-i.i c.in-Some.e c.in-Some.n c.in-Some.z c.in-Some.u
turn c = record_got c.args.s.now c.loop-i.i c.in-Some.e c.in-Some.n c.in-Some.z c.in-Some.u (sym c.read_record.ensures ∙ c.in-Some.is)

-- the width that is expected of it
wide : (c : After-expected_width-w) → c.expected_width-w.result ≡ width c.args.s.now
wide c = c.expected_width-w.ensures ∙ width_now c.args.s.now c.loop-i.w c.loop-i.invariant (record_got c.args.s.now c.loop-i.i c.in-Some.e c.in-Some.n c.in-Some.z c.in-Some.u (sym c.read_record.ensures ∙ c.in-Some.is))

pub returns-then-n-w : goal.returns-then-n-w
returns-then-n-w c = scan_other c.args.s.now (width c.args.s.now) c.loop-i.invariant.scanning c.loop-i-test.true (turn (goal.at.returns-then-n-w c).In-Some) (λ e. c.if-n-w.true (e ∙ sym (wide (goal.at.returns-then-n-w c).After-expected_width-w)))

pub overflow_add-count : goal.overflow_add-count
overflow_add-count c = omega (arith, c.loop-i.invariant.scanning.few, c.loop-i.invariant.scanning.inside)

pub overflow_add-size : goal.overflow_add-size
overflow_add-size c = omega (arith, c.loop-i.invariant.scanning.small, c.loop-i.invariant.scanning.inside, (turn (goal.at.overflow_add-size c).In-Some).small, (turn (goal.at.overflow_add-size c).In-Some).past c.loop-i-test.true, (turn (goal.at.overflow_add-size c).In-Some).inside c.loop-i.invariant.scanning.inside)

pub loop-i-smaller : goal.loop-i-smaller
loop-i-smaller c = omega (arith, c.loop-i-test.true, (turn (goal.at.loop-i-smaller c).In-Some).past c.loop-i-test.true)

pub loop-i-preserved : goal.loop-i-preserved
loop-i-preserved c = widely_more c.args.s.now c.loop-i.w c.loop-i.invariant (turn (goal.at.loop-i-preserved c).In-Some) c.loop-i-test.true (c.if-n-w.false ∙ wide (goal.at.loop-i-preserved c).After-expected_width-w) c.first_of-unfit.ensures (wide (goal.at.loop-i-preserved c).After-expected_width-w)

pub returns : goal.returns
returns c = scan_done c.args.s.now (width c.args.s.now) c.loop-i.invariant.scanning c.loop-i-test.false
