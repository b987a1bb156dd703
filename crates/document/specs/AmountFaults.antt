-- Meaning: 28, a range with LOW above HIGH (02, Q-12), and 31, no such date (02, Q-14).
use Rattle.std.specs.Prelude.{leb, Bool, true, []}
use Rattle.std.proofs.Math.Option.{Option, get_or, none, some}
use Rattle.calendar.specs.Calendar.{Date, exists}
use Rattle.calendar.specs.DateText.{date_of}
use Rattle.document.specs.Lookup.{scheme_of}
use Rattle.document.specs.Policy.{Policy}
use Rattle.document.specs.ValueFaults.{row_values}
use Rattle.form.specs.Form.{Form, attr, cond_role, grant, label, note, purpose, role, row, table, user}
use Rattle.text.specs.Amounts.{Range, range_of}
use Rattle.text.specs.Offending.{missing}
use Rattle.text.specs.Words.{Word}

-- LOW is at most HIGH, where there is a range
unfoldable pub in_order : Option Range → Bool
in_order none = true
in_order (some r) = leb r.low r.high

-- the leftmost range with LOW above HIGH
unfoldable pub broken_range : Policy → Form → Option Word
broken_range d (purpose n p) = none
broken_range d (role n p) = none
broken_range d (attr r a k) = none
broken_range d (user u r gs) = none
broken_range d (cond_role c r t) = none
broken_range d (grant p c) = none
broken_range d (label l ps qs) = none
broken_range d (table t s cs) = none
broken_range d (row t is) = missing (λ w. in_order (range_of w.bytes)) (get_or (row_values (scheme_of d t) is) [])
broken_range d (note t n) = none

-- there is such a date, where there is a date
unfoldable pub date_exists : Option Date → Bool
date_exists none = true
date_exists (some d) = exists d

-- the leftmost date that does not exist
unfoldable pub no_such_date : Policy → Form → Option Word
no_such_date d (purpose n p) = none
no_such_date d (role n p) = none
no_such_date d (attr r a k) = none
no_such_date d (user u r gs) = none
no_such_date d (cond_role c r t) = none
no_such_date d (grant p c) = none
no_such_date d (label l ps qs) = none
no_such_date d (table t s cs) = none
no_such_date d (row t is) = missing (λ w. date_exists (date_of w.bytes)) (get_or (row_values (scheme_of d t) is) [])
no_such_date d (note t n) = none
