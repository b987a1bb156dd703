-- Meaning: 3, a bound exceeded; 6, a second root purpose; 9, an attr line after a user line (01, "Checking a document").
use Rattle.std.specs.Prelude.{◌+◌, leb, ltb, length, Bool, ◌&&◌, ◌||◌, false, not}
use Rattle.condition.specs.Cond.{comparisons}
use Rattle.document.specs.Policy.{Doc, Policy}
use Rattle.form.specs.Form.{Form, attr, cond_role, grant, label, note, purpose, role, row, table, user}
use Rattle.purpose.specs.Members.{limit}
use Rattle.lists.specs.Lists.{there}

-- the form would be one more of its kind than the bound, or is itself beyond one; the clock's attributes do not count, and notes
-- have no bound (02, Q-2, Q-11)
unfoldable pub over_bound : Doc → Form → Bool
over_bound d (purpose n p) = leb limit (length d.policy.purposes)
over_bound d (role n p) = leb 64 (length d.policy.roles)
over_bound d (attr r a k) = leb (3 + 32) (length d.policy.attributes)
over_bound d (user u r gs) = leb 256 (length d.policy.users)
over_bound d (cond_role c r t) = leb 64 (length d.policy.cond_roles) || ltb 64 (length (comparisons t))
over_bound d (grant p c) = leb 128 (length d.policy.grants)
over_bound d (label l ps qs) = leb 64 (length d.policy.labels)
over_bound d (table t s cs) = leb 8 (length d.policy.tables) || ltb 16 (length cs)
over_bound d (row t is) = leb 1024 (length d.rows)
over_bound d (note t n) = false

-- the line is a root purpose, and there are purposes already
unfoldable pub second_root : Policy → Form → Bool
second_root d (purpose n p) = not (there p) && ltb 0 (length d.purposes)
second_root d (role n p) = false
second_root d (attr r a k) = false
second_root d (user u r gs) = false
second_root d (cond_role c r t) = false
second_root d (grant p c) = false
second_root d (label l ps qs) = false
second_root d (table t s cs) = false
second_root d (row t is) = false
second_root d (note t n) = false

-- the line is an attr line, and there are users already
unfoldable pub late_attr : Policy → Form → Bool
late_attr d (purpose n p) = false
late_attr d (role n p) = false
late_attr d (attr r a k) = ltb 0 (length d.users)
late_attr d (user u r gs) = false
late_attr d (cond_role c r t) = false
late_attr d (grant p c) = false
late_attr d (label l ps qs) = false
late_attr d (table t s cs) = false
late_attr d (row t is) = false
late_attr d (note t n) = false
