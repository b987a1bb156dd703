-- Contract: what functions of this crate promise, where it takes more than a line.
use Rattle.std.specs.Prelude.{ℕ, List}
use Rattle.document.specs.Check.{check_line}
use Rattle.document.specs.Invariants.{UniqueNames}
use Rattle.document.specs.Policy.{Doc}
use Rattle.index.specs.Workspace.{Indexed}
use Rattle.stepping.specs.Follows.{Follows}
use Rattle.stepping.specs.Stored.{LineAt}
use Rattle.index.specs.declared.counts.Counts.{Counts}
use Rattle.std.specs.Prelude.{Result}
use Rattle.stepping.specs.declared.fault.Fault.{Fault}

-- steps::step_form: the line that stands at a position of the text, by its form
abbrev pub StepFormPromise : (text : List ℕ) (at : ℕ) (line purposes purposes' roles roles' attributes attributes' users users' conds conds' grants grants' labels labels' sets sets' tables tables' rows rows' : List ℕ) (c : Counts) (s : Result Counts Fault) → Type 0
StepFormPromise text at line purposes purposes' roles roles' attributes attributes' users users' conds conds' grants grants' labels labels' sets sets' tables tables' rows rows' c s =
    (d : Doc) → LineAt text at line → Indexed text purposes roles attributes users conds grants labels sets tables rows c d → UniqueNames d.policy →
    Follows (Indexed text purposes' roles' attributes' users' conds' grants' labels' sets' tables' rows') line (check_line d line) s

-- steps::step_other: the line that is no row as one walk takes it: a purpose below another, which one walk takes too, or any form
abbrev pub StepOtherPromise : (text : List ℕ) (at : ℕ) (line purposes purposes' roles roles' attributes attributes' users users' conds conds' grants grants' labels labels' sets sets' tables tables' rows rows' : List ℕ) (c : Counts) (s : Result Counts Fault) → Type 0
StepOtherPromise text at line purposes purposes' roles roles' attributes attributes' users users' conds conds' grants grants' labels labels' sets sets' tables tables' rows rows' c s =
    (d : Doc) → LineAt text at line → Indexed text purposes roles attributes users conds grants labels sets tables rows c d → UniqueNames d.policy →
    Follows (Indexed text purposes' roles' attributes' users' conds' grants' labels' sets' tables' rows') line (check_line d line) s

-- steps::step_line: the line that stands at a position of the text: most are rows without a fault, which one walk takes
abbrev pub StepLinePromise : (text : List ℕ) (at : ℕ) (line purposes purposes' roles roles' attributes attributes' users users' conds conds' grants grants' labels labels' sets sets' tables tables' rows rows' : List ℕ) (c : Counts) (s : Result Counts Fault) → Type 0
StepLinePromise text at line purposes purposes' roles roles' attributes attributes' users users' conds conds' grants grants' labels labels' sets sets' tables tables' rows rows' c s =
    (d : Doc) → LineAt text at line → Indexed text purposes roles attributes users conds grants labels sets tables rows c d → UniqueNames d.policy →
    Follows (Indexed text purposes' roles' attributes' users' conds' grants' labels' sets' tables' rows') line (check_line d line) s
