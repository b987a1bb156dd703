-- Meaning: labels that come down (02, Q-11; source document 000, sections 5.2 and 6.1, figure 4), on sets of purposes. A cell of a nest
-- table goes by the strong label of its table, and by the weak labels of its table, its row and itself, merged from the top down. Assumes nothing.
use Rattle.std.specs.Prelude.{ℕ, length, Bool, cond, false, not, true, List, [], ◌++◌}
use Rattle.lists.specs.Lists.{any_of, keep, member}
use Rattle.purpose.specs.Compliance.{Marks, descends, related}
use Rattle.purpose.specs.Members.{passing}

-- the purposes of the tree that descend from one of these, themselves among them (000: the arrow down)
unfoldable pub closed_down : List ℕ → List ℕ → List ℕ
closed_down tree ps = passing (λ p. any_of (descends tree p) ps) (length tree)

-- the purposes of the tree that are ancestors or descendants of one of these, themselves among them (02, Q-11: "closed both ways")
unfoldable pub closed_both_ways : List ℕ → List ℕ → List ℕ
closed_both_ways tree ps = passing (λ p. any_of (related tree p) ps) (length tree)

-- the sets of a label, closed before any merging: the allowed set downwards, the denied set both ways (02, Q-11)
unfoldable pub closed_sets : List ℕ → Marks → Marks
closed_sets tree l = record { allowed = closed_down tree l.allowed; denied = closed_both_ways tree l.denied }

-- the first set without the second
unfoldable pub without : List ℕ → List ℕ → List ℕ
without xs ys = keep (λ x. not (member x ys)) xs

-- the lower closed sets merged over the upper: allowed sets unite, and the lower allowed set is taken from the upper denied set before
-- the lower denied set is added (02, Q-11; 000, figure 4, lines 9 and 10)
unfoldable pub merged_over : Marks → Marks → Marks
merged_over upper lower = record { allowed = upper.allowed ++ lower.allowed; denied = without upper.denied lower.allowed ++ lower.denied }

-- the weak sets of a cell: those of the table, the row and the cell, each closed once, merged from the top down (02, Q-11)
unfoldable pub weak_sets : List ℕ → (table row cell : Marks) → Marks
weak_sets tree table row cell = merged_over (merged_over (closed_sets tree table) (closed_sets tree row)) (closed_sets tree cell)

-- p is closed if strongly denied; else open if strongly allowed; else closed if weakly denied; else open exactly if weakly allowed (02, Q-11)
unfoldable pub open_in_sets : (strong weak : Marks) → ℕ → Bool
open_in_sets strong weak p =
    cond (member p strong.denied) false
    (cond (member p strong.allowed) true
    (cond (member p weak.denied) false
    (member p weak.allowed)))

-- a cell of a nest table is open to p: by the strong label of its table, and the weak ones of its table, its row and itself (02, Q-11)
unfoldable pub nest_opens : List ℕ → (strong table row cell : Marks) → ℕ → Bool
nest_opens tree strong table row cell p = open_in_sets (closed_sets tree strong) (weak_sets tree table row cell) p

-- the sets where no label is given: both are empty (02, Q-11)
unfoldable pub unmarked : Marks
unmarked = record { allowed = []; denied = [] }
