-- Contract: what labels say of one purpose, two facts each; code merges these and no sets. That they say what the sets of `Nest` say is
-- proved: proofs/Nesting `nest_pointwise`. Assumes nothing.
use Rattle.std.specs.Prelude.{ℕ, Bool, ◌&&◌, ◌||◌, cond, false, not, true, List, [], ◌∷◌}
use Rattle.lists.specs.Lists.{any_of}
use Rattle.purpose.specs.Compliance.{Marks, descends, in_tree, intersects, related}
use Rattle.purpose.specs.Members.{members}
use Rattle.purpose.specs.declared.Closure.{Closure}
use Rattle.purpose.specs.declared.Label.{Label}
use Rattle.purpose.specs.declared.Verdict.{Verdict}

-- a label's verdict on p: p descends from an allowed purpose; p is ancestor or descendant of a denied one
unfoldable pub verdict : List ℕ → Marks → ℕ → Verdict
verdict tree l p = record { allowed = in_tree tree p && any_of (descends tree p) l.allowed; denied = in_tree tree p && any_of (related tree p) l.denied }

-- the verdict by a closure: the ancestors meet the allowed purposes, the relatives the denied ones
unfoldable pub verdict_by : Closure → Label → Verdict
verdict_by c l = record { allowed = intersects (members c.ancestors) (members l.allowed); denied = intersects (members c.relatives) (members l.denied) }

-- what no label says
unfoldable pub silent : Verdict
silent = record { allowed = false; denied = false }

-- the lower verdict merged over the upper, as `merged_over` merges sets
unfoldable pub over : Verdict → Verdict → Verdict
over upper lower = record { allowed = upper.allowed || lower.allowed; denied = (upper.denied && not lower.allowed) || lower.denied }

-- open by the strong verdict and the weak one, as `open_in_sets` says it of sets
unfoldable pub open_by : (strong weak : Verdict) → Bool
open_by strong weak = cond strong.denied false (cond strong.allowed true (cond weak.denied false weak.allowed))

-- open by the first of these verdicts that says anything, denied going before allowed; closed where none does
unfoldable pub first_said : List Verdict → Bool
first_said [] = false
first_said (v ∷ vs) = cond v.denied false (cond v.allowed true (first_said vs))
