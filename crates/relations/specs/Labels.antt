-- Contract: how the workspace holds labels: names from 0; in an array of words the allowed sets from 0 and the denied ones behind
-- 64 of them. How a label's line wrote the purposes that it denies is not held: it is read from the line again.
use Rattle.std.specs.Prelude.{◌*◌, ◌+◌, ◌-◌, ◌<◌, ◌≤◌, ℕ, ltb, drop, get_or, take, Bool, ◌&&◌, cond, false, not, List, map, ◌≡◌}
use Rattle.std.proofs.Math.ListN.{get_elem?}
use Rattle.std.proofs.Math.Option.{Option, none, some}
use Rattle.condition.specs.Kinds.{numbers}
use Rattle.document.specs.Open.{marks_at}
use Rattle.document.specs.Policy.{Label, Policy, tree_of}
use Rattle.form.specs.Walks.{deny_place, names_at}
use Rattle.workspace.specs.Tabulated.{tabulated}
use Rattle.lists.specs.Lists.{member, there}
use Rattle.purpose.specs.Members.{members, words}
use Rattle.purpose.specs.Verdicts.{silent, verdict}
use Rattle.purpose.specs.declared.Verdict.{Verdict}
use Rattle.text.specs.Names.{Name}
use Rattle.text.specs.Words.{word_at}

-- the words of set i
unfoldable pub set_in : List ℕ → ℕ → List ℕ
set_in sets i = take words (drop (words * i) sets)

-- s was stored as set i, and no other set changed
pub record SetStored (was sets : List ℕ) (i : ℕ) (s : List ℕ) : Type 0 where
  pub here : i < 128 → set_in sets i ≡ s
  pub others : (j : ℕ) → (j ≡ i → ⊥) → set_in sets j ≡ set_in was j

-- the words hold the numbers of the list
pub record SetHolds (ws xs : List ℕ) : Type 0 where
  pub same : (i : ℕ) → member i (members ws) ≡ member i xs

-- the purposes that a label denies, as its line wrote them: read from the text again, its name standing at a position (02, Q-7)
unfoldable pub denied_at : List ℕ → ℕ → List Name
denied_at text pos = map (λ w. w.bytes) (names_at text (deny_place text pos))

-- the label whose name stands at a position of the text, with these allowed and denied purposes
abbrev pub label_at : (text : List ℕ) (pos : ℕ) (xs ys : List ℕ) → Label
label_at text pos xs ys = record { name = word_at text pos; marks = record { allowed = xs; denied = ys }; denied_names = denied_at text pos }

pub record Labels (text ws sets : List ℕ) (k : ℕ) (ls : List Label) : Type 0 where
  pub few : k ≤ 64
  pub named : tabulated (λ i. word_at text (get_or ws i 0)) k ≡ map (λ l. l.name) ls
  pub allowed : (i : ℕ) (l : Label) → get_elem? ls i ≡ some l → SetHolds (set_in sets i) l.marks.allowed
  pub denied : (i : ℕ) (l : Label) → get_elem? ls i ≡ some l → SetHolds (set_in sets (64 + i)) l.marks.denied
  pub written : (i : ℕ) (l : Label) → get_elem? ls i ≡ some l → l.denied_names ≡ denied_at text (get_or ws i 0)

-- what the truths say of label l: whether it allows from 0 on, whether it denies from 64 on; one that has no place says nothing
unfoldable pub verdict_in : List Bool → ℕ → Verdict
verdict_in truths l = cond (ltb l 64) (record { allowed = get_or truths l false; denied = get_or truths (64 + l) false }) silent

-- the same of a label that may be none
unfoldable pub verdict_for : List Bool → Option ℕ → Verdict
verdict_for truths none = silent
verdict_for truths (some l) = verdict_in truths l

-- label l is open, by what the truths say: it allows, and does not deny
unfoldable pub opened_in : List Bool → ℕ → Bool
opened_in truths l = (verdict_in truths l).allowed && not (verdict_in truths l).denied

-- the truths say of each label its verdict on the purpose p; a label that is not there says nothing
pub record Said (d : Policy) (p : ℕ) (truths : List Bool) : Type 0 where
  pub is : (l : ℕ) → verdict_in truths l ≡ verdict (tree_of d.purposes) (marks_at d (some l)) p
