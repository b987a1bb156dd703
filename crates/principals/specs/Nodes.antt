-- Contract: how the workspace holds purposes and roles: names from 0, parents from `room`, the names' hashes from twice `room`;
-- behind them a slot for each hash, with the number of the first name that has it. A slot of a hash that no name has
-- may hold anything.
use Rattle.std.specs.Prelude.{◌*◌, ◌+◌, ◌-◌, ◌<◌, ◌≤◌, ℕ, eqb, ltb, get_or, length, ◌&&◌, cond, List, ◌≡◌}
use Rattle.std.proofs.Math.Option.{none}
use Rattle.condition.specs.Kinds.{names}
use Rattle.document.specs.Policy.{Node}
use Rattle.workspace.specs.Hash.{hash_of}
use Rattle.workspace.specs.Tabulated.{tabulated}
use Rattle.lists.specs.Lists.{find_index}
use Rattle.text.specs.Words.{is_called, word_at, word_of}
use Rattle.principals.specs.declared.names.Sought.{Sought}
use Rattle.workspace.specs.Found.{found_as, FoundBelow}

unfoldable pub node_in : ℕ → List ℕ → List ℕ → ℕ → Node
node_in room text ws i = record { name = word_at text (get_or ws i 0); parent = get_or ws (room + i) 0 }

-- the hash of name i
abbrev pub hash_in : ℕ → List ℕ → ℕ → ℕ
hash_in room ws i = get_or ws (2 * room + i) 0

-- what stands in the slot of a hash
abbrev pub slot_in : ℕ → List ℕ → ℕ → ℕ
slot_in room ws h = get_or ws (3 * room + h) 0

-- the first of k names that has the hash h, by its slot; k where none has it
unfoldable pub first_hashed : ℕ → List ℕ → ℕ → ℕ → ℕ
first_hashed room ws k h = cond (ltb (slot_in room ws h) k && eqb (hash_in room ws (slot_in room ws h)) h) (slot_in room ws h) k

pub record Nodes (room : ℕ) (text ws : List ℕ) (k : ℕ) (ns : List Node) : Type 0 where
  pub few : k ≤ room
  pub are : tabulated (node_in room text ws) k ≡ ns
  pub hashed : (i : ℕ) → i < k → hash_in room ws i ≡ hash_of (word_at text (get_or ws i 0))
  pub first : (i : ℕ) → i < k → first_hashed room ws k (hash_in room ws i) ≤ i

-- what looking the name at i of a line up gives: where the word ends and its hash, and its number among the k names
pub record Seeks (room : ℕ) (text ws : List ℕ) (k : ℕ) (line : List ℕ) (i : ℕ) (r : Sought) : Type 0 where
  pub ends : r.end ≡ i + length (word_at line i)
  pub hash : r.hash ≡ hash_of (word_at line i)
  pub is : (ns : List Node) → Nodes room text ws k ns → found_as r.found ≡ find_index (λ x. is_called (word_of line i) x.name) ns
  pub below : FoundBelow r.found k
