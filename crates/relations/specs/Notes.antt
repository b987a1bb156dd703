-- Contract: how the workspace holds what later lines say of tables (02, Q-2, Q-11): in the tables' array, behind the columns, from 416
-- on: 1 for a table that is declared public; from 424 on its weak label, from 432 on its strong one.
use Rattle.std.specs.Prelude.{◌*◌, ◌+◌, ◌<◌, suc, zero, ℕ, eqb, ltb, get_or, Bool, true, List, ◌≡◌}
use Rattle.std.proofs.Math.Option.{Option, none, some}
use Rattle.document.specs.Lookup.{given_by, is_public, notes_of, strong_in, weak_in}
use Rattle.document.specs.Policy.{Noted}
use Rattle.form.specs.Form.{Note}
use Rattle.lists.specs.Lists.{all_of, any_of}

-- the number that stands for what notes of the kind b say of table t: 0 public, 1 weak, 2 strong
abbrev pub note_in : List ℕ → ℕ → ℕ → ℕ
note_in ws b t = get_or ws (416 + 8 * b + t) 0

-- table t is declared public
abbrev pub public_in : List ℕ → ℕ → Bool
public_in ws t = eqb (note_in ws 0 t) 1

-- the label that a number stands for: 0 for none, and else one more than the label's
unfoldable pub label_of_cell : ℕ → Option ℕ
label_of_cell zero = none
label_of_cell (suc l) = some l

-- the array says of table t what the notes of it say
pub record Says (ws : List ℕ) (t : ℕ) (notes : List (Note ℕ)) : Type 0 where
  pub is_public? : public_in ws t ≡ any_of is_public notes
  pub weak : label_of_cell (note_in ws 1 t) ≡ given_by weak_in notes
  pub strong : label_of_cell (note_in ws 2 t) ≡ given_by strong_in notes

-- the notes ns are of k tables, and the array says of each table what they say
pub record Notes (ws : List ℕ) (k : ℕ) (ns : List Noted) : Type 0 where
  pub known : all_of (λ n. ltb n.table k) ns ≡ true
  pub said : (t : ℕ) → t < k → Says ws t (notes_of ns t)
