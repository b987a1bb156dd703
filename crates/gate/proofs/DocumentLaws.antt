-- What the checker hands back beside the outcome of the check: one refusal, one code, and a reserve. Assumes nothing.
use Prim.Native.Nat.{ℕ}
use mathlib.Core.List.{List}
use mathlib.Core.Path.{◌≡◌, ap, refl, subst, sym}
use Rattle.answer.proofs.ReserveLaw.{reserve_covers}
use Rattle.answer.specs.Reserve.{IsReserve, Taken, reserve_of}
use Rattle.answer.specs.Reserve as reserve
use Rattle.document.specs.Check.{Accepted, check}
use Rattle.gate.specs.Exports.{code_of}
use Rattle.gate.specs.Outcome.{Checks, checked_as}
use Rattle.gate.specs.Reserved.{ChecksDocument, HasReserve}
use Rattle.std.specs.Prelude.{Err, Ok}
use Rattle.text.proofs.RefusalLaws.{accepted_same, bind_accepted, not_refused}
use Rattle.text.specs.Refusal.{Refusal, Result, ◌>>=◌, accepted, refused}
use Rattle.std.specs.Prelude as prelude
use Rattle.text.specs.declared.refusals.Refusal as refusals

-- what an accepted document hands back
abbrev taken_of : Accepted → Taken
taken_of a = record { lines = a.lines; reserve = reserve_of a.doc }

-- ---- the check by its outcome, and what is handed back

pub checked_accepted : (doc : List ℕ) (a : Accepted) → check doc ≡ accepted a → accepted (taken_of a) ≡ reserve.checked doc
unfolding reserve.checked ◌>>=◌
checked_accepted doc a e = sym (ap (λ o. o >>= (λ a. accepted (taken_of a))) e)

pub checked_refused : (doc : List ℕ) (x : Refusal) → check doc ≡ refused x → refused x ≡ reserve.checked doc
unfolding reserve.checked ◌>>=◌
checked_refused doc x e = sym (ap (λ o. o >>= (λ a. accepted (taken_of a))) e)

-- the check accepts where something is handed back
pub accepted_checked : (doc : List ℕ) (t : Taken) → accepted t ≡ reserve.checked doc → (a : Accepted) × (check doc ≡ accepted a) × (taken_of a ≡ t)
unfolding reserve.checked
accepted_checked doc t e =
    let b = bind_accepted (check doc) (λ a. accepted (taken_of a)) t (sym e) in
    (b.0, b.1, accepted_same b.2)

-- the refusal of a result that is refused
abbrev refusal_in : {A : Type 0} → Refusal → Result A → Refusal
refusal_in d (refused r) = r
refusal_in d (accepted x) = d

-- and refuses where that is a refusal
pub refused_checked : (doc : List ℕ) (x : Refusal) → refused x ≡ reserve.checked doc → check doc ≡ refused x
unfolding reserve.checked ◌>>=◌
refused_checked doc x e = go (check doc) e
  where
    go : (o : Result Accepted) → refused x ≡ (o >>= (λ a. accepted (taken_of a))) → o ≡ refused x
    go (refused r) e = ap refused (sym (ap (refusal_in x) e))
    go (accepted a) e = not_refused e

-- both have one code
pub code_checked : (doc : List ℕ) → code_of (reserve.checked doc) ≡ code_of (check doc)
unfolding reserve.checked ◌>>=◌ code_of
code_checked doc = go (check doc)
  where
    go : (o : Result Accepted) → code_of (o >>= (λ a. accepted (taken_of a))) ≡ code_of o
    go (refused r) = refl
    go (accepted a) = refl

-- ---- what is handed back does as a reserve

has_reserve : (doc : List ℕ) (r : prelude.Result (ℕ × ℕ) refusals.Refusal) → checked_as r ≡ reserve.checked doc → HasReserve doc r
unfolding checked_as HasReserve
has_reserve doc (Ok (n, m)) e =
    let b = accepted_checked doc (record { lines = n; reserve = m }) e in
    subst (IsReserve doc) (ap (λ (t : Taken). t.reserve) b.2) (reserve_covers doc b.0 b.1)
has_reserve doc (Err x) e = tt

pub checks_document : (doc : List ℕ) (r : prelude.Result (ℕ × ℕ) refusals.Refusal) → Checks doc r → ChecksDocument doc r
checks_document doc r h = record { is = h; reserve = has_reserve doc r h.is }
