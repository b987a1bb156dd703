-- `condition::conditions::read_places` meets its contract. Assumes nothing.
use mathlib.Core.Path.{◌∙◌, ◌≡◌, ap, sym}
use Prim.Native.Nat.{ℕ}
use lib.ListN.{take}
use Rattle.condition.proofs.ReadLaws.{condition_by_lem, depth_is, none_by, places_here}
use Rattle.condition.specs.Answers.{condition_by, naming_by, read_to}
use Rattle.condition.specs.Cond.{comparisons}
use Rattle.text.specs.Reader.{from}
use Rattle.std.specs.Prelude.{None, Some}
use Rattle.condition.proofs.conditions.read_places.Goals as goal

pub returns : goal.returns
returns c = let entry = c.args in
    let s = entry.s.now in
    let at = entry.at in
    let way = naming_by entry.joined in
    let e = c.in_ok-e.e in
    let n = c.in_ok-e.n in
    let h : read_to (condition_by way (from s at)) ≡ Some (e, n) = ap read_to (sym (depth_is way (from s at))) ∙ sym c.count_condition.ensures ∙ c.in_ok-e.was in
    let r = condition_by_lem way s at e n h in
    let p = c.store_places.ensures way r.what r.is in
    record { reads = sym h; places = places_here way s at r.what (from s e) r.is _ (p ∙ ap (λ (k : ℕ). take k (comparisons r.what)) c.told-ops) }

pub returns-in_err-e : goal.returns-in_err-e
returns-in_err-e c = let entry = c.args in
    let s = entry.s.now in
    let at = entry.at in
    let way = naming_by entry.joined in
    let h : read_to (condition_by way (from s at)) ≡ None = ap read_to (sym (depth_is way (from s at))) ∙ sym c.count_condition.ensures ∙ c.in_err-e.was in
    record { reads = c.from_residual.ensures ∙ sym h; places = rw (none_by way s at h) }
