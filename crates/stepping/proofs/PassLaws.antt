-- What the check of a form that finds nothing wrong went through: there is room, every name is known, and the values fit. Assumes
-- nothing.
use mathlib.Core.Bool.{false}
use mathlib.Core.List.{List}
use mathlib.Core.Option.{none}
use mathlib.Core.Path.{◌≡◌}
use Prim.Native.Nat.{ℕ}
use Rattle.document.specs.Bounds.{over_bound}
use Rattle.document.specs.Check.{check_form}
use Rattle.document.specs.NameFaults.{unknown}
use Rattle.document.specs.Policy.{Doc}
use Rattle.document.specs.ValueFaults.{misfit}
use Rattle.form.specs.Form.{Form}
use Rattle.stepping.specs.Stored.{Passes}
use Rattle.text.proofs.RefusalLaws.{refuse_at_accepted, refuse_if_accepted, then_accepted}
use Rattle.text.specs.Refusal.{document}

pub record Passed (d : Doc) (f : Form) : Type 0 where
  pub room : over_bound d f ≡ false
  pub knows : unknown d.policy f ≡ none
  pub fits : misfit d.policy f ≡ false

pub passed : (d : Doc) (line : List ℕ) (f : Form) → Passes d line f → Passed d f
unfolding check_form
passed d line f h =
    let h3 = then_accepted _ _ _ h in
    let h4 = then_accepted _ _ _ h3.2 in
    let h5 = then_accepted _ _ _ h4.2 in
    let h6 = then_accepted _ _ _ h5.2 in
    let h7 = then_accepted _ _ _ h6.2 in
    record {
      room = refuse_if_accepted _ _ h3.1;
      knows = refuse_at_accepted 5 document _ h5.1;
      fits = refuse_if_accepted _ _ h7.1;
    }
