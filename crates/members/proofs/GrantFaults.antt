-- The faults of grant lines, by what the code learnt: one law for each answer. Assumes nothing.
use Prim.Native.Nat.{◌<◌, ◌≤◌, ℕ}
use borrow.Author.Tests.{le-leb, lt-leb}
use lib.ListN.{length}
use mathlib.Core.Bool.{false}
use mathlib.Core.List.{List}
use mathlib.Core.Option.{none}
use mathlib.Core.Path.{◌∙◌, ◌≡◌, refl}
use native.Mathlib.Omega.{arith}
use Rattle.document.specs.AmountFaults.{broken_range, no_such_date}
use Rattle.document.specs.Bounds.{late_attr, over_bound, second_root}
use Rattle.document.specs.Lookup.{cond_role_of, purpose_of}
use Rattle.document.specs.NameFaults.{taken, unknown}
use Rattle.document.specs.NoteFaults.{misplaced}
use Rattle.document.specs.Policy.{CondRole, Doc, Node, Policy}
use Rattle.document.specs.TypeFaults.{wrong_type}
use Rattle.document.specs.ValueFaults.{misfit}
use Rattle.stepping.proofs.FoundLaws.{found_absent, found_there}
use Rattle.stepping.proofs.Outcomes.{says_bound, says_fine, says_unknown}
use Rattle.stepping.specs.Judged.{Judges}
use Rattle.stepping.specs.declared.fault.Fault.TheVariants.{Item, Whole}
use Rattle.std.specs.Prelude.{None, Option, Some, Err, Ok, Result}
use Rattle.form.specs.Form.{grant}
use Rattle.principals.specs.CondRoles.{CondRoles}
use Rattle.workspace.specs.Found.{found_as}
use Rattle.principals.specs.Nodes.{Nodes}
use Rattle.lists.specs.Lists.{find_index}
use Rattle.purpose.specs.Members.{limit}
use Rattle.text.proofs.OffendingLaws.{leftmost_fail, leftmost_on, unless_false, unless_true}
use Rattle.text.specs.Words.{is_called, word_of}
use Rattle.text.specs.declared.refusals.Reason.TheVariants.{NameUnknown, OverBound}
use Rattle.stepping.specs.declared.fault.Fault.{Fault}

module _ (text ws : List ℕ) (m : ℕ) (conds : List ℕ) (cn k : ℕ) (line : List ℕ) (p c : ℕ) where
  abbrev Held : Doc → Type 0
  Held d = Nodes limit text ws m d.policy.purposes × CondRoles d.policy text conds cn d.policy.cond_roles × (k ≡ length d.policy.grants)

  abbrev Placed' : Type 0
  Placed' = (p ≤ length line) × (c ≤ length line)

  abbrev Says : Result (Unit {0}) Fault → Type 0
  Says f = Judges Held Placed' line (grant (word_of line p) (word_of line c)) k 128 f

  pub grant_full : 128 ≤ k → Says (Err (Whole OverBound))
  unfolding over_bound
  grant_full l =
      says_bound Held Placed' line (grant (word_of line p) (word_of line c)) k 128
      (λ d h. le-leb 128 (length d.policy.grants) (omega (arith, h.2, l)))

  module _ (l : k < 128) (x : Option ℕ) (is : (ns : List Node) → Nodes limit text ws m ns → found_as x ≡ find_index (λ y. is_called (word_of line p) y.name) ns) where
    roomy : (d : Doc) → Held d → over_bound d (grant (word_of line p) (word_of line c)) ≡ false
    unfolding over_bound
    roomy d h = lt-leb 128 (length d.policy.grants) (omega (arith, h.2, l))

    untaken : (d : Doc) → Held d → taken d.policy (grant (word_of line p) (word_of line c)) ≡ none
    unfolding taken
    untaken d h = refl

    pub grant_purpose : x ≡ None → Says (Err (Item NameUnknown p))
    unfolding unknown purpose_of cond_role_of
    grant_purpose e =
        says_unknown Held Placed' line (grant (word_of line p) (word_of line c)) k 128 roomy untaken p (λ q. q.0)
        (λ d h. leftmost_fail _ (word_of line p) _ (found_absent x _ (is d.policy.purposes h.0) e))

    module _ (n : ℕ) (e : x ≡ Some n)
        (y : Option ℕ) (is' : (d : Policy) (cs : List CondRole) → CondRoles d text conds cn cs → found_as y ≡ find_index (λ z. is_called (word_of line c) z.name) cs) where
      pub grant_cond : y ≡ None → Says (Err (Item NameUnknown c))
      unfolding unknown purpose_of cond_role_of
      grant_cond e' =
          says_unknown Held Placed' line (grant (word_of line p) (word_of line c)) k 128 roomy untaken c (λ q. q.1)
          (λ d h. leftmost_on _ (word_of line p) _ (found_there x _ (is d.policy.purposes h.0) n e) ∙ unless_false _ (word_of line c) (found_absent y _ (is' d.policy d.policy.cond_roles h.1) e'))

      pub grant_fine : (j : ℕ) → y ≡ Some j → Says (Ok tt)
      unfolding unknown purpose_of cond_role_of late_attr misplaced second_root misfit wrong_type broken_range no_such_date
      grant_fine j e' =
          says_fine Held Placed' line (grant (word_of line p) (word_of line c)) k 128 roomy untaken
          (λ d h. leftmost_on _ (word_of line p) _ (found_there x _ (is d.policy.purposes h.0) n e) ∙ unless_true _ (word_of line c) (found_there y _ (is' d.policy d.policy.cond_roles h.1) j e'))
          (λ d h. refl) (λ d h. refl) (λ d h. refl) (λ d h. refl) (λ d h. refl) l (λ d h. refl) (λ d h. refl)
