-- The check of a user line, by the first of its faults. Assumes nothing.
use Prim.Native.Nat.{◌<◌, ◌≤◌, ℕ}
use borrow.Author.Tests.{le-leb, lt-leb}
use lib.Dec.{eqb}
use lib.ListN.{length}
use mathlib.Core.Bool.{◌&&◌, false, not, true}
use mathlib.Core.List.{List, [], ◌∷◌, map}
use mathlib.Core.Option.{Option, none, some}
use mathlib.Core.Path.{◌∙◌, ◌≡◌, ap, refl, sym}
use Rattle.document.specs.AmountFaults.{broken_range, no_such_date}
use Rattle.document.specs.Bounds.{late_attr, over_bound, second_root}
use Rattle.document.specs.Check.{check_form}
use Rattle.document.specs.Lookup.{attribute_of, role_of}
use Rattle.document.specs.Meaning.{add}
use Rattle.document.specs.NameFaults.{taken, unknown}
use Rattle.document.specs.NoteFaults.{misplaced}
use Rattle.document.specs.Policy.{Doc, Policy, User}
use Rattle.document.specs.TypeFaults.{wrong_type}
use Rattle.document.specs.ValueFaults.{gives_all, misfit}
use Rattle.members.proofs.GivenLaws.{mistyped_given}
use Rattle.stepping.proofs.Judging.{judge_bound, judge_fine, judge_taken, judge_type, judge_unknown, judge_values}
use Rattle.form.specs.Form.{GivenForm, user}
use Rattle.workspace.proofs.TabulatedLaws.{length_tabulated}
use Rattle.principals.proofs.UserLaws.{user_of_known, user_of_unknown}
use Rattle.principals.specs.Users.{Users, user_in}
use Rattle.lists.specs.Lists.{find_index, or_zero, there}
use Rattle.text.specs.Offending.{leftmost, missing, offending_if, unless}
use Rattle.text.specs.Refusal.{accepted, document, pointing, pointing_all, refused}
use Rattle.text.specs.Words.{Word, is_called}

-- as many users as the workspace says
pub users_length : {p : Policy} {text ws : List ℕ} {k : ℕ} {us : List User} → Users p text ws k us → length us ≡ k
users_length {p} {text} {ws} {k} {us} h = ap length (sym h.are) ∙ length_tabulated (user_in p text ws) k

module _ (d : Doc) (line : List ℕ) (u r : Word) (gs : List GivenForm) where
  -- as many users as there may be
  pub user_over : 256 ≤ length d.policy.users → check_form d line (user u r gs) ≡ refused (pointing_all 3 document line)
  unfolding over_bound
  user_over h = judge_bound d line (user u r gs) (le-leb 256 _ h)

  module _ (room : length d.policy.users < 256) where
    few : over_bound d (user u r gs) ≡ false
    unfolding over_bound
    few = lt-leb 256 _ room

    -- the role is unknown
    pub user_no_role : role_of d.policy r ≡ none → check_form d line (user u r gs) ≡ refused (pointing 5 document r)
    unfolding taken unknown offending_if unless leftmost there
    user_no_role e =
        judge_unknown d line (user u r gs) few
        (ap (λ o. offending_if (there o) r) (user_of_unknown d.policy u r e))
        r
        (ap (λ o. leftmost (unless (there o) r ∷ missing (λ w. there (attribute_of d.policy w)) (map (λ (g : GivenForm). g.attribute) gs) ∷ [])) e)

    module _ (n : ℕ) (e : role_of d.policy r ≡ some n) where
      -- the user has the role
      pub user_twice : there (find_index (λ x. is_called u x.name && eqb x.role n) d.policy.users) ≡ true → check_form d line (user u r gs) ≡ refused (pointing 4 document r)
      unfolding taken offending_if
      user_twice h =
          judge_taken d line (user u r gs) few r (ap (λ b. offending_if b r) (ap there (user_of_known d.policy u r n e) ∙ h))

      module _ (once : there (find_index (λ x. is_called u x.name && eqb x.role n) d.policy.users) ≡ false) where
        free : taken d.policy (user u r gs) ≡ none
        unfolding taken offending_if
        free = ap (λ b. offending_if b r) (ap there (user_of_known d.policy u r n e) ∙ once)

        -- what is unknown is an attribute
        unknown_given : (o : Option Word) → missing (λ w. there (attribute_of d.policy w)) (map (λ (g : GivenForm). g.attribute) gs) ≡ o → unknown d.policy (user u r gs) ≡ leftmost (o ∷ [])
        unfolding unknown unless leftmost there
        unknown_given o h =
            ap (λ p. leftmost (unless (there p) r ∷ missing (λ w. there (attribute_of d.policy w)) (map (λ (g : GivenForm). g.attribute) gs) ∷ [])) e
            ∙ ap (λ p. leftmost (p ∷ [])) h

        -- an attribute is unknown
        pub user_attribute : (w : Word) → missing (λ w. there (attribute_of d.policy w)) (map (λ (g : GivenForm). g.attribute) gs) ≡ some w → check_form d line (user u r gs) ≡ refused (pointing 5 document w)
        unfolding leftmost
        user_attribute w h = judge_unknown d line (user u r gs) few free w (unknown_given (some w) h)

        module _ (named : missing (λ w. there (attribute_of d.policy w)) (map (λ (g : GivenForm). g.attribute) gs) ≡ none) where
          all_known_lem : unknown d.policy (user u r gs) ≡ none
          unfolding leftmost
          all_known_lem = unknown_given none named

          fits : misfit d.policy (user u r gs) ≡ not (gives_all d.policy n (map (λ (g : GivenForm). g.attribute) gs))
          unfolding misfit or_zero
          fits = ap (λ o. not (gives_all d.policy (or_zero o) (map (λ (g : GivenForm). g.attribute) gs))) e

          no_root : second_root d.policy (user u r gs) ≡ false
          unfolding second_root
          no_root = refl

          -- the values are not those of the role's attributes
          pub user_values : gives_all d.policy n (map (λ (g : GivenForm). g.attribute) gs) ≡ false → check_form d line (user u r gs) ≡ refused (pointing_all 7 document line)
          user_values h = judge_values d line (user u r gs) few free all_known_lem no_root (fits ∙ ap not h)

          module _ (full : gives_all d.policy n (map (λ (g : GivenForm). g.attribute) gs) ≡ true) where
            -- a value is of a wrong type
            pub user_type : (w : Word) → leftmost (map (mistyped_given d.policy) gs) ≡ some w → check_form d line (user u r gs) ≡ refused (pointing 8 document w)
            unfolding wrong_type
            user_type w h = judge_type d line (user u r gs) few free all_known_lem no_root (fits ∙ ap not full) w h

            -- nothing is wrong
            pub user_fine : leftmost (map (mistyped_given d.policy) gs) ≡ none → check_form d line (user u r gs) ≡ accepted (add d (user u r gs))
            unfolding wrong_type broken_range no_such_date late_attr misplaced
            user_fine h = judge_fine d line (user u r gs) few free all_known_lem no_root (fits ∙ ap not full) h refl refl refl refl
