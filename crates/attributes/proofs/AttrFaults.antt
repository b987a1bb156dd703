-- The faults of attr lines, by what the code learnt: one law for each answer. Assumes nothing.
use Prim.Native.Nat.{◌<◌, ◌≤◌, ℕ}
use borrow.Author.Tests.{le-leb, le-ltb, lt-leb, lt-ltb}
use lib.ListN.{length}
use mathlib.Core.Bool.{false}
use mathlib.Core.List.{List}
use mathlib.Core.Option.{none}
use mathlib.Core.Path.{◌≡◌, ap, refl}
use native.Mathlib.Omega.{arith}
use Rattle.condition.specs.Kinds.{Kind}
use Rattle.document.specs.AmountFaults.{broken_range, no_such_date}
use Rattle.document.specs.Bounds.{late_attr, over_bound, second_root}
use Rattle.document.specs.Lookup.{attribute_of, role_of}
use Rattle.document.specs.NameFaults.{taken, unknown}
use Rattle.document.specs.NoteFaults.{misplaced}
use Rattle.document.specs.Policy.{Attribute, Doc, Node}
use Rattle.document.specs.TypeFaults.{wrong_type}
use Rattle.document.specs.ValueFaults.{misfit}
use Rattle.stepping.proofs.FoundLaws.{found_absent, found_there}
use Rattle.stepping.proofs.Outcomes.{says_bound, says_fine, says_late, says_taken, says_unknown}
use Rattle.stepping.specs.Judged.{Judges}
use Rattle.stepping.specs.declared.fault.Fault.TheVariants.{Item, Whole}
use Rattle.std.specs.Prelude.{None, Option, Some, Err, Ok, Result}
use Rattle.form.specs.Form.{attr}
use Rattle.principals.proofs.IndexLaws.{attributes_length}
use Rattle.principals.specs.Attributes.{Attributes}
use Rattle.workspace.specs.Found.{found_as}
use Rattle.principals.specs.Nodes.{Nodes}
use Rattle.lists.specs.Lists.{find_index}
use Rattle.text.specs.Offending.{offending_if, unless}
use Rattle.text.specs.Words.{is_called, word_of}
use Rattle.text.specs.declared.refusals.Reason.TheVariants.{LateAttribute, NameTaken, NameUnknown, OverBound}
use Rattle.stepping.specs.declared.fault.Fault.{Fault}

module _ (text roles : List ℕ) (m : ℕ) (ws : List ℕ) (k users : ℕ) (line : List ℕ) (r a : ℕ) (t : Kind) where
  abbrev Held : Doc → Type 0
  Held d = Nodes 64 text roles m d.policy.roles × Attributes text ws k d.policy.attributes × (users ≡ length d.policy.users)

  abbrev Placed' : Type 0
  Placed' = (r ≤ length line) × (a ≤ length line)

  abbrev Says : Result (Unit {0}) Fault → Type 0
  Says f = Judges Held Placed' line (attr (word_of line r) (word_of line a) t) k 32 f

  pub attr_full : 32 ≤ k → Says (Err (Whole OverBound))
  unfolding over_bound
  attr_full l =
      says_bound Held Placed' line (attr (word_of line r) (word_of line a) t) k 32
      (λ d h. le-leb 35 (length d.policy.attributes) (omega (arith, attributes_length h.1, l)))

  module _ (l : k < 32) (x : Option ℕ) (is : (as' : List Attribute) → Attributes text ws k as' → found_as x ≡ find_index (λ y. is_called (word_of line a) y.name) as') where
    roomy : (d : Doc) → Held d → over_bound d (attr (word_of line r) (word_of line a) t) ≡ false
    unfolding over_bound
    roomy d h = lt-leb 35 (length d.policy.attributes) (omega (arith, attributes_length h.1, l))

    pub attr_taken : (n : ℕ) → x ≡ Some n → Says (Err (Item NameTaken a))
    unfolding taken attribute_of offending_if
    attr_taken n e =
        says_taken Held Placed' line (attr (word_of line r) (word_of line a) t) k 32 roomy a (λ q. q.1)
        (λ d h. ap (λ b. offending_if b (word_of line a)) (found_there x _ (is d.policy.attributes h.1) n e))

    module _ (e : x ≡ None) (y : Option ℕ) (is' : (ns : List Node) → Nodes 64 text roles m ns → found_as y ≡ find_index (λ z. is_called (word_of line r) z.name) ns) where
      fresh : (d : Doc) → Held d → taken d.policy (attr (word_of line r) (word_of line a) t) ≡ none
      unfolding taken attribute_of offending_if
      fresh d h = ap (λ b. offending_if b (word_of line a)) (found_absent x _ (is d.policy.attributes h.1) e)

      pub attr_unknown : y ≡ None → Says (Err (Item NameUnknown r))
      unfolding unknown role_of unless
      attr_unknown e' =
          says_unknown Held Placed' line (attr (word_of line r) (word_of line a) t) k 32 roomy fresh r (λ q. q.0)
          (λ d h. ap (λ b. unless b (word_of line r)) (found_absent y _ (is' d.policy.roles h.0) e'))

      module _ (n : ℕ) (e' : y ≡ Some n) where
        role_known : (d : Doc) → Held d → unknown d.policy (attr (word_of line r) (word_of line a) t) ≡ none
        unfolding unknown role_of unless
        role_known d h = ap (λ b. unless b (word_of line r)) (found_there y _ (is' d.policy.roles h.0) n e')

        pub attr_late : 0 < users → Says (Err (Whole LateAttribute))
        unfolding late_attr second_root misfit wrong_type broken_range no_such_date
        attr_late u =
            says_late Held Placed' line (attr (word_of line r) (word_of line a) t) k 32 roomy fresh role_known (λ d h. refl) (λ d h. refl) (λ d h. refl) (λ d h. refl) (λ d h. refl)
            (λ d h. lt-ltb 0 (length d.policy.users) (omega (arith, h.2, u)))

        pub attr_fine : users ≤ 0 → Says (Ok tt)
        unfolding late_attr misplaced second_root misfit wrong_type broken_range no_such_date
        attr_fine u =
            says_fine Held Placed' line (attr (word_of line r) (word_of line a) t) k 32 roomy fresh role_known (λ d h. refl) (λ d h. refl) (λ d h. refl) (λ d h. refl) (λ d h. refl) l
            (λ d h. le-ltb 0 (length d.policy.users) (omega (arith, h.2, u)))
            (λ d h. refl)
