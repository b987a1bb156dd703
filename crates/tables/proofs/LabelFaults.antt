-- The faults of label lines, by what the code learnt: one law for each answer. Assumes nothing.
use Prim.Native.Nat.{◌<◌, ◌≤◌, ℕ}
use borrow.Author.Tests.{le-leb, lt-leb}
use lib.ListN.{get_or, length, length-map}
use mathlib.Core.Bool.{false}
use mathlib.Core.List.{List, ◌++◌}
use mathlib.Core.Option.{none}
use mathlib.Core.Path.{◌∙◌, ◌≡◌, ap, refl, sym}
use native.Mathlib.Omega.{arith}
use Rattle.document.specs.AmountFaults.{broken_range, no_such_date}
use Rattle.document.specs.Bounds.{late_attr, over_bound, second_root}
use Rattle.document.specs.Lookup.{label_of, purpose_of}
use Rattle.document.specs.NameFaults.{taken, unknown}
use Rattle.document.specs.NoteFaults.{misplaced}
use Rattle.document.specs.Policy.{Doc, Label, Node}
use Rattle.document.specs.TypeFaults.{wrong_type}
use Rattle.document.specs.ValueFaults.{misfit}
use Rattle.stepping.proofs.FoundLaws.{found_absent, found_there}
use Rattle.nodes.proofs.NodeFaults.{is_node}
use Rattle.stepping.proofs.Outcomes.{says_bound, says_fine, says_taken, says_unknown}
use Rattle.stepping.proofs.NearLaws.{place_near, place_none, place_word}
use Rattle.stepping.specs.Judged.{Judges}
use Rattle.stepping.specs.Places.{Near}
use Rattle.stepping.specs.declared.fault.Fault.TheVariants.{Item, Whole}
use Rattle.std.specs.Prelude.{None, Option, Some, Err, Ok, Result}
use Rattle.form.specs.Form.{Form, label}
use Rattle.form.specs.Walks.{names_at}
use Rattle.workspace.proofs.TabulatedLaws.{length_tabulated}
use Rattle.workspace.specs.Found.{found_as}
use Rattle.relations.specs.Labels.{Labels}
use Rattle.principals.specs.Nodes.{Nodes}
use Rattle.lists.specs.Lists.{find_index, there}
use Rattle.purpose.specs.Members.{limit}
use Rattle.text.proofs.OffendingLaws.{leftmost_first, leftmost_only, leftmost_skip, missing_first, missing_second}
use Rattle.text.specs.CodeEnds.{offending_of}
use Rattle.text.specs.Offending.{missing, offending_if, repeated}
use Rattle.text.specs.Words.{is_called, word_at, word_of}
use Rattle.text.specs.declared.refusals.Reason.TheVariants.{NameTaken, NameUnknown, OverBound}
use Rattle.stepping.specs.declared.fault.Fault.{Fault}

labels_length : {text ws sets : List ℕ} {k : ℕ} {ls : List Label} → Labels text ws sets k ls → length ls ≡ k
labels_length {text} {ws} {k = k} {ls} h =
    sym (length-map ls (λ l. l.name)) ∙ ap length (sym h.named) ∙ length_tabulated (λ i. word_at text (get_or ws i 0)) k

module _ (text ws : List ℕ) (m : ℕ) (labels : List ℕ) (k : ℕ) (line : List ℕ) (l a x : ℕ) where
  abbrev Held : Doc → Type 0
  Held d = Nodes limit text ws m d.policy.purposes × ((sets : List ℕ) × Labels text labels sets k d.policy.labels)

  abbrev form' : Form
  form' = label (word_of line l) (names_at line a) (names_at line x)

  abbrev Says : Result (Unit {0}) Fault → Type 0
  Says f = Judges Held (l ≤ length line) line form' k 64 f

  pub label_full : 64 ≤ k → Says (Err (Whole OverBound))
  unfolding over_bound
  label_full q =
      says_bound Held (l ≤ length line) line form' k 64
      (λ d h. le-leb 64 (length d.policy.labels) (omega (arith, labels_length h.1.1, q)))

  module _ (q : k < 64)
      (f : Option ℕ) (is : (sets : List ℕ) (ls : List Label) → Labels text labels sets k ls → found_as f ≡ find_index (λ z. is_called (word_of line l) z.name) ls) where
    roomy : (d : Doc) → Held d → over_bound d form' ≡ false
    unfolding over_bound
    roomy d h = lt-leb 64 (length d.policy.labels) (omega (arith, labels_length h.1.1, q))

    pub label_taken : (n : ℕ) → f ≡ Some n → Says (Err (Item NameTaken l))
    unfolding taken label_of offending_if
    label_taken n e =
        says_taken Held (l ≤ length line) line form' k 64 roomy l (λ p. p)
        (λ d h. leftmost_first _ _ (word_of line l) (ap (λ b. offending_if b (word_of line l)) (found_there f _ (is h.1.0 d.policy.labels h.1.1) n e)))

    module _ (e : f ≡ None) (f2 : Option ℕ) (is2 : (offending_of line f2 ≡ repeated (names_at line a)) × Near line f2) where
      fresh : (d : Doc) → Held d → offending_if (there (label_of d.policy (word_of line l))) (word_of line l) ≡ none
      unfolding label_of offending_if
      fresh d h = ap (λ b. offending_if b (word_of line l)) (found_absent f _ (is h.1.0 d.policy.labels h.1.1) e)

      pub allowed_twice : (v : ℕ) → f2 ≡ Some v → Says (Err (Item NameTaken v))
      unfolding taken
      allowed_twice v e2 =
          says_taken Held (l ≤ length line) line form' k 64 roomy v (λ p. place_near line f2 is2.1 v e2)
          (λ d h. leftmost_skip _ _ (fresh d h) ∙ leftmost_first _ _ (word_of line v) (place_word line f2 _ is2.0 v e2))

      module _ (e2 : f2 ≡ None) (f3 : Option ℕ) (is3 : (offending_of line f3 ≡ repeated (names_at line x)) × Near line f3) where
        pub denied_twice : (v : ℕ) → f3 ≡ Some v → Says (Err (Item NameTaken v))
        unfolding taken
        denied_twice v e3 =
            says_taken Held (l ≤ length line) line form' k 64 roomy v (λ p. place_near line f3 is3.1 v e3)
            (λ d h. leftmost_skip _ _ (fresh d h) ∙ leftmost_skip _ _ (place_none line f2 _ is2.0 e2) ∙ leftmost_first _ _ (word_of line v) (place_word line f3 _ is3.0 v e3))

        module _ (e3 : f3 ≡ None) (f4 : Option ℕ)
            (is4 : ((ns : List Node) → Nodes limit text ws m ns → offending_of line f4 ≡ missing (is_node ns) (names_at line a)) × Near line f4) where
          untaken : (d : Doc) → Held d → taken d.policy form' ≡ none
          unfolding taken
          untaken d h = leftmost_skip _ _ (fresh d h) ∙ leftmost_skip _ _ (place_none line f2 _ is2.0 e2) ∙ leftmost_only _ ∙ place_none line f3 _ is3.0 e3

          pub allowed_unknown : (v : ℕ) → f4 ≡ Some v → Says (Err (Item NameUnknown v))
          unfolding unknown purpose_of
          allowed_unknown v e4 =
              says_unknown Held (l ≤ length line) line form' k 64 roomy untaken v (λ p. place_near line f4 is4.1 v e4)
              (λ d h. missing_first (is_node d.policy.purposes) (word_of line v) (names_at line a) (names_at line x) (place_word line f4 _ (is4.0 d.policy.purposes h.0) v e4))

          module _ (e4 : f4 ≡ None) (f5 : Option ℕ)
              (is5 : ((ns : List Node) → Nodes limit text ws m ns → offending_of line f5 ≡ missing (is_node ns) (names_at line x)) × Near line f5) where
            allowed_known : (d : Doc) → Held d → missing (is_node d.policy.purposes) (names_at line a ++ names_at line x) ≡ missing (is_node d.policy.purposes) (names_at line x)
            allowed_known d h = missing_second (is_node d.policy.purposes) (names_at line a) (names_at line x) (place_none line f4 _ (is4.0 d.policy.purposes h.0) e4)

            pub denied_unknown : (v : ℕ) → f5 ≡ Some v → Says (Err (Item NameUnknown v))
            unfolding unknown purpose_of
            denied_unknown v e5 =
                says_unknown Held (l ≤ length line) line form' k 64 roomy untaken v (λ p. place_near line f5 is5.1 v e5)
                (λ d h. allowed_known d h ∙ place_word line f5 _ (is5.0 d.policy.purposes h.0) v e5)

            pub label_fine : f5 ≡ None → Says (Ok tt)
            unfolding unknown purpose_of second_root misfit wrong_type broken_range no_such_date late_attr misplaced
            label_fine e5 =
                says_fine Held (l ≤ length line) line form' k 64 roomy untaken
                (λ d h. allowed_known d h ∙ place_none line f5 _ (is5.0 d.policy.purposes h.0) e5)
                (λ d h. refl) (λ d h. refl) (λ d h. refl) (λ d h. refl) (λ d h. refl) q (λ d h. refl) (λ d h. refl)
