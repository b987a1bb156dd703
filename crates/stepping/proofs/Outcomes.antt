-- The outcome of a line, as a fault finder gives it, by the first of the form's faults: the laws of Judging, for every document that
-- the workspace holds. Assumes nothing.
use Prim.Native.Nat.{◌<◌, ◌≤◌, ℕ}
use lib.ListN.{length}
use mathlib.Core.Bool.{false, true}
use mathlib.Core.List.{List}
use mathlib.Core.Option.{none, some}
use mathlib.Core.Path.{◌≡◌}
use Rattle.document.specs.AmountFaults.{broken_range, no_such_date}
use Rattle.document.specs.Bounds.{late_attr, over_bound, second_root}
use Rattle.document.specs.NameFaults.{taken, unknown}
use Rattle.document.specs.NoteFaults.{misplaced}
use Rattle.document.specs.Policy.{Doc}
use Rattle.document.specs.TypeFaults.{wrong_type}
use Rattle.document.specs.ValueFaults.{misfit}
use Rattle.stepping.proofs.Judging.{judge_bound, judge_fine, judge_late, judge_misplaced, judge_root, judge_taken, judge_unknown}
use Rattle.stepping.specs.Judged.{Judges}
use Rattle.form.specs.Form.{Form}
use Rattle.text.specs.Words.{word_of}
use Rattle.stepping.specs.declared.fault.Fault.TheVariants.{Item, Whole}
use Rattle.std.specs.Prelude.{Err, Ok}
use Rattle.text.specs.declared.refusals.Reason.TheVariants.{LateAttribute, NameTaken, NameUnknown, NoteMisplaced, OverBound, SecondRoot}

module _ (Held : Doc → Type 0) (Placed : Type 0) (line : List ℕ) (f : Form) (k room : ℕ) where
  pub says_bound : ((d : Doc) → Held d → over_bound d f ≡ true) → Judges Held Placed line f k room (Err (Whole OverBound))
  says_bound a = record { is = λ d h. judge_bound d line f (a d h); roomy = tt; reaches = λ p. tt }

  module _ (a : (d : Doc) → Held d → over_bound d f ≡ false) where
    pub says_taken : (at : ℕ) → (Placed → at ≤ length line) → ((d : Doc) → Held d → taken d.policy f ≡ some (word_of line at))
        → Judges Held Placed line f k room (Err (Item NameTaken at))
    says_taken at p b = record { is = λ d h. judge_taken d line f (a d h) (word_of line at) (b d h); roomy = tt; reaches = p }

    module _ (b : (d : Doc) → Held d → taken d.policy f ≡ none) where
      pub says_unknown : (at : ℕ) → (Placed → at ≤ length line) → ((d : Doc) → Held d → unknown d.policy f ≡ some (word_of line at))
          → Judges Held Placed line f k room (Err (Item NameUnknown at))
      says_unknown at p c = record { is = λ d h. judge_unknown d line f (a d h) (b d h) (word_of line at) (c d h); roomy = tt; reaches = p }

      module _ (c : (d : Doc) → Held d → unknown d.policy f ≡ none) where
        pub says_root : ((d : Doc) → Held d → second_root d.policy f ≡ true) → Judges Held Placed line f k room (Err (Whole SecondRoot))
        says_root e = record { is = λ d h. judge_root d line f (a d h) (b d h) (c d h) (e d h); roomy = tt; reaches = λ p. tt }

        module _ (e : (d : Doc) → Held d → second_root d.policy f ≡ false) (g : (d : Doc) → Held d → misfit d.policy f ≡ false)
            (t : (d : Doc) → Held d → wrong_type d.policy f ≡ none) (o : (d : Doc) → Held d → broken_range d.policy f ≡ none)
            (q : (d : Doc) → Held d → no_such_date d.policy f ≡ none) where
          pub says_late : ((d : Doc) → Held d → late_attr d.policy f ≡ true) → Judges Held Placed line f k room (Err (Whole LateAttribute))
          says_late i =
              record { is = λ d h. judge_late d line f (a d h) (b d h) (c d h) (e d h) (g d h) (t d h) (o d h) (q d h) (i d h); roomy = tt; reaches = λ p. tt }

          pub says_misplaced : ((d : Doc) → Held d → late_attr d.policy f ≡ false) → ((d : Doc) → Held d → misplaced d f ≡ true) → Judges Held Placed line f k room (Err (Whole NoteMisplaced))
          says_misplaced i j =
              record { is = λ d h. judge_misplaced d line f (a d h) (b d h) (c d h) (e d h) (g d h) (t d h) (o d h) (q d h) (i d h) (j d h); roomy = tt; reaches = λ p. tt }

          pub says_fine : k < room → ((d : Doc) → Held d → late_attr d.policy f ≡ false) → ((d : Doc) → Held d → misplaced d f ≡ false) → Judges Held Placed line f k room (Ok tt)
          says_fine l i j =
              record { is = λ d h. judge_fine d line f (a d h) (b d h) (c d h) (e d h) (g d h) (t d h) (o d h) (q d h) (i d h) (j d h); roomy = l; reaches = λ p. tt }
