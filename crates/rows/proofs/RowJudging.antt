-- The check of a row form by what the code found: each law is one answer of `row_fault`. Assumes nothing.
use Prim.Native.Nat.{◌<◌, ◌≤◌, ℕ}
use borrow.Author.Tests.{le-leb, lt-leb}
use lib.Dec.{eqb}
use lib.ListN.{length}
use mathlib.Core.Bool.{Bool, false, not, true}
use mathlib.Core.List.{List, [], ◌∷◌}
use mathlib.Core.Option.{Option, get_or, none, some}
use mathlib.Core.Path.{◌∙◌, ◌≡◌, ap, refl, subst, sym}
use native.Mathlib.Omega.{arith}
use Rattle.document.specs.AmountFaults.{broken_range, no_such_date}
use Rattle.document.specs.Bounds.{late_attr, over_bound, second_root}
use Rattle.document.specs.Check.{check_form}
use Rattle.document.specs.Lookup.{columns_at, columns_of, label_of, scheme_at, scheme_of, table_of}
use Rattle.document.specs.Meaning.{add}
use Rattle.document.specs.NameFaults.{row_labels, taken, unknown}
use Rattle.document.specs.NoteFaults.{misplaced}
use Rattle.document.specs.Policy.{Doc}
use Rattle.document.specs.TypeFaults.{mistyped_value, wrong_type}
use Rattle.document.specs.ValueFaults.{misfit, row_values}
use Rattle.stepping.proofs.Judging.{judge_bound, judge_date, judge_fine, judge_order, judge_type, judge_unknown, judge_values}
use Rattle.rows.proofs.RowChecks.{first_broken, first_unreal}
use Rattle.rows.proofs.RowItems.{width_fits}
use Rattle.rows.specs.RowWords.{values_at}
use Rattle.rows.specs.Promises.{DatesJudged, date_verdict}
use Rattle.form.specs.Form.{Item, Scheme, row}
use Rattle.stepping.specs.Judged.{ReachesBy, RoomFor, judged}
use Rattle.stepping.specs.Places.{Near}
use Rattle.std.specs.Prelude as prelude
use Rattle.std.specs.Prelude.{None, Some, Result}
use Rattle.relations.proofs.TableLaws.{scheme_read_lem, width_read}
use Rattle.workspace.specs.Found.{FoundBelow, found_as}
use Rattle.relations.specs.Tables.{Cut, Tables, column_count_in, column_label_in, column_labels_in, scheme_by, scheme_in, table_label_in}
use Rattle.workspace.specs.Tabulated.{tabulated}
use Rattle.form.specs.declared.lines.Scheme as coded
use Rattle.lists.proofs.ListLaws.{holds_of_some}
use Rattle.lists.specs.Lists.{or_zero, there}
use Rattle.text.proofs.OffendingLaws.{leftmost_fail, leftmost_on}
use Rattle.text.specs.CodeEnds.{offending_of, offending_value}
use Rattle.text.specs.Offending.{leftmost, missing, unless}
use Rattle.text.specs.Refusal.{accepted, document, pointing, pointing_all, refused}
use Rattle.text.specs.Words.{Word, word_of, written_of}
use Rattle.stepping.specs.declared.fault.Fault.{Fault}

-- a number that was found is below k
below_at_lem : (r : prelude.Option ℕ) (x k : ℕ) → r ≡ Some x → FoundBelow r k → x < k
below_at_lem r x k e b = subst (λ (f : prelude.Option ℕ). FoundBelow f k) e b

module _ (d : Doc) (line : List ℕ) (w : Word) (is : List Item) (k : ℕ) (counted : k ≡ length d.rows) where
  pub row_over : 1024 ≤ k → check_form d line (row w is) ≡ refused (pointing_all 3 document line)
  unfolding over_bound
  row_over h = judge_bound d line (row w is) (le-leb 1024 (length d.rows) (omega (arith, h, counted)))

  module _ (room : k < 1024) where
    row_room : over_bound d (row w is) ≡ false
    unfolding over_bound
    row_room = lt-leb 1024 (length d.rows) (omega (arith, room, counted))

    row_new : taken d.policy (row w is) ≡ none
    unfolding taken
    row_new = refl

    pub row_no_table : table_of d.policy w ≡ none → check_form d line (row w is) ≡ refused (pointing 5 document w)
    unfolding there unknown
    row_no_table e = judge_unknown d line (row w is) row_room row_new w (none_there (missing (λ v. there (label_of d.policy v)) (row_labels (scheme_of d.policy w) is)))
      where
        none_there : (o : Option Word) → leftmost (unless (there (table_of d.policy w)) w ∷ o ∷ []) ≡ some w
        none_there o = leftmost_fail (there (table_of d.policy w)) w (o ∷ []) (ap there e)

    -- the table is known
    module _ (x : ℕ) (e : table_of d.policy w ≡ some x) (scheme : Scheme ℕ) (s : scheme_at d.policy x ≡ scheme) where
      scheme_is : scheme_of d.policy w ≡ scheme
      unfolding scheme_of or_zero
      scheme_is = ap (λ o. scheme_at d.policy (or_zero o)) e ∙ s

      columns_are : columns_of d.policy w ≡ columns_at d.policy x
      unfolding columns_of or_zero
      columns_are = ap (λ o. columns_at d.policy (or_zero o)) e

      unknown_is : unknown d.policy (row w is) ≡ missing (λ v. there (label_of d.policy v)) (row_labels scheme is)
      unfolding unknown there
      unknown_is =
          leftmost_on (there (table_of d.policy w)) w (missing (λ v. there (label_of d.policy v)) (row_labels (scheme_of d.policy w) is)) (ap there e)
          ∙ ap (λ m. missing (λ v. there (label_of d.policy v)) (row_labels m is)) scheme_is

      pub row_unknown : (v : Word) → missing (λ v. there (label_of d.policy v)) (row_labels scheme is) ≡ some v → check_form d line (row w is) ≡ refused (pointing 5 document v)
      row_unknown v m = judge_unknown d line (row w is) row_room row_new v (unknown_is ∙ m)

      -- its labels are known
      module _ (l : missing (λ v. there (label_of d.policy v)) (row_labels scheme is) ≡ none) where
        one_root : second_root d.policy (row w is) ≡ false
        unfolding second_root
        one_root = refl

        misfit_is : misfit d.policy (row w is) ≡ not (width_fits (length (columns_at d.policy x)) (row_values scheme is))
        unfolding misfit
        misfit_is = λ j. not (width_fits (length (columns_are j)) (row_values (scheme_is j) is))

        pub row_misfit : width_fits (length (columns_at d.policy x)) (row_values scheme is) ≡ false → check_form d line (row w is) ≡ refused (pointing_all 7 document line)
        row_misfit f = judge_values d line (row w is) row_room row_new (unknown_is ∙ l) one_root (misfit_is ∙ ap not f)

        -- its values are as many as the columns
        module _ (f : width_fits (length (columns_at d.policy x)) (row_values scheme is) ≡ true) (ws : List Word) (v : row_values scheme is ≡ some ws) where
          types_are : wrong_type d.policy (row w is) ≡ mistyped_value (columns_at d.policy x) ws
          unfolding wrong_type
          types_are = (λ j. mistyped_value (columns_are j) (get_or (row_values (scheme_is j) is) [])) ∙ ap (λ o. mistyped_value (columns_at d.policy x) (get_or o [])) v

          pub row_mistyped : (u : Word) → mistyped_value (columns_at d.policy x) ws ≡ some u → check_form d line (row w is) ≡ refused (pointing 8 document u)
          row_mistyped u m = judge_type d line (row w is) row_room row_new (unknown_is ∙ l) one_root (misfit_is ∙ ap not f) u (types_are ∙ m)

          -- they are typed right
          module _ (m : mistyped_value (columns_at d.policy x) ws ≡ none) where
            order_is : broken_range d.policy (row w is) ≡ first_broken ws
            unfolding broken_range
            order_is = ap (λ z. first_broken (get_or (row_values z is) [])) scheme_is ∙ ap (λ o. first_broken (get_or o [])) v

            pub row_broken : (u : Word) → first_broken ws ≡ some u → check_form d line (row w is) ≡ refused (pointing 28 document u)
            row_broken u o = judge_order d line (row w is) row_room row_new (unknown_is ∙ l) one_root (misfit_is ∙ ap not f) (types_are ∙ m) u (order_is ∙ o)

            -- and in order
            module _ (o : first_broken ws ≡ none) where
              dates_are : no_such_date d.policy (row w is) ≡ first_unreal ws
              unfolding no_such_date
              dates_are = ap (λ z. first_unreal (get_or (row_values z is) [])) scheme_is ∙ ap (λ q. first_unreal (get_or q [])) v

              pub row_unreal : (u : Word) → first_unreal ws ≡ some u → check_form d line (row w is) ≡ refused (pointing 31 document u)
              row_unreal u q = judge_date d line (row w is) row_room row_new (unknown_is ∙ l) one_root (misfit_is ∙ ap not f) (types_are ∙ m) (order_is ∙ o) u (dates_are ∙ q)

              pub row_fine : first_unreal ws ≡ none → check_form d line (row w is) ≡ accepted (add d (row w is))
              unfolding late_attr misplaced
              row_fine q = judge_fine d line (row w is) row_room row_new (unknown_is ∙ l) one_root (misfit_is ∙ ap not f) (types_are ∙ m) (order_is ∙ o) (dates_are ∙ q) late refl
                where
                  late : late_attr d.policy (row w is) ≡ false
                  late = refl

-- ---- what the code found of the table

-- what is read of the labels and of the values by the scheme of the table of number x
module _ (text tables line : List ℕ) (n k t : ℕ) (is : List Item) (d : Doc) (h : Tables text tables n d.policy.tables) (counted : k ≡ length d.rows) (room : k < 1024)
    (r : prelude.Option ℕ) (lookup : found_as r ≡ table_of d.policy (word_of line t)) (below : FoundBelow r n) (x : ℕ) (told : r ≡ Some x)
    (s : coded.Scheme) (reads : x < 8 → scheme_in tables x ≡ scheme_by s (table_label_in tables x) (column_labels_in tables x))
    (u : prelude.Option ℕ) (label : (l : ℕ) (ls : List ℕ) → offending_of line u ≡ missing (λ w. there (label_of d.policy w)) (row_labels (scheme_by s l ls) is)) where
  abbrev scheme_read : Scheme ℕ
  scheme_read = scheme_by s (table_label_in tables x) (tabulated (column_label_in tables x) (length (columns_at d.policy x)))

  inside : x < n
  inside = below_at_lem r x n told below

  table_is : table_of d.policy (word_of line t) ≡ some x
  table_is = sym lookup ∙ ap found_as told

  scheme_of_lem : scheme_at d.policy x ≡ scheme_read
  scheme_of_lem = scheme_read_lem text tables n x d.policy h inside s reads

  label_is : offending_of line u ≡ missing (λ w. there (label_of d.policy w)) (row_labels scheme_read is)
  label_is = label (table_label_in tables x) (tabulated (column_label_in tables x) (length (columns_at d.policy x)))

  pub found_unknown : (p : ℕ) → u ≡ Some p → check_form d line (row (word_of line t) is) ≡ refused (pointing 5 document (word_of line p))
  found_unknown p e = row_unknown d line (word_of line t) is k counted room x table_is scheme_read scheme_of_lem (word_of line p) (sym label_is ∙ ap (offending_of line) e)

  module _ (none_unknown : u ≡ None) (width : ℕ) (wide : Cut 16 x 8 (column_count_in tables x) width)
      (b : Bool) (fits : (l : ℕ) (ls : List ℕ) → b ≡ width_fits width (row_values (scheme_by s l ls) is)) where
    labelled_all : missing (λ w. there (label_of d.policy w)) (row_labels scheme_read is) ≡ none
    labelled_all = sym label_is ∙ ap (offending_of line) none_unknown

    fits_is : width_fits (length (columns_at d.policy x)) (row_values scheme_read is) ≡ b
    fits_is =
        sym (fits (table_label_in tables x) (tabulated (column_label_in tables x) (length (columns_at d.policy x)))
        ∙ ap (λ m. width_fits m (row_values scheme_read is)) (width_read text tables n x d.policy h inside width wide))

    pub found_misfit : b ≡ false → check_form d line (row (word_of line t) is) ≡ refused (pointing_all 7 document line)
    found_misfit e = row_misfit d line (word_of line t) is k counted room x table_is scheme_read scheme_of_lem labelled_all (fits_is ∙ e)

    module _ (fit : b ≡ true) (start : ℕ) (values : (l : ℕ) (ls : List ℕ) (ws : List Word) → row_values (scheme_by s l ls) is ≡ some ws → values_at line start ≡ ws)
        (m : prelude.Option ℕ) (types : x < n → offending_value line m ≡ mistyped_value (columns_at d.policy x) (values_at line start)) where
      found_values : (ws : List Word) × (row_values scheme_read is ≡ some ws) × (eqb (length ws) (length (columns_at d.policy x)) ≡ true)
      found_values = holds_of_some (λ ws. eqb (length ws) (length (columns_at d.policy x))) (row_values scheme_read is) (fits_is ∙ fit)

      values_are : values_at line start ≡ found_values.0
      values_are = values (table_label_in tables x) (tabulated (column_label_in tables x) (length (columns_at d.policy x))) found_values.0 found_values.1

      types_of : offending_value line m ≡ mistyped_value (columns_at d.policy x) found_values.0
      types_of = types inside ∙ ap (mistyped_value (columns_at d.policy x)) values_are

      pub found_mistyped : (p : ℕ) → m ≡ Some p → check_form d line (row (word_of line t) is) ≡ refused (pointing 8 document (written_of line p))
      found_mistyped p e =
          row_mistyped d line (word_of line t) is k counted room x table_is scheme_read scheme_of_lem labelled_all (fits_is ∙ fit) found_values.0 found_values.1 (written_of line p)
          (sym types_of ∙ ap (offending_value line) e)

      module _ (none_mistyped : m ≡ None) (o : prelude.Option ℕ) (order : offending_value line o ≡ first_broken (values_at line start)) where
        order_of : offending_value line o ≡ first_broken found_values.0
        order_of = order ∙ ap first_broken values_are

        typed_all : mistyped_value (columns_at d.policy x) found_values.0 ≡ none
        typed_all = sym types_of ∙ ap (offending_value line) none_mistyped

        pub found_broken : (p : ℕ) → o ≡ Some p → check_form d line (row (word_of line t) is) ≡ refused (pointing 28 document (written_of line p))
        found_broken p e =
            row_broken d line (word_of line t) is k counted room x table_is scheme_read scheme_of_lem labelled_all (fits_is ∙ fit) found_values.0 found_values.1 typed_all (written_of line p)
            (sym order_of ∙ ap (offending_value line) e)

        pub found_dated : o ≡ None → (r : Result (Unit {0}) Fault) → DatesJudged line start r → check_form d line (row (word_of line t) is) ≡ judged d line (row (word_of line t) is) r
        found_dated e r j = go j.absent (sym (j.is ∙ ap first_unreal values_are)) ∙ ap (judged d line (row (word_of line t) is)) (sym j.told)
          where
            go : (q : prelude.Option ℕ) → first_unreal found_values.0 ≡ offending_value line q → check_form d line (row (word_of line t) is) ≡ judged d line (row (word_of line t) is) (date_verdict q)
            go (Some p) is_at =
                row_unreal d line (word_of line t) is k counted room x table_is scheme_read scheme_of_lem labelled_all (fits_is ∙ fit) found_values.0 found_values.1 typed_all
                (sym order_of ∙ ap (offending_value line) e) (written_of line p) is_at
            go None is_none =
                row_fine d line (word_of line t) is k counted room x table_is scheme_read scheme_of_lem labelled_all (fits_is ∙ fit) found_values.0 found_values.1 typed_all
                (sym order_of ∙ ap (offending_value line) e) is_none

-- where the dates alone are to be judged: there is room if there was, and what is refused stands in the line
pub dated_roomy : (line : List ℕ) (at : ℕ) (r : Result (Unit {0}) Fault) (k room : ℕ) → DatesJudged line at r → k < room → RoomFor r k room
dated_roomy line at r k room j l = subst (λ (v : Result (Unit {0}) Fault). RoomFor v k room) (sym j.told) (go j.absent)
  where
    go : (q : prelude.Option ℕ) → RoomFor (date_verdict q) k room
    go (Some p) = tt
    go None = l

pub dated_reaches : (line : List ℕ) (at : ℕ) (r : Result (Unit {0}) Fault) → DatesJudged line at r → ReachesBy line r
dated_reaches line at r j = subst (ReachesBy line) (sym j.told) (go j.absent j.near)
  where
    go : (q : prelude.Option ℕ) → Near line q → ReachesBy line (date_verdict q)
    go (Some p) n = n
    go None n = tt
