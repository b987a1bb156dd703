-- The check of a form, by the first of its faults: each law is one line of the chain in `check_form`. Assumes nothing.
use Prim.Native.Nat.{ℕ}
use mathlib.Core.Bool.{false, true}
use mathlib.Core.List.{List}
use mathlib.Core.Option.{none, some}
use mathlib.Core.Path.{◌≡◌}
use Rattle.document.specs.AmountFaults.{broken_range, no_such_date}
use Rattle.document.specs.Bounds.{late_attr, over_bound, second_root}
use Rattle.document.specs.Check.{check_form}
use Rattle.document.specs.Meaning.{add}
use Rattle.document.specs.NameFaults.{taken, unknown}
use Rattle.document.specs.NoteFaults.{misplaced}
use Rattle.document.specs.Policy.{Doc}
use Rattle.document.specs.TypeFaults.{wrong_type}
use Rattle.document.specs.ValueFaults.{misfit}
use Rattle.form.specs.Form.{Form}
use Rattle.text.specs.Refusal.{◌>>◌, accepted, document, pointing, pointing_all, refuse_at, refuse_if, refused}
use Rattle.text.specs.Words.{Word}

module _ (d : Doc) (line : List ℕ) (f : Form) where
  pub judge_bound : over_bound d f ≡ true → check_form d line f ≡ refused (pointing_all 3 document line)
  unfolding check_form ◌>>◌ refuse_if refuse_at
  judge_bound a = rw a

  module _ (a : over_bound d f ≡ false) where
    pub judge_taken : (w : Word) → taken d.policy f ≡ some w → check_form d line f ≡ refused (pointing 4 document w)
    unfolding check_form ◌>>◌ refuse_if refuse_at
    judge_taken w b = rw (a, b)

    module _ (b : taken d.policy f ≡ none) where
      pub judge_unknown : (w : Word) → unknown d.policy f ≡ some w → check_form d line f ≡ refused (pointing 5 document w)
      unfolding check_form ◌>>◌ refuse_if refuse_at
      judge_unknown w c = rw (a, b, c)

      module _ (c : unknown d.policy f ≡ none) where
        pub judge_root : second_root d.policy f ≡ true → check_form d line f ≡ refused (pointing_all 6 document line)
        unfolding check_form ◌>>◌ refuse_if refuse_at
        judge_root e = rw (a, b, c, e)

        module _ (e : second_root d.policy f ≡ false) where
          pub judge_values : misfit d.policy f ≡ true → check_form d line f ≡ refused (pointing_all 7 document line)
          unfolding check_form ◌>>◌ refuse_if refuse_at
          judge_values g = rw (a, b, c, e, g)

          module _ (g : misfit d.policy f ≡ false) where
            pub judge_type : (w : Word) → wrong_type d.policy f ≡ some w → check_form d line f ≡ refused (pointing 8 document w)
            unfolding check_form ◌>>◌ refuse_if refuse_at
            judge_type w h = rw (a, b, c, e, g, h)

            module _ (h : wrong_type d.policy f ≡ none) where
              pub judge_order : (w : Word) → broken_range d.policy f ≡ some w → check_form d line f ≡ refused (pointing 28 document w)
              unfolding check_form ◌>>◌ refuse_if refuse_at
              judge_order w o = rw (a, b, c, e, g, h, o)

              module _ (o : broken_range d.policy f ≡ none) where
                pub judge_date : (w : Word) → no_such_date d.policy f ≡ some w → check_form d line f ≡ refused (pointing 31 document w)
                unfolding check_form ◌>>◌ refuse_if refuse_at
                judge_date w q = rw (a, b, c, e, g, h, o, q)

                module _ (q : no_such_date d.policy f ≡ none) where
                  pub judge_late : late_attr d.policy f ≡ true → check_form d line f ≡ refused (pointing_all 9 document line)
                  unfolding check_form ◌>>◌ refuse_if refuse_at
                  judge_late i = rw (a, b, c, e, g, h, o, q, i)

                  pub judge_misplaced : late_attr d.policy f ≡ false → misplaced d f ≡ true → check_form d line f ≡ refused (pointing_all 25 document line)
                  unfolding check_form ◌>>◌ refuse_if refuse_at
                  judge_misplaced i j = rw (a, b, c, e, g, h, o, q, i, j)

                  pub judge_fine : late_attr d.policy f ≡ false → misplaced d f ≡ false → check_form d line f ≡ accepted (add d f)
                  unfolding check_form ◌>>◌ refuse_if refuse_at
                  judge_fine i j = rw (a, b, c, e, g, h, o, q, i, j)
