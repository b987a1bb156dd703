-- What a row form is that was accepted: for the one who stores rows. Assumes nothing.
use Prim.Native.Nat.{ℕ}
use lib.ListN.{length}
use borrow.Author.Tests.{eqb-true}
use mathlib.Core.Bool.{true}
use mathlib.Core.List.{List}
use mathlib.Core.Option.{some}
use mathlib.Core.Path.{◌≡◌}
use Rattle.document.specs.Check.{check_form}
use Rattle.document.specs.Lookup.{columns_of, label_of, scheme_of, table_of}
use Rattle.document.specs.NameFaults.{row_labels, unknown}
use Rattle.document.specs.Policy.{Doc}
use Rattle.document.specs.ValueFaults.{misfit, row_values}
use Rattle.form.specs.Form.{Item, row}
use Rattle.lists.proofs.ListLaws.{holds_of_some, there_some}
use Rattle.lists.proofs.Tests.{not-false}
use Rattle.lists.specs.Lists.{all_of, or_zero, there}
use Rattle.text.proofs.OffendingLaws.{leftmost_head, leftmost_tail, missing_none, unless_none}
use Rattle.text.proofs.RefusalLaws.{refuse_at_accepted, refuse_if_accepted, then_accepted}
use Rattle.text.specs.Refusal.{accepted, document}
use Rattle.text.specs.Words.{Word}

-- the table is known and so is each label; the items have a value for each column
pub record RowAccepted (d : Doc) (w : Word) (is : List Item) : Type 0 where
  pub table : table_of d.policy w ≡ some (or_zero (table_of d.policy w))
  pub labels : all_of (λ v. there (label_of d.policy v)) (row_labels (scheme_of d.policy w) is) ≡ true
  pub words : List Word
  pub values : row_values (scheme_of d.policy w) is ≡ some words
  pub wide : length words ≡ length (columns_of d.policy w)

pub row_accepted : (d : Doc) (line : List ℕ) (w : Word) (is : List Item) (e : Doc) → check_form d line (row w is) ≡ accepted e → RowAccepted d w is
unfolding check_form unknown misfit
row_accepted d line w is e h =
    let h3 = then_accepted _ _ _ h in
    let h4 = then_accepted _ _ _ h3.2 in
    let h5 = then_accepted _ _ _ h4.2 in
    let h6 = then_accepted _ _ _ h5.2 in
    let h7 = then_accepted _ _ _ h6.2 in
    let u = refuse_at_accepted 5 document _ h5.1 in
    let m = holds_of_some _ _ (not-false _ (refuse_if_accepted _ _ h7.1)) in
    record {
      table = there_some (table_of d.policy w) (unless_none _ w (leftmost_head _ _ u));
      labels = missing_none _ _ (leftmost_head _ _ (leftmost_tail _ _ u));
      words = m.0;
      values = m.1;
      wide = eqb-true _ _ m.2;
    }
