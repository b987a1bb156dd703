-- A query for a purpose further down: what is known, authorised and open for P is so for every Q below P. Assumes nothing.
use Prim.Native.Nat.{◌<◌, ℕ}
use lib.ListN.{get_elem?, length}
use mathlib.Core.Bool.{Bool, true}
use mathlib.Core.List.{List}
use mathlib.Core.Option.{Option, bind, none, some}
use mathlib.Core.Path.{◌≡◌}
use Rattle.document.proofs.OpenLaws.{Wider, column_open_more, open_below, table_open_more}
use Rattle.document.specs.Lookup.{column_of, columns_of, labelling_of, purpose_of}
use Rattle.document.specs.Open.{Opening, open_to}
use Rattle.document.specs.Policy.{Column, Grant, Policy, User, tree_of}
use Rattle.form.specs.Form.{Scheme}
use Rattle.purpose.proofs.Ancestry.{descends_trans}
use Rattle.purpose.specs.Compliance.{descends}
use Rattle.query.specs.Authority.{Clock, authorises, first_grant}
use Rattle.query.specs.Query.{Query, closed_part, open_for, resolved, source_of, unknown_party}
use Rattle.query.specs.QueryForm.{QueryForm, named_refs, named_words, selected_refs, selected_words, tested_refs, withholding_refs}
use Rattle.lists.proofs.ListLaws.{find_index_found, find_index_from_mono}
use Rattle.text.proofs.OffendingLaws.{leftmost_head, leftmost_nil, leftmost_none, leftmost_tail, missing_mono, unless_none, unless_true}
use Rattle.lists.proofs.Tests.{and_left, and_right}
use Rattle.lists.specs.Lists.{find_index, find_index_from, or_zero, there}
use Rattle.text.specs.Words.{Word}

-- the same query for another purpose
unfoldable pub for_purpose : Word → QueryForm → QueryForm
for_purpose w q = record { user = q.user; role = q.role; purpose = w; table = q.table; wanted = q.wanted; condition = q.condition }

-- the resolved query for another purpose
unfoldable pub to_purpose : ℕ → Query → Query
to_purpose p q = record { purpose = p; source = q.source; wanted = q.wanted; condition = q.condition }

-- a purpose that is known is one of the tree
pub purpose_inside : (d : Policy) (w : Word) (n : ℕ) → purpose_of d w ≡ some n → n < length d.purposes
unfolding purpose_of
purpose_inside d w n h = (find_index_found _ d.purposes n h).1

-- a grant that authorises p authorises every q below p
pub grant_below : (d : Policy) (p q : ℕ) → descends (tree_of d.purposes) q p ≡ true → (c : Clock) (u g : ℕ) → first_grant d c u p ≡ some g → (m : ℕ) × (first_grant d c u q ≡ some m)
unfolding first_grant find_index
grant_below d p q below c u g = go (get_elem? d.users u)
  where
    authorised : (x : User) (y : Grant) → authorises d c x p y ≡ true → authorises d c x q y ≡ true
    authorised x y h = unfold authorises in
        rw (descends_trans (tree_of d.purposes) q p y.purpose below (and_left (descends (tree_of d.purposes) p y.purpose) _ h))
        (and_right (descends (tree_of d.purposes) p y.purpose) _ h)

    go : (o : Option User) → bind o (λ x. find_index_from 0 (authorises d c x p) d.grants) ≡ some g → (m : ℕ) × (bind o (λ x. find_index_from 0 (authorises d c x q) d.grants) ≡ some m)
    go none e = unfold bind in (g, e)
    go (some x) e = unfold bind in find_index_from_mono 0 (authorises d c x p) (authorises d c x q) (authorised x) d.grants g e

module _ (d : Policy) (q : QueryForm) (w : Word) (p : ℕ) (is_p : purpose_of d w ≡ some p)
    (below : descends (tree_of d.purposes) p (or_zero (purpose_of d q.purpose)) ≡ true) where
  pub open_down : Wider (open_to d (or_zero (purpose_of d q.purpose))) (open_to d p)
  open_down = open_below d (or_zero (purpose_of d q.purpose)) p (purpose_inside d w p is_p) below

  pub party_down : unknown_party d q ≡ none → unknown_party d (for_purpose w q) ≡ none
  unfolding unknown_party for_purpose there
  party_down h =
      leftmost_none _ _ (leftmost_head _ _ h) (leftmost_none _ _ (leftmost_head _ _ (leftmost_tail _ _ h))
      (leftmost_none _ _ (unless_true (there (purpose_of d w)) w (rw is_p)) leftmost_nil))

  pub parts_down : closed_part d q ≡ none → closed_part d (for_purpose w q) ≡ none
  unfolding closed_part open_for for_purpose named_words named_refs selected_refs tested_refs selected_words or_zero
  parts_down h =
      let s : Scheme ℕ = labelling_of d q.table in
      let cs : List Column = columns_of d q.table in
      let here : Opening = open_to d (or_zero (purpose_of d q.purpose)) in
      rw is_p (leftmost_none _ _
      (unless_true _ _ (table_open_more here (open_to d p) open_down s (unless_none _ _ (leftmost_head _ _ h))))
      (leftmost_none _ _ (missing_mono _ _ (λ v. column_open_more here (open_to d p) open_down s (or_zero (column_of cs v))) (named_words q) (leftmost_head _ _ (leftmost_tail _ _ h))) leftmost_nil))

  pub resolved_down : resolved d (for_purpose w q) ≡ to_purpose p (resolved d q)
  unfolding resolved source_of withholding_refs named_refs selected_refs tested_refs selected_words for_purpose to_purpose or_zero
  resolved_down = rw is_p
