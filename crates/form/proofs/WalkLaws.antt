-- Lists of a line by position: what a reader read there is what code finds when it walks through the list again, item by item.
-- Assumes nothing.
use Prim.Native.Nat.{◌+◌, ◌≤◌, suc, zero, ℕ}
use borrow.Author.Tests.{eq-eqb, eqb-false, eqb-true, ne_eqb}
use lib.Dec.{eqb}
use lib.ListN.{get_or-eq_default, drop, get_or, length, length-drop}
use mathlib.Core.Bool.{Bool, ◌&&◌, cond, false, not, true}
use mathlib.Core.List.{List, [], ◌∷◌, map}
use mathlib.Core.Option.{some}
use mathlib.Core.Path.{◌∙◌, ◌≡◌, ap, refl, sym}
use native.Mathlib.Omega.{arith}
use Rattle.condition.specs.Kinds.{Kind, dates, names, numbers}
use Rattle.form.specs.Form.{ColumnForm, GivenForm, Item, labelled, plain}
use Rattle.form.specs.FormReader.{column, column_body, column_kinds, given_form, item, kinds, labelled_column, labelled_item, plain_item}
use Rattle.form.specs.Walks.{cell_end_at, cell_label_in, column_at, column_forms_at, column_kind_at, column_label_at, column_labels_at, first_in, given_at, givens_at, is_labelled_at, item_at, item_end_at, items_at, kind_at, labelled_columns_at, last_or, list_at, list_end_at, list_up_to, names_at, pair_end_at, second_in, third_in, triple_end_at, value_place}
use Rattle.lists.specs.Lists.{there}
use Rattle.calendar.proofs.CellValues.{finds_cell_value}
use Rattle.text.proofs.Closings.{value_onward, value_within}
use Rattle.text.proofs.ReaderLaws.{byte_at_refused, not_read}
use Rattle.text.proofs.WalkingLaws.{Finds, finds_bind, finds_bracketed, finds_give, finds_if, finds_next, finds_run, finds_word, next_forward, next_within, past_forward, past_here, past_within, word_forward, word_within}
use Rattle.text.proofs.WordLaws.{word_always}
use Rattle.calendar.specs.CellValues.{cell_value}
use Rattle.text.specs.Brackets.{among, bracketed, keyword, many, up_to}
use Rattle.text.specs.Bytes.{ascii}
use Rattle.text.specs.Names.{is_name, same_name}
use Rattle.text.specs.Numbers.{is_value}
use Rattle.text.specs.Reader.{Left, Reader, ◌>>=◌, from, give, refuse}
use Rattle.text.specs.Walking.{next_word, past, word_end_at, written_end_at}
use Rattle.text.specs.Words.{Word, is_called, name, value, word_at, word_of, written_of}

-- ---- one item more, or none

module _ {A : Type 0} (what : List ℕ → ℕ → A) (to : List ℕ → ℕ → ℕ) (s : List ℕ) (onward : (at : ℕ) → at ≤ to s at) where
  -- one item, and then at most n more
  step_same : (n m at : ℕ) → list_up_to what to n s (to s (at + 1)) ≡ list_up_to what to m s (to s (at + 1)) → list_up_to what to (suc n) s at ≡ list_up_to what to (suc m) s at
  unfolding list_up_to
  step_same n m at h = rw h

  -- past the end no space stands
  none_left : (n at : ℕ) → length s ≤ at → list_up_to what to (suc n) s at ≡ []
  unfolding list_up_to
  none_left n at h = rw (get_or-eq_default s 0 h)

  -- more fuel than bytes makes no difference
  enough : (n m at : ℕ) → length s ≤ at + n → length s ≤ at + m → list_up_to what to n s at ≡ list_up_to what to m s at
  unfolding list_up_to
  enough zero zero at h k = refl
  enough zero (suc m) at h k = sym (none_left m at (omega arith))
  enough (suc n) zero at h k = none_left n at (omega arith)
  enough (suc n) (suc m) at h k = step_same n m at (enough n m (to s (at + 1)) (omega (arith, onward (at + 1))) (omega (arith, onward (at + 1))))

  -- where a space stands, an item and what comes behind it
  pub walk_more : (at : ℕ) → get_or s at 0 ≡ 32 → list_at what to s at ≡ what s (at + 1) ∷ list_at what to s (to s (at + 1))
  unfolding list_at list_up_to
  walk_more at h = enough (length s) (suc (length s)) at (omega arith) (omega arith) ∙ rw (eq-eqb _ _ h)

  -- elsewhere none
  pub walk_stop : (at : ℕ) → (get_or s at 0 ≡ 32 → ⊥) → list_at what to s at ≡ []
  unfolding list_at list_up_to
  walk_stop at h = enough (length s) (suc (length s)) at (omega arith) (omega arith) ∙ rw (ne_eqb _ _ h)

-- ---- what a reader of a list read is what stands there

module _ (to : List ℕ → ℕ → ℕ) (s : List ℕ) (onward : (at : ℕ) → at ≤ to s at) where
  -- where a space stands, the list ends where its rest ends
  pub walk_end_more : (at : ℕ) → get_or s at 0 ≡ 32 → list_end_at to s at ≡ list_end_at to s (to s (at + 1))
  unfolding list_end_at last_or
  walk_end_more at h = ap (last_or at) (walk_more to to s onward at h)

  -- elsewhere here
  pub walk_end_stop : (at : ℕ) → (get_or s at 0 ≡ 32 → ⊥) → list_end_at to s at ≡ at
  unfolding list_end_at last_or
  walk_end_stop at h = ap (last_or at) (walk_stop to to s onward at h)

module _ {A : Type 0} (what : List ℕ → ℕ → A) (to : List ℕ → ℕ → ℕ) (s : List ℕ) (R : Reader A) (p : Finds s R (what s) (to s)) where
  -- the position behind a space is the next one, where a space stands
  one_on : (n at : ℕ) (t : Bool) (xs : List A) (l : Left) → eqb (get_or s at 0) 32 ≡ t
      → (xs ≡ cond (eqb (get_or s at 0) 32) (what s (past 32 s at) ∷ list_up_to what to n s (to s (past 32 s at))) []) × (l ≡ from s (cond (eqb (get_or s at 0) 32) (last_or (to s (past 32 s at)) (list_up_to to to n s (to s (past 32 s at)))) at))
      → (xs ≡ list_up_to what to (suc n) s at) × (l ≡ from s (last_or at (list_up_to to to (suc n) s at)))
  unfolding list_up_to last_or
  one_on n at true xs l e h = rw e (rw (e, past_here 32 s at (λ z. absurd (omega arith)) (eqb-true _ _ e)) at h)
  one_on n at false xs l e h = rw e (rw e at h)

  finds_up_to : (n : ℕ) → Finds s (up_to n R) (list_up_to what to n s) (λ at. last_or at (list_up_to to to n s at))
  unfolding up_to list_up_to last_or
  finds_up_to zero = finds_give s []
  finds_up_to (suc n) = record {
    found = λ at xs l h. one_on n at (eqb (get_or s at 0) 32) xs l refl
        ((finds_if (finds_bind (finds_next p) (λ x. up_to n R >>= (λ ys. give (x ∷ ys))) (λ x. finds_bind (finds_up_to n) (λ ys. give (x ∷ ys)) (λ ys. finds_give s (x ∷ ys)))) 32 (finds_give s [])).found at xs l h);
  }

  pub walk_many : ((at : ℕ) → at ≤ to s at) → (at : ℕ) (xs : List A) (l : Left) → many R (from s at) ≡ some (xs, l) → (xs ≡ list_at what to s at) × (l ≡ from s (list_end_at to s at))
  unfolding many list_at list_end_at
  walk_many onward at xs l h =
      let f = (finds_up_to (length (drop at s))).found at xs l h in
      let fuel : length s ≤ at + length (drop at s) = omega (arith, length-drop at s) in
      let e = enough what to s onward (length (drop at s)) (length s) at fuel (omega arith) in
      let g = enough to to s onward (length (drop at s)) (length s) at fuel (omega arith) in
      (f.0 ∙ e, f.1 ∙ ap (λ (es : List ℕ). from s (last_or at es)) g)

-- a list of what is made of each item
pub walk_map : {A B : Type 0} (what : List ℕ → ℕ → A) (to : List ℕ → ℕ → ℕ) (f : A → B) (s : List ℕ) (at : ℕ) → map f (list_at what to s at) ≡ list_at (λ s at. f (what s at)) to s at
unfolding list_at list_up_to
walk_map {A} {B} what to f s at = go (length s) at
  where
    here : (n at : ℕ) (t : Bool) → map f (list_up_to what to n s (to s (at + 1))) ≡ list_up_to (λ s at. f (what s at)) to n s (to s (at + 1))
        → map f (cond t (what s (at + 1) ∷ list_up_to what to n s (to s (at + 1))) []) ≡ cond t (f (what s (at + 1)) ∷ list_up_to (λ s at. f (what s at)) to n s (to s (at + 1))) []
    here n at true h = ap (λ (ys : List B). f (what s (at + 1)) ∷ ys) h
    here n at false h = refl

    go : (n at : ℕ) → map f (list_up_to what to n s at) ≡ list_up_to (λ s at. f (what s at)) to n s at
    go zero at = refl
    go (suc n) at = here n at (eqb (get_or s at 0) 32) (go n (to s (at + 1)))

-- ---- every item ends behind its start, and not past the end of the text

module _ (s : List ℕ) (at : ℕ) where
  second_onward : at ≤ second_in s at
  unfolding second_in first_in
  second_onward = omega (arith, past_forward 40 s at, next_forward s (past 40 s at))

  second_within : at ≤ length s → second_in s at ≤ length s
  unfolding second_in first_in
  second_within h = next_within s (past 40 s at) (past_within 40 s at h)

  pub pair_onward : at ≤ pair_end_at s at
  unfolding pair_end_at
  pair_onward = omega (arith, second_onward, word_forward s (second_in s at), past_forward 41 s (word_end_at s (second_in s at)))

  pub pair_within : at ≤ length s → pair_end_at s at ≤ length s
  unfolding pair_end_at
  pair_within h = past_within 41 s (word_end_at s (second_in s at)) (word_within s (second_in s at) (second_within h))

  pub triple_onward : at ≤ triple_end_at s at
  unfolding triple_end_at third_in
  triple_onward = omega (arith, second_onward, next_forward s (second_in s at), word_forward s (next_word s (second_in s at)), past_forward 41 s (word_end_at s (next_word s (second_in s at))))

  pub triple_within : at ≤ length s → triple_end_at s at ≤ length s
  unfolding triple_end_at third_in
  triple_within h = past_within 41 s (word_end_at s (next_word s (second_in s at))) (word_within s (next_word s (second_in s at)) (next_within s (second_in s at) (second_within h)))

  pub first_onward : at ≤ first_in s at
  unfolding first_in
  first_onward = past_forward 40 s at

  pub first_within : at ≤ length s → first_in s at ≤ length s
  unfolding first_in
  first_within h = past_within 40 s at h

  -- the label of `(v L)` stands behind its value
  pub label_onward : at ≤ cell_label_in s at
  unfolding cell_label_in
  label_onward = omega (arith, first_onward, value_onward s (first_in s at), past_forward 32 s (written_end_at s (first_in s at)))

  pub label_within : at ≤ length s → cell_label_in s at ≤ length s
  unfolding cell_label_in
  label_within h = past_within 32 s (written_end_at s (first_in s at)) (value_within s (first_in s at) (first_within h))

  pub cell_onward : at ≤ cell_end_at s at
  unfolding cell_end_at
  cell_onward = omega (arith, label_onward, word_forward s (cell_label_in s at), past_forward 41 s (word_end_at s (cell_label_in s at)))

  pub cell_within : at ≤ length s → cell_end_at s at ≤ length s
  unfolding cell_end_at
  cell_within h = past_within 41 s (word_end_at s (cell_label_in s at)) (word_within s (cell_label_in s at) (label_within h))

  pub place_onward : at ≤ value_place s at
  unfolding value_place
  place_onward = go (is_labelled_at s at)
    where
      go : (t : Bool) → at ≤ cond t (first_in s at) at
      go true = first_onward
      go false = omega arith

  pub place_within : at ≤ length s → value_place s at ≤ length s
  unfolding value_place
  place_within h = go (is_labelled_at s at)
    where
      go : (t : Bool) → cond t (first_in s at) at ≤ length s
      go true = first_within h
      go false = h

  pub item_onward : at ≤ item_end_at s at
  unfolding item_end_at
  item_onward = go (is_labelled_at s at)
    where
      go : (t : Bool) → at ≤ cond t (cell_end_at s at) (written_end_at s at)
      go true = cell_onward
      go false = value_onward s at

  pub item_within : at ≤ length s → item_end_at s at ≤ length s
  unfolding item_end_at
  item_within h = go (is_labelled_at s at)
    where
      go : (t : Bool) → cond t (cell_end_at s at) (written_end_at s at) ≤ length s
      go true = cell_within h
      go false = value_within s at h

-- ---- what each reader of an item reads

pub finds_name : (s : List ℕ) → Finds s name (word_of s) (word_end_at s)
finds_name s = finds_word s is_name

finds_value : (s : List ℕ) → Finds s value (word_of s) (word_end_at s)
finds_value s = finds_word s is_value

pub finds_kind : (s : List ℕ) → Finds s (keyword kinds) (kind_at s) (word_end_at s)
unfolding keyword kinds among is_called kind_at
finds_kind s = finds_bind (finds_run s) (among kinds) (λ w. record { found = λ at k l h. go (same_name w.bytes (ascii "num")) (same_name w.bytes (ascii "name")) at k l h })
  where
    go : (t u : Bool) (at : ℕ) (k : Kind) (l : Left) → cond t (give numbers) (cond u (give names) refuse) (from s at) ≡ some (k, l) → (k ≡ cond t numbers names) × (l ≡ from s at)
    go true u at k l h = (finds_give s numbers).found at k l h
    go false true at k l h = (finds_give s names).found at k l h
    go false false at k l h = not_read (k, l) h

pub finds_given : (s : List ℕ) → Finds s given_form (given_at s) (pair_end_at s)
unfolding given_form given_at pair_end_at first_in second_in next_word
finds_given s = finds_bracketed (finds_bind (finds_name s) _ (λ a. finds_bind (finds_next (finds_value s)) _ (λ v. finds_give s (record { attribute = a; value = v }))))

finds_column_kind : (s : List ℕ) → Finds s (keyword column_kinds) (column_kind_at s) (word_end_at s)
unfolding keyword column_kinds among is_called column_kind_at word_end_at
finds_column_kind s = record { found = λ at k l h. go at k l (same_name (word_at s at) (ascii "date")) (rw (word_always s at) at h) }
  where
    go : (at : ℕ) (k : Kind) (l : Left) (t : Bool) → cond t (give dates) (among kinds (word_of s at)) (from s (word_end_at s at)) ≡ some (k, l) → (k ≡ cond t dates (kind_at s at)) × (l ≡ from s (word_end_at s at))
    go at k l true h = (finds_give s dates).found (word_end_at s at) k l h
    go at k l false h = (finds_kind s).found at k l (unfold keyword in (rw (word_always s at) h))

finds_column_body : (s : List ℕ) → Finds s column_body (λ at. record { name = word_of s at; kind = column_kind_at s (next_word s at) }) (λ at. word_end_at s (next_word s at))
unfolding column_body next_word
finds_column_body s = finds_bind (finds_name s) _ (λ c. finds_bind (finds_next (finds_column_kind s)) _ (λ k. finds_give s (record { name = c; kind = k })))

pub finds_column : (s : List ℕ) → Finds s column (column_at s) (pair_end_at s)
unfolding column column_at pair_end_at first_in second_in
finds_column s = finds_bracketed (finds_column_body s)

pub finds_labelled_column : (s : List ℕ) → Finds s labelled_column (λ at. (column_at s at, column_label_at s at)) (triple_end_at s)
unfolding labelled_column column_at column_label_at triple_end_at first_in second_in third_in next_word
finds_labelled_column s = finds_bracketed (finds_bind (finds_column_body s) _ (λ c. finds_bind (finds_next (finds_name s)) _ (λ l. finds_give s (c, l))))

-- ---- an item of a row: a value, or else `(v L)`

pub item_value : (l : Left) → there (cell_value l) ≡ true → item l ≡ plain_item l
unfolding item
item_value l h = rw h

pub item_labelled : (l : Left) → there (cell_value l) ≡ false → item l ≡ labelled_item l
unfolding item
item_labelled l h = rw h

finds_plain_item : (s : List ℕ) → Finds s plain_item (λ at. plain (written_of s at)) (written_end_at s)
unfolding plain_item
finds_plain_item s = finds_bind (finds_cell_value s) _ (λ v. finds_give s (plain v))

finds_labelled_item : (s : List ℕ) → Finds s labelled_item (λ at. labelled (written_of s (first_in s at)) (word_of s (cell_label_in s at))) (cell_end_at s)
unfolding labelled_item cell_end_at cell_label_in first_in
finds_labelled_item s = finds_bracketed (finds_bind (finds_cell_value s) _ (λ v. finds_bind (finds_next (finds_name s)) _ (λ l. finds_give s (labelled v l))))

module _ (s : List ℕ) (at : ℕ) where
  -- where no bracket opens, and where a value is read, there is no `(v L)`
  pub unopened_unlabelled : (get_or s at 0 ≡ 40 → ⊥) → is_labelled_at s at ≡ false
  unfolding is_labelled_at
  unopened_unlabelled h = rw (ne_eqb _ _ h)

  pub value_unlabelled : there (cell_value (from s at)) ≡ true → is_labelled_at s at ≡ false
  unfolding is_labelled_at
  value_unlabelled h = go (eqb (get_or s at 0) 40)
    where
      go : (t : Bool) → (t && not (there (cell_value (from s at)))) ≡ false
      go true = rw h
      go false = refl

  -- where a bracket opens and none is read there is one
  pub bracket_labelled : get_or s at 0 ≡ 40 → there (cell_value (from s at)) ≡ false → is_labelled_at s at ≡ true
  unfolding is_labelled_at
  bracket_labelled h k = rw (h, k)

  -- a bracket opens where `(v L)` is read
  pub labelled_opens : (i : Item) (l : Left) → labelled_item (from s at) ≡ some (i, l) → get_or s at 0 ≡ 40
  unfolding labelled_item bracketed
  labelled_opens i l h = go (eqb (get_or s at 0) 40) refl
    where
      go : (t : Bool) → eqb (get_or s at 0) 40 ≡ t → get_or s at 0 ≡ 40
      go true k = eqb-true _ _ k
      go false k = not_read (i, l) (rw (byte_at_refused s at 40 (eqb-false _ _ k)) at h)

pub finds_item : (s : List ℕ) → Finds s item (item_at s) (item_end_at s)
unfolding item_at item_end_at
finds_item s = record { found = λ at i l h. go at i l (there (cell_value (from s at))) refl h }
  where
    go : (at : ℕ) (i : Item) (l : Left) (t : Bool) → there (cell_value (from s at)) ≡ t → item (from s at) ≡ some (i, l) → (i ≡ item_at s at) × (l ≡ from s (item_end_at s at))
    go at i l true k h =
        let g = (finds_plain_item s).found at i l (sym (item_value (from s at) k) ∙ h) in
        rw (value_unlabelled s at k) g
    go at i l false k h =
        let r = sym (item_labelled (from s at) k) ∙ h in
        let g = (finds_labelled_item s).found at i l r in
        rw (bracket_labelled s at (labelled_opens s at i l r) k) g

-- ---- the lists

module _ (s : List ℕ) (at : ℕ) where
  pub names_walk : (ws : List Word) (l : Left) → many name (from s at) ≡ some (ws, l) → ws ≡ names_at s at
  unfolding names_at
  names_walk ws l h = (walk_many word_of word_end_at s name (finds_name s) (word_forward s) at ws l h).0

  pub givens_walk : (gs : List GivenForm) (l : Left) → many given_form (from s at) ≡ some (gs, l) → gs ≡ givens_at s at
  unfolding givens_at
  givens_walk gs l h = (walk_many given_at pair_end_at s given_form (finds_given s) (pair_onward s) at gs l h).0

  pub columns_walk : (cs : List ColumnForm) (l : Left) → many column (from s at) ≡ some (cs, l) → cs ≡ column_forms_at s at
  unfolding column_forms_at
  columns_walk cs l h = (walk_many column_at pair_end_at s column (finds_column s) (pair_onward s) at cs l h).0

  pub labelled_columns_walk : (cs : List (ColumnForm × Word)) (l : Left) → many labelled_column (from s at) ≡ some (cs, l) → (map (λ x. x.0) cs ≡ labelled_columns_at s at) × (map (λ x. x.1) cs ≡ column_labels_at s at)
  unfolding labelled_columns_at column_labels_at
  labelled_columns_walk cs l h =
      let pair_at : List ℕ → ℕ → ColumnForm × Word = λ s at. (column_at s at, column_label_at s at) in
      let e = (walk_many pair_at triple_end_at s labelled_column (finds_labelled_column s) (triple_onward s) at cs l h).0 in
      (ap (map (λ x. x.0)) e ∙ walk_map pair_at triple_end_at (λ x. x.0) s at, ap (map (λ x. x.1)) e ∙ walk_map pair_at triple_end_at (λ x. x.1) s at)

  pub items_walk : (is : List Item) (l : Left) → many item (from s at) ≡ some (is, l) → is ≡ items_at s at
  unfolding items_at
  items_walk is l h = (walk_many item_at item_end_at s item (finds_item s) (item_onward s) at is l h).0
