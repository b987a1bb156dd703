-- What the explaining tool says is so (02, Q-7): `(open)` exactly where the cell is open by the definition that asking uses; the printed D
-- is denied by the label meant, is ancestor or descendant of P, and none before it is; `(closed allow)` where none is and no allowed one is an
-- ancestor. Assumes nothing.
use Prim.Native.Nat.{◌+◌, ◌<◌, suc, zero, ℕ}
use borrow.Author.Tests.{lt-ltb}
use lib.ListN.{get_or, get_elem?, length, length-map}
use mathlib.Core.Bool.{Bool, ◌&&◌, ◌||◌, cond, false, not, true, true≢false}
use mathlib.Core.List.{List, [], ◌∷◌, map}
use mathlib.Core.Option
use mathlib.Core.Option.{Option, none-ne-some, some-injective, bind, none, some}
use mathlib.Core.Path.{◌∙◌, ◌≡◌, ap, refl, subst, sym}
use native.Mathlib.Omega.{arith}
use Rattle.answer.specs.Seen.{rows_in}
use Rattle.answer.specs.Why.{Reason, allows_none, cell_reason, column_in, denies, explain, is_opened, label_meant, label_reason, opened, purpose_in, reason_at, reason_by, reason_text, row_numbered, table_in, unknown_why, unlabelled_table, why}
use Rattle.document.proofs.Denials.{denials}
use Rattle.document.specs.Check.{Accepted, check}
use Rattle.document.specs.Invariants.{Denials}
use Rattle.document.specs.Lookup.{column_of, columns_of, labelling_at, purpose_of, table_of}
use Rattle.document.specs.NoteFaults.{is_nested}
use Rattle.document.specs.Open.{cell_open, label_open, open_to}
use Rattle.document.specs.Policy.{Doc, Label, Node, Policy, Row, tree_of}
use Rattle.form.specs.Form.{Scheme, by_cell, by_column, by_row, by_table, nested, unlabelled}
use Rattle.lists.proofs.ListLaws.{find_index_found, there_some}
use Rattle.lists.specs.Lists.{any_of, find_index, find_index_from, holds_of, or_zero, there}
use Rattle.purpose.specs.Compliance.{Marks, descends, in_tree, opens, related}
use Rattle.query.proofs.Below.{purpose_inside}
use Rattle.query.specs.WhyForm.{WhyForm, why_of}
use Rattle.text.proofs.OffendingLaws.{leftmost_head, leftmost_tail, offending_if_none, unless_none}
use Rattle.text.proofs.RefusalLaws.{accepted_same, bind_accepted, need_accepted, refuse_at_accepted, then_accepted}
use Rattle.text.specs.Names.{Name}
use Rattle.text.specs.Numbers.{magnitude}
use Rattle.text.specs.Refusal.{accepted, query}
use Rattle.text.specs.Words.{plain_word}

-- ---- the first that passes a test

module _ {A : Type 0} (f : A → Bool) where
  any_there : (n : ℕ) (xs : List A) → there (find_index_from n f xs) ≡ any_of f xs
  unfolding find_index_from any_of there
  any_there n [] = refl
  any_there n (x ∷ xs) = go (f x) (any_there (suc n) xs)
    where
      go : (b : Bool) → there (find_index_from (suc n) f xs) ≡ any_of f xs → there (cond b (some n) (find_index_from (suc n) f xs)) ≡ (b || any_of f xs)
      go true h = refl
      go false h = h

  none_before : (n : ℕ) (xs : List A) (k : ℕ) → find_index_from n f xs ≡ some k → (j : ℕ) (y : A) → n + j < k → get_elem? xs j ≡ some y → f y ≡ false
  unfolding find_index_from
  none_before n [] k e j y l g = absurd (none-ne-some _ e)
  none_before n (x ∷ xs) k e j y l g = go (none_before (suc n) xs k) (f x) refl e j l g
    where
      go : (find_index_from (suc n) f xs ≡ some k → (i : ℕ) (z : A) → suc n + i < k → get_elem? xs i ≡ some z → f z ≡ false)
          → (b : Bool) → f x ≡ b → cond b (some n) (find_index_from (suc n) f xs) ≡ some k → (j : ℕ) → n + j < k → get_elem? (x ∷ xs) j ≡ some y → f y ≡ false
      go ih true p e j l g = let same : n ≡ k = some-injective _ _ e in absurd (omega (arith, l, same))
      go ih false p e zero l g = ap f (sym (some-injective _ _ g)) ∙ p
      go ih false p e (suc j) l g = ih e j y (omega (arith, l)) g

  pub first_before : (xs : List A) (k : ℕ) → find_index f xs ≡ some k → (j : ℕ) (y : A) → j < k → get_elem? xs j ≡ some y → f y ≡ false
  unfolding find_index
  first_before xs k e j y l g = none_before 0 xs k e j y (omega (arith, l)) g

-- ---- open

opened_by : (names : List Name) (o : Option ℕ) (allows : Bool) → is_opened (reason_by names o allows) ≡ (allows && not (there o))
unfolding reason_by is_opened there
opened_by names none true = refl
opened_by names none false = refl
opened_by names (some i) true = refl
opened_by names (some i) false = refl

-- a label's reason is that it is open exactly where it is
label_opened : (tree : List ℕ) (p : ℕ) → in_tree tree p ≡ true → (l : Label) → is_opened (label_reason tree p l) ≡ opens tree l.marks p
unfolding label_reason opens find_index
label_opened tree p h l =
    opened_by l.denied_names (find_index_from 0 (related tree p) l.marks.denied) (any_of (descends tree p) l.marks.allowed)
    ∙ ap (λ (b : Bool). any_of (descends tree p) l.marks.allowed && not b) (any_there (related tree p) 0 l.marks.denied)
    ∙ ap (λ (b : Bool). b && (any_of (descends tree p) l.marks.allowed && not (any_of (related tree p) l.marks.denied))) (sym h)

module _ (d : Policy) (p : ℕ) (inside : in_tree (tree_of d.purposes) p ≡ true) where
  number_opened : (l : Option ℕ) → is_opened (reason_at d p l) ≡ label_open d p l
  unfolding reason_at label_open
  number_opened l = go (bind l (get_elem? d.labels))
    where
      go : (o : Option Label) → is_opened (Option.get_or (Option.map (label_reason (tree_of d.purposes) p) o) allows_none) ≡ holds_of (λ x. opens (tree_of d.purposes) x.marks p) o
      go none = unfold is_opened holds_of in refl
      go (some x) = unfold holds_of in label_opened (tree_of d.purposes) p inside x

  -- a cell's reason is that it is open exactly where it is
  pub cell_opened : (s : Scheme ℕ) → is_nested s ≡ false → (labels : List ℕ) (c : ℕ) → is_opened (cell_reason d p s labels c) ≡ cell_open (open_to d p) s labels c
  unfolding cell_reason cell_open is_nested
  cell_opened (unlabelled true) n labels c = unfold is_opened in refl
  cell_opened (unlabelled false) n labels c = unfold is_opened in refl
  cell_opened (by_table l) n labels c = number_opened (some l)
  cell_opened (by_column ls) n labels c = number_opened (get_elem? ls c)
  cell_opened by_row n labels c = number_opened (get_elem? labels 0)
  cell_opened by_cell n labels c = number_opened (get_elem? labels c)
  cell_opened (nested w s) n labels c = absurd (true≢false n)

-- ---- what is found for a line

-- the line is a why line of an accepted document; its purpose, table and column are known, its row is there and its table is no nest table;
-- the reason is that of the cell, and it is that the cell is open exactly where it is by the definition that asking uses
pub record Explained (doc line : List ℕ) (e : Reason) : Type 0 where
  pub checked : Accepted
  pub accepts : check doc ≡ accepted checked
  pub form : WhyForm
  pub is : why_of line ≡ some form
  pub is_purpose : purpose_of checked.doc.policy form.purpose ≡ some (purpose_in checked.doc.policy form)
  pub is_table : table_of checked.doc.policy form.table ≡ some (table_in checked.doc.policy form)
  pub is_column : column_of (columns_of checked.doc.policy form.table) form.column ≡ some (column_in checked.doc.policy form)
  pub row : Row
  pub is_row : row_numbered checked.doc (table_in checked.doc.policy form) form.row ≡ some row
  pub unnested : is_nested (labelling_at checked.doc.policy (table_in checked.doc.policy form)) ≡ false
  pub reason : e ≡ cell_reason checked.doc.policy (purpose_in checked.doc.policy form) (labelling_at checked.doc.policy (table_in checked.doc.policy form)) row.labels (column_in checked.doc.policy form)
  pub open? : is_opened e ≡ cell_open (open_to checked.doc.policy (purpose_in checked.doc.policy form)) (labelling_at checked.doc.policy (table_in checked.doc.policy form)) row.labels (column_in checked.doc.policy form)

-- WHY: whatever the tool finds for a line, it says `(open)` exactly where the cell is open.
pub why_explained : (doc line : List ℕ) (e : Reason) → why doc line ≡ accepted e → Explained doc line e
unfolding why explain unknown_why
why_explained doc line e h =
    let a = bind_accepted (check doc) _ e h in
    let w = bind_accepted _ _ e a.2 in
    let h23 = then_accepted _ _ _ w.2 in
    let r = bind_accepted _ _ _ h23.2 in
    let h26 = then_accepted _ _ _ r.2 in
    let d : Policy = a.0.doc.policy in
    let u = refuse_at_accepted 23 query _ h23.1 in
    let p = there_some (purpose_of d w.0.purpose) (unless_none _ w.0.purpose (leftmost_head _ _ u)) in
    let t = there_some (table_of d w.0.table) (unless_none _ w.0.table (leftmost_head _ _ (leftmost_tail _ _ u))) in
    let c = there_some (column_of (columns_of d w.0.table) w.0.column) (unless_none _ w.0.column (leftmost_head _ _ (leftmost_tail _ _ (leftmost_tail _ _ u)))) in
    let n = offending_if_none _ w.0.table (refuse_at_accepted 26 query _ h26.1) in
    let same : e ≡ cell_reason d (purpose_in d w.0) (labelling_at d (table_in d w.0)) r.0.labels (column_in d w.0) = sym (accepted_same h26.2) in
    record {
      checked = a.0;
      accepts = a.1;
      form = w.0;
      is = need_accepted _ _ _ w.1;
      is_purpose = p;
      is_table = t;
      is_column = c;
      row = r.0;
      is_row = need_accepted _ _ _ r.1;
      unnested = n;
      reason = same;
      open? = ap is_opened same ∙ cell_opened d (purpose_in d w.0) (inside d (purpose_in d w.0) (purpose_inside d w.0.purpose (purpose_in d w.0) p)) (labelling_at d (table_in d w.0)) n r.0.labels (column_in d w.0);
    }
  where
    inside : (d : Policy) (p : ℕ) → p < length d.purposes → in_tree (tree_of d.purposes) p ≡ true
    inside d p l = unfold tree_of in lt-ltb p (length (map (λ (n : Node). n.parent) d.purposes)) (rw (length-map d.purposes) l)

-- ---- reasons apart

-- a number for each kind of reason
unfoldable tag : Reason → ℕ
tag opened = 0
tag (denies n) = 1
tag allows_none = 2
tag unlabelled_table = 3

-- the name in a reason
unfoldable name_in : Reason → Name
name_in opened = []
name_in (denies n) = n
name_in allows_none = []
name_in unlabelled_table = []

-- what is printed is `(open)` for this reason alone: the byte behind the bracket tells
pub printed_open : (e : Reason) → reason_text e ≡ reason_text opened → is_opened e ≡ true
unfolding reason_text is_opened
printed_open opened h = refl
printed_open (denies n) h = let other : ◌≡◌ {A = ℕ} 99 111 = ap (λ (bs : List ℕ). get_or bs 1 0) h in absurd (omega (arith, other))
printed_open allows_none h = let other : ◌≡◌ {A = ℕ} 99 111 = ap (λ (bs : List ℕ). get_or bs 1 0) h in absurd (omega (arith, other))
printed_open unlabelled_table h = let other : ◌≡◌ {A = ℕ} 99 111 = ap (λ (bs : List ℕ). get_or bs 1 0) h in absurd (omega (arith, other))

-- ---- closed by what

-- the label denies the purpose named D, which is ancestor or descendant of p, and none before it in the label's order is
pub record DeniesFirst (d : Policy) (p : ℕ) (l : Label) (D : Name) : Type 0 where
  pub place : ℕ
  pub purpose : ℕ
  pub denied : get_elem? l.marks.denied place ≡ some purpose
  pub named : purpose_of d (plain_word D) ≡ some purpose
  pub near : related (tree_of d.purposes) p purpose ≡ true
  pub first : (j n : ℕ) → j < place → get_elem? l.marks.denied j ≡ some n → related (tree_of d.purposes) p n ≡ false

-- the label denies no ancestor and no descendant of p, and allows no ancestor
pub record AllowsNone (d : Policy) (p : ℕ) (l : Label) : Type 0 where
  pub undenied : any_of (related (tree_of d.purposes) p) l.marks.denied ≡ false
  pub unallowed : any_of (descends (tree_of d.purposes) p) l.marks.allowed ≡ false

-- the reason names a purpose where one was found, and else that nothing is allowed where nothing is
denies_found : (names : List Name) (o : Option ℕ) (allows : Bool) (D : Name) → reason_by names o allows ≡ denies D → (i : ℕ) × (o ≡ some i) × (get_or names i [] ≡ D)
unfolding reason_by tag name_in
denies_found names (some i) allows D h = (i, refl, ap name_in h)
denies_found names none true D h = let other : ◌≡◌ {A = ℕ} 0 1 = ap tag h in absurd (omega (arith, other))
denies_found names none false D h = let other : ◌≡◌ {A = ℕ} 2 1 = ap tag h in absurd (omega (arith, other))

allows_found : (names : List Name) (o : Option ℕ) (allows : Bool) → reason_by names o allows ≡ allows_none → (there o ≡ false) × (allows ≡ false)
unfolding reason_by tag there
allows_found names (some i) allows h = let other : ◌≡◌ {A = ℕ} 1 2 = ap tag h in absurd (omega (arith, other))
allows_found names none true h = let other : ◌≡◌ {A = ℕ} 0 2 = ap tag h in absurd (omega (arith, other))
allows_found names none false h = (refl, refl)

found_there : {A : Type 0} (f : A → Bool) (o : Option A) → holds_of f o ≡ true → (x : A) × (o ≡ some x) × (f x ≡ true)
unfolding holds_of
found_there f none h = absurd (true≢false (sym h))
found_there f (some x) h = (x, refl, h)

label_bound : (ls : List Label) (l : Option ℕ) (x : Label) → bind l (get_elem? ls) ≡ some x → (k : ℕ) × (l ≡ some k) × (get_elem? ls k ≡ some x)
unfolding bind
label_bound ls none x h = absurd (none-ne-some _ h)
label_bound ls (some k) x h = (k, refl, h)

module _ (d : Policy) (p : ℕ) where
  -- the reason is a label's, the one meant
  reason_meant : (s : Scheme ℕ) (labels : List ℕ) (c : ℕ) (e : Reason) → tag e ≡ 1 → cell_reason d p s labels c ≡ e → reason_at d p (label_meant s labels c) ≡ e
  unfolding cell_reason label_meant tag
  reason_meant (unlabelled true) labels c e t h = let other : ◌≡◌ {A = ℕ} 0 1 = ap tag h ∙ t in absurd (omega (arith, other))
  reason_meant (unlabelled false) labels c e t h = let other : ◌≡◌ {A = ℕ} 3 1 = ap tag h ∙ t in absurd (omega (arith, other))
  reason_meant (by_table l) labels c e t h = h
  reason_meant (by_column ls) labels c e t h = h
  reason_meant by_row labels c e t h = h
  reason_meant by_cell labels c e t h = h
  reason_meant (nested w s) labels c e t h = let other : ◌≡◌ {A = ℕ} 2 1 = ap tag h ∙ t in absurd (omega (arith, other))

  -- the label is there
  reason_label : (l : Option ℕ) (D : Name) → reason_at d p l ≡ denies D → (x : Label) × (bind l (get_elem? d.labels) ≡ some x) × (label_reason (tree_of d.purposes) p x ≡ denies D)
  unfolding reason_at tag
  reason_label l D h = go (bind l (get_elem? d.labels)) h
    where
      go : (o : Option Label) → Option.get_or (Option.map (label_reason (tree_of d.purposes) p) o) allows_none ≡ denies D → (x : Label) × (o ≡ some x) × (label_reason (tree_of d.purposes) p x ≡ denies D)
      go none h = let other : ◌≡◌ {A = ℕ} 2 1 = unfold tag in ap tag h in absurd (omega (arith, other))
      go (some x) h = (x, refl, h)

  denies_first : Denials d → (k : ℕ) (x : Label) → get_elem? d.labels k ≡ some x → (D : Name) → label_reason (tree_of d.purposes) p x ≡ denies D → DeniesFirst d p x D
  unfolding label_reason
  denies_first named k x g D h =
      let i = denies_found x.denied_names (find_index (related (tree_of d.purposes) p) x.marks.denied) (any_of (descends (tree_of d.purposes) p) x.marks.allowed) D h in
      let w = found_there _ _ (find_index_found (related (tree_of d.purposes) p) x.marks.denied i.0 i.1).0 in
      record {
        place = i.0;
        purpose = w.0;
        denied = w.1;
        named = ap (λ (n : Name). purpose_of d (plain_word n)) (sym i.2) ∙ (named.each k x g).named i.0 w.0 w.1;
        near = w.2;
        first = first_before (related (tree_of d.purposes) p) x.marks.denied i.0 i.1;
      }

-- DENY: where the tool says `(closed deny D)`, the label meant denies D, D is ancestor or descendant of P, and none before it is.
pub why_denies : (doc line : List ℕ) (D : Name) → why doc line ≡ accepted (denies D) → (x : Explained doc line (denies D))
    × (k : ℕ) × (l : Label)
    × (label_meant (labelling_at x.checked.doc.policy (table_in x.checked.doc.policy x.form)) x.row.labels (column_in x.checked.doc.policy x.form) ≡ some k)
    × (get_elem? x.checked.doc.policy.labels k ≡ some l)
    × DeniesFirst x.checked.doc.policy (purpose_in x.checked.doc.policy x.form) l D
unfolding tag
why_denies doc line D h =
    let x = why_explained doc line (denies D) h in
    let d : Policy = x.checked.doc.policy in
    let p : ℕ = purpose_in d x.form in
    let s : Scheme ℕ = labelling_at d (table_in d x.form) in
    let c : ℕ = column_in d x.form in
    let r = reason_label d p (label_meant s x.row.labels c) D (reason_meant d p s x.row.labels c (denies D) refl (sym x.reason)) in
    let k = label_bound d.labels (label_meant s x.row.labels c) r.0 r.1 in
    (x, k.0, r.0, k.1, k.2, denies_first d p (denials doc x.checked x.accepts) k.0 r.0 k.2 D r.2)

-- ALLOW: where a label's reason is that it allows none, it denies no ancestor and no descendant of P, and allows no ancestor.
pub allows_none_lem : (d : Policy) (p : ℕ) (l : Label) → label_reason (tree_of d.purposes) p l ≡ allows_none → AllowsNone d p l
unfolding label_reason find_index
allows_none_lem d p l h =
    let e = allows_found l.denied_names (find_index_from 0 (related (tree_of d.purposes) p) l.marks.denied) (any_of (descends (tree_of d.purposes) p) l.marks.allowed) h in
    record { undenied = sym (any_there (related (tree_of d.purposes) p) 0 l.marks.denied) ∙ e.0; unallowed = e.1 }

-- where the label meant has a number, the reason is that label's
cell_meant : (d : Policy) (p : ℕ) (s : Scheme ℕ) (labels : List ℕ) (c k : ℕ) → label_meant s labels c ≡ some k → cell_reason d p s labels c ≡ reason_at d p (some k)
unfolding cell_reason label_meant
cell_meant d p (unlabelled b) labels c k e = absurd (none-ne-some _ e)
cell_meant d p (by_table l) labels c k e = ap (reason_at d p) e
cell_meant d p (by_column ls) labels c k e = ap (reason_at d p) e
cell_meant d p by_row labels c k e = ap (reason_at d p) e
cell_meant d p by_cell labels c k e = ap (reason_at d p) e
cell_meant d p (nested w s) labels c k e = absurd (none-ne-some _ e)

-- The same for a line: where the tool says `(closed allow)`, so it is with the label meant.
pub why_allows : (doc line : List ℕ) → why doc line ≡ accepted allows_none → (x : Explained doc line allows_none)
    × ((k : ℕ) (l : Label) → label_meant (labelling_at x.checked.doc.policy (table_in x.checked.doc.policy x.form)) x.row.labels (column_in x.checked.doc.policy x.form) ≡ some k
    → get_elem? x.checked.doc.policy.labels k ≡ some l → AllowsNone x.checked.doc.policy (purpose_in x.checked.doc.policy x.form) l)
unfolding reason_at bind
why_allows doc line h =
    let x = why_explained doc line allows_none h in
    let d : Policy = x.checked.doc.policy in
    let p : ℕ = purpose_in d x.form in
    let s : Scheme ℕ = labelling_at d (table_in d x.form) in
    let c : ℕ = column_in d x.form in (
      x,
      λ k l e g. allows_none_lem d p l (
          ap (λ (o : Option Label). Option.get_or (Option.map (label_reason (tree_of d.purposes) p) o) allows_none) (sym g)
          ∙ sym (cell_meant d p s x.row.labels c k e) ∙ sym x.reason),
    )

-- a label's reason is never that there are no labels
never_unlabelled : (d : Policy) (p : ℕ) (l : Option ℕ) → tag (reason_at d p l) ≡ 3 → ⊥
unfolding reason_at label_reason
never_unlabelled d p l h = go (bind l (get_elem? d.labels)) h
  where
    by : (names : List Name) (o : Option ℕ) (b : Bool) → tag (reason_by names o b) ≡ 3 → ⊥
    by names (some i) b h = let other : ◌≡◌ {A = ℕ} 1 3 = unfold reason_by tag in h in omega (arith, other)
    by names none true h = let other : ◌≡◌ {A = ℕ} 0 3 = unfold reason_by tag in h in omega (arith, other)
    by names none false h = let other : ◌≡◌ {A = ℕ} 2 3 = unfold reason_by tag in h in omega (arith, other)

    go : (o : Option Label) → tag (Option.get_or (Option.map (label_reason (tree_of d.purposes) p) o) allows_none) ≡ 3 → ⊥
    go none h = let other : ◌≡◌ {A = ℕ} 2 3 = unfold tag in h in omega (arith, other)
    go (some x) h = unfold label_reason in by x.denied_names (find_index (related (tree_of d.purposes) p) x.marks.denied) (any_of (descends (tree_of d.purposes) p) x.marks.allowed) h

-- NONE: where the tool says `(closed none)`, the table has no labels and is not declared public.
pub why_unlabelled : (doc line : List ℕ) → why doc line ≡ accepted unlabelled_table → (x : Explained doc line unlabelled_table)
    × (labelling_at x.checked.doc.policy (table_in x.checked.doc.policy x.form) ≡ unlabelled false)
why_unlabelled doc line h =
    let x = why_explained doc line unlabelled_table h in
    let d : Policy = x.checked.doc.policy in
    (x, scheme d (purpose_in d x.form) (labelling_at d (table_in d x.form)) x.row.labels (column_in d x.form) (sym x.reason))
  where
    scheme : (d : Policy) (p : ℕ) (s : Scheme ℕ) (labels : List ℕ) (c : ℕ) → cell_reason d p s labels c ≡ unlabelled_table → s ≡ unlabelled false
    scheme d p (unlabelled false) labels c e = refl
    scheme d p (unlabelled true) labels c e = let other : ◌≡◌ {A = ℕ} 0 3 = unfold cell_reason tag in ap tag e in absurd (omega (arith, other))
    scheme d p (by_table l) labels c e = unfold cell_reason tag in absurd (never_unlabelled d p (some l) (ap tag e))
    scheme d p (by_column ls) labels c e = unfold cell_reason tag in absurd (never_unlabelled d p (get_elem? ls c) (ap tag e))
    scheme d p by_row labels c e = unfold cell_reason tag in absurd (never_unlabelled d p (get_elem? labels 0) (ap tag e))
    scheme d p by_cell labels c e = unfold cell_reason tag in absurd (never_unlabelled d p (get_elem? labels c) (ap tag e))
    scheme d p (nested w s) labels c e = let other : ◌≡◌ {A = ℕ} 2 3 = unfold cell_reason tag in ap tag e in absurd (omega (arith, other))
