-- A line that is read as a row form is that form written out: `(row`, in any case of letters, then the table and the items, each
-- behind a space, and `)`. Assumes nothing.
use Prim.Native.Nat.{ℕ}
use mathlib.Core.Bool.{false, true}
use mathlib.Core.List.{List, [], ◌++◌, ◌∷◌, append_assoc, append-nil, map}
use mathlib.Core.Option.{some}
use mathlib.Core.Path.{◌∙◌, ◌≡◌, ap, refl, subst, subst₂, sym}
use native.Mathlib.Omega.{arith}
use Rattle.form.proofs.FormForward.{forward_attr, forward_cond_role, forward_grant, forward_label, forward_label_note, forward_node, forward_public, forward_table, forward_user}
use Rattle.form.proofs.RowBack.{bracket_append, is_item, item_text, row_bytes, row_text_bytes}
use Rattle.form.proofs.RowLength.{Never, never_attr, never_cond_role, never_grant, never_label, never_label_note, never_node, never_public, never_table, never_user, row_cost}
use Rattle.form.proofs.WalkLaws.{bracket_labelled, item_labelled, labelled_opens}
use Rattle.form.specs.Form.{Form, Item, Scheme, labelled, plain, purpose, role, row, strong, weak}
use Rattle.form.specs.FormReader.{form, form_of, item, labelled_item, line_forms, plain_item, row_form}
use Rattle.form.specs.RowText.{bracket_text, keyword_in, row_text, spaced}
use Rattle.form.specs.Walks.{is_labelled_at}
use Rattle.lists.proofs.Tests.{and_both}
use Rattle.lists.specs.Lists.{all_of, there}
use Rattle.text.proofs.ByteLaws.{run_stops}
use Rattle.calendar.proofs.CellValues.{cell_value_fails, prints_cell_value}
use Rattle.text.proofs.ReadBack.{left}
use Rattle.text.proofs.Forward.{Forward}
use Rattle.text.proofs.Written.{Printed, Spells, print_all, prints_bind, prints_many, prints_next, spells_bracketed, spells_cond, spells_forward, spells_give, spells_keyword, spells_whole, spells_word_that}
use Rattle.calendar.specs.CellValues.{cell_value, is_cell_value}
use Rattle.text.specs.Brackets.{keyword, many, next}
use Rattle.text.specs.Bytes.{ascii, is_digit, is_letter, is_name_byte}
use Rattle.text.specs.Names.{Name, is_name, same_name}
use Rattle.text.specs.Numbers.{Value}
use Rattle.text.specs.Reader.{Left, Reader, from}
use Rattle.text.specs.Words.{Word, name}

-- the line is the row form written out behind the keyword k, its table is a name, and its items are values and names
pub record RowWritten (line : List ℕ) (k : Name) (t : Word) (is : List Item) : Type 0 where
  pub is_row : same_name k (ascii "row") ≡ true
  pub is_table : is_name t.bytes ≡ true
  pub are_items : all_of is_item is ≡ true
  pub written : line ≡ 40 ∷ (k ++ 32 ∷ (t.bytes ++ (spaced (map item_text is) ++ 41 ∷ [])))

-- ---- items

prints_name : Spells (Printed (λ w. 32 ∷ w.bytes) (λ w. is_name w.bytes)) (next name)
prints_name = prints_next (λ w. w.bytes) (λ w. is_name w.bytes) name (spells_word_that is_name)

prints_labelled_item : Spells (Printed item_text is_item) labelled_item
unfolding labelled_item item_text is_item bracket_text
prints_labelled_item =
    spells_bracketed _ _
    (prints_bind (λ v. v.bytes) (λ v. is_cell_value v.bytes) _ cell_value _ prints_cell_value (λ v h.
    prints_bind (λ l. 32 ∷ l.bytes) (λ l. is_name l.bytes) _ (next name) _ prints_name (λ l k.
    spells_give _ (labelled v l) (record { is = simp (append_assoc, append-nil); fit = and_both (is_cell_value v.bytes) (is_name l.bytes) h k }))))

prints_plain_item : Spells (Printed item_text is_item) plain_item
unfolding plain_item item_text is_item
prints_plain_item =
    prints_bind (λ v. v.bytes) (λ v. is_cell_value v.bytes) _ cell_value _ prints_cell_value (λ v h.
    spells_give _ (plain v) (record { is = append-nil v.bytes; fit = h }))

prints_item : Spells (Printed item_text is_item) item
unfolding item
prints_item l i l' h = spells_cond _ (there (cell_value l)) plain_item labelled_item prints_plain_item prints_labelled_item l i l' h

-- ---- no text is both a value and `(v L)`

-- the bytes are `(v L)`
record LabelledText (i : Item) (bs : List ℕ) : Type 0 where
  value : List ℕ
  label : List ℕ
  is_value : is_cell_value value ≡ true
  is_label : is_name label ≡ true
  is : bs ≡ bracket_text value label

labelled_spelled : Spells LabelledText labelled_item
unfolding labelled_item bracket_text
labelled_spelled =
    spells_bracketed LabelledText _
    (prints_bind (λ v. v.bytes) (λ v. is_cell_value v.bytes) _ cell_value _ prints_cell_value (λ v h.
    prints_bind (λ l. 32 ∷ l.bytes) (λ l. is_name l.bytes) _ (next name) _ prints_name (λ l k.
    spells_give _ (labelled v l) (record { value = v.bytes; label = l.bytes; is_value = h; is_label = k; is = simp (append_assoc, append-nil) }))))

labelled_unread : (l : Left) (i : Item) (l' : Left) → labelled_item l ≡ some (i, l') → there (cell_value l) ≡ false
unfolding there
labelled_unread l i l' h =
    let x = labelled_spelled l i l' h in
    let t = x.spells in
    ap (λ (bs : List ℕ). there (cell_value (left l.at bs))) (x.stood ∙ ap (λ (bs : List ℕ). bs ++ l'.bytes) t.is ∙ bracket_append t.value t.label l'.bytes)
    ∙ ap there (cell_value_fails t.label l'.bytes t.is_label l.at t.value t.is_value)

-- so where `(v L)` is read, it is the item
pub labelled_item_lem : (l : Left) (i : Item) (l' : Left) → labelled_item l ≡ some (i, l') → item l ≡ some (i, l')
labelled_item_lem l i l' h = item_labelled l (labelled_unread l i l' h) ∙ h

pub labelled_here : (s : List ℕ) (at : ℕ) (i : Item) (l : Left) → labelled_item (from s at) ≡ some (i, l) → is_labelled_at s at ≡ true
labelled_here s at i l h = bracket_labelled s at (labelled_opens s at i l h) (labelled_unread (from s at) i l h)

-- ---- rows, among the other forms

-- of a form that is a row, the bytes
abbrev RowSpelled : Form → List ℕ → Type 0
RowSpelled f bs = (t : Word) (is : List Item) → f ≡ row t is → (k : Name) × RowWritten bs k t is

row_text_lem : (k t ts : List ℕ) → 40 ∷ ((k ++ (32 ∷ t ++ (ts ++ []))) ++ 41 ∷ []) ≡ 40 ∷ (k ++ 32 ∷ (t ++ (ts ++ 41 ∷ [])))
row_text_lem k t ts =
    ap (λ (bs : List ℕ). 40 ∷ bs) (append_assoc k (32 ∷ (t ++ (ts ++ []))) (41 ∷ []))
    ∙ ap (λ (bs : List ℕ). 40 ∷ (k ++ 32 ∷ bs)) (append_assoc t (ts ++ []) (41 ∷ []) ∙ ap (λ (bs : List ℕ). t ++ (bs ++ 41 ∷ [])) (append-nil ts))

same_row_lem : {bs : List ℕ} (k : Name) (t u : Word) (is js : List Item) → RowWritten bs k t is → row t is ≡ row u js → RowWritten bs k u js
same_row_lem {bs} k t u is js w e =
    let p : t ≡ u = cc in
    let q : is ≡ js = cc in
    subst₂ (RowWritten bs k) p q w

-- the bytes behind the keyword
row_spelled : (k : Name) → same_name k (ascii "row") ≡ true → Spells (λ f bs. RowSpelled f (40 ∷ ((k ++ bs) ++ 41 ∷ []))) row_form
unfolding row_form spaced
row_spelled k e =
    prints_bind (λ t. 32 ∷ t.bytes) (λ t. is_name t.bytes) _ (next name) _ prints_name (λ t h.
    prints_bind (print_all item_text) (all_of is_item) _ (many item) _ (prints_many item_text is_item item prints_item) (λ is l.
    spells_give _ (row t is) (λ u js q. (k, same_row_lem k t u is js (record { is_row = e; is_table = h; are_items = l; written = row_text_lem k t.bytes (spaced (map item_text is)) }) q))))

-- a reader that never gives a row
other : {g : List ℕ → List ℕ} {R : Reader Form} → Never R → Forward R → Spells (λ f bs. RowSpelled f (g bs)) R
other {g} {R} n p l f l' h =
    let x = spells_forward R p l f l' h in
    record { read = x.read; stood = x.stood; spells = λ t is e. absurd (unfold row_cost in omega (arith, n.never l f l' h, ap row_cost e)) }

form_spelled : Spells RowSpelled form
unfolding form line_forms row_cost
form_spelled = spells_bracketed RowSpelled (keyword line_forms) (spells_keyword _ line_forms (
  (λ k e. other (never_node purpose (λ n p. refl)) (forward_node purpose)),
  (
    (λ k e. other (never_node role (λ n p. refl)) (forward_node role)),
    (
      (λ k e. other never_attr forward_attr),
      (
        (λ k e. other never_user forward_user),
        (
          (λ k e. other never_cond_role forward_cond_role),
          (
            (λ k e. other never_grant forward_grant),
            (
              (λ k e. other never_label forward_label),
              (
                (λ k e. other never_table forward_table),
                (
                  (λ k e. other never_public forward_public),
                  (
                    (λ k e. other (never_label_note weak) (forward_label_note weak)),
                    (
                      (λ k e. other (never_label_note strong) (forward_label_note strong)),
                      (row_spelled, tt),
                    ),
                  ),
                ),
              ),
            ),
          ),
        ),
      ),
    ),
  ),
))

-- the keyword stands behind the bracket
keyword_stands : (k rest : List ℕ) → same_name k (ascii "row") ≡ true → keyword_in (40 ∷ (k ++ 32 ∷ rest)) ≡ k
unfolding keyword_in is_name_byte is_letter is_digit
keyword_stands k rest e = run_stops k (32 ∷ rest) (row_bytes k e) refl

-- the keyword of a row line that is written out is the line's own
pub row_text_keyword : {L : Type 0} (s : Scheme L) (k t : Name) (ls : List Name) (vs : List Value) → same_name k (ascii "row") ≡ true → keyword_in (row_text s k t ls vs) ≡ k
row_text_keyword s k t ls vs e = ap keyword_in (row_text_bytes s k t ls vs) ∙ keyword_stands k _ e

-- A line that is read as a row form is that form written out, its keyword as the line wrote it.
pub row_written : (line : List ℕ) (t : Word) (is : List Item) → form_of line ≡ some (row t is) → RowWritten line (keyword_in line) t is
unfolding form_of
row_written line t is e =
    let w = spells_whole RowSpelled form form_spelled line (row t is) e t is refl in
    subst (λ (k : Name). RowWritten line k t is) (sym (ap keyword_in w.1.written ∙ keyword_stands w.0 _ w.1.is_row)) w.1
