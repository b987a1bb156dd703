-- A row form's items take no more bytes than its line has. For the reserve. Assumes nothing.
use Prim.Native.Nat.{◌+◌, ◌-◌, ◌≤◌, ℕ}
use lib.ListN.{length}
use mathlib.Core.Bool.{Bool, cond, false, true}
use mathlib.Core.List.{List, [], ◌∷◌, map}
use mathlib.Core.Option.{Option, none-ne-some, some-injective, none, some}
use mathlib.Core.Path.{◌∙◌, ◌≡◌, ap, refl, subst}
use native.Mathlib.Omega.{arith}
use Rattle.condition.specs.CondForm.{condition_in_form}
use Rattle.form.specs.Form.{Form, Item, Note, Scheme, attr, by_cell, by_column, by_row, by_table, cond_role, grant, label, labelled, nested, note, plain, public, purpose, role, row, strong, table, unlabelled, user, weak}
use Rattle.form.specs.FormReader.{attr_form, column, columns_under_label, cond_role_form, form, form_of, given_form, grant_form, item, kinds, label_form, label_note, labelled_column, labelled_columns, labelled_item, line_forms, node, plain_columns, plain_item, public_form, purpose_set, row_form, schemes, table_form, user_form}
use Rattle.lists.specs.Lists.{there}
use Rattle.calendar.proofs.CellValues.{eats_cell_value}
use Rattle.text.proofs.NameLaws.{same_name_length}
use Rattle.text.proofs.ReaderLaws.{Eats, eats_bind, eats_bracketed, eats_byte, eats_cond, eats_give, eats_less, eats_many, eats_next, eats_word, eats_word_that, list_cost, past_trans, then_some, whole_some}
use Rattle.calendar.specs.CellValues.{cell_value}
use Rattle.text.specs.Brackets.{Keywords, among, bracketed, keyword, many, next, optional}
use Rattle.text.specs.Bytes.{ascii}
use Rattle.text.specs.Names.{Name, is_name, same_name}
use Rattle.text.specs.Reader.{Left, Reader, ◌>>=◌, and_then, byte, from, give, refuse}
use Rattle.text.specs.Words.{Word, is_called, name, word}

-- the bytes of a value in a row form
unfoldable pub value_cost : Item → ℕ
value_cost (plain w) = length w.bytes
value_cost (labelled v l) = length v.bytes

-- what a row form takes behind its keyword: a space for its table, and its items, each with its space; 0 for any other form
unfoldable pub row_cost : Form → ℕ
row_cost (purpose n p) = 0
row_cost (role n p) = 0
row_cost (attr r a k) = 0
row_cost (user u r gs) = 0
row_cost (cond_role c r t) = 0
row_cost (grant p c) = 0
row_cost (label l ps qs) = 0
row_cost (table t s cs) = 0
row_cost (note t n) = 0
row_cost (row t is) = 1 + list_cost value_cost is

eats_labelled_item : Eats value_cost labelled_item
unfolding labelled_item value_cost
eats_labelled_item =
    eats_less (λ i. 2 + value_cost i) value_cost _ (λ i. omega arith) (eats_bracketed value_cost _
    (eats_bind (λ v. length v.bytes) value_cost cell_value _ eats_cell_value (λ v.
    eats_bind (λ l. 1 + length l.bytes) (λ i. value_cost i - length v.bytes) (next name) _ (eats_next (λ l. length l.bytes) name (eats_word_that is_name)) (λ l.
    eats_give (λ i. value_cost i - length v.bytes - (1 + length l.bytes)) (labelled v l) (omega arith)))))

eats_plain_item : Eats value_cost plain_item
unfolding plain_item value_cost
eats_plain_item = eats_bind (λ v. length v.bytes) value_cost cell_value _ eats_cell_value (λ v. eats_give (λ i. value_cost i - length v.bytes) (plain v) (omega arith))

pub eats_item : Eats value_cost item
unfolding item
eats_item l i l' h = eats_cond value_cost (there (cell_value l)) plain_item labelled_item eats_plain_item eats_labelled_item l i l' h

eats_row : Eats row_cost row_form
unfolding row_form row_cost
eats_row =
    eats_bind (λ t. 1 + length t.bytes) row_cost (next name) _ (eats_next (λ t. length t.bytes) name (eats_word_that is_name)) (λ t.
    eats_bind (list_cost value_cost) (λ f. row_cost f - (1 + length t.bytes)) (many item) _ (eats_many value_cost item eats_item) (λ is.
    eats_give (λ f. row_cost f - (1 + length t.bytes) - list_cost value_cost is) (row t is) (omega arith)))

-- ---- no other keyword leads to a row, so every form eats what it takes as a row

-- the reader gives only forms that take nothing as a row
pub record Never (m : Reader Form) : Type 0 where
  pub never : (l : Left) (f : Form) (rest : Left) → m l ≡ some (f, rest) → row_cost f ≡ 0

never_give : (f : Form) → row_cost f ≡ 0 → Never (give f)
never_give f h = record { never = λ l g rest e. subst (λ (r : Form × Left). row_cost r.0 ≡ 0) (some-injective _ _ e) h }

never_bind : {A : Type 0} (m : Reader A) {f : A → Reader Form} → ((x : A) → Never (f x)) → Never (m >>= f)
never_bind {A} m {f} h = record { never = λ l y rest e. go (m l) y rest e }
  where
    go : (o : Option (A × Left)) (y : Form) (rest : Left) → and_then o f ≡ some (y, rest) → row_cost y ≡ 0
    go none y rest e = absurd (none-ne-some _ e)
    go (some r) y rest e = (h r.0).never r.1 y rest e

never_refuse : Never refuse
never_refuse = record { never = λ l y rest e. absurd (none-ne-some _ e) }

never_cond : {m n : Reader Form} (b : Bool) → Never m → Never n → Never (cond b m n)
never_cond true h k = h
never_cond false h k = k

pub never_node : (make : Word → Option Word → Form) → ((n : Word) (p : Option Word) → row_cost (make n p) ≡ 0) → Never (node make)
unfolding node
never_node make h = never_bind (next name) (λ n. never_bind (optional name) (λ p. never_give (make n p) (h n p)))

pub never_attr : Never attr_form
unfolding attr_form row_cost
never_attr = never_bind (next name) (λ r. never_bind (next name) (λ a. never_bind (next (keyword kinds)) (λ k. never_give (attr r a k) refl)))

pub never_user : Never user_form
unfolding user_form row_cost
never_user = never_bind (next name) (λ u. never_bind (next name) (λ r. never_bind (many given_form) (λ gs. never_give (user u r gs) refl)))

pub never_cond_role : Never cond_role_form
unfolding cond_role_form row_cost
never_cond_role = never_bind (next name) (λ c. never_bind (next name) (λ r. never_bind (next condition_in_form) (λ t. never_give (cond_role c r t) refl)))

pub never_grant : Never grant_form
unfolding grant_form row_cost
never_grant = never_bind (next name) (λ p. never_bind (next name) (λ c. never_give (grant p c) refl))

pub never_label : Never label_form
unfolding label_form row_cost
never_label = never_bind (next name) (λ l. never_bind (next (purpose_set (ascii "allow"))) (λ ps. never_bind (next (purpose_set (ascii "deny"))) (λ qs. never_give (label l ps qs) refl)))

never_columns : (t : Word) (s : Scheme Word) → Never (plain_columns t s)
unfolding plain_columns row_cost
never_columns t s = never_bind (next column) (λ c. never_bind (many column) (λ cs. never_give (table t s (c ∷ cs)) refl))

never_labelled : (t : Word) → Never (labelled_columns t)
unfolding labelled_columns row_cost
never_labelled t = never_bind (next labelled_column) (λ c. never_bind (many labelled_column) (λ cs. never_give (table t (by_column (map (λ x. x.1) (c ∷ cs))) (map (λ x. x.0) (c ∷ cs))) refl))

-- no reader of the list ever gives a row
abbrev AllNever : Keywords Form → Type 0
AllNever [] = Unit {0}
AllNever (k ∷ ks) = Never k.1 × AllNever ks

never_among : (ks : Keywords Form) (w : Word) → AllNever ks → Never (among ks w)
unfolding among
never_among [] w h = never_refuse
never_among (k ∷ ks) w h = never_cond (is_called w k.0) h.0 (never_among ks w h.1)

pub never_table : Never table_form
unfolding table_form next keyword schemes columns_under_label
never_table = never_bind (next name) (λ t. never_bind (byte 32) (λ b. never_bind word (λ w. never_among (schemes t) w (
  never_columns t (unlabelled false),
  (never_bind (next name) (λ l. never_columns t (by_table l)), (never_labelled t, (never_columns t by_row, (never_columns t by_cell, (never_columns t (nested none none), tt))))),
))))

pub never_public : Never public_form
unfolding public_form row_cost
never_public = never_bind (next name) (λ t. never_give (note t public) refl)

pub never_label_note : (make : Word → Note Word) → Never (label_note make)
unfolding label_note row_cost
never_label_note make = never_bind (next name) (λ t. never_bind (next name) (λ l. never_give (note t (make l)) refl))

-- a row comes from a later keyword, if the first never leads to one
among_skip : (k : Name × Reader Form) (ks : Keywords Form) (w : Word) (l : Left) (t : Word) (is : List Item) (rest : Left)
    → Never k.1 → among (k ∷ ks) w l ≡ some (row t is, rest) → among ks w l ≡ some (row t is, rest)
unfolding among row_cost
among_skip k ks w l t is rest h e = go (is_called w k.0) e
  where
    go : (b : Bool) → cond b k.1 (among ks w) l ≡ some (row t is, rest) → among ks w l ≡ some (row t is, rest)
    go true e = absurd (omega (arith, h.never l (row t is) rest e))
    go false e = e

-- the last keyword, of three bytes
among_row : (w : Word) (l : Left) (f : Form) (rest : Left) → among ((ascii "row", row_form) ∷ []) w l ≡ some (f, rest)
    → (length w.bytes ≡ 3) × (row_form l ≡ some (f, rest))
unfolding among is_called
among_row w l f rest e = go (same_name w.bytes (ascii "row")) refl e
  where
    go : (b : Bool) → same_name w.bytes (ascii "row") ≡ b → cond b row_form refuse l ≡ some (f, rest) → (length w.bytes ≡ 3) × (row_form l ≡ some (f, rest))
    go true p e = (same_name_length w.bytes (ascii "row") p, e)
    go false p e = absurd (none-ne-some _ e)

-- a row comes from the keyword `row`
keyword_row : (w : Word) (l : Left) (t : Word) (is : List Item) (rest : Left) → among line_forms w l ≡ some (row t is, rest)
    → (length w.bytes ≡ 3) × (row_form l ≡ some (row t is, rest))
unfolding line_forms row_cost
keyword_row w l t is rest e =
    among_row w l (row t is) rest
    (among_skip _ _ w l t is rest (never_label_note strong)
    (among_skip _ _ w l t is rest (never_label_note weak)
    (among_skip _ _ w l t is rest never_public
    (among_skip _ _ w l t is rest never_table
    (among_skip _ _ w l t is rest never_label
    (among_skip _ _ w l t is rest never_grant
    (among_skip _ _ w l t is rest never_cond_role
    (among_skip _ _ w l t is rest never_user
    (among_skip _ _ w l t is rest never_attr
    (among_skip _ _ w l t is rest (never_node role (λ n p. refl))
    (among_skip _ _ w l t is rest (never_node purpose (λ n p. refl)) e)))))))))))

-- a row line is at least six bytes longer than its values with their spaces
pub row_line : (line : List ℕ) (t : Word) (is : List Item) → form_of line ≡ some (row t is) → 6 + list_cost value_cost is ≤ length line
unfolding form_of form bracketed keyword row_cost
row_line line t is e =
    let a = whole_some form line (row t is) e in
    let b = then_some (byte 40 (from line 0)) _ _ a.1 in
    let c = then_some (keyword line_forms b.0.1) _ _ b.2 in
    let d = then_some (word b.0.1) _ _ c.1 in
    let f = then_some (byte 41 c.0.1) _ _ c.2 in
    let is_row_lem : c.0.0 ≡ row t is = ap (λ (r : Form × Left). r.0) (some-injective _ _ f.2) in
    let r = keyword_row d.0.0 d.0.1 t is c.0.1 (d.2 ∙ ap (λ (g : Form). some (g, c.0.1)) is_row_lem) in
    let p = past_trans (eats_byte 40 (λ z. absurd (omega arith)) _ _ _ b.1) (past_trans (eats_word _ _ _ d.1) (past_trans (eats_row _ _ _ r.1) (eats_byte 41 (λ z. absurd (omega arith)) _ _ _ f.1))) in
    omega (arith, p.enough, p.within, r.0)
