-- The purposes that a label form denies are names, so they have at most 24 bytes. Assumes nothing.
use Prim.Native.Nat.{◌≤◌, suc, zero, ℕ}
use borrow.Author.Tests.{leb-true}
use lib.Dec.{leb}
use lib.ListN.{length}
use mathlib.Core.Bool.{Bool, ◌&&◌, cond, false, true}
use mathlib.Core.List.{List, [], ◌∷◌, map}
use mathlib.Core.Option.{Option, none-ne-some, some-injective, none, some}
use mathlib.Core.Path.{◌∙◌, ◌≡◌, ap, refl, subst, sym}
use Rattle.condition.specs.CondForm.{condition_in_form}
use Rattle.form.specs.Form.{Form, Note, Scheme, attr, by_cell, by_column, by_row, by_table, cond_role, grant, label, nested, note, public, purpose, role, row, strong, table, unlabelled, user, weak}
use Rattle.form.specs.FormReader.{attr_form, column, columns_under_label, cond_role_form, form, form_of, given_form, grant_form, item, kinds, label_form, label_note, labelled_column, labelled_columns, line_forms, node, plain_columns, public_form, purpose_set, row_form, schemes, table_form, user_form}
use Rattle.lists.proofs.Tests.{and_both, and_right}
use Rattle.lists.specs.Lists.{all_of}
use Rattle.text.proofs.ReaderLaws.{got, not_read, then_some, whole_some}
use Rattle.text.proofs.WordLaws.{word_always}
use Rattle.text.specs.Brackets.{Keywords, among, bracketed, keyword, many, next, optional, up_to}
use Rattle.text.specs.Bytes.{ascii, first_byte, is_letter, is_name_byte}
use Rattle.text.specs.Names.{Name, is_name}
use Rattle.text.specs.Reader.{Left, Reader, ◌>>=◌, ◌>>◌, and_then, byte, from, give, if_next, next_is, refuse, require}
use Rattle.text.specs.Words.{Word, is_called, name, word, word_that}

-- the words are names
abbrev pub are_names : List Word → Type 0
are_names ws = all_of (λ (w : Word). is_name w.bytes) ws ≡ true

-- the purposes that a form denies are names
unfoldable pub Brief : Form → Type 0
Brief (purpose n p) = Unit {0}
Brief (role n p) = Unit {0}
Brief (attr r a k) = Unit {0}
Brief (user u r gs) = Unit {0}
Brief (cond_role c r t) = Unit {0}
Brief (grant p c) = Unit {0}
Brief (label l ps qs) = are_names qs
Brief (table t s cs) = Unit {0}
Brief (note t n) = Unit {0}
Brief (row t is) = Unit {0}

-- all that a reader gives has the property
pub record Yields {A : Type 0} (P : A → Type 0) (m : Reader A) : Type 0 where
  pub yields : (l : Left) (x : A) (rest : Left) → m l ≡ some (x, rest) → P x

module _ {A : Type 0} {P : A → Type 0} where
  yields_give : (x : A) → P x → Yields P (give x)
  yields_give x h = record { yields = λ l y rest e. subst (λ (r : A × Left). P r.0) (some-injective _ _ e) h }

  yields_refuse : Yields P refuse
  yields_refuse = record { yields = λ l y rest e. absurd (none-ne-some _ e) }

  yields_cond : {m n : Reader A} (b : Bool) → Yields P m → Yields P n → Yields P (cond b m n)
  yields_cond true h k = h
  yields_cond false h k = k

-- one reader, of which the property Q is known, and then another
yields_then : {A B : Type 0} {Q : A → Type 0} {P : B → Type 0} (m : Reader A) {f : A → Reader B} → Yields Q m → ((x : A) → Q x → Yields P (f x)) → Yields P (m >>= f)
yields_then {A} {B} {Q} {P} m {f} g h = record { yields = λ l y rest e. go (m l) refl y rest e }
  where
    go : {l : Left} (o : Option (A × Left)) → m l ≡ o → (y : B) (rest : Left) → and_then o f ≡ some (y, rest) → P y
    go none q y rest e = absurd (none-ne-some _ e)
    go {l} (some r) q y rest e = (h r.0 (g.yields l r.0 r.1 q)).yields r.1 y rest e

-- the same where nothing is known of the first
yields_bind : {A B : Type 0} {P : B → Type 0} (m : Reader A) {f : A → Reader B} → ((x : A) → Yields P (f x)) → Yields P (m >>= f)
yields_bind {A} {B} {P} m {f} h = yields_then {Q = λ (x : A). Unit {0}} m (record { yields = λ l x rest e. tt }) (λ x q. h x)

-- ---- names

yields_name : Yields (λ (w : Word). is_name w.bytes ≡ true) name
unfolding word_that
yields_name = yields_bind word (λ w. record { yields = λ l x rest e. go w (is_name w.bytes) refl l x rest e })
  where
    go : (w : Word) (b : Bool) → is_name w.bytes ≡ b → (l : Left) (x : Word) (rest : Left) → and_then (require b l) (λ u. give w) ≡ some (x, rest) → is_name x.bytes ≡ true
    go w true q l x rest e = ap (λ (v : Word). is_name v.bytes) (sym (got (w, l) x rest e).0) ∙ q
    go w false q l x rest e = absurd (none-ne-some _ e)

yields_next : {A : Type 0} {P : A → Type 0} (m : Reader A) → Yields P m → Yields P (next m)
unfolding next
yields_next m h = yields_bind (byte 32) (λ b. h)

-- a name behind a space, and more of them
yields_more : (m : Reader (List Word)) → Yields are_names m → Yields are_names (next name >>= (λ x. m >>= (λ xs. give (x ∷ xs))))
unfolding all_of
yields_more m h = yields_then (next name) (yields_next name yields_name) (λ x q. yields_then m h (λ xs r. yields_give (x ∷ xs) (and_both (is_name x.bytes) _ q r)))

yields_up_to : (n : ℕ) → Yields are_names (up_to n name)
unfolding up_to if_next all_of
yields_up_to zero = yields_give [] refl
yields_up_to (suc n) = record { yields = λ l ws rest e. (yields_cond (next_is 32 l) (yields_more (up_to n name) (yields_up_to n)) (yields_give [] refl)).yields l ws rest e }

yields_names : Yields are_names (many name)
unfolding many
yields_names = record { yields = λ l ws rest e. (yields_up_to (length l.bytes)).yields l ws rest e }

yields_bracketed : {A : Type 0} {P : A → Type 0} (m : Reader A) → Yields P m → Yields P (bracketed m)
unfolding bracketed
yields_bracketed m h = yields_bind (byte 40) (λ b. yields_then m h (λ x q. yields_bind (byte 41) (λ c. yields_give x q)))

-- every reader of the list gives such
abbrev Each : {A : Type 0} → (A → Type 0) → Keywords A → Type 0
Each P [] = Unit {0}
Each P (k ∷ ks) = Yields P k.1 × Each P ks

yields_among : {A : Type 0} {P : A → Type 0} (ks : Keywords A) (w : Word) → Each P ks → Yields P (among ks w)
unfolding among
yields_among [] w h = yields_refuse
yields_among (k ∷ ks) w h = yields_cond (is_called w k.0) h.0 (yields_among ks w h.1)

yields_keyword : {A : Type 0} {P : A → Type 0} (ks : Keywords A) → Each P ks → Yields P (keyword ks)
unfolding keyword
yields_keyword ks h = yields_bind word (λ w. yields_among ks w h)

-- ---- lines

yields_set : (k : Name) → Yields are_names (purpose_set k)
unfolding purpose_set
yields_set k = yields_bracketed _ (yields_keyword _ (yields_names, tt))

brief_label : Yields Brief label_form
unfolding label_form Brief
brief_label = yields_bind (next name) (λ l. yields_bind (next (purpose_set (ascii "allow"))) (λ ps. yields_then (next (purpose_set (ascii "deny"))) (yields_next _ (yields_set (ascii "deny"))) (λ qs q. yields_give (label l ps qs) q)))

brief_node : (make : Word → Option Word → Form) → ((n : Word) (p : Option Word) → Brief (make n p)) → Yields Brief (node make)
unfolding node
brief_node make h = yields_bind (next name) (λ n. yields_bind (optional name) (λ p. yields_give (make n p) (h n p)))

brief_columns : (t : Word) (s : Scheme Word) → Yields Brief (plain_columns t s)
unfolding plain_columns Brief
brief_columns t s = yields_bind (next column) (λ c. yields_bind (many column) (λ cs. yields_give (table t s (c ∷ cs)) tt))

brief_labelled : (t : Word) → Yields Brief (labelled_columns t)
unfolding labelled_columns Brief
brief_labelled t = yields_bind (next labelled_column) (λ c. yields_bind (many labelled_column) (λ cs. yields_give (table t (by_column (map (λ x. x.1) (c ∷ cs))) (map (λ x. x.0) (c ∷ cs))) tt))

brief_under : (t : Word) → Yields Brief (columns_under_label t)
unfolding columns_under_label
brief_under t = yields_bind (next name) (λ l. brief_columns t (by_table l))

brief_table : Yields Brief table_form
unfolding table_form schemes
brief_table = yields_bind (next name) (λ t. yields_next _ (yields_keyword (schemes t) (brief_columns t (unlabelled false), (brief_under t, (brief_labelled t, (brief_columns t by_row, (brief_columns t by_cell, (brief_columns t (nested none none), tt))))))))

brief_note : (make : Word → Note Word) → Yields Brief (label_note make)
unfolding label_note Brief
brief_note make = yields_bind (next name) (λ t. yields_bind (next name) (λ l. yields_give (note t (make l)) tt))

brief_lines : Each Brief line_forms
unfolding line_forms attr_form user_form cond_role_form grant_form public_form row_form Brief
brief_lines = (
  brief_node purpose (λ n p. tt),
  (
    brief_node role (λ n p. tt),
    (
      yields_bind (next name) (λ r. yields_bind (next name) (λ a. yields_bind (next (keyword kinds)) (λ k. yields_give (attr r a k) tt))),
      (
        yields_bind (next name) (λ u. yields_bind (next name) (λ r. yields_bind (many given_form) (λ gs. yields_give (user u r gs) tt))),
        (
          yields_bind (next name) (λ c. yields_bind (next name) (λ r. yields_bind (next condition_in_form) (λ t. yields_give (cond_role c r t) tt))),
          (
            yields_bind (next name) (λ p. yields_bind (next name) (λ c. yields_give (grant p c) tt)),
            (
              brief_label,
              (
                brief_table,
                (
                  yields_bind (next name) (λ t. yields_give (note t public) tt),
                  (
                    brief_note weak,
                    (
                      brief_note strong,
                      (yields_bind (next name) (λ t. yields_bind (many item) (λ is. yields_give (row t is) tt)), tt),
                    ),
                  ),
                ),
              ),
            ),
          ),
        ),
      ),
    ),
  ),
)

-- THE FORM: the purposes that a line denies are names
pub brief_form : (line : List ℕ) (f : Form) → form_of line ≡ some f → Brief f
unfolding form_of form
brief_form line f h = let r = whole_some _ line f h in (yields_bracketed _ (yields_keyword line_forms brief_lines)).yields (from line 0) f r.0 r.1

-- a name is short
pub name_short : (n : Name) → is_name n ≡ true → length n ≤ 24
unfolding is_name
name_short n h = leb-true (length n) 24 (and_right (all_of is_name_byte n) (leb (length n) 24) (and_right (is_letter (first_byte n)) (all_of is_name_byte n && leb (length n) 24) h))
