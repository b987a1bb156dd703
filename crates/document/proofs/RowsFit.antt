-- What an accepted document's rows are: no longer than the text, and each as wide as its table. For the reserve. Assumes
-- nothing.
use Prim.Native.Nat.{◌+◌, ◌<◌, ◌≤◌, suc, zero-le, ℕ}
use borrow.Author.Tests.{ltb-false}
use lib.Dec.{T, eqb, eqb→eq}
use lib.ListN.{get_elem?, length, length-append}
use mathlib.Core.Bool.{Bool, cond, false, not, true, true≢false}
use mathlib.Core.List.{List, [], ◌++◌, ◌∷◌, append-nil, map}
use mathlib.Core.Option
use mathlib.Core.Option.{Option, get_or, none-ne-some, some-injective, none, some}
use mathlib.Core.Path.{◌∙◌, ◌≡◌, ap, refl, subst, sym}
use native.Mathlib.Nat.{le_trans}
use native.Mathlib.Omega.{arith}
use Rattle.document.proofs.Accepting.{check_accepted, last_accepted, line_accepted, more_accepted}
use Rattle.document.proofs.Kept.{table_there}
use Rattle.document.specs.Check.{Accepted, check, check_from, check_line}
use Rattle.document.specs.Lookup.{columns_at, columns_of, scheme_of, table_of}
use Rattle.document.specs.Meaning.{add, define, row_meant, rows_given}
use Rattle.document.specs.NameFaults.{unknown}
use Rattle.document.specs.Policy.{Doc, Policy, Row, Table, empty_doc, empty_policy}
use Rattle.document.specs.ValueFaults.{bracket_values, misfit, plain_values, row_values, shaped_values, values_behind_label}
use Rattle.form.proofs.RowLength.{row_line, value_cost}
use Rattle.form.specs.Form.{Form, Item, Scheme, attr, cond_role, grant, has_brackets, label, labelled, leads_label, note, plain, purpose, role, row, table, user}
use Rattle.form.specs.FormReader.{form_of}
use Rattle.lists.proofs.ListLaws.{get_elem?_inside_append, map_inv}
use Rattle.text.proofs.OffendingLaws.{leftmost_head, unless_none}
use Rattle.text.proofs.ReaderLaws.{list_cost}
use Rattle.text.specs.Lines.{Pieces, cut, in_front}
use Rattle.lists.specs.Lists.{holds_of, or_zero}
use Rattle.text.specs.Names.{is_name}
use Rattle.text.specs.Numbers.{Value}
use Rattle.text.specs.Refusal.{accepted}
use Rattle.text.specs.Words.{Word}

-- ---- rows

-- what a row's line takes, at least: its values with their spaces, and seven bytes
unfoldable pub values_cost : List Value → ℕ
values_cost vs = 7 + list_cost length vs

unfoldable pub rows_cost : List Row → ℕ
rows_cost [] = 0
rows_cost (r ∷ rs) = values_cost r.values + rows_cost rs

rows_cost_append : (rs : List Row) (r : Row) → rows_cost (rs ++ (r ∷ [])) ≡ rows_cost rs + values_cost r.values
unfolding rows_cost
rows_cost_append [] r = omega arith
rows_cost_append (s ∷ rs) r = omega (arith, rows_cost_append rs r)

-- the number of columns of a table that may be there
unfoldable pub count_at : Option Table → ℕ
count_at none = 0
count_at (some t) = length t.columns

-- the row lies in a table, and has a value for each of its columns
pub record Fit (ts : List Table) (r : Row) : Type 0 where
  pub inside : r.table < length ts
  pub wide : length r.values ≡ count_at (get_elem? ts r.table)

abbrev pub AllFit : List Table → List Row → Type 0
AllFit ts [] = Unit {0}
AllFit ts (r ∷ rs) = Fit ts r × AllFit ts rs

fit_more : (ts us : List Table) (r : Row) → Fit ts r → Fit (ts ++ us) r
fit_more ts us r f = record {
  inside = omega (arith, f.inside, length-append ts us);
  wide = f.wide ∙ ap count_at (sym (get_elem?_inside_append ts us r.table f.inside));
}

all_fit_more : (ts us : List Table) (rs : List Row) → AllFit ts rs → AllFit (ts ++ us) rs
all_fit_more ts us [] f = tt
all_fit_more ts us (r ∷ rs) f = (fit_more ts us r f.0, all_fit_more ts us rs f.1)

all_fit_append : (ts : List Table) (rs : List Row) (r : Row) → AllFit ts rs → Fit ts r → AllFit ts (rs ++ (r ∷ []))
all_fit_append ts [] r f g = (g, tt)
all_fit_append ts (s ∷ rs) r f g = (f.0, all_fit_append ts rs r f.1 g)

-- the document's rows take at most k bytes, and fit their tables
pub record Rows (d : Doc) (k : ℕ) : Type 0 where
  pub short : rows_cost d.rows ≤ k
  pub fit : AllFit d.policy.tables d.rows

-- ---- the values of a row form

-- a word's bytes
abbrev word_cost : Word → ℕ
word_cost w = length w.bytes

plain_cost : (is : List Item) (ws : List Word) → plain_values is ≡ some ws → list_cost word_cost ws ≤ list_cost value_cost is
unfolding plain_values list_cost value_cost
plain_cost [] ws e = subst (λ (v : List Word). list_cost word_cost v ≤ 0) (some-injective _ _ e) zero-le
plain_cost (plain w ∷ is) ws e =
    let i = map_inv _ (plain_values is) ws e in
    subst (λ (v : List Word). list_cost word_cost v ≤ list_cost value_cost (plain w ∷ is)) (sym i.2) (omega (arith, plain_cost is i.0 i.1))
plain_cost (labelled v l ∷ is) ws e = absurd (none-ne-some _ e)

behind_cost : (values : List Item → Option (List Word)) → ((js : List Item) (ws : List Word) → values js ≡ some ws → list_cost word_cost ws ≤ list_cost value_cost js)
    → (is : List Item) (ws : List Word) → values_behind_label values is ≡ some ws → list_cost word_cost ws ≤ list_cost value_cost is
unfolding values_behind_label list_cost
behind_cost values h [] ws e = absurd (none-ne-some _ e)
behind_cost values h (plain w ∷ is) ws e = go (is_name w.bytes) e
  where
    go : (b : Bool) → cond b (values is) none ≡ some ws → list_cost word_cost ws ≤ list_cost value_cost (plain w ∷ is)
    go true e = omega (arith, h is ws e)
    go false e = absurd (none-ne-some _ e)
behind_cost values h (labelled v l ∷ is) ws e = absurd (none-ne-some _ e)

bracket_cost : (is : List Item) (ws : List Word) → bracket_values is ≡ some ws → list_cost word_cost ws ≤ list_cost value_cost is
unfolding bracket_values list_cost value_cost
bracket_cost [] ws e = subst (λ (v : List Word). list_cost word_cost v ≤ 0) (some-injective _ _ e) zero-le
bracket_cost (plain w ∷ is) ws e = absurd (none-ne-some _ e)
bracket_cost (labelled v l ∷ is) ws e =
    let i = map_inv _ (bracket_values is) ws e in
    subst (λ (u : List Word). list_cost word_cost u ≤ list_cost value_cost (labelled v l ∷ is)) (sym i.2) (omega (arith, bracket_cost is i.0 i.1))

shaped_cost : (b : Bool) (is : List Item) (ws : List Word) → shaped_values b is ≡ some ws → list_cost word_cost ws ≤ list_cost value_cost is
unfolding shaped_values
shaped_cost true is ws e = bracket_cost is ws e
shaped_cost false is ws e = plain_cost is ws e

values_cost_lem : (s : Scheme ℕ) (is : List Item) (ws : List Word) → row_values s is ≡ some ws → list_cost word_cost ws ≤ list_cost value_cost is
unfolding row_values
values_cost_lem s is ws e = go (leads_label s) (has_brackets s) e
  where
    go : (a b : Bool) → cond a (values_behind_label (shaped_values b) is) (shaped_values b is) ≡ some ws → list_cost word_cost ws ≤ list_cost value_cost is
    go true b e = behind_cost (shaped_values b) (shaped_cost b) is ws e
    go false b e = shaped_cost b is ws e

bytes_cost : (ws : List Word) → list_cost length (map (λ w. w.bytes) ws) ≡ list_cost word_cost ws
unfolding list_cost
bytes_cost [] = refl
bytes_cost (w ∷ ws) = ap (λ (n : ℕ). 1 + length w.bytes + n) (bytes_cost ws)

bytes_length : (ws : List Word) → length (map (λ (w : Word). w.bytes) ws) ≡ length ws
bytes_length [] = refl
bytes_length (w ∷ ws) = ap suc (bytes_length ws)

-- ---- one line

-- the columns of a table by its name, and by its number
pub columns_count : (d : Policy) (t : ℕ) → length (columns_at d t) ≡ count_at (get_elem? d.tables t)
unfolding columns_at count_at
columns_count d t = go (get_elem? d.tables t)
  where
    go : (o : Option Table) → length (get_or (Option.map (λ (x : Table). x.columns) o) []) ≡ count_at o
    go none = refl
    go (some t) = refl

-- the values of a row that fits
pub row_values_lem : (n : ℕ) (o : Option (List Word)) → not (holds_of (λ ws. eqb (length ws) n) o) ≡ false → (ws : List Word) × (o ≡ some ws) × (length ws ≡ n)
unfolding holds_of
row_values_lem n none e = absurd (true≢false e)
row_values_lem n (some ws) e = (ws, refl, eqb→eq (length ws) n (go (eqb (length ws) n) e))
  where
    go : (b : Bool) → not b ≡ false → T b
    go true e = tt
    go false e = absurd (true≢false e)

-- a row form gives a row that is no longer than its line, and fits
row_added : (d : Doc) (k : ℕ) (line : List ℕ) (t : Word) (is : List Item) → Rows d k → form_of line ≡ some (row t is)
    → unknown d.policy (row t is) ≡ none → misfit d.policy (row t is) ≡ false → Rows (add d (row t is)) (k + length line + 1)
unfolding add define rows_given unknown misfit row_meant values_cost columns_of
row_added d k line t is h f u m =
    let v = row_values_lem _ _ m in
    let ws : List Word = v.0 in
    let values≡ : map (λ (w : Word). w.bytes) (get_or (row_values (scheme_of d.policy t) is) []) ≡ map (λ (w : Word). w.bytes) ws =
    ap (λ (o : Option (List Word)). map (λ (w : Word). w.bytes) (get_or o [])) v.1 in
    record {
      short = le_trans (omega (arith, rows_cost_append d.rows (row_meant d.policy t is)))
          (subst (λ (vs : List Value). rows_cost d.rows + (7 + list_cost length vs) ≤ k + length line + 1) (sym values≡)
          (omega (arith, h.short, row_line line t is f, values_cost_lem (scheme_of d.policy t) is ws v.1, bytes_cost ws)));
      fit = all_fit_append d.policy.tables d.rows (row_meant d.policy t is) h.fit (record {
        inside = table_there d.policy t (unless_none _ t (leftmost_head _ _ u));
        wide = ap length values≡ ∙ bytes_length ws ∙ v.2 ∙ columns_count d.policy (or_zero (table_of d.policy t));
      });
    }

-- more bytes are room enough
rows_room : {d : Doc} {j k : ℕ} → j ≤ k → Rows d j → Rows d k
rows_room p h = record { short = le_trans h.short p; fit = h.fit }

-- a form that gives no row adds none, and no table less
no_row : (d : Doc) (k n : ℕ) (ts : List Table) (rs : List Row) → rs ≡ d.rows ++ [] → AllFit ts d.rows → rows_cost d.rows ≤ k → (rows_cost rs ≤ k + n + 1) × AllFit ts rs
no_row d k n ts rs e f l = rw (e, append-nil d.rows) (omega (arith, l), f)

-- any form adds no more than its line
form_added : (d : Doc) (k : ℕ) (line : List ℕ) (f : Form) → Rows d k → form_of line ≡ some f → unknown d.policy f ≡ none → misfit d.policy f ≡ false → Rows (add d f) (k + length line + 1)
unfolding add define rows_given
form_added d k line (purpose n p) h e u m = let x = no_row d k (length line) d.policy.tables (d.rows ++ []) refl h.fit h.short in record { short = x.0; fit = x.1 }
form_added d k line (role n p) h e u m = let x = no_row d k (length line) d.policy.tables (d.rows ++ []) refl h.fit h.short in record { short = x.0; fit = x.1 }
form_added d k line (attr r a x) h e u m = let x = no_row d k (length line) d.policy.tables (d.rows ++ []) refl h.fit h.short in record { short = x.0; fit = x.1 }
form_added d k line (user x r gs) h e u m = let x = no_row d k (length line) d.policy.tables (d.rows ++ []) refl h.fit h.short in record { short = x.0; fit = x.1 }
form_added d k line (cond_role c r t) h e u m = let x = no_row d k (length line) d.policy.tables (d.rows ++ []) refl h.fit h.short in record { short = x.0; fit = x.1 }
form_added d k line (grant p c) h e u m = let x = no_row d k (length line) d.policy.tables (d.rows ++ []) refl h.fit h.short in record { short = x.0; fit = x.1 }
form_added d k line (label l ps qs) h e u m = let x = no_row d k (length line) d.policy.tables (d.rows ++ []) refl h.fit h.short in record { short = x.0; fit = x.1 }
form_added d k line (table t s cs) h e u m =
    let x = no_row d k (length line) _ (d.rows ++ []) refl (all_fit_more d.policy.tables _ d.rows h.fit) h.short in
    record { short = x.0; fit = x.1 }
form_added d k line (row t is) h e u m = row_added d k line t is h e u m
form_added d k line (note t n) h e u m = let x = no_row d k (length line) d.policy.tables (d.rows ++ []) refl h.fit h.short in record { short = x.0; fit = x.1 }

-- an accepted line
line_added : (d : Doc) (k : ℕ) (line : List ℕ) (e : Doc) → Rows d k → check_line d line ≡ accepted e → Rows e (k + length line + 1)
line_added d k line e h x =
    let a = line_accepted d line e x in
    subst (λ (y : Doc). Rows y (k + length line + 1)) (sym a.added) (form_added d k line a.form h a.is a.knows a.fits)

-- the bytes of pieces, with the line feeds between them
unfoldable pub pieces_length : List ℕ → List (List ℕ) → ℕ
pieces_length piece [] = length piece
pieces_length piece (p ∷ ps) = length piece + 1 + pieces_length p ps

lines_added : (d : Doc) (k n at : ℕ) (piece : List ℕ) (ps : List (List ℕ)) (a : Accepted) → Rows d k → check_from d n at piece ps ≡ accepted a → Rows a.doc (k + pieces_length piece ps)
unfolding pieces_length
lines_added d k n at piece [] a h e = subst (λ (x : Doc). Rows x (k + length piece)) (sym (last_accepted d n at piece a e)) (rows_room (omega arith) h)
lines_added d k n at piece (p ∷ ps) a h e =
    let i = more_accepted d n at piece p ps a e in
    rows_room (omega arith) (lines_added i.0 (k + length piece + 1) (n + 1) (at + length piece + 1) p ps a (line_added d k piece i.0 h i.1) i.2)

cut_length : (s : List ℕ) → pieces_length (cut s).head (cut s).others ≡ length s
unfolding cut in_front pieces_length
cut_length [] = refl
cut_length (b ∷ bs) = go (cut_length bs) (eqb b 10)
  where
    front : (c : ℕ) (xs : List ℕ) (ps : List (List ℕ)) → pieces_length (c ∷ xs) ps ≡ suc (pieces_length xs ps)
    front c xs [] = refl
    front c xs (p ∷ ps) = omega arith

    go : pieces_length (cut bs).head (cut bs).others ≡ length bs → (t : Bool)
        → pieces_length (cond {A = Pieces} t (record { head = []; others = (cut bs).head ∷ (cut bs).others }) (record { head = b ∷ (cut bs).head; others = (cut bs).others })).head
        (cond {A = Pieces} t (record { head = []; others = (cut bs).head ∷ (cut bs).others }) (record { head = b ∷ (cut bs).head; others = (cut bs).others })).others
        ≡ length (b ∷ bs)
    go h true = omega (arith, h)
    go h false = front b (cut bs).head (cut bs).others ∙ ap suc h

-- an accepted document's rows are no longer than its text, of at most 60,000 bytes, and fit their tables
pub accepted_rows : (s : List ℕ) (a : Accepted) → check s ≡ accepted a → Rows a.doc 60000
unfolding empty_doc empty_policy rows_cost
accepted_rows s a e =
    let i = check_accepted s a e in
    rows_room (omega (arith, cut_length s, ltb-false 60000 (length s) i.0))
    (lines_added empty_doc 0 0 0 _ _ a (record { short = zero-le; fit = tt }) i.1)
