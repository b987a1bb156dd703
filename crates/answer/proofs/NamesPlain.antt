-- No value in a column of names or dates of an accepted document is a range. Assumes nothing.
use Prim.Native.Nat.{suc, zero, ℕ}
use lib.ListN.{get_or, get_elem?}
use mathlib.Core.Bool.{Bool, ◌&&◌, false, not, true}
use mathlib.Core.List.{List, [], ◌++◌, ◌∷◌, map}
use mathlib.Core.Option
use mathlib.Core.Option.{Option, none-ne-some, some-injective, bind, none, some}
use mathlib.Core.Path.{◌∙◌, ◌≡◌, ap, refl, sym}
use native.Mathlib.Omega.{arith}
use Rattle.calendar.proofs.DateValues.{DateShape, enclosed_date}
use Rattle.calendar.specs.Calendar.{Date}
use Rattle.calendar.specs.DateText.{date_of, date_text, is_date}
use Rattle.condition.proofs.RangeLaws.{fits_mode}
use Rattle.condition.specs.Kinds.{Kind, dates, has_kind, names, numbers}
use Rattle.document.proofs.Accepting.{check_accepted, last_accepted, line_accepted, more_accepted}
use Rattle.document.proofs.Kept.{Kept, kept_from}
use Rattle.document.specs.Check.{Accepted, check, check_from, check_line}
use Rattle.document.specs.Lookup.{column_kind, column_of, columns_at, columns_of, scheme_of, table_of}
use Rattle.document.specs.Meaning.{add, row_meant, rows_given}
use Rattle.document.specs.NameFaults.{unknown}
use Rattle.document.specs.Policy.{Column, Doc, Policy, Row, Table, empty_doc}
use Rattle.document.specs.TypeFaults.{cell_has_kind, mistyped_value, wrong_type}
use Rattle.document.specs.ValueFaults.{row_values}
use Rattle.form.specs.Form.{Form, Item, attr, cond_role, grant, label, note, purpose, role, row, table, user}
use Rattle.lists.proofs.KeptLaws.{all_append}
use Rattle.lists.proofs.ListLaws.{find_index_found, there_some}
use Rattle.lists.proofs.Tests.{and_both, and_left, and_right, true_not_false}
use Rattle.lists.specs.Lists.{all_of, holds_of, or_zero, there}
use Rattle.text.proofs.OffendingLaws.{leftmost_head, leftmost_tail, unless_none}
use Rattle.text.proofs.ReadBack.{Gives, gives, left, next_reads, number_reads}
use Rattle.text.proofs.ReaderLaws.{byte_at_refused}
use Rattle.text.proofs.Written.{spells_whole}
use Rattle.text.specs.Amounts.{Range, is_range, range, range_of}
use Rattle.text.specs.Brackets.{bracketed, next}
use Rattle.text.specs.Bytes.{is_digit, is_letter, is_name_byte}
use Rattle.text.specs.Names.{is_name}
use Rattle.text.specs.Numbers.{Value, digits_from, magnitude, no_leading_zero, rank}
use Rattle.text.specs.Reader.{Left, ◌>>=◌, ◌>>◌, and_then, byte, ended, give, whole}
use Rattle.text.specs.Refusal.{accepted}
use Rattle.text.specs.Words.{Word, is_called, read_number}

-- ---- values that are no ranges

-- what does not begin with a bracket
unopened : (v : Value) → (get_or v 0 0 ≡ 40 → ⊥) → is_range v ≡ false
unfolding is_range range_of whole range bracketed ended there
unopened v h = rw (byte_at_refused v 0 40 h)

pub name_plain : (v : Value) → is_name v ≡ true → is_range v ≡ false
unfolding is_name is_letter
name_plain [] h = true_not_false h refl
name_plain (b ∷ bs) h = unopened (b ∷ bs) (λ e. true_not_false (and_left (is_letter b) _ h) (ap is_letter e))

pub number_plain : (v : Value) (n : ℕ) → rank v ≡ some n → is_range v ≡ false
unfolding rank magnitude no_leading_zero digits_from is_digit bind
number_plain [] n h = absurd (none-ne-some n h)
number_plain (b ∷ bs) n h = unopened (b ∷ bs) (λ e. absurd (none-ne-some n (sym (ap (λ c. rank (c ∷ bs)) e) ∙ h)))

-- a date
module _ {d : Date} {v : Value} (t : DateShape d v) where
  behind_month : (low : ℕ) {m : ℕ} {o : Option (ℕ × Left)} → Gives (λ (n : ℕ). n) m (32 ∷ (t.third ++ 41 ∷ [])) o
      → and_then {A = Range} {B = Range} (and_then o (λ b. give {A = Range} (record { low = low; high = b }))) (λ x. byte 41 >> give x) ≡ none
  unfolding byte
  behind_month low (gives p) = refl

  behind_year : {m : ℕ} {o : Option (ℕ × Left)} → Gives (λ (n : ℕ). n) m (32 ∷ (t.second ++ 32 ∷ (t.third ++ 41 ∷ []))) o
      → and_then {A = Range} {B = Range} (and_then o (λ a. next read_number >>= (λ b. give {A = Range} (record { low = a; high = b })))) (λ x. byte 41 >> give x) ≡ none
  behind_year (gives {y} {at = j} p) = behind_month y ((next_reads (number_reads t.second (32 ∷ (t.third ++ 41 ∷ [])) t.is_month.k t.is_month.ranked (unfold is_name_byte is_letter is_digit in refl))).from j)

  no_range_lem : range (left 0 v) ≡ none
  unfolding range bracketed byte
  no_range_lem =
      ap (λ (bs : List ℕ). range (left 0 bs)) t.is
      ∙ behind_year ((number_reads t.first (32 ∷ (t.second ++ 32 ∷ (t.third ++ 41 ∷ []))) t.is_year.k t.is_year.ranked (unfold is_name_byte is_letter is_digit in refl)).from 1)

pub date_plain : (v : Value) → is_date v ≡ true → is_range v ≡ false
unfolding is_date date_of there
date_plain v h = go (date_of v) refl
  where
    go : (o : Option Date) → date_of v ≡ o → is_range v ≡ false
    go none e = true_not_false h (ap there e)
    go (some d) e = unfold is_range range_of whole ended there in rw (no_range_lem (spells_whole DateShape date_text enclosed_date.spelled v d (unfold date_of in e)))

-- ---- rows

-- the values in columns of names and of dates are no ranges
unfoldable pub names_plain : List Column → List Value → Bool
names_plain [] vs = true
names_plain (c ∷ cs) [] = true
names_plain (c ∷ cs) (v ∷ vs) = fits_mode c.kind v && names_plain cs vs

-- so it is in these rows of a document with this policy
unfoldable pub rows_plain : Policy → List Row → Bool
rows_plain d rs = all_of (λ r. names_plain (columns_at d r.table) r.values) rs

-- a value of a type fits it
kind_fits : (k : Kind) (v : Value) → cell_has_kind k v ≡ true → fits_mode k v ≡ true
unfolding cell_has_kind has_kind fits_mode
kind_fits numbers v h = refl
kind_fits names v h = ap not (name_plain v h)
kind_fits dates v h = ap not (date_plain v h)

typed_plain : (cs : List Column) (ws : List Word) → mistyped_value cs ws ≡ none → names_plain cs (map (λ (w : Word). w.bytes) ws) ≡ true
unfolding mistyped_value names_plain
typed_plain [] ws h = refl
typed_plain (c ∷ cs) [] h = refl
typed_plain (c ∷ cs) (w ∷ ws) h =
    and_both (fits_mode c.kind w.bytes) _ (kind_fits c.kind w.bytes (unless_none _ w (leftmost_head _ _ h))) (typed_plain cs ws (leftmost_head _ _ (leftmost_tail _ _ h)))

-- a table that is known has the same columns in every policy that keeps what this one knows
columns_kept : (d e : Policy) → Kept d e → (t : Word) → there (table_of d t) ≡ true → columns_at e (or_zero (table_of d t)) ≡ columns_of d t
unfolding columns_at columns_of
columns_kept d e k t h = go (get_elem? d.tables (or_zero (table_of d t))) refl
  where
    is_there : holds_of (λ (x : Table). is_called t x.name) (get_elem? d.tables (or_zero (table_of d t))) ≡ true
    is_there = unfold table_of in (find_index_found _ d.tables (or_zero (table_of d t)) (there_some (table_of d t) h)).0

    go : (o : Option Table) → get_elem? d.tables (or_zero (table_of d t)) ≡ o
        → Option.get_or (Option.map (λ (x : Table). x.columns) (get_elem? e.tables (or_zero (table_of d t)))) [] ≡ Option.get_or (Option.map (λ (x : Table). x.columns) (get_elem? d.tables (or_zero (table_of d t)))) []
    go none p = unfold holds_of in true_not_false is_there (ap (holds_of (λ (x : Table). is_called t x.name)) p)
    go (some x) p = rw (p, k.table _ x p)

row_plain : (d e : Policy) → Kept d e → (t : Word) (is : List Item) → unknown d (row t is) ≡ none → wrong_type d (row t is) ≡ none → rows_plain e (rows_given d (row t is)) ≡ true
unfolding unknown wrong_type rows_given row_meant rows_plain all_of
row_plain d e k t is u y =
    and_both _ true (ap (λ cs. names_plain cs (map (λ (w : Word). w.bytes) (Option.get_or (row_values (scheme_of d t) is) []))) (columns_kept d e k t (unless_none _ t (leftmost_head _ _ u))) ∙ typed_plain (columns_of d t) _ y) refl

form_plain : (d e : Policy) → Kept d e → (f : Form) → unknown d f ≡ none → wrong_type d f ≡ none → rows_plain e (rows_given d f) ≡ true
unfolding rows_given rows_plain all_of
form_plain d e k (purpose n p) u y = refl
form_plain d e k (role n p) u y = refl
form_plain d e k (attr r a x) u y = refl
form_plain d e k (user x r gs) u y = refl
form_plain d e k (cond_role c r t) u y = refl
form_plain d e k (grant p c) u y = refl
form_plain d e k (label l ps qs) u y = refl
form_plain d e k (table t s cs) u y = refl
form_plain d e k (row t is) u y = row_plain d e k t is u y
form_plain d e k (note t n) u y = refl

line_plain : (d : Doc) (P : Policy) → Kept d.policy P → (line : List ℕ) (e : Doc) → rows_plain P d.rows ≡ true → check_line d line ≡ accepted e → rows_plain P e.rows ≡ true
unfolding add rows_plain
line_plain d P k line e h x =
    let a = line_accepted d line e x in
    ap (λ (y : Doc). rows_plain P y.rows) a.added ∙ all_append _ d.rows _ ∙ (λ i. h i && form_plain d.policy P k a.form a.knows a.typed i)

lines_plain : (ps : List (List ℕ)) (d : Doc) (n at : ℕ) (p : List ℕ) (A : Accepted) → rows_plain A.doc.policy d.rows ≡ true → check_from d n at p ps ≡ accepted A → rows_plain A.doc.policy A.doc.rows ≡ true
lines_plain [] d n at p A h e = ap (λ (x : Doc). rows_plain A.doc.policy x.rows) (last_accepted d n at p A e) ∙ h
lines_plain (q ∷ ps) d n at p A h e =
    let i = more_accepted d n at p q ps A e in
    lines_plain ps i.0 _ _ q A (line_plain d A.doc.policy (kept_from (q ∷ ps) d n at p A e) p i.0 h i.1) i.2

-- Values in columns of names and of dates of an accepted document are no ranges.
pub accepted_plain : (text : List ℕ) (A : Accepted) → check text ≡ accepted A → rows_plain A.doc.policy A.doc.rows ≡ true
unfolding empty_doc rows_plain all_of
accepted_plain text A h = let i = check_accepted text A h in lines_plain _ empty_doc 0 0 _ A refl i.1

-- ---- by column

empty_fits : (k : Kind) → fits_mode k [] ≡ true
unfolding fits_mode
empty_fits numbers = refl
empty_fits names = ap not (unopened [] (λ e. absurd (omega (arith, e))))
empty_fits dates = ap not (unopened [] (λ e. absurd (omega (arith, e))))

plain_at_lem : (cs : List Column) (vs : List Value) → names_plain cs vs ≡ true → (c : ℕ) (k : Column) → get_elem? cs c ≡ some k → fits_mode k.kind (get_or vs c []) ≡ true
unfolding names_plain
plain_at_lem [] vs h c k e = absurd (none-ne-some k e)
plain_at_lem (x ∷ cs) [] h c k e = empty_fits k.kind
plain_at_lem (x ∷ cs) (v ∷ vs) h zero k e = ap (λ (y : Column). fits_mode y.kind v) (sym (some-injective _ _ e)) ∙ and_left (fits_mode x.kind v) _ h
plain_at_lem (x ∷ cs) (v ∷ vs) h (suc c) k e = plain_at_lem cs vs (and_right (fits_mode x.kind v) _ h) c k e

-- so it is of the column of a word, whose type is that of its column
pub plain_word_lem : (cs : List Column) (vs : List Value) → names_plain cs vs ≡ true → (w : Word) → fits_mode (column_kind cs w) (get_or vs (or_zero (column_of cs w)) []) ≡ true
unfolding column_kind bind or_zero
plain_word_lem cs vs h w = by_number (column_of cs w)
  where
    by_column : (n : ℕ) (o : Option Column) → get_elem? cs n ≡ o → fits_mode (Option.get_or (Option.map (λ (x : Column). x.kind) o) numbers) (get_or vs n []) ≡ true
    by_column n none e = unfold fits_mode in refl
    by_column n (some k) e = plain_at_lem cs vs h n k e

    by_number : (o : Option ℕ) → fits_mode (Option.get_or (Option.map (λ (x : Column). x.kind) (bind o (get_elem? cs))) numbers) (get_or vs (Option.get_or o 0) []) ≡ true
    by_number none = unfold fits_mode bind in refl
    by_number (some n) = unfold bind in by_column n (get_elem? cs n) refl
