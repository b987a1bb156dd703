-- Fields, records and files as the writing code goes through them: each step writes what comes next of the lines. Assumes nothing.
use Prim.Native.Nat.{◌+◌, ◌-◌, ◌<◌, ◌≤◌, suc, zero, ℕ}
use borrow.Author.Tests.{eqb-false, eqb-true, ltb-false, ltb-true}
use lib.Dec.{eqb, ltb}
use lib.ListN.{drop, get_or, length}
use mathlib.Core.Bool.{Bool, cond, false, true}
use mathlib.Core.List.{List, [], ◌++◌, ◌∷◌, append_assoc, flatten}
use mathlib.Core.Option.{Option, none-ne-some, none, some}
use mathlib.Core.Path.{◌∙◌, ◌≡◌, ap, refl, subst, sym}
use native.Mathlib.Omega.{arith}
use Rattle.form.proofs.RowBack.{row_text_bytes}
use Rattle.form.specs.Form.{has_brackets, leads_label}
use Rattle.form.specs.RowText.{item_texts, spaced, value_texts}
use Rattle.csv_text.proofs.FieldLaws.{eats_field, field_fit, field_is, field_plain}
use Rattle.csv_text.proofs.RecordLaws.{eats_fields, end_next, fields_broken, fields_last, fields_more}
use Rattle.csv_text.proofs.ScanLaws.{record_none, record_other, record_read, records_end, records_step}
use Rattle.writing.proofs.Writing.{Ahead, both, done, start, step}
use Rattle.import.specs.Importing.{one_label, record_line, record_lines}
use Rattle.import.specs.Placement.{FieldPlaced, FieldsPlaced, Placing, RowPlaced, RowsPlaced}
use Rattle.csv_text.specs.Fields.{Field, field, plain_bytes}
use Rattle.csv_text.specs.Records.{Entry, Split, entry_before, fields, fields_up_to, first_unfit, go_on, malformed, record_end, record_of, records, records_up_to, split, width}
use Rattle.writing.specs.Write.{Wrote}
use Rattle.import.specs.declared.rows.Placed.{Placed}
use Rattle.lists.proofs.Tests.{and_left, and_right}
use Rattle.lists.specs.Lists.{all_of}
use Rattle.text.proofs.ReaderLaws.{got, left_from, not_read, then_some}
use Rattle.text.specs.Bytes.{ascii}
use Rattle.text.specs.Names.{Name}
use Rattle.text.specs.Numbers.{is_value}
use Rattle.text.specs.Reader.{Left, from, give}
use Rattle.text.specs.Walking.{past}
use Rattle.text.specs.Words.{word_at}

-- ---- a field

pub field_placed : (s : List ℕ) (at : ℕ) {begin : ℕ} {before mid after : List ℕ} {to next : ℕ} (r : Placed)
    → begin ≡ past 34 s at → Wrote before to (32 ∷ []) mid next → Wrote mid next (plain_bytes (drop begin s)) after r.to
    → r.at ≡ begin + length (plain_bytes (drop begin s)) + (begin - at) → at ≤ past 34 s at
    → FieldPlaced s at before to after r
field_placed s at {begin} {before} {mid} {after} {to} {next} r b w x e h = record {
  kept = x.kept ∙ w.kept;
  on = omega (arith, e, b, h);
  placed = λ v l f k.
      let q = field_fit s at (field_is s at v l f) k in
      let p : plain_bytes (drop begin s) ≡ word_at s begin = ap (λ (n : ℕ). plain_bytes (drop n s)) b ∙ field_plain s at v l f k ∙ ap (λ (n : ℕ). word_at s n) (sym b) in
      let i : v ≡ plain_bytes (drop begin s) = q.0 ∙ ap (λ (n : ℕ). word_at s n) (sym b) ∙ sym p in
      record {
        wrote = subst (λ (bs : List ℕ). Wrote before to (32 ∷ bs) after r.to) (sym i) (both w x);
        next = e ∙ ap (λ (bs : List ℕ). begin + length bs + (begin - at)) p ∙ ap (λ (n : ℕ). n + length (word_at s n) + (n - at)) b ∙ sym q.1;
      };
}

-- ---- the fields of a record

-- what was read at i: a field, and then the others behind a comma, or the record's end
pub record Firstly (s : List ℕ) (i : ℕ) (ws : List Field) (l : Left) : Type 0 where
  pub v : Field
  pub e : ℕ
  pub read : field (from s i) ≡ some (v, from s e)
  pub heads : (us : List Field) × (ws ≡ v ∷ us)
  pub fuel : ℕ
  pub others : get_or s e 0 ≡ 44 → (vs : List Field) × (ws ≡ v ∷ vs) × (fields_up_to fuel (from s (e + 1)) ≡ some (vs, l))
  pub last : (get_or s e 0 ≡ 44 → ⊥) → (ws ≡ v ∷ []) × (l ≡ from s (past 10 s (past 13 s e)))

pub firstly : (n : ℕ) (s : List ℕ) (i : ℕ) (ws : List Field) (l : Left) → fields_up_to n (from s i) ≡ some (ws, l) → Firstly s i ws l
firstly zero s i ws l h = unfold fields_up_to in not_read (ws, l) h
firstly (suc n) s i ws l h = go (field (from s i)) refl
  where
    made : (v : Field) (e : ℕ) → field (from s i) ≡ some (v, from s e) → Firstly s i ws l
    made v e f = record {
      v = v;
      e = e;
      read = f;
      heads = either (eqb (get_or s e 0) 44) refl;
      fuel = n;
      others = more_of;
      last = last_of;
    }
      where
        more_of : get_or s e 0 ≡ 44 → (vs : List Field) × (ws ≡ v ∷ vs) × (fields_up_to n (from s (e + 1)) ≡ some (vs, l))
        more_of c =
            let q = then_some (fields_up_to n (from s (e + 1))) (λ vs. give (v ∷ vs)) (ws, l) (sym (fields_more s i v e f n c) ∙ h) in
            let g = got (v ∷ q.0.0, q.0.1) ws l q.2 in
            (q.0.0, sym g.0, q.1 ∙ ap (λ (m : Left). some (q.0.0, m)) g.1)

        last_of : (get_or s e 0 ≡ 44 → ⊥) → (ws ≡ v ∷ []) × (l ≡ from s (past 10 s (past 13 s e)))
        last_of c =
            let q = then_some (record_end (from s e)) (λ u. give (v ∷ [])) (ws, l) (sym (fields_last s i v e f n c) ∙ h) in
            let g = got (v ∷ [], q.0.1) ws l q.2 in
            (sym g.0, sym g.1 ∙ end_next s e q.0.0 q.0.1 q.1)

        either : (b : Bool) → eqb (get_or s e 0) 44 ≡ b → (us : List Field) × (ws ≡ v ∷ us)
        either true c = let m = more_of (eqb-true (get_or s e 0) 44 c) in (m.0, m.1)
        either false c = ([], (last_of (eqb-false (get_or s e 0) 44 c)).0)

    go : (o : Option (Field × Left)) → field (from s i) ≡ o → Firstly s i ws l
    go none f = not_read (ws, l) (sym (fields_broken s i n f) ∙ h)
    go (some r) f = made r.0 r.1.at (f ∙ ap (λ (m : Left). some (r.0, m)) (left_from s i (eats_field (from s i) r.0 r.1 f)))

-- at the loop's place i the fields ws are left of the record
pub record FieldsLeft (s : List ℕ) (i : ℕ) (vs : List Field) (l : Left) (before : List ℕ) (to : ℕ) (out : List ℕ) (t : ℕ) : Type 0 where
  pub ws : List Field
  pub fuel : ℕ
  pub read : fields_up_to fuel (from s i) ≡ some (ws, l)
  pub fit : all_of is_value ws ≡ true
  pub ahead : Ahead before to (spaced vs) out t (spaced ws)

-- so it is for every reading of the record
pub record PuttingFields (s : List ℕ) (at i : ℕ) (before : List ℕ) (to : ℕ) (out : List ℕ) (t : ℕ) : Type 0 where
  pub kept : length out ≡ length before
  pub each : (vs : List Field) (l : Left) → fields (from s at) ≡ some (vs, l) → all_of is_value vs ≡ true → FieldsLeft s i vs l before to out t

pub fields_start : (s : List ℕ) (at : ℕ) (before : List ℕ) (to : ℕ) → PuttingFields s at at before to before to
unfolding fields
fields_start s at before to = record { kept = refl; each = λ vs l f k. record { ws = vs; fuel = _; read = f; fit = k; ahead = start before to (spaced vs) } }

pub spaced_one : (v : Field) (vs : List Field) → spaced (v ∷ vs) ≡ (32 ∷ v) ++ spaced vs
unfolding spaced flatten
spaced_one v vs = refl

head_fit : {ws us : List Field} (v : Field) → ws ≡ v ∷ us → all_of is_value ws ≡ true → is_value v ≡ true
unfolding all_of
head_fit {ws} {us} v q h = and_left (is_value v) (all_of is_value us) (sym (ap (all_of is_value) q) ∙ h)

tail_fit : {ws us : List Field} (v : Field) → ws ≡ v ∷ us → all_of is_value ws ≡ true → all_of is_value us ≡ true
unfolding all_of
tail_fit {ws} {us} v q h = and_right (is_value v) (all_of is_value us) (sym (ap (all_of is_value) q) ∙ h)

module _ (s : List ℕ) (i : ℕ) {vs : List Field} {l : Left} {before out out' : List ℕ} {to t : ℕ} (p : Placed) (a : FieldsLeft s i vs l before to out t) (x : FieldPlaced s i out t out' p) where
  -- a comma behind the field
  more_left : get_or s p.at 0 ≡ 44 → FieldsLeft s (p.at + 1) vs l before to out' p.to
  more_left c =
      let y = firstly a.fuel s i a.ws l a.read in
      let q = x.placed y.v (from s y.e) y.read (head_fit y.v y.heads.1 a.fit) in
      let o = y.others (ap (λ (n : ℕ). get_or s n 0) (sym q.next) ∙ c) in
      record {
        ws = o.0;
        fuel = y.fuel;
        read = ap (λ (n : ℕ). fields_up_to y.fuel (from s (n + 1))) q.next ∙ o.2;
        fit = tail_fit y.v o.1 a.fit;
        ahead = step (32 ∷ y.v) (spaced o.0) a.ahead (ap spaced o.1 ∙ spaced_one y.v o.0) q.wrote;
      }

  -- no comma: the record ends
  none_left : (get_or s p.at 0 ≡ 44 → ⊥) → (r : Placed) → r.to ≡ p.to → r.at ≡ past 10 s (past 13 s p.at) → Placing l before to (spaced vs) out' r
  unfolding spaced flatten
  none_left c r b d =
      let y = firstly a.fuel s i a.ws l a.read in
      let q = x.placed y.v (from s y.e) y.read (head_fit y.v y.heads.1 a.fit) in
      let o = y.last (λ k. c (ap (λ (n : ℕ). get_or s n 0) q.next ∙ k)) in
      record {
        wrote = subst (λ (n : ℕ). Wrote before to (spaced vs) out' n) (sym b) (done (step (32 ∷ y.v) (spaced []) a.ahead (ap spaced o.0 ∙ spaced_one y.v []) q.wrote) refl);
        next = d ∙ ap (λ (n : ℕ). past 10 s (past 13 s n)) q.next ∙ sym (ap (λ (m : Left). m.at) o.1);
      }

module _ (s : List ℕ) (at : ℕ) {i : ℕ} {before out out' : List ℕ} {to t : ℕ} (p : Placed) (g : PuttingFields s at i before to out t) (x : FieldPlaced s i out t out' p) where
  pub fields_next : get_or s p.at 0 ≡ 44 → PuttingFields s at (p.at + 1) before to out' p.to
  fields_next c = record { kept = x.kept ∙ g.kept; each = λ vs l f k. more_left s i p (g.each vs l f k) x c }

  pub fields_done : (get_or s p.at 0 ≡ 44 → ⊥) → (r : Placed) → r.to ≡ p.to → r.at ≡ past 10 s (past 13 s p.at) → FieldsPlaced s at before to out' r
  fields_done c r b d = record { kept = x.kept ∙ g.kept; placed = λ vs l f k. none_left s i p (g.each vs l f k) x c r b d }

-- ---- a row line

pub line_bytes_lem : (t l : Name) (vs : List Field) → record_line t l vs ≡ (40 ∷ 114 ∷ 111 ∷ 119 ∷ 32 ∷ []) ++ t ++ (32 ∷ []) ++ l ++ spaced vs ++ (41 ∷ 10 ∷ [])
unfolding record_line item_texts leads_label has_brackets value_texts spaced flatten
line_bytes_lem t l vs = ap (λ (bs : List ℕ). bs ++ 10 ∷ []) (row_text_bytes one_label (ascii "row") t (l ∷ []) vs) ∙ simp append_assoc

pub row_placed : (s : List ℕ) (at : ℕ) (t l : Name) {b0 b1 b2 b3 b4 b5 b6 : List ℕ} {to n1 n2 n3 n4 : ℕ} (p r : Placed)
    → Wrote b0 to (40 ∷ 114 ∷ 111 ∷ 119 ∷ 32 ∷ []) b1 n1 → Wrote b1 n1 t b2 n2 → Wrote b2 n2 (32 ∷ []) b3 n3 → Wrote b3 n3 l b4 n4
    → FieldsPlaced s at b4 n4 b5 p → Wrote b5 p.to (41 ∷ 10 ∷ []) b6 r.to → r.at ≡ p.at
    → RowPlaced s at t l b0 to b6 r
row_placed s at t l {b0} {b1} {b2} {b3} {b4} {b5} {b6} {to} {n1} {n2} {n3} {n4} p r w1 w2 w3 w4 x w6 e = record {
  kept = w6.kept ∙ x.kept ∙ w4.kept ∙ w3.kept ∙ w2.kept ∙ w1.kept;
  placed = λ vs m f k.
      let q = x.placed vs m f k in
      record {
        wrote = subst (λ (bs : List ℕ). Wrote b0 to bs b6 r.to) (sym (line_bytes_lem t l vs)) (both (both (both (both (both w1 w2) w3) w4) q.wrote) w6);
        next = e ∙ q.next;
      };
}

-- ---- the records of a file

-- what was read at i: a record, and then the others
record Nextly (s : List ℕ) (w i : ℕ) (d : Entry) (ds : List Entry) : Type 0 where
  e : ℕ
  read : fields (from s i) ≡ some (d.fields, from s e)
  fuel : ℕ
  others : records_up_to fuel w (from s e) ≡ split ds

never_split : {A : Type 0} {p : ℕ} {es : List Entry} → malformed p ≡ split es → A
never_split h = let x : ◌≡◌ {A = ℕ} 0 1 = cc in absurd (omega arith)

never_empty : {A : Type 0} {d : Entry} {ds : List Entry} → split [] ≡ split (d ∷ ds) → A
never_empty h = let x : ◌≡◌ {A = ℕ} 0 1 = cc in absurd (omega arith)

module _ (i : ℕ) (rest : Left → Split) {o : Option (List Field × Left)} where
  goes_none : {A : Type 0} {es : List Entry} → o ≡ none → go_on i rest o ≡ split es → A
  unfolding go_on
  goes_none q k = never_split (sym (ap (go_on i rest) q) ∙ k)

  goes_some : {vs : List Field} {l : Left} {p : Split} → o ≡ some (vs, l) → go_on i rest o ≡ p → entry_before (record { at = i; fields = vs }) (rest l) ≡ p
  unfolding go_on
  goes_some q k = sym (ap (go_on i rest) q) ∙ k

nextly : (n : ℕ) (s : List ℕ) (w i : ℕ) (d : Entry) (ds : List Entry) → records_up_to n w (from s i) ≡ split (d ∷ ds) → Nextly s w i d ds
nextly zero s w i d ds h = unfold records_up_to in never_empty h
nextly (suc n) s w i d ds h = inside (ltb i (length s)) refl
  where
    then : (vs : List Field) (l : Left) → fields (from s i) ≡ some (vs, l) → (p : Split) → records_up_to n w l ≡ p → entry_before (record { at = i; fields = vs }) p ≡ split (d ∷ ds) → Nextly s w i d ds
    then vs l f (malformed q) r k = unfold entry_before in never_split k
    then vs l f (split es) r k = made (unfold entry_before in k)
      where
        made : split (record { at = i; fields = vs } ∷ es) ≡ split (d ∷ ds) → Nextly s w i d ds
        made k =
            let a : record { at = i; fields = vs } ≡ d = cc in
            let b : es ≡ ds = cc in
            let m : l ≡ from s l.at = left_from s i (eats_fields (from s i) vs l f) in
            record {
              e = l.at;
              read = f ∙ ap (λ (m : Left). some (vs, m)) m ∙ ap (λ (x : Entry). some (x.fields, from s l.at)) a;
              fuel = n;
              others = ap (records_up_to n w) (sym m) ∙ r ∙ ap split b;
            }

    counted : (vs : List Field) (l : Left) → fields (from s i) ≡ some (vs, l) → go_on i (records_up_to n w) (record_of w (from s i)) ≡ split (d ∷ ds) → (b : Bool) → eqb (length vs) w ≡ b → Nextly s w i d ds
    counted vs l f k true c = then vs l f (records_up_to n w l) refl (goes_some i (records_up_to n w) (record_read s w i vs l f (eqb-true (length vs) w c)) k)
    counted vs l f k false c = goes_none i (records_up_to n w) (record_other s w i vs l f (eqb-false (length vs) w c)) k

    by : go_on i (records_up_to n w) (record_of w (from s i)) ≡ split (d ∷ ds) → (o : Option (List Field × Left)) → fields (from s i) ≡ o → Nextly s w i d ds
    by k none f = goes_none i (records_up_to n w) (record_none s w i f) k
    by k (some r) f = counted r.0 r.1 f k (eqb (length r.0) w) refl

    inside : (b : Bool) → ltb i (length s) ≡ b → Nextly s w i d ds
    inside true c = by (sym (records_step s w i n (ltb-true i (length s) c)) ∙ h) (fields (from s i)) refl
    inside false c = never_empty (sym (records_end s w i (suc n) (ltb-false i (length s) c)) ∙ h)

-- a record of names and numbers, and those behind it
pub unfit_first : (d : Entry) (ds : List Entry) → first_unfit (d ∷ ds) ≡ none → (all_of is_value d.fields ≡ true) × (first_unfit ds ≡ none)
unfolding first_unfit
unfit_first d ds h = go (all_of is_value d.fields) h
  where
    go : (b : Bool) → cond b (first_unfit ds) (some d.at) ≡ none → (b ≡ true) × (first_unfit ds ≡ none)
    go true k = (refl, k)
    go false k = absurd (none-ne-some _ (sym k))

-- at the loop's place i the records ds are left of the file
pub record RowsLeft (s : List ℕ) (i : ℕ) (t l : Name) (es : List Entry) (before out : List ℕ) (to left : ℕ) : Type 0 where
  pub ds : List Entry
  pub fuel : ℕ
  pub read : records_up_to fuel (width s) (from s i) ≡ split ds
  pub fit : first_unfit ds ≡ none
  pub count : length ds ≡ left
  pub ahead : Ahead before 0 (record_lines t l es) out to (record_lines t l ds)

-- so it is if the file has these records
pub record PuttingRows (s : List ℕ) (i k count : ℕ) (t l : Name) (before out : List ℕ) (to : ℕ) : Type 0 where
  pub kept : length out ≡ length before
  pub each : (es : List Entry) → records s ≡ split es → first_unfit es ≡ none → count ≡ length es → RowsLeft s i t l es before out to (count - k)

pub rows_start : (s : List ℕ) (count : ℕ) (t l : Name) (before : List ℕ) → PuttingRows s 0 0 count t l before before 0
unfolding records
rows_start s count t l before = record {
  kept = refl;
  each = λ es r f c. record { ds = es; fuel = length s; read = r; fit = f; count = omega (arith, c); ahead = start before 0 (record_lines t l es) };
}

pub lines_one : (t l : Name) (d : Entry) (ds : List Entry) → record_lines t l (d ∷ ds) ≡ record_line t l d.fields ++ record_lines t l ds
unfolding record_lines flatten
lines_one t l d ds = refl

row_next : (s : List ℕ) (i : ℕ) (t l : Name) {es : List Entry} {before out out' : List ℕ} {to left : ℕ} (p : Placed)
    → RowsLeft s i t l es before out to left → RowPlaced s i t l out to out' p → 0 < left → RowsLeft s p.at t l es before out' p.to (left - 1)
row_next s i t l {es} {before} {out} {out'} {to} {left} p a x h = go a.ds a.read a.fit a.count a.ahead
  where
    go : (ds : List Entry) → records_up_to a.fuel (width s) (from s i) ≡ split ds → first_unfit ds ≡ none → length ds ≡ left → Ahead before 0 (record_lines t l es) out to (record_lines t l ds)
        → RowsLeft s p.at t l es before out' p.to (left - 1)
    go [] r f c w = absurd (omega (arith, c, h))
    go (d ∷ ds) r f c w =
        let y = nextly a.fuel s (width s) i d ds r in
        let u = unfit_first d ds f in
        let q = x.placed d.fields (from s y.e) y.read u.0 in
        record {
          ds = ds;
          fuel = y.fuel;
          read = ap (λ (n : ℕ). records_up_to y.fuel (width s) (from s n)) q.next ∙ y.others;
          fit = u.1;
          count = omega (arith, c);
          ahead = step (record_line t l d.fields) (record_lines t l ds) w (lines_one t l d ds) q.wrote;
        }

module _ (s : List ℕ) (count : ℕ) (t l : Name) {i k : ℕ} {before out : List ℕ} {to : ℕ} (g : PuttingRows s i k count t l before out to) where
  pub rows_next : k < count → (p : Placed) {out' : List ℕ} → RowPlaced s i t l out to out' p → PuttingRows s p.at (k + 1) count t l before out' p.to
  rows_next h p {out'} x = record {
    kept = x.kept ∙ g.kept;
    each = λ es r f c.
        let e : count - k - 1 ≡ count - (k + 1) = omega arith in
        subst (λ (n : ℕ). RowsLeft s p.at t l es before out' p.to n) e (row_next s i t l p (g.each es r f c) x (omega (arith, h)));
  }

  pub rows_done : count ≤ k → RowsPlaced s count t l before out to
  rows_done h = record { kept = g.kept; placed = λ es r f c. let a = g.each es r f c in done a.ahead (none_of a.ds (omega (arith, h, a.count))) }
    where
      none_of : (ds : List Entry) → length ds ≡ 0 → record_lines t l ds ≡ []
      none_of [] e = unfold record_lines flatten in refl
      none_of (d ∷ ds) e = absurd (omega (arith, e))
