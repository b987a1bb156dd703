-- A file that is not refused with 19 is written as RFC 4180 lets it be, in lines of one width, and says what was read: the converse of
-- proofs/Rendered. So 19 is given to no other file. Assumes nothing.
use Prim.Native.Nat.{◌<◌, ◌≤◌, suc, zero, ℕ}
use borrow.Author.Tests.{eqb-true}
use lib.Dec.{eqb}
use lib.ListN.{drop, length}
use mathlib.Core.Bool.{Bool, ◌&&◌, cond, false, not, true}
use mathlib.Core.List.{List, [], ◌++◌, ◌∷◌, append_assoc, map}
use mathlib.Core.Logic.{◌⊎◌, inl, inr, ⊎_elim}
use mathlib.Core.Option.{Option, some-injective, none, some}
use mathlib.Core.Path.{◌∙◌, ◌≡◌, ap, ap₂, refl, subst, sym}
use native.Mathlib.Omega.{arith}
use Rattle.csv_text.proofs.FieldLaws.{taken_some, wrap_some}
use Rattle.csv_text.proofs.Rendered.{Ended, by_feed, by_file, by_return, empty, file_text_lem, line_ends, line_takes, quoted_other, rendered}
use Rattle.csv_text.specs.Fields.{Field, bare, field, in_quotes, is_plain, plain_bytes, quoted, wrap}
use Rattle.csv_text.specs.Records.{Entry, Split, entry_before, fields, fields_up_to, go_on, line_ending, malformed, record_end, record_of, records, records_up_to, split, width}
use Rattle.csv_text.specs.Rendered.{Cell, Ending, Line, WrittenAs, cell_text, cells_text, doubled, end_text, ends_by, ends_well, feed, file_end, file_text, is_cell, is_file, is_line, line_fields, return_feed}
use Rattle.lists.proofs.Tests.{and_both, and_left, true_not_false}
use Rattle.lists.specs.Lists.{all_of, is_empty}
use Rattle.text.proofs.ReaderLaws.{got, not_read, then_some}
use Rattle.text.proofs.Written.{Spells, prints_bind, spells_byte, spells_give, spells_if_next}
use Rattle.text.specs.Reader.{Left, Reader, ◌>>=◌, ◌>>◌, and_then, byte, from, give, if_next, next_is, require, skip}

-- ---- fields

plain_stands : (bs : List ℕ) → bs ≡ plain_bytes bs ++ drop (length (plain_bytes bs)) bs
unfolding plain_bytes
plain_stands [] = refl
plain_stands (b ∷ bs) = go (is_plain b) (plain_stands bs)
  where
    go : (t : Bool) → bs ≡ plain_bytes bs ++ drop (length (plain_bytes bs)) bs → b ∷ bs ≡ cond t (b ∷ plain_bytes bs) [] ++ drop (length (cond t (b ∷ plain_bytes bs) [])) (b ∷ bs)
    go true h = ap (λ (cs : List ℕ). b ∷ cs) h
    go false h = refl

plain_all : (bs : List ℕ) → all_of is_plain (plain_bytes bs) ≡ true
unfolding plain_bytes all_of
plain_all [] = refl
plain_all (b ∷ bs) = go (is_plain b) refl (plain_all bs)
  where
    go : (t : Bool) → is_plain b ≡ t → all_of is_plain (plain_bytes bs) ≡ true → all_of is_plain (cond t (b ∷ plain_bytes bs) []) ≡ true
    go true e r = unfold all_of in and_both (is_plain b) (all_of is_plain (plain_bytes bs)) e r
    go false e r = unfold all_of in refl

-- a quote that closes, and one that is doubled
quote_next : (bs : List ℕ) (p : Field × ℕ) → quoted true bs ≡ some p
    → ((p.0 ≡ []) × (p.1 ≡ 0)) ⊎ ((cs : List ℕ) × (q : Field × ℕ) × (bs ≡ 34 ∷ cs) × (quoted false cs ≡ some q) × (p.0 ≡ 34 ∷ q.0) × (p.1 ≡ suc q.1))
unfolding quoted
quote_next [] p h = let e : ◌≡◌ {A = Field × ℕ} ([], 0) p = some-injective _ _ h in inl (sym (ap (λ (x : Field × ℕ). x.0) e), sym (ap (λ (x : Field × ℕ). x.1) e))
quote_next (c ∷ cs) p h = go (eqb c 34) refl h
  where
    go : (t : Bool) → eqb c 34 ≡ t → cond t (wrap (c ∷ []) (quoted false cs)) (some ([], 0)) ≡ some p
        → ((p.0 ≡ []) × (p.1 ≡ 0)) ⊎ ((ds : List ℕ) × (q : Field × ℕ) × (c ∷ cs ≡ 34 ∷ ds) × (quoted false ds ≡ some q) × (p.0 ≡ 34 ∷ q.0) × (p.1 ≡ suc q.1))
    go true e k =
        let w = wrap_some (c ∷ []) (quoted false cs) p k in
        let i = eqb-true c 34 e in
        inr (cs, w.0, ap (λ (x : ℕ). x ∷ cs) i, w.1, w.2 ∙ ap (λ (x : ℕ). x ∷ w.0.0) i, w.3)
    go false e k = let q : ◌≡◌ {A = Field × ℕ} ([], 0) p = some-injective _ _ k in inl (sym (ap (λ (x : Field × ℕ). x.0) q), sym (ap (λ (x : Field × ℕ). x.1) q))

doubled_other : (b : ℕ) (bs : List ℕ) → eqb b 34 ≡ false → doubled (b ∷ bs) ≡ b ∷ doubled bs
unfolding doubled
doubled_other b bs e = rw e

doubled_quote : (bs : List ℕ) → doubled (34 ∷ bs) ≡ 34 ∷ 34 ∷ doubled bs
unfolding doubled
doubled_quote bs = refl

doubled_none : doubled [] ≡ []
unfolding doubled
doubled_none = refl

quoted_quote : (b : ℕ) (bs : List ℕ) → eqb b 34 ≡ true → quoted false (b ∷ bs) ≡ wrap [] (quoted true bs)
unfolding quoted
quoted_quote b bs e = rw e

none_quoted : {A : Type 0} (bs : List ℕ) (p : Field × ℕ) → length bs ≤ 0 → quoted false bs ≡ some p → A
unfolding quoted
none_quoted [] p l h = not_read p h
none_quoted (b ∷ bs) p l h = absurd (omega (arith, l))

quoted_step : (n : ℕ) → ((cs : List ℕ) (q : Field × ℕ) → length cs ≤ n → quoted false cs ≡ some q → cs ≡ doubled q.0 ++ 34 ∷ drop q.1 cs) → (bs : List ℕ) (p : Field × ℕ) → length bs ≤ suc n → quoted false bs ≡ some p
    → bs ≡ doubled p.0 ++ 34 ∷ drop p.1 bs
quoted_step n ih [] p l h = none_quoted [] p (omega arith) h
quoted_step n ih (b ∷ bs) p l h = go ih (eqb b 34) refl
  where
    go : ((cs : List ℕ) (q : Field × ℕ) → length cs ≤ n → quoted false cs ≡ some q → cs ≡ doubled q.0 ++ 34 ∷ drop q.1 cs) → (t : Bool) → eqb b 34 ≡ t → b ∷ bs ≡ doubled p.0 ++ 34 ∷ drop p.1 (b ∷ bs)
    go ih false e =
        let w = wrap_some (b ∷ []) (quoted false bs) p (sym (quoted_other b bs e) ∙ h) in
        ap (λ (x : List ℕ). b ∷ x) (ih bs w.0 (omega (arith, l)) w.1)
        ∙ ap₂ (λ (x : List ℕ) (k : ℕ). x ++ 34 ∷ drop k (b ∷ bs)) (sym (doubled_other b w.0.0 e) ∙ ap doubled (sym w.2)) (sym w.3)
    go ih true e =
        let w = wrap_some [] (quoted true bs) p (sym (quoted_quote b bs e) ∙ h) in
        let i = eqb-true b 34 e in
        ⊎_elim
        (λ y. ap (λ (x : ℕ). x ∷ bs) i ∙ ap₂ (λ (x : List ℕ) (k : ℕ). x ++ 34 ∷ drop k (b ∷ bs)) (sym doubled_none ∙ ap doubled (sym (w.2 ∙ y.0))) (sym (w.3 ∙ ap suc y.1)))
        (λ y.
        let j : bs ≡ 34 ∷ y.0 = y.2 in
        let z : length y.0 ≤ n = omega (arith, l, ap length j) in
        ap (λ (x : ℕ). x ∷ bs) i ∙ ap (λ (x : List ℕ). 34 ∷ x) (j ∙ ap (λ (x : List ℕ). 34 ∷ x) (ih y.0 y.1 z y.3 ∙ ap (λ (x : List ℕ). doubled y.1.0 ++ 34 ∷ drop (suc y.1.1) x) (sym j)))
        ∙ ap₂ (λ (x : List ℕ) (k : ℕ). x ++ 34 ∷ drop k (b ∷ bs)) (sym (doubled_quote y.1.0) ∙ ap doubled (sym (w.2 ∙ y.4))) (sym (w.3 ∙ ap suc y.5)))
        (quote_next bs w.0 w.1)

quoted_written : (n : ℕ) (bs : List ℕ) (p : Field × ℕ) → length bs ≤ n → quoted false bs ≡ some p → bs ≡ doubled p.0 ++ 34 ∷ drop p.1 bs
quoted_written zero bs p l h = none_quoted bs p l h
quoted_written (suc n) bs p l h = quoted_step n (λ cs q j k. quoted_written n cs q j k) bs p l h

-- a field as it is written between what is left before and after it
record FieldWritten (l : Left) (v : Field) (l' : Left) : Type 0 where
  cell : Cell
  says : cell.says ≡ v
  fit : is_cell cell ≡ true
  text : l.bytes ≡ cell_text cell ++ l'.bytes

quoted_so : (l m : Left) (v : Field) (l' : Left) → l.bytes ≡ 34 ∷ m.bytes → in_quotes m ≡ some (v, l') → FieldWritten l v l'
unfolding in_quotes is_cell cell_text
quoted_so l m v l' b k =
    let t = taken_some m (quoted false m.bytes) v l' k in
    let q = quoted_written (length m.bytes) m.bytes t.0 (omega arith) t.1 in
    let r : m.bytes ≡ doubled v ++ 34 ∷ l'.bytes = q ∙ ap₂ (λ (x : Field) (y : List ℕ). doubled x ++ 34 ∷ y) (sym t.2) (sym (ap (λ (x : Left). x.bytes) t.3)) in
    record {
      cell = record { in_quotes = true; says = v };
      says = refl;
      fit = refl;
      text = b ∙ ap (λ (x : List ℕ). 34 ∷ x) (r ∙ sym (append_assoc (doubled v) (34 ∷ []) l'.bytes));
    }

bare_so : (l : Left) (v : Field) (l' : Left) → bare l ≡ some (v, l') → FieldWritten l v l'
unfolding bare is_cell cell_text
bare_so l v l' k =
    let g = got (plain_bytes l.bytes, skip (length (plain_bytes l.bytes)) l) v l' k in
    record {
      cell = record { in_quotes = false; says = plain_bytes l.bytes };
      says = g.0;
      fit = plain_all l.bytes;
      text = plain_stands l.bytes ∙ ap (λ (x : Left). plain_bytes l.bytes ++ x.bytes) g.1;
    }

field_written : (l : Left) (v : Field) (l' : Left) → field l ≡ some (v, l') → FieldWritten l v l'
unfolding field if_next
field_written l v l' h = go (next_is 34 l) h
  where
    go : (t : Bool) → cond {A = Reader Field} t (byte 34 >> in_quotes) bare l ≡ some (v, l') → FieldWritten l v l'
    go true k =
        let r = then_some (byte 34 l) (λ a. in_quotes) (v, l') k in
        let x = spells_byte 34 (λ z. absurd (omega arith)) l r.0.0 r.0.1 r.1 in
        quoted_so l r.0.1 v l' (x.stood ∙ ap (λ (y : List ℕ). y ++ r.0.1.bytes) x.spells.is) r.2
    go false k = bare_so l v l' k

-- ---- the end of a record

LineBytes : Unit {0} → List ℕ → Type 0
LineBytes u bs = (bs ≡ 10 ∷ []) ⊎ (bs ≡ 13 ∷ 10 ∷ [])

line_spelled : Spells LineBytes line_ending
unfolding line_ending LineBytes
line_spelled = spells_if_next _ 13 _ _
    (prints_bind (λ c. 13 ∷ []) (λ c. true) _ (byte 13) _ (spells_byte 13 (λ z. absurd (omega arith))) (λ c _.
    prints_bind (λ c. 10 ∷ []) (λ c. true) _ (byte 10) _ (spells_byte 10 (λ z. absurd (omega arith))) (λ c _. spells_give _ tt (inr refl))))
    (prints_bind (λ c. 10 ∷ []) (λ c. true) _ (byte 10) _ (spells_byte 10 (λ z. absurd (omega arith))) (λ c _. spells_give _ tt (inl refl)))

record EndWritten (l l' : Left) : Type 0 where
  ending : Ending
  ended : Ended ending l'.bytes
  text : l.bytes ≡ end_text ending l'.bytes

end_written : (l : Left) (u : Unit {0}) (l' : Left) → record_end l ≡ some (u, l') → EndWritten l l'
unfolding record_end LineBytes
end_written l u l' h = go (is_empty l.bytes) refl h
  where
    by_feed_lem : l.bytes ≡ 10 ∷ l'.bytes → EndWritten l l'
    by_feed_lem e = record { ending = feed; ended = by_feed; text = unfold end_text in e }

    by_return_lem : l.bytes ≡ 13 ∷ 10 ∷ l'.bytes → EndWritten l l'
    by_return_lem e = record { ending = return_feed; ended = by_return; text = unfold end_text in e }

    by_file_lem : (bs : List ℕ) → bs ≡ l'.bytes → l.bytes ≡ bs → bs ≡ [] → EndWritten l l'
    by_file_lem bs p q e = record { ending = file_end; ended = subst (λ (x : List ℕ). Ended file_end x) (sym e ∙ p) by_file; text = unfold end_text in (q ∙ p) }

    go : (t : Bool) → is_empty l.bytes ≡ t → cond {A = Reader (Unit {0})} t (give tt) line_ending l ≡ some (u, l') → EndWritten l l'
    go true e k = by_file_lem l.bytes (ap (λ (m : Left). m.bytes) (got (tt, l) u l' k).1) refl (empty l.bytes e)
    go false e k =
        let x = line_spelled l u l' k in
        ⊎_elim (λ b. by_feed_lem (x.stood ∙ ap (λ (y : List ℕ). y ++ l'.bytes) b)) (λ b. by_return_lem (x.stood ∙ ap (λ (y : List ℕ). y ++ l'.bytes) b)) x.spells

-- ---- the fields of a record

record FieldsWritten (l : Left) (vs : List Field) (l' : Left) : Type 0 where
  first : Cell
  others : List Cell
  ending : Ending
  ended : Ended ending l'.bytes
  text : l.bytes ≡ cells_text first others (end_text ending l'.bytes)
  fit : is_cell first ≡ true
  fits : all_of is_cell others ≡ true
  say : vs ≡ first.says ∷ map (λ c. c.says) others

-- a field and the end
one_written : {l m l' : Left} {v : Field} → FieldWritten l v m → EndWritten m l' → FieldsWritten l (v ∷ []) l'
unfolding cells_text all_of
one_written {l} {m} {l'} {v} f e = record {
  first = f.cell;
  others = [];
  ending = e.ending;
  ended = e.ended;
  text = f.text ∙ ap (λ (x : List ℕ). cell_text f.cell ++ x) e.text;
  fit = f.fit;
  fits = refl;
  say = ap (λ (x : Field). x ∷ []) (sym f.says);
}

-- a field, a comma and the others
more_written : {l m k l' : Left} {v : Field} {vs : List Field} → FieldWritten l v m → m.bytes ≡ 44 ∷ k.bytes → FieldsWritten k vs l' → FieldsWritten l (v ∷ vs) l'
unfolding cells_text all_of
more_written {l} {m} {k} {l'} {v} {vs} f c g = record {
  first = f.cell;
  others = g.first ∷ g.others;
  ending = g.ending;
  ended = g.ended;
  text = f.text ∙ ap (λ (x : List ℕ). cell_text f.cell ++ x) (c ∙ ap (λ (x : List ℕ). 44 ∷ x) g.text);
  fit = f.fit;
  fits = and_both (is_cell g.first) (all_of is_cell g.others) g.fit g.fits;
  say = ap₂ (λ (x : Field) (xs : List Field). x ∷ xs) (sym f.says) g.say;
}

comma_stands : (m k : Left) (b : ℕ) → byte 44 m ≡ some (b, k) → m.bytes ≡ 44 ∷ k.bytes
comma_stands m k b h = let x = spells_byte 44 (λ z. absurd (omega arith)) m b k h in x.stood ∙ ap (λ (y : List ℕ). y ++ k.bytes) x.spells.is

fields_written : (n : ℕ) (l : Left) (vs : List Field) (l' : Left) → fields_up_to n l ≡ some (vs, l') → FieldsWritten l vs l'
unfolding fields_up_to if_next
fields_written zero l vs l' h = not_read (vs, l') h
fields_written (suc n) l vs l' h =
    let r = then_some (field l) (λ v. if_next 44 (byte 44 >> (fields_up_to n >>= (λ ws. give (v ∷ ws)))) (record_end >> give (v ∷ []))) (vs, l') h in
    go (fields_written n) r.0.0 r.0.1 (field_written l r.0.0 r.0.1 r.1) (next_is 44 r.0.1) r.2
  where
    go : ((k : Left) (ws : List Field) (k' : Left) → fields_up_to n k ≡ some (ws, k') → FieldsWritten k ws k') → (v : Field) (m : Left) → FieldWritten l v m
        → (t : Bool) → cond {A = Reader (List Field)} t (byte 44 >> (fields_up_to n >>= (λ ws. give (v ∷ ws)))) (record_end >> give (v ∷ [])) m ≡ some (vs, l') → FieldsWritten l vs l'
    go ih v m f true k =
        let c = then_some (byte 44 m) (λ a. fields_up_to n >>= (λ ws. give (v ∷ ws))) (vs, l') k in
        let q = then_some (fields_up_to n c.0.1) (λ ws. give (v ∷ ws)) (vs, l') c.2 in
        let g = got (v ∷ q.0.0, q.0.1) vs l' q.2 in
        subst (λ (xs : List Field). FieldsWritten l xs l') g.0
        (more_written f (comma_stands m c.0.1 c.0.0 c.1) (subst (λ (x : Left). FieldsWritten c.0.1 q.0.0 x) g.1 (ih c.0.1 q.0.0 q.0.1 q.1)))
    go ih v m f false k =
        let q = then_some (record_end m) (λ u. give (v ∷ [])) (vs, l') k in
        let g = got (v ∷ [], q.0.1) vs l' q.2 in
        subst (λ (xs : List Field). FieldsWritten l xs l') g.0 (one_written f (subst (λ (x : Left). EndWritten m x) g.1 (end_written m q.0.0 q.0.1 q.1)))

-- ---- the records of a file

record FileWritten (w : ℕ) (bs : List ℕ) (es : List Entry) : Type 0 where
  lines : List Line
  text : bs ≡ file_text lines
  wide : all_of (is_line w) lines ≡ true
  whole : is_file lines ≡ true
  say : map (λ e. e.fields) es ≡ map line_fields lines

nothing_written : (w : ℕ) (bs : List ℕ) (es : List Entry) → bs ≡ [] → split [] ≡ split es → FileWritten w bs es
unfolding file_text all_of is_file
nothing_written w bs es b h = let e : [] ≡ es = cc in record { lines = []; text = b; wide = refl; whole = refl; say = ap (map (λ e. e.fields)) (sym e) }

-- a record of the right width, read from what is left
record EntryRead (w n : ℕ) (l : Left) (es : List Entry) : Type 0 where
  vs : List Field
  l' : Left
  read : fields l ≡ some (vs, l')
  wide : eqb (length vs) w ≡ true
  others : List Entry
  then : records_up_to n w l' ≡ split others
  are : record { at = l.at; fields = vs } ∷ others ≡ es

counted : ℕ → Option (List Field × Left) → Option (List Field × Left)
counted w none = none
counted w (some r) = cond (eqb (length r.0) w) (some r) none

record_counted : (w : ℕ) (l : Left) → record_of w l ≡ counted w (fields l)
unfolding record_of counted
record_counted w l = go (fields l)
  where
    by : (r : List Field × Left) (t : Bool) → and_then (require t r.1) (λ u. give r.0) ≡ cond t (some r) none
    by r true = refl
    by r false = refl

    go : (o : Option (List Field × Left)) → and_then o (λ vs. require (eqb (length vs) w) >> give vs) ≡ counted w o
    go none = unfold counted in refl
    go (some r) = unfold counted in by r (eqb (length r.0) w)

entry_read : (w n : ℕ) (l : Left) (es : List Entry) → go_on l.at (records_up_to n w) (record_of w l) ≡ split es → EntryRead w n l es
entry_read w n l es h = go (fields l) refl (sym (ap (go_on l.at (records_up_to n w)) (record_counted w l)) ∙ h)
  where
    never : {A : Type 0} {p : ℕ} → malformed p ≡ split es → A
    never k = let x : ◌≡◌ {A = ℕ} 0 1 = cc in absurd (omega arith)

    rest : (r : List Field × Left) → fields l ≡ some r → eqb (length r.0) w ≡ true → (p : Split) → records_up_to n w r.1 ≡ p → entry_before (record { at = l.at; fields = r.0 }) p ≡ split es → EntryRead w n l es
    rest r f e (malformed p) q k = unfold entry_before in never k
    rest r f e (split os) q k = made (unfold entry_before in k)
      where
        made : split (record { at = l.at; fields = r.0 } ∷ os) ≡ split es → EntryRead w n l es
        made j = let i : record { at = l.at; fields = r.0 } ∷ os ≡ es = cc in record { vs = r.0; l' = r.1; read = f; wide = e; others = os; then = q; are = i }

    by : (r : List Field × Left) → fields l ≡ some r → (t : Bool) → eqb (length r.0) w ≡ t → go_on l.at (records_up_to n w) (cond t (some r) none) ≡ split es → EntryRead w n l es
    by r f true e k = rest r f e (records_up_to n w r.1) refl (unfold go_on in k)
    by r f false e k = unfold go_on in never k

    go : (o : Option (List Field × Left)) → fields l ≡ o → go_on l.at (records_up_to n w) (counted w o) ≡ split es → EntryRead w n l es
    go none f k = unfold counted go_on in never k
    go (some r) f k = unfold counted in by r f (eqb (length r.0) w) refl k

-- a record that ends with the file has a byte
file_byte : (c : Cell) (ds : List Cell) (bs : List ℕ) {e : Ending} {rest : List ℕ} → Ended e rest → bs ≡ cells_text c ds (end_text e rest) → is_empty bs ≡ false → e ≡ file_end → is_empty (cells_text c ds []) ≡ false
unfolding end_text
file_byte c ds bs by_feed t n q = let x : ◌≡◌ {A = ℕ} 0 1 = cc in absurd (omega arith)
file_byte c ds bs by_return t n q = let x : ◌≡◌ {A = ℕ} 0 1 = cc in absurd (omega arith)
file_byte c ds bs by_file t n q = ap is_empty (sym t) ∙ n

is_full : (bs : List ℕ) → is_empty bs ≡ false → 0 < length bs
is_full [] h = true_not_false refl h
is_full (b ∷ bs) h = omega arith

-- no line follows where no byte does
no_lines : (rs : List Line) → [] ≡ file_text rs → is_file rs ≡ true → is_empty rs ≡ true
unfolding is_file
no_lines [] t h = refl
no_lines (r ∷ rs) t h = absurd (omega (arith, ap length (t ∙ file_text_lem r rs), (line_ends r rs (and_left (ends_well r rs) (is_file rs) h)).1))

ends_well_lem : (r : Line) (rs : List Line) → Ended r.ending (file_text rs) → is_file rs ≡ true → (r.ending ≡ file_end → is_empty (cells_text r.first r.others []) ≡ false) → ends_well r rs ≡ true
unfolding ends_well
ends_well_lem r rs x g n = go x refl n
  where
    go : {e : Ending} {rest : List ℕ} → Ended e rest → rest ≡ file_text rs → (e ≡ file_end → is_empty (cells_text r.first r.others []) ≡ false) → ends_by e (is_empty rs && not (is_empty (cells_text r.first r.others []))) ≡ true
    go by_feed t k = unfold ends_by in refl
    go by_return t k = unfold ends_by in refl
    go by_file t k = unfold ends_by in and_both (is_empty rs) (not (is_empty (cells_text r.first r.others []))) (no_lines rs t g) (ap not (k refl))

line_is : (w : ℕ) (r : Line) → is_cell r.first ≡ true → all_of is_cell r.others ≡ true → eqb (length (line_fields r)) w ≡ true → is_line w r ≡ true
unfolding is_line
line_is w r f g e = and_both (is_cell r.first) (all_of is_cell r.others && eqb (length (line_fields r)) w) f (and_both (all_of is_cell r.others) (eqb (length (line_fields r)) w) g e)

-- a record and those behind it
line_written : (w n : ℕ) (l : Left) (es : List Entry) → is_empty l.bytes ≡ false → (x : EntryRead w n l es) (f : FieldsWritten l x.vs x.l') → FileWritten w x.l'.bytes x.others → FileWritten w l.bytes es
unfolding all_of is_file
line_written w n l es h x f g =
    let r : Line = record { first = f.first; others = f.others; ending = f.ending } in
    let b = file_byte f.first f.others l.bytes f.ended f.text h in
    let z = ends_well_lem r g.lines (subst (λ (bs : List ℕ). Ended f.ending bs) g.text f.ended) g.whole b in
    let v : x.vs ≡ line_fields r = unfold line_fields in f.say in
    record {
      lines = r ∷ g.lines;
      text = f.text ∙ ap (λ (bs : List ℕ). cells_text f.first f.others (end_text f.ending bs)) g.text ∙ sym (file_text_lem r g.lines);
      wide = and_both (is_line w r) (all_of (is_line w) g.lines) (line_is w r f.fit f.fits (ap (λ (vs : List Field). eqb (length vs) w) (sym v) ∙ x.wide)) g.wide;
      whole = and_both (ends_well r g.lines) (is_file g.lines) z g.whole;
      say = ap (map (λ e. e.fields)) (sym x.are) ∙ ap₂ (λ (vs : List Field) (xs : List (List Field)). vs ∷ xs) v g.say;
    }

records_written : (n w : ℕ) (l : Left) (es : List Entry) → length l.bytes ≤ n → records_up_to n w l ≡ split es → FileWritten w l.bytes es
unfolding records_up_to
records_written zero w l es h k = nothing_written w l.bytes es (none_of l.bytes h) k
  where
    none_of : (bs : List ℕ) → length bs ≤ 0 → bs ≡ []
    none_of [] j = refl
    none_of (b ∷ bs) j = absurd (omega (arith, j))
records_written (suc n) w l es h k = go (records_written n w) (is_empty l.bytes) refl k
  where
    go : ((m : Left) (os : List Entry) → length m.bytes ≤ n → records_up_to n w m ≡ split os → FileWritten w m.bytes os)
        → (t : Bool) → is_empty l.bytes ≡ t → cond {A = Left → Split} t (λ m. split []) (λ m. go_on m.at (records_up_to n w) (record_of w m)) l ≡ split es → FileWritten w l.bytes es
    go ih true e j = nothing_written w l.bytes es (empty l.bytes e) j
    go ih false e j =
        let x = entry_read w n l es j in
        let f = fields_written (suc (length l.bytes)) l x.vs x.l' (unfold fields in x.read) in
        let b = file_byte f.first f.others l.bytes f.ended f.text e in
        let s = line_takes f.first f.others f.ended (λ q. is_full (cells_text f.first f.others []) (b q)) in
        line_written w n l es e x f (ih x.l' x.others (omega (arith, h, s, ap length f.text)) x.then)

-- What has records is written so.
pub written_so : (file : List ℕ) (es : List Entry) → records file ≡ split es → WrittenAs file es
unfolding records
written_so file es h =
    let g = records_written (length file) (width file) (from file 0) es (omega arith) h in
    record { lines = g.lines; text = g.text; wide = g.wide; whole = g.whole; say = g.say }

-- What is refused with 19 is not written so.
pub never_so : (file : List ℕ) (p : ℕ) → records file ≡ malformed p → (w : ℕ) (lines : List Line) → file ≡ file_text lines → all_of (is_line w) lines ≡ true → is_file lines ≡ true → ⊥
never_so file p h w lines t k g =
    let r = rendered w lines k g in
    let e : malformed p ≡ split r.entries = sym h ∙ ap records t ∙ r.are in
    let x : ◌≡◌ {A = ℕ} 0 1 = cc in
    omega arith
