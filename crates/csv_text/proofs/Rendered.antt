-- A file that is written as RFC 4180 lets it be is read as the fields that it was written from: quoted fields with any bytes, bare ones,
-- both line endings, and none behind the last record. So the definitions refuse no such file with 19. Assumes nothing.
use Prim.Native.Nat.{◌+◌, ◌<◌, ◌≤◌, suc, zero, ℕ}
use borrow.Author.Tests.{eqb-true}
use lib.Dec.{eqb}
use lib.ListN.{drop, length, length-append}
use mathlib.Core.Bool.{Bool, ◌&&◌, ◌||◌, cond, false, not, true}
use mathlib.Core.List.{List, [], ◌++◌, ◌∷◌, append_assoc, map}
use mathlib.Core.Option.{Option, some}
use mathlib.Core.Path.{◌∙◌, ◌≡◌, ap, refl, subst, sym}
use native.Mathlib.Omega.{arith}
use Rattle.csv_text.specs.Fields.{Field, bare, field, in_quotes, is_plain, plain_bytes, quoted, with_left, wrap}
use Rattle.csv_text.specs.Records.{Entry, count_read, entry_before, fields, fields_up_to, go_on, line_ending, record_end, record_of, records, records_up_to, split, width}
use Rattle.csv_text.specs.Rendered.{Cell, Ending, Line, ReadAs, cell_text, cells_text, doubled, end_text, ends_by, ends_well, feed, file_end, file_text, is_cell, is_file, is_line, line_fields, return_feed}
use Rattle.lists.proofs.ListLaws.{drop_append}
use Rattle.lists.proofs.Tests.{and_left, and_right, true_not_false}
use Rattle.lists.specs.Lists.{all_of, is_empty}
use Rattle.text.proofs.ReadBack.{Gives, Reads, bind_reads, byte_reads, give_reads, gives, left, then_reads}
use Rattle.text.specs.Bytes.{first_byte}
use Rattle.text.specs.Reader.{Left, Reader, ◌>>=◌, ◌>>◌, byte, give, if_next}

-- what was read is compared as it is
abbrev itself : {A : Type 0} → A → A
itself x = x

-- ---- a field in quotes

pub quoted_two : (bs : List ℕ) → quoted false (34 ∷ 34 ∷ bs) ≡ wrap [] (wrap (34 ∷ []) (quoted false bs))
unfolding quoted
quoted_two bs = refl

pub quoted_other : (b : ℕ) (bs : List ℕ) → eqb b 34 ≡ false → quoted false (b ∷ bs) ≡ wrap (b ∷ []) (quoted false bs)
unfolding quoted
quoted_other b bs e = rw e

quoted_last : (rest : List ℕ) → eqb (first_byte rest) 34 ≡ false → quoted false (34 ∷ rest) ≡ some ([], 1)
unfolding quoted wrap
quoted_last [] n = refl
quoted_last (c ∷ cs) n = rw n

wrap_two : (bs : List ℕ) (n : ℕ) → wrap [] (wrap (34 ∷ []) (some (bs, n))) ≡ some (34 ∷ bs, suc (suc n))
unfolding wrap
wrap_two bs n = refl

wrap_one : (b : ℕ) (bs : List ℕ) (n : ℕ) → wrap (b ∷ []) (some (bs, n)) ≡ some (b ∷ bs, suc n)
unfolding wrap
wrap_one b bs n = refl

quoted_back : (v rest : List ℕ) → eqb (first_byte rest) 34 ≡ false → quoted false (doubled v ++ 34 ∷ rest) ≡ some (v, suc (length (doubled v)))
unfolding doubled
quoted_back [] rest n = quoted_last rest n
quoted_back (b ∷ bs) rest n = go (eqb b 34) refl (quoted_back bs rest n)
  where
    go : (t : Bool) → eqb b 34 ≡ t → quoted false (doubled bs ++ 34 ∷ rest) ≡ some (bs, suc (length (doubled bs)))
        → quoted false (cond t (34 ∷ 34 ∷ doubled bs) (b ∷ doubled bs) ++ 34 ∷ rest) ≡ some (b ∷ bs, suc (length (cond t (34 ∷ 34 ∷ doubled bs) (b ∷ doubled bs))))
    go true e ih =
        quoted_two (doubled bs ++ 34 ∷ rest) ∙ ap (λ (o : Option (Field × ℕ)). wrap [] (wrap (34 ∷ []) o)) ih ∙ wrap_two bs (suc (length (doubled bs)))
        ∙ ap (λ (c : ℕ). some (c ∷ bs, suc (suc (suc (length (doubled bs)))))) (sym (eqb-true b 34 e))
    go false e ih = quoted_other b (doubled bs ++ 34 ∷ rest) e ∙ ap (wrap (b ∷ [])) ih ∙ wrap_one b bs (suc (length (doubled bs)))

cell_quoted : (v rest : List ℕ) → eqb (first_byte rest) 34 ≡ false → Reads itself field (34 ∷ (doubled v ++ 34 ∷ rest)) v rest
unfolding field if_next byte in_quotes with_left
cell_quoted v rest n = record {
  from = λ at.
      let e : doubled v ++ 34 ∷ rest ≡ (doubled v ++ 34 ∷ []) ++ rest = sym (append_assoc (doubled v) (34 ∷ []) rest) in
      let l : length (doubled v ++ 34 ∷ []) ≡ suc (length (doubled v)) = omega (arith, length-append (doubled v) (34 ∷ [])) in
      let d : drop (suc (length (doubled v))) (doubled v ++ 34 ∷ rest) ≡ rest = ap (drop (suc (length (doubled v)))) e ∙ ap (λ (k : ℕ). drop k ((doubled v ++ 34 ∷ []) ++ rest)) (sym l) ∙ drop_append (doubled v ++ 34 ∷ []) rest in
      rw (quoted_back v rest n, d) (gives refl);
}

-- ---- a bare field

plain_no_quote : (b : ℕ) → is_plain b ≡ true → eqb b 34 ≡ false
unfolding is_plain
plain_no_quote b h = go (eqb b 34) h
  where
    go : (t : Bool) → not (t || (eqb b 44 || (eqb b 10 || eqb b 13))) ≡ true → t ≡ false
    go true k = true_not_false k refl
    go false k = refl

-- a field ends here: at the file's end, or at a byte that is neither plain nor a quote
data Stops : List ℕ → Type 0 where
  nowhere : Stops []
  stopping : {b : ℕ} {rest : List ℕ} → is_plain b ≡ false → eqb b 34 ≡ false → Stops (b ∷ rest)

plain_back : (v rest : List ℕ) → all_of is_plain v ≡ true → Stops rest → plain_bytes (v ++ rest) ≡ v
unfolding plain_bytes all_of
plain_back [] [] h x = refl
plain_back [] (b ∷ rest) h (stopping n k) = rw n
plain_back (c ∷ v) rest h x = rw (and_left (is_plain c) (all_of is_plain v) h) (ap (λ (l : List ℕ). c ∷ l) (plain_back v rest (and_right (is_plain c) (all_of is_plain v) h) x))

no_quote : {rest : List ℕ} → Stops rest → eqb (first_byte rest) 34 ≡ false
no_quote nowhere = refl
no_quote (stopping n k) = k

no_quote_first : (v : List ℕ) {rest : List ℕ} → all_of is_plain v ≡ true → Stops rest → eqb (first_byte (v ++ rest)) 34 ≡ false
unfolding all_of
no_quote_first [] h x = no_quote x
no_quote_first (c ∷ v) h x = plain_no_quote c (and_left (is_plain c) (all_of is_plain v) h)

cell_bare : (v : List ℕ) {rest : List ℕ} → all_of is_plain v ≡ true → Stops rest → Reads itself field (v ++ rest) v rest
unfolding field if_next bare
cell_bare v {rest} h x = record { from = λ at. rw (no_quote_first v h x, plain_back v rest h x, drop_append v rest) (gives refl) }

-- a field before a comma or a record's end
cell_reads : (c : Cell) {rest : List ℕ} → is_cell c ≡ true → Stops rest → Reads itself field (cell_text c ++ rest) c.says rest
unfolding is_cell cell_text
cell_reads c {rest} h x = go c.in_quotes h
  where
    go : (t : Bool) → (t || all_of is_plain c.says) ≡ true → Reads itself field (cond t (34 ∷ (doubled c.says ++ 34 ∷ [])) c.says ++ rest) c.says rest
    go true j = rw (append_assoc (doubled c.says) (34 ∷ []) rest) (cell_quoted c.says rest (no_quote x))
    go false j = cell_bare c.says j x

-- ---- a record

-- how a record ends before some bytes
pub data Ended : Ending → List ℕ → Type 0 where
  by_feed : {rest : List ℕ} → Ended feed rest
  by_return : {rest : List ℕ} → Ended return_feed rest
  by_file : Ended file_end []

end_stops : {e : Ending} {rest : List ℕ} → Ended e rest → Stops (end_text e rest)
unfolding end_text is_plain
end_stops by_feed = stopping refl refl
end_stops by_return = stopping refl refl
end_stops by_file = nowhere

comma_stops : (rest : List ℕ) → Stops (44 ∷ rest)
unfolding is_plain
comma_stops rest = stopping refl refl

-- what stands behind a field v: the others and the end
abbrev behind : ℕ → Field → Reader (List Field)
behind n v = if_next 44 (byte 44 >> (fields_up_to n >>= (λ vs. give (v ∷ vs)))) (record_end >> give (v ∷ []))

end_reads : (v : Field) {e : Ending} {rest : List ℕ} → Ended e rest → (k : ℕ) → Reads itself (behind k v) (end_text e rest) (v ∷ []) rest
unfolding end_text if_next record_end line_ending byte
end_reads v by_feed k = record { from = λ at. gives refl }
end_reads v by_return k = record { from = λ at. gives refl }
end_reads v by_file k = record { from = λ at. gives refl }

last_reads : (n : ℕ) (c : Cell) {e : Ending} {rest : List ℕ} → Ended e rest → is_cell c ≡ true → Reads itself (fields_up_to (suc n)) (cells_text c [] (end_text e rest)) (c.says ∷ []) rest
unfolding fields_up_to cells_text
last_reads n c {e} {rest} x h = bind_reads (cell_reads c h (end_stops x)) (λ y p. subst (λ (v : Field). Reads itself (behind n v) (end_text e rest) (c.says ∷ []) rest) (sym p) (end_reads c.says x n))

comma_reads : (n : ℕ) (v w : Field) (bs : List ℕ) (ws : List Field) (rest : List ℕ) → v ≡ w → Reads itself (fields_up_to n) bs ws rest → Reads itself (behind n v) (44 ∷ bs) (w ∷ ws) rest
unfolding if_next
comma_reads n v w bs ws rest p ih =
    record { from = λ at. (then_reads (byte_reads 44 bs) (bind_reads ih (λ ys q. give_reads (v ∷ ys) rest (λ i. p i ∷ q i)))).from at }

more_reads : (n : ℕ) (c d : Cell) (ds : List Cell) (end : List ℕ) (ws : List Field) (rest : List ℕ) → is_cell c ≡ true → Reads itself (fields_up_to n) (cells_text d ds end) ws rest
    → Reads itself (fields_up_to (suc n)) (cells_text c (d ∷ ds) end) (c.says ∷ ws) rest
unfolding fields_up_to cells_text
more_reads n c d ds end ws rest h ih = bind_reads (cell_reads c h (comma_stops (cells_text d ds end))) (λ y p. comma_reads n y c.says (cells_text d ds end) ws rest p ih)

cells_reads : (n : ℕ) (c : Cell) (ds : List Cell) {e : Ending} {rest : List ℕ} → Ended e rest → length ds < n → is_cell c ≡ true → all_of is_cell ds ≡ true
    → Reads itself (fields_up_to n) (cells_text c ds (end_text e rest)) (c.says ∷ map (λ d. d.says) ds) rest
unfolding all_of
cells_reads zero c ds x l h j = absurd (omega (arith, l))
cells_reads (suc n) c [] x l h j = last_reads n c x h
cells_reads (suc n) c (d ∷ ds) {e} {rest} x l h j =
    more_reads n c d ds (end_text e rest) (d.says ∷ map (λ x. x.says) ds) rest h (cells_reads n d ds x (omega (arith, l)) (and_left (is_cell d) (all_of is_cell ds) j) (and_right (is_cell d) (all_of is_cell ds) j))

-- a record has as many bytes as commas, and those behind it
cells_long : (c : Cell) (ds : List Cell) (end : List ℕ) → length ds + length end ≤ length (cells_text c ds end)
unfolding cells_text
cells_long c [] end = omega (arith, length-append (cell_text c) end)
cells_long c (d ∷ ds) end = omega (arith, length-append (cell_text c) (44 ∷ cells_text d ds end), cells_long d ds end)

-- a line takes a byte
pub line_takes : (c : Cell) (ds : List Cell) {e : Ending} {rest : List ℕ} → Ended e rest → (e ≡ file_end → 0 < length (cells_text c ds [])) → length rest < length (cells_text c ds (end_text e rest))
unfolding end_text
line_takes c ds {e} {rest} by_feed h = omega (arith, cells_long c ds (10 ∷ rest))
line_takes c ds {e} {rest} by_return h = omega (arith, cells_long c ds (13 ∷ 10 ∷ rest))
line_takes c ds by_file h = omega (arith, h refl)

-- ---- a file

-- a list that is empty, and one that is not
pub empty : {A : Type 0} (xs : List A) → is_empty xs ≡ true → xs ≡ []
empty [] h = refl
empty (x ∷ xs) h = true_not_false h refl

pub full : (bs : List ℕ) → 0 < length bs → is_empty bs ≡ false
full [] h = absurd (omega (arith, h))
full (b ∷ bs) h = refl

has_byte : (bs : List ℕ) → not (is_empty bs) ≡ true → 0 < length bs
has_byte [] h = true_not_false h refl
has_byte (b ∷ bs) h = omega arith

-- only the last line ends with the file
at_end : (b : Bool) → ends_by file_end b ≡ true → b ≡ true
unfolding ends_by
at_end b h = h

nothing_left : Ended file_end (file_text [])
unfolding file_text
nothing_left = by_file

-- how a line of a file ends, and that it takes a byte
pub line_ends : (r : Line) (rs : List Line) → ends_well r rs ≡ true → Ended r.ending (file_text rs) × (length (file_text rs) < length (cells_text r.first r.others (end_text r.ending (file_text rs))))
unfolding ends_well
line_ends r rs h = let x = ends r.ending h in (x, line_takes r.first r.others x (λ e. byte_of r.ending e h))
  where
    ends : (e : Ending) → ends_by e (is_empty rs && not (is_empty (cells_text r.first r.others []))) ≡ true → Ended e (file_text rs)
    ends feed k = by_feed
    ends return_feed k = by_return
    ends file_end k =
        subst (λ (ls : List Line). Ended file_end (file_text ls)) (sym (empty rs (and_left (is_empty rs) (not (is_empty (cells_text r.first r.others []))) (at_end _ k)))) nothing_left

    byte_of : (e : Ending) → e ≡ file_end → ends_by e (is_empty rs && not (is_empty (cells_text r.first r.others []))) ≡ true → 0 < length (cells_text r.first r.others [])
    byte_of e q k =
        has_byte (cells_text r.first r.others []) (and_right (is_empty rs) (not (is_empty (cells_text r.first r.others []))) (at_end _ (subst (λ (x : Ending). ends_by x (is_empty rs && not (is_empty (cells_text r.first r.others []))) ≡ true) q k)))

module _ (w : ℕ) (r : Line) (fit : is_line w r ≡ true) where
  line_cell : is_cell r.first ≡ true
  unfolding is_line
  line_cell = and_left (is_cell r.first) (all_of is_cell r.others && eqb (length (line_fields r)) w) fit

  line_cells : all_of is_cell r.others ≡ true
  unfolding is_line
  line_cells = and_left (all_of is_cell r.others) (eqb (length (line_fields r)) w) (and_right (is_cell r.first) (all_of is_cell r.others && eqb (length (line_fields r)) w) fit)

  line_width : eqb (length (line_fields r)) w ≡ true
  unfolding is_line
  line_width = and_right (all_of is_cell r.others) (eqb (length (line_fields r)) w) (and_right (is_cell r.first) (all_of is_cell r.others && eqb (length (line_fields r)) w) fit)

  line_reads : {rest : List ℕ} → Ended r.ending rest → Reads itself fields (cells_text r.first r.others (end_text r.ending rest)) (line_fields r) rest
  unfolding fields line_fields
  line_reads {rest} x = record {
    from = λ at.
        (cells_reads (suc (length (cells_text r.first r.others (end_text r.ending rest)))) r.first r.others x (omega (arith, cells_long r.first r.others (end_text r.ending rest))) line_cell line_cells).from at;
  }

  -- what the first line gives, at a place: its fields, and the rest
  line_at : {rest : List ℕ} → Ended r.ending rest → (i : ℕ) → (e : ℕ) × (fields (left i (cells_text r.first r.others (end_text r.ending rest))) ≡ some (line_fields r, left e rest))
  line_at {rest} x i = go ((line_reads x).from i)
    where
      go : {o : Option (List Field × Left)} → Gives itself (line_fields r) rest o → (e : ℕ) × (o ≡ some (line_fields r, left e rest))
      go (gives {y} {at} p) = (at, ap (λ (vs : List Field). some (vs, left at rest)) p)

-- reading a file, from a place on
record Back (w n at : ℕ) (rs : List Line) : Type 0 where
  entries : List Entry
  are : records_up_to n w (left at (file_text rs)) ≡ split entries
  say : map (λ e. e.fields) entries ≡ map line_fields rs

none_back : (w n at : ℕ) → records_up_to n w (left at []) ≡ split []
unfolding records_up_to
none_back w zero at = refl
none_back w (suc n) at = refl

one_back : (w n at : ℕ) (bs : List ℕ) (vs : List Field) (l : Left) → 0 < length bs → fields (left at bs) ≡ some (vs, l) → eqb (length vs) w ≡ true
    → records_up_to (suc n) w (left at bs) ≡ entry_before (record { at = at; fields = vs }) (records_up_to n w l)
unfolding records_up_to record_of go_on
one_back w n at bs vs l h f e = rw (full bs h, f, e)

before_split : (e : Entry) (es : List Entry) → entry_before e (split es) ≡ split (e ∷ es)
unfolding entry_before
before_split e es = refl

pub file_text_lem : (r : Line) (rs : List Line) → file_text (r ∷ rs) ≡ cells_text r.first r.others (end_text r.ending (file_text rs))
unfolding file_text
file_text_lem r rs = refl

more_back : (w n at : ℕ) (r : Line) (rs : List Line) → is_line w r ≡ true → ends_well r rs ≡ true → ((i : ℕ) → Back w n i rs) → Back w (suc n) at (r ∷ rs)
more_back w n at r rs f g ih =
    let d = line_ends r rs g in
    let x = line_at w r f d.0 at in
    let b = ih x.0 in
    record {
      entries = record { at = at; fields = line_fields r } ∷ b.entries;
      are = ap (λ (bs : List ℕ). records_up_to (suc n) w (left at bs)) (file_text_lem r rs)
          ∙ one_back w n at (cells_text r.first r.others (end_text r.ending (file_text rs))) (line_fields r) (left x.0 (file_text rs)) (omega (arith, d.1)) x.1 (line_width w r f)
          ∙ ap (entry_before (record { at = at; fields = line_fields r })) b.are ∙ before_split (record { at = at; fields = line_fields r }) b.entries;
      say = ap (λ (xs : List (List Field)). line_fields r ∷ xs) b.say;
    }

all_back : (w n at : ℕ) (rs : List Line) → length (file_text rs) ≤ n → all_of (is_line w) rs ≡ true → is_file rs ≡ true → Back w n at rs
unfolding all_of is_file
all_back w n at [] h k g = record { entries = []; are = unfold file_text in none_back w n at; say = refl }
all_back w zero at (r ∷ rs) h k g = absurd (omega (arith, h, ap length (file_text_lem r rs), (line_ends r rs (and_left (ends_well r rs) (is_file rs) g)).1))
all_back w (suc n) at (r ∷ rs) h k g =
    let d = line_ends r rs (and_left (ends_well r rs) (is_file rs) g) in
    more_back w n at r rs (and_left (is_line w r) (all_of (is_line w) rs) k) (and_left (ends_well r rs) (is_file rs) g) (λ i. all_back w n i rs (omega (arith, h, ap length (file_text_lem r rs), d.1)) (and_right (is_line w r) (all_of (is_line w) rs) k) (and_right (ends_well r rs) (is_file rs) g))

-- the width of a file of lines of this width
width_back : (w : ℕ) (r : Line) (rs : List Line) → is_line w r ≡ true → ends_well r rs ≡ true → width (file_text (r ∷ rs)) ≡ w
unfolding width count_read
width_back w r rs f g = ap (λ (bs : List ℕ). count_read (fields (left 0 bs))) (file_text_lem r rs) ∙ ap count_read (line_at w r f (line_ends r rs g).0 0).1 ∙ eqb-true (length (line_fields r)) w (line_width w r f)

-- A file of lines of one width is read as what they say.
pub rendered : (w : ℕ) (rs : List Line) → all_of (is_line w) rs ≡ true → is_file rs ≡ true → ReadAs rs
unfolding records all_of is_file
rendered w [] k g = record { entries = []; are = unfold file_text in none_back (width []) 0 0; say = refl }
rendered w (r ∷ rs) k g =
    let b = all_back w (length (file_text (r ∷ rs))) 0 (r ∷ rs) (omega arith) k g in
    record {
      entries = b.entries;
      are = ap (λ (n : ℕ). records_up_to (length (file_text (r ∷ rs))) n (left 0 (file_text (r ∷ rs)))) (width_back w r rs (and_left (is_line w r) (all_of (is_line w) rs) k) (and_left (ends_well r rs) (is_file rs) g)) ∙ b.are;
      say = b.say;
    }
