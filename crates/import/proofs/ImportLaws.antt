-- Judging a file by what scanning it gave, and what importing and measuring give then. Assumes nothing.
use Prim.Native.Nat.{◌*◌, ◌+◌, ◌<◌, ◌^◌, ◌≤◌, ℕ}
use borrow.Author.Tests.{le-ltb, leb-false, leb-true, lt-ltb, ltb-false}
use lib.Dec.{leb, ltb}
use lib.ListN.{drop, length, length-append}
use mathlib.Core.Bool.{Bool, ◌&&◌, cond, false, not, true, true≢false}
use mathlib.Core.List.{List, [], ◌++◌, ◌∷◌, flatten}
use mathlib.Core.Option.{Option, none, some}
use mathlib.Core.Path.{◌∙◌, ◌≡◌, ap, refl, sym}
use native.Mathlib.Nat.{suc-mul}
use native.Mathlib.Omega.{arith}
use Rattle.form.specs.RowText.{spaced}
use Rattle.import.proofs.RowLaws.{line_bytes_lem, lines_one, spaced_one, unfit_first}
use Rattle.csv_text.specs.Fields.{Field}
use Rattle.import.specs.Importing.{after_import, if_writable, importable, importing, length_only, longest_buffer, measure_import, record_line, record_lines, refusal_at, refuse_unfit, well_formed}
use Rattle.import.specs.Outside.{Imports, imported_as, in_brief, length_within}
use Rattle.import.specs.Placement.{RowsPlaced}
use Rattle.csv_text.specs.Records.{Entry, Split, first_unfit, malformed, records, split}
use Rattle.csv_text.specs.Scanned.{field_size, place_of, scan_of, size_of, total_size}
use Rattle.std.specs.Prelude as prelude
use Rattle.std.specs.Prelude.{None, Some, Err, IsErrAnd, Ok}
use Rattle.lists.proofs.Tests.{and_left, and_right}
use Rattle.lists.specs.Lists.{all_of}
use Rattle.text.proofs.RefusalLaws.{accepted_same, not_refused}
use Rattle.text.specs.Bytes.{first_byte, is_letter, is_name_byte}
use Rattle.text.specs.Names.{Name, is_name}
use Rattle.text.specs.Numbers.{is_value}
use Rattle.text.specs.Reasons.{refusal_of}
use Rattle.text.specs.Refusal.{Refusal, Result, ◌>>=◌, ◌>>◌, accepted, refuse_if, refused}
use Rattle.text.specs.declared.refusals.Refusal as code
use Rattle.writing.proofs.Writing.{filled}

-- ---- how long the lines are

spaced_size : (vs : List Field) → all_of is_value vs ≡ true → length (spaced vs) ≡ size_of vs
unfolding size_of all_of field_size
spaced_size [] h = unfold spaced flatten in refl
spaced_size (v ∷ vs) h =
    let i : length (spaced vs) ≡ size_of vs = spaced_size vs (and_right (is_value v) (all_of is_value vs) h) in
    rw (and_left (is_value v) (all_of is_value vs) h) (omega (arith, i, ap length (spaced_one v vs), length-append (32 ∷ v) (spaced vs)))

line_length_lem : (t l : Name) (vs : List Field) → all_of is_value vs ≡ true → length (record_line t l vs) ≡ length t + length l + 8 + size_of vs
line_length_lem t l vs h = omega (arith, simp length-append at (ap length (line_bytes_lem t l vs)), spaced_size vs h)

lines_length_lem : (t l : Name) (es : List Entry) → first_unfit es ≡ none → length (record_lines t l es) ≡ length es * (length t + length l + 8) + total_size es
unfolding total_size
lines_length_lem t l [] h = unfold record_lines flatten in omega arith
lines_length_lem t l (e ∷ es) h =
    let u = unfit_first e es h in
    let i = lines_length_lem t l es u.1 in
    let a = line_length_lem t l e.fields u.0 in
    omega (arith, i, a, simp length-append at (ap length (lines_one t l e es)), suc-mul (length es) (length t + length l + 8))

pub name_short : (n : Name) → is_name n ≡ true → length n ≤ 24
unfolding is_name
name_short n h = leb-true (length n) 24 (and_right (all_of is_name_byte n) (leb (length n) 24) (and_right (is_letter (first_byte n)) (all_of is_name_byte n && leb (length n) 24) h))

-- ---- records that were scanned: 20 and 21

place_nothing : (o : Option ℕ) → None ≡ place_of o → o ≡ none
place_nothing none h = refl
place_nothing (some p) h = let x : ◌≡◌ {A = ℕ} 0 1 = cc in absurd (omega arith)

place_at : (o : Option ℕ) {p : ℕ} → Some p ≡ place_of o → o ≡ some p
place_at none h = let x : ◌≡◌ {A = ℕ} 0 1 = cc in absurd (omega arith)
place_at (some q) {p} h = let e : q ≡ p = cc in ap some e

-- a length that is within the room, or not
within_at : (room m n : ℕ) → length_within room m ≡ Some n → (m ≤ room) × (m ≡ n)
unfolding length_within
within_at room m n h = go (leb m room) refl h
  where
    go : (b : Bool) → leb m room ≡ b → cond b (Some m) None ≡ Some n → (m ≤ room) × (m ≡ n)
    go true e k = (leb-true m room e, cc)
    go false e k = let x : ◌≡◌ {A = ℕ} 0 1 = cc in absurd (omega arith)

within_no : (room m : ℕ) → length_within room m ≡ None → room < m
unfolding length_within
within_no room m h = go (leb m room) refl h
  where
    go : (b : Bool) → leb m room ≡ b → cond b (Some m) None ≡ None → room < m
    go true e k = let x : ◌≡◌ {A = ℕ} 0 1 = cc in absurd (omega arith)
    go false e k = leb-false m room e

module _ (t l : Name) (room : ℕ) (es : List Entry) where
  admits_names : (is_name t && is_name l) ≡ false → if_writable t l room es ≡ refused (refusal_at 20 0)
  unfolding if_writable refuse_if ◌>>◌
  admits_names n = rw n

  module _ (named : (is_name t && is_name l) ≡ true) where
    admits_fields : {p : ℕ} → first_unfit es ≡ some p → if_writable t l room es ≡ refused (refusal_at 20 p)
    unfolding if_writable refuse_if refuse_unfit ◌>>◌
    admits_fields u = rw (named, u)

    module _ (fit : first_unfit es ≡ none) where
      pub admits_room : room < length (record_lines t l es) → if_writable t l room es ≡ refused (refusal_at 21 0)
      unfolding if_writable refuse_if refuse_unfit ◌>>◌
      admits_room h = rw (named, fit, lt-ltb room (length (record_lines t l es)) h)

      pub admits_all : length (record_lines t l es) ≤ room → if_writable t l room es ≡ accepted es
      unfolding if_writable refuse_if refuse_unfit ◌>>◌
      admits_all h = rw (named, fit, le-ltb room (length (record_lines t l es)) h)

  -- a refusal, and records that are taken
  brief_refusal : {x : Refusal} (r : code.Refusal) → if_writable t l room es ≡ refused x → refusal_of r ≡ x → refused (refusal_of r) ≡ in_brief t l (if_writable t l room es)
  unfolding in_brief ◌>>=◌
  brief_refusal r a e = ap refused e ∙ sym (ap (in_brief t l) a)

  module _ {count size : ℕ} {f : prelude.Option ℕ} (s : scan_of (split es) ≡ Ok (count, size, f)) where
    counted : (count ≡ length es) × (size ≡ total_size es) × (f ≡ place_of (first_unfit es))
    counted =
        let q : ◌≡◌ {A = ℕ × ℕ × prelude.Option ℕ} (count, size, f) (length es, total_size es, place_of (first_unfit es)) = cc in
        (ap (λ z. z.0) q, ap (λ z. z.1) q, ap (λ z. z.2) q)

    measured : first_unfit es ≡ none → length (record_lines t l es) ≡ count * (length t + length l + 8) + size
    measured k = lines_length_lem t l es k ∙ sym (ap (λ (n : ℕ). n * (length t + length l + 8) + size) counted.0 ∙ ap (λ (n : ℕ). length es * (length t + length l + 8) + n) counted.1)

    -- the table or the label is no name
    pub judged_nameless : (r : code.Refusal) → (is_name t && is_name l) ≡ false → refusal_of r ≡ refusal_at 20 0 → refused (refusal_of r) ≡ in_brief t l (if_writable t l room es)
    judged_nameless r n e = brief_refusal r (admits_names n) e

    module _ (named : (is_name t && is_name l) ≡ true) where
      -- a field is unfit
      pub judged_unfit : (r : code.Refusal) {p : ℕ} → f ≡ Some p → refusal_of r ≡ refusal_at 20 p → refused (refusal_of r) ≡ in_brief t l (if_writable t l room es)
      judged_unfit r k e = brief_refusal r (admits_fields named (place_at (first_unfit es) (sym k ∙ counted.2))) e

      module _ (fit : f ≡ None) where
        fits : first_unfit es ≡ none
        fits = place_nothing (first_unfit es) (sym fit ∙ counted.2)

        -- there is no room for the lines
        pub judged_short : (r : code.Refusal) → length_within room (count * (length t + length l + 8) + size) ≡ None → refusal_of r ≡ refusal_at 21 0 → refused (refusal_of r) ≡ in_brief t l (if_writable t l room es)
        judged_short r w e =
            let o : room < length (record_lines t l es) = omega (arith, within_no room (count * (length t + length l + 8) + size) w, measured fits) in
            brief_refusal r (admits_room named fits o) e

        -- there is
        pub judged_fit : {n : ℕ} → length_within room (count * (length t + length l + 8) + size) ≡ Some n → accepted (count, n) ≡ in_brief t l (if_writable t l room es)
        unfolding in_brief ◌>>=◌
        judged_fit {n} w =
            let a = within_at room (count * (length t + length l + 8) + size) n w in
            let o : length (record_lines t l es) ≤ room = omega (arith, a.0, measured fits) in
            let e : n ≡ length (record_lines t l es) = omega (arith, a.1, measured fits) in
            ap (λ (k : ℕ). accepted (k, n)) counted.0 ∙ ap (λ (k : ℕ). accepted (length es, k)) e ∙ sym (ap (in_brief t l) (admits_all named fits o))

-- ---- a file that was scanned: 19

malformed_of : (p : Split) {r : ℕ} → scan_of p ≡ Err r → p ≡ malformed r
malformed_of (malformed q) {r} h = let e : q ≡ r = cc in ap malformed e
malformed_of (split es) h = let x : ◌≡◌ {A = ℕ} 0 1 = cc in absurd (omega arith)

split_of : (p : Split) {n z : ℕ} {f : prelude.Option ℕ} → scan_of p ≡ Ok (n, z, f) → (es : List Entry) × (p ≡ split es)
split_of (malformed q) h = let x : ◌≡◌ {A = ℕ} 0 1 = cc in absurd (omega arith)
split_of (split es) h = (es, refl)

module _ (bytes : List ℕ) (t l : Name) (room : ℕ) where
  pub judge_malformed : {p : ℕ} (r : code.Refusal) → scan_of (records bytes) ≡ Err p → refusal_of r ≡ refusal_at 19 p → refused (refusal_of r) ≡ in_brief t l (importable bytes t l room)
  unfolding importable well_formed in_brief ◌>>=◌
  judge_malformed r h e = ap refused e ∙ sym (ap (λ (x : Split). in_brief t l (well_formed x >>= if_writable t l room)) (malformed_of (records bytes) h))

  pub judge_counted : {n z : ℕ} {f : prelude.Option ℕ} {x : Result (ℕ × ℕ)} → scan_of (records bytes) ≡ Ok (n, z, f)
      → ((es : List Entry) → scan_of (split es) ≡ Ok (n, z, f) → x ≡ in_brief t l (if_writable t l room es)) → x ≡ in_brief t l (importable bytes t l room)
  unfolding importable well_formed ◌>>=◌
  judge_counted h k =
      let s = split_of (records bytes) h in
      k s.0 (sym (ap scan_of s.1) ∙ h) ∙ sym (ap (λ (x : Split). in_brief t l (well_formed x >>= if_writable t l room)) s.1)

-- an error that is handed on is the same
pub error_kept : {T E : Type 0} {e : E} (r : prelude.Result T E) → IsErrAnd r (λ y. y ≡ e) → r ≡ Err e
error_kept (Ok x) h = absurd h
error_kept (Err y) h = ap Err h

-- ---- what was taken

brief_refused : (t l : Name) (o : Result (List Entry)) {x : Refusal} → refused x ≡ in_brief t l o → o ≡ refused x
unfolding in_brief ◌>>=◌
brief_refused t l (refused r) {x} h = let e : r ≡ x = cc in ap refused e
brief_refused t l (accepted es) h = not_refused h

-- the records, their number, and the length of their lines
brief_accepted : (t l : Name) (o : Result (List Entry)) {count n : ℕ} → accepted (count, n) ≡ in_brief t l o
    → (es : List Entry) × (o ≡ accepted es) × (count ≡ length es) × (n ≡ length (record_lines t l es))
unfolding in_brief ◌>>=◌
brief_accepted t l (refused r) h = not_refused (sym h)
brief_accepted t l (accepted es) h =
    let e = accepted_same h in
    (es, refl, ap (λ (p : ℕ × ℕ). p.0) e, ap (λ (p : ℕ × ℕ). p.1) e)

-- what records of which lines can be written were
pub record Taken (bytes : List ℕ) (t l : Name) (room : ℕ) (es : List Entry) : Type 0 where
  pub are : records bytes ≡ split es
  pub names : (is_name t && is_name l) ≡ true
  pub fit : first_unfit es ≡ none
  pub short : length (record_lines t l es) ≤ room

pub was_taken : (bytes : List ℕ) (t l : Name) (room : ℕ) (es : List Entry) → importable bytes t l room ≡ accepted es → Taken bytes t l room es
unfolding importable ◌>>=◌
was_taken bytes t l room es h = go (records bytes) refl h
  where
    room_left : (ds : List Entry) → records bytes ≡ split ds → (is_name t && is_name l) ≡ true → first_unfit ds ≡ none → (b : Bool) → ltb room (length (record_lines t l ds)) ≡ b
        → refuse_if b (refusal_at 21 0) >> accepted ds ≡ accepted es → Taken bytes t l room es
    room_left ds s n u true e k = unfold refuse_if ◌>>◌ in not_refused k
    room_left ds s n u false e k = made (accepted_same (unfold refuse_if ◌>>◌ in k))
      where
        made : ds ≡ es → Taken bytes t l room es
        made q = record {
          are = s ∙ ap split q;
          names = n;
          fit = sym (ap first_unfit q) ∙ u;
          short = omega (arith, ltb-false room (length (record_lines t l ds)) e, ap (λ (x : List Entry). length (record_lines t l x)) q);
        }

    fields_fit : (ds : List Entry) → records bytes ≡ split ds → (is_name t && is_name l) ≡ true → (o : Option ℕ) → first_unfit ds ≡ o
        → refuse_unfit o >> (refuse_if (ltb room (length (record_lines t l ds))) (refusal_at 21 0) >> accepted ds) ≡ accepted es → Taken bytes t l room es
    fields_fit ds s n none u k = room_left ds s n u (ltb room (length (record_lines t l ds))) refl (unfold refuse_unfit ◌>>◌ in k)
    fields_fit ds s n (some p) u k = unfold refuse_unfit ◌>>◌ in not_refused k

    names_fit : (ds : List Entry) → records bytes ≡ split ds → (b : Bool) → (is_name t && is_name l) ≡ b
        → refuse_if (not b) (refusal_at 20 0) >> (refuse_unfit (first_unfit ds) >> (refuse_if (ltb room (length (record_lines t l ds))) (refusal_at 21 0) >> accepted ds)) ≡ accepted es → Taken bytes t l room es
    names_fit ds s true n k = fields_fit ds s n (first_unfit ds) refl (unfold refuse_if ◌>>◌ in k)
    names_fit ds s false n k = unfold refuse_if ◌>>◌ in not_refused k

    go : (p : Split) → records bytes ≡ p → well_formed p >>= if_writable t l room ≡ accepted es → Taken bytes t l room es
    go (malformed p) s k = unfold well_formed ◌>>=◌ in not_refused k
    go (split ds) s k = names_fit ds s (is_name t && is_name l) refl (unfold well_formed if_writable ◌>>=◌ in k)

-- ---- the outcomes

module _ (bytes : List ℕ) (t l : Name) where
  -- a refusal leaves the buffer as it was
  pub imports_refused : (before : List ℕ) (r : code.Refusal) → refused (refusal_of r) ≡ in_brief t l (importable bytes t l (length before)) → Imports bytes t l before before (Err r)
  unfolding importing length_only after_import ◌>>=◌
  imports_refused before r h =
      let o = brief_refused t l (importable bytes t l (length before)) h in
      let e : importing bytes t l (length before) ≡ refused (refusal_of r) = ap (λ (x : Result (List Entry)). x >>= λ es. accepted (record_lines t l es)) o in
      record { is = sym (ap length_only e); buffer = sym (ap (λ (x : Result (List ℕ)). after_import x before) e) }

  -- the lines are written
  pub imports_lines : (before after : List ℕ) {count n m : ℕ} → length before < 2 ^ 63 → accepted (count, n) ≡ in_brief t l (importable bytes t l (length before)) → RowsPlaced bytes count t l before after m
      → Imports bytes t l before after (Ok n)
  unfolding importing length_only after_import ◌>>=◌
  imports_lines before after {count} {n} {m} small h x =
      let o = brief_accepted t l (importable bytes t l (length before)) h in
      let k = was_taken bytes t l (length before) o.0 o.1 in
      let e : importing bytes t l (length before) ≡ accepted (record_lines t l o.0) = ap (λ (x : Result (List Entry)). x >>= λ es. accepted (record_lines t l es)) o.1 in
      let w = (x.placed o.0 k.are k.fit o.2).room (omega (arith, k.short, small)) in
      record {
        is = ap accepted o.3 ∙ sym (ap length_only e);
        buffer = w.stored ∙ filled before (record_lines t l o.0) k.short ∙ sym (ap (λ (x : Result (List ℕ)). after_import x before) e);
      }

  -- the same without a buffer
  pub measures_refused : (r : code.Refusal) → refused (refusal_of r) ≡ in_brief t l (importable bytes t l longest_buffer) → refused (refusal_of r) ≡ measure_import bytes t l
  unfolding measure_import importing length_only ◌>>=◌
  measures_refused r h = sym (ap (λ (x : Result (List Entry)). length_only (x >>= λ es. accepted (record_lines t l es))) (brief_refused t l (importable bytes t l longest_buffer) h))

  pub measures_lines : {count n : ℕ} → accepted (count, n) ≡ in_brief t l (importable bytes t l longest_buffer) → accepted n ≡ measure_import bytes t l
  unfolding measure_import importing length_only ◌>>=◌
  measures_lines h =
      let o = brief_accepted t l (importable bytes t l longest_buffer) h in
      ap accepted o.3 ∙ sym (ap (λ (x : Result (List Entry)). length_only (x >>= λ es. accepted (record_lines t l es))) o.1)

pub and_first : (a b : Bool) → a ≡ false → (a && b) ≡ false
and_first true b h = absurd (true≢false h)
and_first false b h = refl

pub and_second : (a b : Bool) → b ≡ false → (a && b) ≡ false
and_second true b h = h
and_second false b h = refl
