-- Ranges: what was read as one was written so, what is written so is read, and where code finds its ends. Assumes nothing.
use Prim.Native.Nat.{◌+◌, ℕ}
use borrow.Author.Tests.{eqb-false, eqb-true}
use lib.Dec.{eqb}
use lib.ListN.{drop, get_or, length, length-append, length-drop}
use mathlib.Core.Bool.{Bool, false, true}
use mathlib.Core.List.{List, [], ◌++◌, ◌∷◌, append_assoc, append-nil}
use mathlib.Core.Option.{Option, map, none, some}
use mathlib.Core.Path.{◌∙◌, ◌≡◌, ap, refl, subst, sym}
use native.Mathlib.Omega.{arith}
use Rattle.lists.proofs.Tests.{and_left, true_not_false}
use Rattle.lists.specs.Lists.{all_of, there}
use Rattle.text.proofs.ByteLaws.{number_name_bytes, run_name_bytes}
use Rattle.text.proofs.Closings.{closing_over, closing_stands, written_bracket, written_word}
use Rattle.text.proofs.Forward.{Forward, forward_bind, forward_bracketed, forward_give, forward_next, forward_number}
use Rattle.text.proofs.Lefts.{first_drop, skip_from}
use Rattle.text.proofs.ReadBack.{Gives, Reads, bind_reads, bracketed_reads, give_reads, gives, left, next_reads, number_reads}
use Rattle.text.proofs.ReaderLaws.{byte_at_read, byte_at_refused, not_read}
use Rattle.text.proofs.Spaces.{next_here, next_not}
use Rattle.text.proofs.Written.{Spells, prints_bind, spells_bind, spells_bracketed, spells_give, spells_more, spells_next, spells_refuse, spells_whole, spells_word}
use Rattle.text.specs.Amounts.{Range, is_range, range, range_of}
use Rattle.text.specs.Brackets.{bracketed, next}
use Rattle.text.specs.Bytes.{first_byte, is_digit, is_letter, is_name_byte}
use Rattle.text.specs.Numbers.{is_number, rank}
use Rattle.text.specs.Reader.{Left, ended, from, given, whole}
use Rattle.text.specs.Walking.{written_end_at}
use Rattle.text.specs.Words.{Word, read_number, to_closing, written_at}

-- the bytes are a range as it is written: `(`, LOW, a space, HIGH and `)`
pub record RangeText (r : Range) (v : List ℕ) : Type 0 where
  pub first : List ℕ
  pub second : List ℕ
  pub is_low : rank first ≡ some r.low
  pub is_high : rank second ≡ some r.high
  pub is : v ≡ 40 ∷ (first ++ 32 ∷ (second ++ 41 ∷ []))

-- ---- what was read was written so

pub number_spelled : Spells (λ k bs. rank bs ≡ some k) read_number
unfolding read_number
number_spelled = prints_bind (λ w. w.bytes) (λ w. true) (λ k bs. rank bs ≡ some k) _ _ spells_word (λ w _. go w (rank w.bytes) refl)
  where
    go : (w : Word) (o : Option ℕ) → rank w.bytes ≡ o → Spells (λ k bs. rank (w.bytes ++ bs) ≡ some k) (given o)
    go w none e = spells_refuse _
    go w (some k) e = spells_give _ k (ap rank (append-nil w.bytes) ∙ e)

-- a number behind a space
data Next : ℕ → List ℕ → Type 0 where
  behind : (c : List ℕ) (k : ℕ) → rank c ≡ some k → Next k (32 ∷ c)

next_spelled : Spells Next (next read_number)
next_spelled = spells_next Next read_number (spells_more _ (λ k bs. rank bs ≡ some k) read_number (λ k bs x. behind bs k x) number_spelled)

whole_text : (a : List ℕ) (l : ℕ) → rank a ≡ some l → {h : ℕ} {bs : List ℕ} → Next h bs → RangeText (record { low = l; high = h }) (40 ∷ ((a ++ (bs ++ [])) ++ 41 ∷ []))
whole_text a l ea (behind b h eb) =
    record { first = a; second = b; is_low = ea; is_high = eb; is = ap (λ (cs : List ℕ). 40 ∷ cs) (append_assoc a (32 ∷ (b ++ [])) (41 ∷ []) ∙ ap (λ (cs : List ℕ). a ++ 32 ∷ (cs ++ 41 ∷ [])) (append-nil b)) }

pub range_spelled : Spells RangeText range
unfolding range
range_spelled = spells_bracketed RangeText _
    (spells_bind (λ k bs. rank bs ≡ some k) _ read_number _ number_spelled (λ l a ea.
    spells_bind Next _ (next read_number) _ next_spelled (λ h bs x.
    spells_give _ (record { low = l; high = h }) (whole_text a l ea x))))

pub range_text : (v : List ℕ) (r : Range) → range_of v ≡ some r → RangeText r v
unfolding range_of
range_text v r h = spells_whole RangeText range range_spelled v r h

pub forward_range : Forward range
unfolding range
forward_range = forward_bracketed _ (forward_bind read_number _ forward_number (λ l. forward_bind (next read_number) _ (forward_next read_number forward_number) (λ h. forward_give (record { low = l; high = h }))))

-- ---- what is written so is read

spread_reads : (r : Range) (a b rest : List ℕ) → rank a ≡ some r.low → rank b ≡ some r.high → Reads (λ (x : Range). x) range (40 ∷ (a ++ 32 ∷ (b ++ 41 ∷ rest))) r rest
unfolding range is_name_byte is_letter is_digit
spread_reads r a b rest ea eb = bracketed_reads
    (bind_reads (number_reads a (32 ∷ (b ++ 41 ∷ rest)) r.low ea refl) (λ y p.
    bind_reads (next_reads (number_reads b (41 ∷ rest) r.high eb refl)) (λ z q.
    give_reads (record { low = y; high = z }) (41 ∷ rest) (λ i. record { low = p i; high = q i }))))

-- with more behind it
behind_text : (a b rest : List ℕ) → (40 ∷ (a ++ 32 ∷ (b ++ 41 ∷ []))) ++ rest ≡ 40 ∷ (a ++ 32 ∷ (b ++ 41 ∷ rest))
behind_text a b rest = ap (λ (cs : List ℕ). 40 ∷ cs) (append_assoc a (32 ∷ (b ++ 41 ∷ [])) rest ∙ ap (λ (cs : List ℕ). a ++ 32 ∷ cs) (append_assoc b (41 ∷ []) rest))

pub range_reads : {r : Range} {v : List ℕ} → RangeText r v → (rest : List ℕ) → Reads (λ (x : Range). x) range (v ++ rest) r rest
range_reads {r} {v} t rest =
    subst (λ (bs : List ℕ). Reads (λ (x : Range). x) range bs r rest) (sym (ap (λ (w : List ℕ). w ++ rest) t.is ∙ behind_text t.first t.second rest))
    (spread_reads r t.first t.second rest t.is_low t.is_high)

pub range_whole : {r : Range} {v : List ℕ} → RangeText r v → range_of v ≡ some r
unfolding range_of whole
range_whole {r} {v} t = go (subst (λ (bs : List ℕ). Gives (λ (x : Range). x) r [] (range (left 0 bs))) (append-nil v) ((range_reads t []).from 0))
  where
    go : {o : Option (Range × Left)} → Gives (λ (x : Range). x) r [] o → ended o ≡ some r
    go (gives p) = unfold ended in ap some p

pub number_bytes : (a : List ℕ) (k : ℕ) → rank a ≡ some k → all_of is_name_byte a ≡ true
number_bytes a k e = number_name_bytes a (unfold is_number there in rw e)

-- it ends with its first closing bracket
pub closing_range : {r : Range} {v : List ℕ} → RangeText r v → (rest : List ℕ) → to_closing (v ++ rest) ≡ v
unfolding to_closing
closing_range {r} {v} t rest =
    ap (λ (w : List ℕ). to_closing (w ++ rest)) t.is ∙ ap to_closing (behind_text t.first t.second rest)
    ∙ ap (λ (cs : List ℕ). 40 ∷ cs) (closing_over t.first (32 ∷ (t.second ++ 41 ∷ rest)) (number_bytes t.first r.low t.is_low)
    ∙ ap (λ (cs : List ℕ). t.first ++ 32 ∷ cs) (closing_over t.second (41 ∷ rest) (number_bytes t.second r.high t.is_high)))
    ∙ sym t.is

-- ---- ranges by position

-- the range r is read at a position of a text, as it is written there
pub record RangeAt (s : List ℕ) (at : ℕ) (r : Range) : Type 0 where
  pub opens : get_or s at 0 ≡ 40
  pub text : RangeText r (written_at s at)
  pub stood : drop at s ≡ written_at s at ++ drop (written_end_at s at) s
  pub read : range (from s at) ≡ some (r, from s (written_end_at s at))

module _ (s : List ℕ) (at : ℕ) where
  pub range_at : (r : Range) (l : Left) → range (from s at) ≡ some (r, l) → RangeAt s at r
  unfolding written_end_at
  range_at r l h =
      let x = range_spelled (from s at) r l h in
      let p = forward_range (from s at) r l h in
      let o : get_or s at 0 ≡ 40 = sym (first_drop s at) ∙ ap first_byte (x.stood ∙ ap (λ (w : List ℕ). w ++ l.bytes) x.spells.is) in
      let w : written_at s at ≡ x.read = written_bracket s at o ∙ ap to_closing x.stood ∙ closing_range x.spells l.bytes in
      let n : length (drop at s) ≡ length x.read + length l.bytes = ap length x.stood ∙ length-append x.read l.bytes in
      let m : length l.bytes ≡ length (drop p.n (drop at s)) = ap (λ (k : Left). length k.bytes) p.skipped in
      let e : p.n ≡ length (written_at s at) = omega (arith, n, m, p.within, length-drop p.n (drop at s), ap length w) in
      let q : l ≡ from s (at + length (written_at s at)) = p.skipped ∙ skip_from s at p.n ∙ ap (λ (k : ℕ). from s (at + k)) e in
      record {
        opens = o;
        text = subst (RangeText r) (sym w) x.spells;
        stood = x.stood ∙ ap (λ (v : List ℕ). v ++ l.bytes) (sym w) ∙ ap (λ (k : Left). written_at s at ++ k.bytes) q;
        read = h ∙ ap (λ (k : Left). some (r, k)) q;
      }

  no_bracket : (get_or s at 0 ≡ 40 → ⊥) → (r : Range) → RangeText r (written_at s at) → ⊥
  unfolding all_of
  no_bracket h r t = true_not_false (and_left (is_name_byte 40) _ (ap (all_of is_name_byte) (sym t.is) ∙ ap (all_of is_name_byte) (written_word s at h) ∙ run_name_bytes (drop at s))) (unfold is_name_byte is_letter is_digit in refl)

  read_here : (r : Range) → RangeText r (to_closing (drop at s)) → range (from s at) ≡ none → ⊥
  read_here r t h = go ((range_reads t (drop (length (to_closing (drop at s))) (drop at s))).from at) (ap (λ (bs : List ℕ). range (left at bs)) (sym (closing_stands (drop at s))) ∙ h)
    where
      go : {o : Option (Range × Left)} {rest : List ℕ} → Gives (λ (x : Range). x) r rest o → o ≡ none → ⊥
      go (gives {y} {at = k} p) e = not_read (y, left k _) (sym e)

  -- what is written there is a range if one is read there, and the same
  pub written_range : range_of (written_at s at) ≡ map (λ x. x.0) (range (from s at))
  written_range = go (range (from s at)) refl
    where
      none_written : range (from s at) ≡ none → (o : Option Range) → range_of (written_at s at) ≡ o → o ≡ none
      none_written h none e = refl
      none_written h (some r) e = opened (eqb (get_or s at 0) 40) refl
        where
          opened : (t : Bool) → eqb (get_or s at 0) 40 ≡ t → some r ≡ none
          opened true k = absurd (read_here r (subst (RangeText r) (written_bracket s at (eqb-true _ _ k)) (range_text (written_at s at) r e)) h)
          opened false k = absurd (no_bracket (eqb-false _ _ k) r (range_text (written_at s at) r e))

      go : (o : Option (Range × Left)) → range (from s at) ≡ o → range_of (written_at s at) ≡ map (λ x. x.0) o
      go none h = none_written h (range_of (written_at s at)) refl
      go (some x) h = range_whole (range_at x.0 x.1 h).text

  -- so whether one is
  pub is_range_lem : is_range (written_at s at) ≡ there (range (from s at))
  unfolding is_range there
  is_range_lem = ap there written_range ∙ go (range (from s at))
    where
      go : (o : Option (Range × Left)) → there (map (λ x. x.0) o) ≡ there o
      go none = refl
      go (some x) = refl

-- ---- as code reads one

module _ (s : List ℕ) (at : ℕ) where
  pub range_unopened : (get_or s at 0 ≡ 40 → ⊥) → range (from s at) ≡ none
  unfolding range bracketed
  range_unopened h = rw (byte_at_refused s at 40 h)

  module _ (a : get_or s at 0 ≡ 40) where
    pub range_no_low : read_number (from s (at + 1)) ≡ none → range (from s at) ≡ none
    unfolding range bracketed
    range_no_low b = rw (byte_at_read s at 40 a, b)

    module _ {e k : ℕ} (b : read_number (from s (at + 1)) ≡ some (k, from s e)) where
      pub range_unspaced : (get_or s e 0 ≡ 32 → ⊥) → range (from s at) ≡ none
      unfolding range bracketed
      range_unspaced c = rw (byte_at_read s at 40 a, b, next_not read_number s e c)

      module _ (c : get_or s e 0 ≡ 32) where
        pub range_no_high : read_number (from s (e + 1)) ≡ none → range (from s at) ≡ none
        unfolding range bracketed
        range_no_high d = rw (byte_at_read s at 40 a, b, next_here read_number s e c, d)

        module _ {f m : ℕ} (d : read_number (from s (e + 1)) ≡ some (m, from s f)) where
          pub range_unclosed : (get_or s f 0 ≡ 41 → ⊥) → range (from s at) ≡ none
          unfolding range bracketed
          range_unclosed g = rw (byte_at_read s at 40 a, b, next_here read_number s e c, d, byte_at_refused s f 41 g)

          pub range_read : get_or s f 0 ≡ 41 → range (from s at) ≡ some (record { low = k; high = m }, from s (f + 1))
          unfolding range bracketed
          range_read g = rw (byte_at_read s at 40 a, b, next_here read_number s e c, d, byte_at_read s f 41 g)
