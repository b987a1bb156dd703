-- Fields at a position: what code finds there byte by byte, and how a field that is a name or a number stands in the file. Assumes nothing.
use Prim.Native.Nat.{◌+◌, ◌-◌, ◌<◌, ◌≤◌, suc, zero, ℕ}
use borrow.Author.Tests.{eq-eqb, eqb-false, eqb-true, leb-false, leb-true, ne_eqb}
use lib.Dec.{eqb, leb, ltb}
use lib.ListN.{drop, drop_of_length-le, get_or, length, length-drop}
use mathlib.Core.Bool.{Bool, ◌&&◌, cond, false, true}
use mathlib.Core.List.{List, [], ◌++◌, ◌∷◌, append-nil}
use mathlib.Core.Option.{Option, some-injective, none, some}
use mathlib.Core.Path.{◌∙◌, ◌≡◌, ap, refl, subst, sym}
use mathlib.Core.Logic.{◌⊎◌, inl, inr}
use native.Mathlib.Omega.{arith}
use Rattle.std.specs.Prelude.{None, Some}
use Rattle.text.specs.CodeEnds.{word_end}
use Rattle.csv_text.specs.Scanned.{field_of, field_size, field_unfit, quoted_end}
use Rattle.csv_text.specs.Fields.{Field, bare, field, in_quotes, is_plain, plain_bytes, quoted, with_left, wrap}
use Rattle.lists.proofs.ListLaws.{all_parts}
use Rattle.lists.proofs.Tests.{and_left, never, true_not_false}
use Rattle.lists.specs.Lists.{all_of}
use Rattle.text.proofs.ByteLaws.{run_within, value_name_bytes}
use Rattle.text.proofs.Lefts.{before_end, drop_here, first_drop, skip_from}
use Rattle.text.proofs.ReaderLaws.{Eats, byte_at_read, eats_byte, eats_if_next, eats_less, eats_then, got, left_from, not_read}
use Rattle.text.proofs.WordLaws.{name_byte_here, word_more, word_stop}
use Rattle.text.proofs.WalkingLaws.{past_end, past_here, past_other, past_within}
use Rattle.text.specs.Bytes.{is_digit, is_letter, is_name_byte}
use Rattle.text.specs.Numbers.{is_value}
use Rattle.text.specs.Reader.{Left, byte, from, if_next, skip}
use Rattle.text.specs.Walking.{past}
use Rattle.text.specs.Words.{name_bytes, word_at}

-- ---- plain bytes, as a loop goes through them

module _ (s : List ℕ) (at : ℕ) where
  pub plain_more : at < length s → is_plain (get_or s at 0) ≡ true → plain_bytes (drop at s) ≡ get_or s at 0 ∷ plain_bytes (drop (at + 1) s)
  unfolding plain_bytes
  plain_more h p = rw (drop_here s at h, p)

  pub plain_stop : at < length s → is_plain (get_or s at 0) ≡ false → plain_bytes (drop at s) ≡ []
  unfolding plain_bytes
  plain_stop h p = rw (drop_here s at h, p)

  pub plain_none : length s ≤ at → plain_bytes (drop at s) ≡ []
  unfolding plain_bytes
  plain_none h = rw (drop_of_length-le s h)

-- ---- fields in quotes, as a loop goes through them

end_wrap : (bs : List ℕ) (at : ℕ) (o : Option (Field × ℕ)) → quoted_end at (wrap bs o) ≡ quoted_end (at + 1) o
unfolding wrap
end_wrap bs at none = refl
end_wrap bs at (some q) = ap Some (omega arith)

pub quote_here : (s : List ℕ) (at : ℕ) → get_or s at 0 ≡ 34 → at < length s
quote_here s at e = before_end s at (λ z. absurd (omega (arith, e, z)))

module _ (s : List ℕ) (at : ℕ) where
  -- another byte
  pub quoted_byte : at < length s → (get_or s at 0 ≡ 34 → ⊥) → quoted_end at (quoted false (drop at s)) ≡ quoted_end (at + 1) (quoted false (drop (at + 1) s))
  unfolding quoted
  quoted_byte h n = rw (drop_here s at h, ne_eqb _ _ n) (end_wrap _ at (quoted false (drop (at + 1) s)))

  -- the end of the file
  pub quoted_open : length s ≤ at → quoted_end at (quoted false (drop at s)) ≡ None
  unfolding quoted
  quoted_open h = rw (drop_of_length-le s h)

  module _ (here : get_or s at 0 ≡ 34) where
    quoted_quote : quoted_end at (quoted false (drop at s)) ≡ quoted_end (at + 1) (quoted true (drop (at + 1) s))
    unfolding quoted
    quoted_quote = rw (drop_here s at (quote_here s at here), eq-eqb _ _ here) (end_wrap [] at (quoted true (drop (at + 1) s)))

    -- two quotes
    pub quoted_double : get_or s (at + 1) 0 ≡ 34 → quoted_end at (quoted false (drop at s)) ≡ quoted_end (at + 2) (quoted false (drop (at + 2) s))
    quoted_double e =
        let q : at + 1 + 1 ≡ at + 2 = omega arith in
        quoted_quote ∙ go ∙ ap (λ (k : ℕ). quoted_end k (quoted false (drop k s))) q
      where
        go : quoted_end (at + 1) (quoted true (drop (at + 1) s)) ≡ quoted_end (at + 1 + 1) (quoted false (drop (at + 1 + 1) s))
        go = unfold quoted in rw (drop_here s (at + 1) (quote_here s (at + 1) e), eq-eqb _ _ e) (end_wrap _ (at + 1) (quoted false (drop (at + 1 + 1) s)))

    -- one quote
    pub quoted_closed : (get_or s (at + 1) 0 ≡ 34 → ⊥) → quoted_end at (quoted false (drop at s)) ≡ Some (at + 1)
    quoted_closed n = quoted_quote ∙ go (drop (at + 1) s) (λ e. n (sym (first_drop s (at + 1)) ∙ e))
      where
        go : (bs : List ℕ) → (Rattle.text.specs.Bytes.first_byte bs ≡ 34 → ⊥) → quoted_end (at + 1) (quoted true bs) ≡ Some (at + 1)
        go [] k = unfold quoted in ap Some (omega arith)
        go (b ∷ bs) k = unfold quoted in rw (ne_eqb _ _ k) (ap Some (omega arith))

-- ---- a field's bytes: a word, and what follows it

-- m is where a field ends that is the word alone; it ends at e, and `rest` is what it says behind the word
pub data Tail (m e : ℕ) : List ℕ → Type 0 where
  exact : e ≡ m → Tail m e []
  longer : {b : ℕ} {bs : List ℕ} → is_name_byte b ≡ false → m < e → Tail m e (b ∷ bs)

tail_more : {m e : ℕ} {rest : List ℕ} (k : ℕ) {m' e' : ℕ} → m' ≡ k + m → e' ≡ k + e → Tail m e rest → Tail m' e' rest
tail_more k p q (exact h) = exact (omega (arith, p, q, h))
tail_more k p q (longer n h) = longer n (omega (arith, p, q, h))

-- a name byte is plain, and is no quote
pub not_name : (k b : ℕ) → is_name_byte k ≡ false → is_name_byte b ≡ true → eqb b k ≡ false
not_name k b n h = never (eqb b k) (λ e. true_not_false h (ap is_name_byte (eqb-true b k e) ∙ n))

name_no_quote : (b : ℕ) → is_name_byte b ≡ true → eqb b 34 ≡ false
name_no_quote b h = not_name 34 b (unfold is_name_byte is_letter is_digit in refl) h

name_plain : (b : ℕ) → is_name_byte b ≡ true → is_plain b ≡ true
unfolding is_plain
name_plain b h =
    rw (
      name_no_quote b h,
      not_name 44 b (unfold is_name_byte is_letter is_digit in refl) h,
      not_name 10 b (unfold is_name_byte is_letter is_digit in refl) h,
      not_name 13 b (unfold is_name_byte is_letter is_digit in refl) h,
    )

pub not_plain : (b : ℕ) → is_plain b ≡ false → is_name_byte b ≡ false
not_plain b e = never (is_name_byte b) (λ h. true_not_false (name_plain b h) e)

quote_no_name : (b : ℕ) → eqb b 34 ≡ true → is_name_byte b ≡ false
quote_no_name b e = never (is_name_byte b) (λ h. true_not_false e (name_no_quote b h))

-- without quotes
plain_tail : (bs : List ℕ) → (rest : List ℕ) × (plain_bytes bs ≡ name_bytes bs ++ rest) × Tail (length (name_bytes bs)) (length (plain_bytes bs)) rest
unfolding plain_bytes name_bytes
plain_tail [] = ([], refl, exact refl)
plain_tail (b ∷ bs) = go (plain_tail bs) (is_name_byte b) refl (is_plain b) refl
  where
    go : (rest : List ℕ) × (plain_bytes bs ≡ name_bytes bs ++ rest) × Tail (length (name_bytes bs)) (length (plain_bytes bs)) rest
        → (n : Bool) → is_name_byte b ≡ n → (p : Bool) → is_plain b ≡ p
        → (rest : List ℕ) × (cond p (b ∷ plain_bytes bs) [] ≡ cond n (b ∷ name_bytes bs) [] ++ rest) × Tail (length (cond n (b ∷ name_bytes bs) [])) (length (cond p (b ∷ plain_bytes bs) [])) rest
    go r true h true k = (r.0, ap (λ (l : List ℕ). b ∷ l) r.1, tail_more 1 (omega arith) (omega arith) r.2)
    go r true h false k = true_not_false (name_plain b h) k
    go r false h true k = (b ∷ plain_bytes bs, refl, longer h (omega arith))
    go r false h false k = ([], refl, exact refl)

-- in quotes
pub wrap_some : (bs : List ℕ) (o : Option (Field × ℕ)) (p : Field × ℕ) → wrap bs o ≡ some p → (q : Field × ℕ) × (o ≡ some q) × (p.0 ≡ bs ++ q.0) × (p.1 ≡ suc q.1)
unfolding wrap
wrap_some bs none p h = not_read p h
wrap_some bs (some q) p h =
    let e : (bs ++ q.0, suc q.1) ≡ p = some-injective _ _ h in
    (q, refl, sym (ap (λ (x : Field × ℕ). x.0) e), sym (ap (λ (x : Field × ℕ). x.1) e))

-- a field in quotes takes no more than is left, and says no more bytes than it takes
quoted_takes : (b : Bool) (bs : List ℕ) (p : Field × ℕ) → quoted b bs ≡ some p → (p.1 ≤ length bs) × (length p.0 ≤ p.1)
unfolding quoted
quoted_takes false [] p h = not_read p h
quoted_takes true [] p h =
    let e : ◌≡◌ {A = Field × ℕ} ([], 0) p = some-injective _ _ h in
    (omega (arith, ap (λ (x : Field × ℕ). x.1) e), omega (arith, ap (λ (x : Field × ℕ). length x.0) e))
quoted_takes false (b ∷ bs) p h = go (eqb b 34) (quoted_takes (eqb b 34) bs) h
  where
    go : (t : Bool) → ((q : Field × ℕ) → quoted t bs ≡ some q → (q.1 ≤ length bs) × (length q.0 ≤ q.1)) → wrap (cond t [] (b ∷ [])) (quoted t bs) ≡ some p
        → (p.1 ≤ suc (length bs)) × (length p.0 ≤ p.1)
    go true ih k =
        let w = wrap_some [] (quoted true bs) p k in
        let i = ih w.0 w.1 in
        (omega (arith, w.3, i.0), omega (arith, w.3, i.1, ap length w.2))
    go false ih k =
        let w = wrap_some (b ∷ []) (quoted false bs) p k in
        let i = ih w.0 w.1 in
        (omega (arith, w.3, i.0), omega (arith, w.3, i.1, ap length w.2))
quoted_takes true (b ∷ bs) p h = go (quoted_takes false bs) (eqb b 34) h
  where
    go : ((q : Field × ℕ) → quoted false bs ≡ some q → (q.1 ≤ length bs) × (length q.0 ≤ q.1)) → (t : Bool) → cond t (wrap (b ∷ []) (quoted false bs)) (some ([], 0)) ≡ some p
        → (p.1 ≤ suc (length bs)) × (length p.0 ≤ p.1)
    go ih true k =
        let w = wrap_some (b ∷ []) (quoted false bs) p k in
        let i = ih w.0 w.1 in
        (omega (arith, w.3, i.0), omega (arith, w.3, i.1, ap length w.2))
    go ih false k =
        let e : ◌≡◌ {A = Field × ℕ} ([], 0) p = some-injective _ _ k in
        (omega (arith, ap (λ (x : Field × ℕ). x.1) e), omega (arith, ap (λ (x : Field × ℕ). length x.0) e))

-- it takes its closing quote
quoted_one : (bs : List ℕ) (p : Field × ℕ) → quoted false bs ≡ some p → 1 ≤ p.1
unfolding quoted
quoted_one [] p h = not_read p h
quoted_one (b ∷ bs) p h = let w = wrap_some (cond (eqb b 34) [] (b ∷ [])) (quoted (eqb b 34) bs) p h in omega (arith, w.3)

-- behind a quote: the field ended there, or says a quote
quote_tail : (bs : List ℕ) (p : Field × ℕ) → quoted true bs ≡ some p → Tail 0 p.1 p.0
unfolding quoted
quote_tail [] p h = let e : ◌≡◌ {A = Field × ℕ} ([], 0) p = some-injective _ _ h in subst (λ (x : Field × ℕ). Tail 0 x.1 x.0) e (exact refl)
quote_tail (b ∷ bs) p h = go (eqb b 34) refl h
  where
    go : (t : Bool) → eqb b 34 ≡ t → cond t (wrap (b ∷ []) (quoted false bs)) (some ([], 0)) ≡ some p → Tail 0 p.1 p.0
    go true e k =
        let w = wrap_some (b ∷ []) (quoted false bs) p k in
        subst (λ (x : List ℕ). Tail 0 p.1 x) (sym w.2) (longer (quote_no_name b e) (omega (arith, w.3)))
    go false e k = let q : ◌≡◌ {A = Field × ℕ} ([], 0) p = some-injective _ _ k in subst (λ (x : Field × ℕ). Tail 0 x.1 x.0) q (exact refl)

quoted_tail : (bs : List ℕ) (p : Field × ℕ) → quoted false bs ≡ some p → (rest : List ℕ) × (p.0 ≡ name_bytes bs ++ rest) × Tail (suc (length (name_bytes bs))) p.1 rest
unfolding quoted name_bytes
quoted_tail [] p h = not_read p h
quoted_tail (b ∷ bs) p h = go (quoted_tail bs) (is_name_byte b) refl (eqb b 34) refl h
  where
    go : ((q : Field × ℕ) → quoted false bs ≡ some q → (rest : List ℕ) × (q.0 ≡ name_bytes bs ++ rest) × Tail (suc (length (name_bytes bs))) q.1 rest)
        → (n : Bool) → is_name_byte b ≡ n → (t : Bool) → eqb b 34 ≡ t → wrap (cond t [] (b ∷ [])) (quoted t bs) ≡ some p
        → (rest : List ℕ) × (p.0 ≡ cond n (b ∷ name_bytes bs) [] ++ rest) × Tail (suc (length (cond n (b ∷ name_bytes bs) []))) p.1 rest
    go ih true h true e k = true_not_false e (name_no_quote b h)
    go ih true h false e k =
        let w = wrap_some (b ∷ []) (quoted false bs) p k in
        let r = ih w.0 w.1 in
        (r.0, w.2 ∙ ap (λ (l : List ℕ). b ∷ l) r.1, tail_more 1 (omega arith) (omega (arith, w.3)) r.2)
    go ih false h true e k =
        let w = wrap_some [] (quoted true bs) p k in
        (w.0.0, w.2, tail_more 1 (omega arith) (omega (arith, w.3)) (quote_tail bs w.0 w.1))
    go ih false h false e k =
        let w = wrap_some (b ∷ []) (quoted false bs) p k in
        (b ∷ w.0.0, w.2, longer h (omega (arith, w.3, quoted_one bs w.0 w.1)))

-- ---- name bytes end no field

module _ (s : List ℕ) where
  plain_skip : (k a : ℕ) → k ≤ length (word_at s a) → a + length (plain_bytes (drop a s)) ≡ a + k + length (plain_bytes (drop (a + k) s))
  plain_skip zero a h =
      let e : a + 0 ≡ a = omega arith in
      sym (ap (λ (p : ℕ). p + length (plain_bytes (drop p s))) e)
  plain_skip (suc k) a h = go (plain_skip k (a + 1)) (is_name_byte (get_or s a 0)) refl
    where
      go : (k ≤ length (word_at s (a + 1)) → a + 1 + length (plain_bytes (drop (a + 1) s)) ≡ a + 1 + k + length (plain_bytes (drop (a + 1 + k) s)))
          → (b : Bool) → is_name_byte (get_or s a 0) ≡ b → a + length (plain_bytes (drop a s)) ≡ a + suc k + length (plain_bytes (drop (a + suc k) s))
      go ih true n =
          let i = ih (omega (arith, h, ap length (word_more s a n))) in
          let p = plain_more s a (name_byte_here s a n) (name_plain (get_or s a 0) n) in
          let e : a + 1 + k ≡ a + suc k = omega arith in
          let f : a + length (plain_bytes (drop a s)) ≡ a + 1 + length (plain_bytes (drop (a + 1) s)) = omega (arith, ap length p) in
          f ∙ i ∙ ap (λ (q : ℕ). q + length (plain_bytes (drop q s))) e
      go ih false n = absurd (omega (arith, h, ap length (word_stop s a n)))

  quoted_skip : (k a : ℕ) → k ≤ length (word_at s a) → quoted_end a (quoted false (drop a s)) ≡ quoted_end (a + k) (quoted false (drop (a + k) s))
  quoted_skip zero a h =
      let e : a + 0 ≡ a = omega arith in
      sym (ap (λ (p : ℕ). quoted_end p (quoted false (drop p s))) e)
  quoted_skip (suc k) a h = go (quoted_skip k (a + 1)) (is_name_byte (get_or s a 0)) refl
    where
      go : (k ≤ length (word_at s (a + 1)) → quoted_end (a + 1) (quoted false (drop (a + 1) s)) ≡ quoted_end (a + 1 + k) (quoted false (drop (a + 1 + k) s)))
          → (b : Bool) → is_name_byte (get_or s a 0) ≡ b → quoted_end a (quoted false (drop a s)) ≡ quoted_end (a + suc k) (quoted false (drop (a + suc k) s))
      go ih true n =
          let i = ih (omega (arith, h, ap length (word_more s a n))) in
          let e : a + 1 + k ≡ a + suc k = omega arith in
          quoted_byte s a (name_byte_here s a n) (λ q. true_not_false (eq-eqb (get_or s a 0) 34 q) (name_no_quote (get_or s a 0) n)) ∙ i ∙ ap (λ (q : ℕ). quoted_end q (quoted false (drop q s))) e
      go ih false n = absurd (omega (arith, h, ap length (word_stop s a n)))

-- ---- fields at a position

pub taken_some : (l : Left) (o : Option (Field × ℕ)) (v : Field) (l' : Left) → with_left l o ≡ some (v, l') → (q : Field × ℕ) × (o ≡ some q) × (v ≡ q.0) × (l' ≡ skip q.1 l)
unfolding with_left
taken_some l none v l' h = not_read (v, l') h
taken_some l (some q) v l' h = let g = got (q.0, skip q.1 l) v l' h in (q, refl, sym g.0, sym g.1)

module _ (s : List ℕ) (at : ℕ) where
  pub field_quoted : get_or s at 0 ≡ 34 → field (from s at) ≡ with_left (from s (at + 1)) (quoted false (drop (at + 1) s))
  unfolding field if_next in_quotes
  field_quoted e = rw (first_drop s at, eq-eqb _ _ e, byte_at_read s at 34 e)

  pub field_bare : (get_or s at 0 ≡ 34 → ⊥) → field (from s at) ≡ some (plain_bytes (drop at s), from s (at + length (plain_bytes (drop at s))))
  unfolding field if_next bare
  field_bare n = rw (first_drop s at, ne_eqb _ _ n, skip_from)

-- ---- how many bytes fields take

plain_within : (bs : List ℕ) → length (plain_bytes bs) ≤ length bs
unfolding plain_bytes
plain_within [] = omega arith
plain_within (b ∷ bs) = go (is_plain b) (plain_within bs)
  where
    go : (t : Bool) → length (plain_bytes bs) ≤ length bs → length (cond t (b ∷ plain_bytes bs) []) ≤ suc (length bs)
    go true r = omega (arith, r)
    go false r = omega arith

eats_bare : Eats length bare
unfolding bare
eats_bare l a l' h =
    let g = got (plain_bytes l.bytes, skip (length (plain_bytes l.bytes)) l) a l' h in
    record { n = length (plain_bytes l.bytes); enough = omega (arith, ap length g.0); within = plain_within l.bytes; skipped = sym g.1 }

eats_in_quotes : Eats length in_quotes
unfolding in_quotes
eats_in_quotes l a l' h =
    let t = taken_some l (quoted false l.bytes) a l' h in
    let k = quoted_takes false l.bytes t.0 t.1 in
    record { n = t.0.1; enough = omega (arith, k.1, ap length t.2); within = k.0; skipped = t.3 }

pub eats_field : Eats length field
unfolding field
eats_field = eats_if_next length 34 _ bare
    (eats_then 1 length (byte 34) in_quotes (eats_byte 34 (λ e. absurd (omega arith))) (eats_less length (λ v. length v - 1) in_quotes (λ v. omega arith) eats_in_quotes))
    eats_bare

-- ---- what a field at a position says, and the word there

-- the field v at a position, which ends at e: the word behind the quote, or at the field's start, and what follows
pub record FieldIs (s : List ℕ) (at : ℕ) (v : Field) (e : ℕ) : Type 0 where
  pub rest : List ℕ
  pub is : v ≡ word_at s (past 34 s at) ++ rest
  pub tail : Tail (past 34 s at + length (word_at s (past 34 s at)) + (past 34 s at - at)) e rest

pub field_is : (s : List ℕ) (at : ℕ) (v : Field) (l : Left) → field (from s at) ≡ some (v, l) → FieldIs s at v l.at
field_is s at v l h = go (eqb (get_or s at 0) 34) refl
  where
    made : {p : ℕ} → past 34 s at ≡ p → (rest : List ℕ) → v ≡ word_at s p ++ rest → Tail (p + length (word_at s p) + (p - at)) l.at rest → FieldIs s at v l.at
    made {p} e rest i t = record {
      rest = rest;
      is = i ∙ ap (λ (k : ℕ). word_at s k ++ rest) (sym e);
      tail = subst (λ (k : ℕ). Tail (k + length (word_at s k) + (k - at)) l.at rest) (sym e) t;
    }

    go : (t : Bool) → eqb (get_or s at 0) 34 ≡ t → FieldIs s at v l.at
    go true e =
        let k = eqb-true _ _ e in
        let t = taken_some (from s (at + 1)) (quoted false (drop (at + 1) s)) v l (sym (field_quoted s at k) ∙ h) in
        let q = quoted_tail (drop (at + 1) s) t.0 t.1 in
        made (past_here 34 s at (λ z. absurd (omega arith)) k) q.0 (t.2 ∙ q.1) (tail_more (at + 1) (omega arith) (ap (λ (m : Left). m.at) t.3) q.2)
    go false e =
        let k = eqb-false _ _ e in
        let g = got (plain_bytes (drop at s), from s (at + length (plain_bytes (drop at s)))) v l (sym (field_bare s at k) ∙ h) in
        let q = plain_tail (drop at s) in
        made (past_other 34 s at k) q.0 (sym g.0 ∙ q.1) (tail_more at (omega arith) (sym (ap (λ (m : Left). m.at) g.1)) q.2)

-- ---- fields that are names or numbers

-- what goes on behind a word is neither
unfit_tail : (w : List ℕ) (b : ℕ) (bs : List ℕ) → is_name_byte b ≡ false → is_value (w ++ b ∷ bs) ≡ false
unfolding all_of
unfit_tail w b bs n = never (is_value (w ++ b ∷ bs)) (λ h. true_not_false (and_left (is_name_byte b) (all_of is_name_byte bs) (all_parts is_name_byte w (b ∷ bs) (value_name_bytes (w ++ b ∷ bs) h)).1) n)

module _ (s : List ℕ) (at : ℕ) {v : Field} {e : ℕ} (f : FieldIs s at v e) where
  -- a field that is one is the word, and the word takes the whole field
  pub field_fit : is_value v ≡ true → (v ≡ word_at s (past 34 s at)) × (e ≡ past 34 s at + length (word_at s (past 34 s at)) + (past 34 s at - at))
  field_fit h = go f.tail f.is
    where
      go : {rest : List ℕ} → Tail (past 34 s at + length (word_at s (past 34 s at)) + (past 34 s at - at)) e rest → v ≡ word_at s (past 34 s at) ++ rest
          → (v ≡ word_at s (past 34 s at)) × (e ≡ past 34 s at + length (word_at s (past 34 s at)) + (past 34 s at - at))
      go (exact k) i = (i ∙ append-nil (word_at s (past 34 s at)), k)
      go (longer n k) i = true_not_false h (ap is_value i ∙ unfit_tail (word_at s (past 34 s at)) _ _ n)

  -- the word takes the whole field
  pub field_whole : past 34 s at + length (word_at s (past 34 s at)) + (past 34 s at - at) ≡ e → v ≡ word_at s (past 34 s at)
  field_whole h = go f.tail f.is
    where
      go : {rest : List ℕ} → Tail (past 34 s at + length (word_at s (past 34 s at)) + (past 34 s at - at)) e rest → v ≡ word_at s (past 34 s at) ++ rest → v ≡ word_at s (past 34 s at)
      go (exact k) i = i ∙ append-nil (word_at s (past 34 s at))
      go (longer n k) i = absurd (omega (arith, h, k))

  -- the word is neither, or does not take the whole field
  pub word_unfit : is_value (word_at s (past 34 s at)) ≡ false → is_value v ≡ false
  word_unfit n = never (is_value v) (λ h. true_not_false (ap is_value (sym (field_fit h).0) ∙ h) n)

  pub field_longer : (past 34 s at + length (word_at s (past 34 s at)) + (past 34 s at - at) ≡ e → ⊥) → is_value v ≡ false
  field_longer n = never (is_value v) (λ h. n (sym (field_fit h).1))

-- the quote that closes a word alone ends its plain bytes, too
quote_no_plain : (b : ℕ) → eqb b 34 ≡ true → is_plain b ≡ false
unfolding is_plain
quote_no_plain b e = rw e

quoted_plain : (bs : List ℕ) (p : Field × ℕ) → quoted false bs ≡ some p → p.1 ≡ suc (length (name_bytes bs)) → plain_bytes bs ≡ name_bytes bs
unfolding quoted name_bytes plain_bytes
quoted_plain [] p h l = not_read p h
quoted_plain (b ∷ bs) p h l = go (quoted_plain bs) (is_name_byte b) refl (eqb b 34) refl h l
  where
    go : ((q : Field × ℕ) → quoted false bs ≡ some q → q.1 ≡ suc (length (name_bytes bs)) → plain_bytes bs ≡ name_bytes bs)
        → (n : Bool) → is_name_byte b ≡ n → (t : Bool) → eqb b 34 ≡ t → wrap (cond t [] (b ∷ [])) (quoted t bs) ≡ some p → p.1 ≡ suc (length (cond n (b ∷ name_bytes bs) []))
        → cond (is_plain b) (b ∷ plain_bytes bs) [] ≡ cond n (b ∷ name_bytes bs) []
    go ih true h true e k j = true_not_false e (name_no_quote b h)
    go ih true h false e k j =
        let w = wrap_some (b ∷ []) (quoted false bs) p k in
        rw (name_plain b h) (ap (λ (x : List ℕ). b ∷ x) (ih w.0 w.1 (omega (arith, j, w.3))))
    go ih false h true e k j = rw (quote_no_plain b e)
    go ih false h false e k j =
        let w = wrap_some (b ∷ []) (quoted false bs) p k in
        absurd (omega (arith, j, w.3, quoted_one bs w.0 w.1))

-- a field that is a name or a number is the plain bytes behind the quote, or at its start
pub field_plain : (s : List ℕ) (at : ℕ) (v : Field) (l : Left) → field (from s at) ≡ some (v, l) → is_value v ≡ true → plain_bytes (drop (past 34 s at) s) ≡ word_at s (past 34 s at)
field_plain s at v l f h = go (eqb (get_or s at 0) 34) refl (field_fit s at (field_is s at v l f) h)
  where
    go : (t : Bool) → eqb (get_or s at 0) 34 ≡ t → (v ≡ word_at s (past 34 s at)) × (l.at ≡ past 34 s at + length (word_at s (past 34 s at)) + (past 34 s at - at))
        → plain_bytes (drop (past 34 s at) s) ≡ word_at s (past 34 s at)
    go true e w =
        let k = eqb-true _ _ e in
        let q : past 34 s at ≡ at + 1 = past_here 34 s at (λ z. absurd (omega arith)) k in
        let t = taken_some (from s (at + 1)) (quoted false (drop (at + 1) s)) v l (sym (field_quoted s at k) ∙ f) in
        let m : l.at ≡ at + 1 + length (word_at s (at + 1)) + (at + 1 - at) = w.1 ∙ ap (λ (p : ℕ). p + length (word_at s p) + (p - at)) q in
        let r = quoted_plain (drop (at + 1) s) t.0 t.1 (omega (arith, m, ap (λ (x : Left). x.at) t.3)) in
        subst (λ (p : ℕ). plain_bytes (drop p s) ≡ word_at s p) (sym q) r
    go false e w =
        let k = eqb-false _ _ e in
        let q : past 34 s at ≡ at = past_other 34 s at k in
        let g = got (plain_bytes (drop at s), from s (at + length (plain_bytes (drop at s)))) v l (sym (field_bare s at k) ∙ f) in
        ap (λ (p : ℕ). plain_bytes (drop p s)) q ∙ g.0 ∙ w.0

-- ---- what the code's answers say

taken_end : (s : List ℕ) (a : ℕ) (o : Option (Field × ℕ)) → quoted_end a o ≡ word_end (with_left (from s a) o)
unfolding with_left
taken_end s a none = refl
taken_end s a (some q) = refl

module _ (s : List ℕ) (at : ℕ) where
  ends_quoted : get_or s at 0 ≡ 34 → quoted_end (at + 1) (quoted false (drop (at + 1) s)) ≡ word_end (field (from s at))
  ends_quoted e = taken_end s (at + 1) (quoted false (drop (at + 1) s)) ∙ sym (ap word_end (field_quoted s at e))

  ends_bare : (get_or s at 0 ≡ 34 → ⊥) → Some (at + length (plain_bytes (drop at s))) ≡ word_end (field (from s at))
  ends_bare n = sym (ap word_end (field_bare s at n))

  -- the same from k name bytes on
  module _ (i k : ℕ) (e : i ≡ past 34 s at + k) (h : k ≤ length (word_at s (past 34 s at))) where
    pub ends_quoted_from : get_or s at 0 ≡ 34 → quoted_end i (quoted false (drop i s)) ≡ word_end (field (from s at))
    ends_quoted_from q =
        let p : past 34 s at ≡ at + 1 = past_here 34 s at (λ z. absurd (omega arith)) q in
        ap (λ (n : ℕ). quoted_end n (quoted false (drop n s))) e ∙ sym (quoted_skip s k (past 34 s at) h) ∙ ap (λ (n : ℕ). quoted_end n (quoted false (drop n s))) p ∙ ends_quoted q

    pub ends_bare_from : (get_or s at 0 ≡ 34 → ⊥) → Some (i + length (plain_bytes (drop i s))) ≡ word_end (field (from s at))
    ends_bare_from n =
        let p : past 34 s at ≡ at = past_other 34 s at n in
        ap (λ (m : ℕ). Some (m + length (plain_bytes (drop m s)))) e ∙ ap Some (sym (plain_skip s k (past 34 s at) h)) ∙ ap (λ (m : ℕ). Some (m + length (plain_bytes (drop m s)))) p ∙ ends_bare n

  -- where a field ends that is a run of n bytes: not far behind the file
  pub run_room : (n : ℕ) → n ≤ length (drop (past 34 s at) s) → (past 34 s at + n + (past 34 s at - at) ≤ length s + 1) ⊎ (past 34 s at + n + (past 34 s at - at) ≡ at)
  run_room n r = go (leb at (length s)) refl
    where
      near : past 34 s at ≤ at + 1
      near = unfold past in by (ltb at (length s) && eqb (get_or s at 0) 34)
        where
          by : (t : Bool) → cond t (at + 1) at ≤ at + 1
          by true = omega arith
          by false = omega arith

      go : (t : Bool) → leb at (length s) ≡ t → (past 34 s at + n + (past 34 s at - at) ≤ length s + 1) ⊎ (past 34 s at + n + (past 34 s at - at) ≡ at)
      go true e =
          let i = past_within 34 s at (leb-true at (length s) e) in
          inl (omega (arith, near, i, r, length-drop (past 34 s at) s))
      go false e =
          let o = leb-false at (length s) e in
          let p : past 34 s at ≡ at = past_end 34 s at (omega (arith, o)) in
          inr (omega (arith, p, o, r, length-drop (past 34 s at) s))

  -- the word, and the plain bytes
  pub word_room : (past 34 s at + length (word_at s (past 34 s at)) + (past 34 s at - at) ≤ length s + 1) ⊎ (past 34 s at + length (word_at s (past 34 s at)) + (past 34 s at - at) ≡ at)
  word_room = run_room (length (word_at s (past 34 s at))) (run_within (drop (past 34 s at) s))

  pub plain_room : (past 34 s at + length (plain_bytes (drop (past 34 s at) s)) + (past 34 s at - at) ≤ length s + 1) ⊎ (past 34 s at + length (plain_bytes (drop (past 34 s at) s)) + (past 34 s at - at) ≡ at)
  plain_room = run_room (length (plain_bytes (drop (past 34 s at) s))) (plain_within (drop (past 34 s at) s))

-- a field that ended at e
pub record FieldEnded (s : List ℕ) (at e : ℕ) : Type 0 where
  pub v : Field
  pub read : field (from s at) ≡ some (v, from s e)
  pub is : FieldIs s at v e

pub field_ended : (s : List ℕ) (at e : ℕ) → word_end (field (from s at)) ≡ Some e → FieldEnded s at e
field_ended s at e h = go (field (from s at)) refl h
  where
    go : (o : Option (Field × Left)) → field (from s at) ≡ o → word_end o ≡ Some e → FieldEnded s at e
    go none f k = let x : ◌≡◌ {A = ℕ} 0 1 = cc in absurd (omega arith)
    go (some r) f k =
        let a : r.1.at ≡ e = cc in
        record {
          v = r.0;
          read = f ∙ ap (λ (m : Left). some (r.0, m)) (left_from s at (eats_field (from s at) r.0 r.1 f) ∙ ap (from s) a);
          is = subst (λ (n : ℕ). FieldIs s at r.0 n) a (field_is s at r.0 r.1 f);
        }

pub field_unended : (s : List ℕ) (at : ℕ) → word_end (field (from s at)) ≡ None → None ≡ field_of (field (from s at))
field_unended s at h = go (field (from s at)) h
  where
    go : (o : Option (Field × Left)) → word_end o ≡ None → None ≡ field_of o
    go none k = refl
    go (some r) k = let x : ◌≡◌ {A = ℕ} 0 1 = cc in absurd (omega arith)

module _ (s : List ℕ) (at : ℕ) {e : ℕ} (f : FieldEnded s at e) where
  pub read_unfit : is_value f.v ≡ false → Some (e, 0, 1) ≡ field_of (field (from s at))
  unfolding field_size field_unfit
  read_unfit n = rw (f.read, n)

  pub read_fit : is_value f.v ≡ true → {z : ℕ} → z ≡ suc (length f.v) → Some (e, z, 0) ≡ field_of (field (from s at))
  unfolding field_size field_unfit
  read_fit h k = rw (f.read, h, k)
