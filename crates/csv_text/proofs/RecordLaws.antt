-- Records at a position, as a loop goes through their fields. Assumes nothing.
use Prim.Native.Nat.{◌+◌, ◌-◌, ◌<◌, ◌≤◌, suc, zero, ℕ}
use borrow.Author.Tests.{eq-eqb, eqb-false, eqb-true, ltb-false, ltb-true, ne_eqb}
use lib.Dec.{eqb, ltb}
use lib.ListN.{drop, drop_of_length-le, get_or, length, length-drop}
use mathlib.Core.Bool.{Bool, cond, false, true}
use mathlib.Core.List.{List, [], ◌∷◌}
use mathlib.Core.Option.{Option, none, some}
use mathlib.Core.Path.{◌∙◌, ◌≡◌, ap, refl, sym}
use mathlib.Core.Logic.{◌⊎◌, inl, inr, ⊎_elim}
use native.Mathlib.Nat.{add-zero, zero-add}
use native.Mathlib.Omega.{arith}
use Rattle.csv_text.proofs.FieldLaws.{eats_field}
use Rattle.csv_text.specs.Scanned.{field_of, field_size, field_unfit, record_read_of, size_of, unfit_in}
use Rattle.csv_text.specs.Fields.{Field, field}
use Rattle.csv_text.specs.Records.{fields, fields_up_to, line_ending, record_end}
use Rattle.std.specs.Prelude as prelude
use Rattle.std.specs.Prelude.{None, Some}
use Rattle.lists.proofs.PairLaws.{triple_same}
use Rattle.lists.specs.Lists.{is_empty}
use Rattle.text.proofs.Lefts.{before_end, drop_here, first_drop}
use Rattle.text.proofs.ReaderLaws.{Eats, byte_at_read, byte_at_refused, eats_bind, eats_byte, eats_cond, eats_give, eats_if_next, eats_less, eats_refuse, eats_then, got, left_from, left_past, not_read, then_some}
use Rattle.text.proofs.WalkingLaws.{Finds, finds_bind, finds_byte, finds_give, finds_if, past_end, past_other}
use Rattle.text.specs.CodeEnds.{word_end}
use Rattle.text.specs.Numbers.{is_value}
use Rattle.text.specs.Reader.{Left, ◌>>◌, and_then, byte, from, give, if_next}
use Rattle.text.specs.Walking.{past}

-- ---- the end of a record

pub left_here : (s : List ℕ) (at : ℕ) → at < length s → is_empty (drop at s) ≡ false
left_here s at h = rw (drop_here s at h)

module _ (s : List ℕ) (at : ℕ) where
  pub end_file : length s ≤ at → record_end (from s at) ≡ some (tt, from s at)
  unfolding record_end
  end_file h = rw (drop_of_length-le s h)

  pub end_line_lem : at < length s → record_end (from s at) ≡ line_ending (from s at)
  unfolding record_end
  end_line_lem h = rw (left_here s at h)

  pub ends_feed : (get_or s at 0 ≡ 13 → ⊥) → get_or s at 0 ≡ 10 → line_ending (from s at) ≡ some (tt, from s (at + 1))
  unfolding line_ending if_next
  ends_feed n e = rw (first_drop s at, ne_eqb _ _ n, byte_at_read s at 10 e)

  pub ends_not : (get_or s at 0 ≡ 13 → ⊥) → (get_or s at 0 ≡ 10 → ⊥) → line_ending (from s at) ≡ none
  unfolding line_ending if_next
  ends_not n k = rw (first_drop s at, ne_eqb _ _ n, byte_at_refused s at 10 k)

  module _ (here : get_or s at 0 ≡ 13) where
    pub ends_return : get_or s (at + 1) 0 ≡ 10 → line_ending (from s at) ≡ some (tt, from s (at + 2))
    unfolding line_ending if_next
    ends_return e =
        let q : at + 1 + 1 ≡ at + 2 = omega arith in
        rw (first_drop s at, eq-eqb _ _ here, byte_at_read s at 13 here, byte_at_read s (at + 1) 10 e, q)

    pub ends_lone : (get_or s (at + 1) 0 ≡ 10 → ⊥) → line_ending (from s at) ≡ none
    unfolding line_ending if_next
    ends_lone n = rw (first_drop s at, eq-eqb _ _ here, byte_at_read s at 13 here, byte_at_refused s (at + 1) 10 n)

-- a line ending takes a byte, the end of a file none
eats_line_ending : Eats (λ u. 1) line_ending
unfolding line_ending
eats_line_ending = eats_if_next (λ u. 1) 13 _ _
    (eats_then 1 (λ u. 1) (byte 13) _ (eats_byte 13 (λ e. absurd (omega arith)))
    (eats_then 1 (λ u. 0) (byte 10) _ (eats_byte 10 (λ e. absurd (omega arith))) (eats_give (λ u. 0) tt (omega arith))))
    (eats_then 1 (λ u. 1) (byte 10) _ (eats_byte 10 (λ e. absurd (omega arith))) (eats_give (λ u. 0) tt (omega arith)))

eats_record_end : Eats (λ u. 0) record_end
unfolding record_end
eats_record_end l a l' h =
    eats_cond (λ u. 0) (is_empty l.bytes) (give tt) line_ending (eats_give (λ u. 0) tt (omega arith)) (eats_less (λ u. 1) (λ u. 0) line_ending (λ u. omega arith) eats_line_ending) l a l' h

-- where the next record begins
finds_line_ending : (s : List ℕ) → Finds s line_ending (λ at. cond (eqb (get_or s at 0) 13) tt tt) (λ at. cond (eqb (get_or s at 0) 13) (past 10 s (past 13 s at)) (past 10 s at))
unfolding line_ending
finds_line_ending s =
    finds_if (finds_bind (finds_byte s 13 (λ z. absurd (omega arith))) (λ b. byte 10 >> give tt) (λ b. finds_bind (finds_byte s 10 (λ z. absurd (omega arith))) (λ b. give tt) (λ b. finds_give s tt)))
    13 (finds_bind (finds_byte s 10 (λ z. absurd (omega arith))) (λ b. give tt) (λ b. finds_give s tt))

pub end_next : (s : List ℕ) (at : ℕ) (u : Unit {0}) (l : Left) → record_end (from s at) ≡ some (u, l) → l ≡ from s (past 10 s (past 13 s at))
end_next s at u l h = go (ltb at (length s)) refl
  where
    by : (t : Bool) → eqb (get_or s at 0) 13 ≡ t → l ≡ from s (cond t (past 10 s (past 13 s at)) (past 10 s at)) → l ≡ from s (past 10 s (past 13 s at))
    by true e k = k
    by false e k = k ∙ ap (λ (p : ℕ). from s (past 10 s p)) (sym (past_other 13 s at (eqb-false _ _ e)))

    go : (t : Bool) → ltb at (length s) ≡ t → l ≡ from s (past 10 s (past 13 s at))
    go true e = by (eqb (get_or s at 0) 13) refl ((finds_line_ending s).found at u l (sym (end_line_lem s at (ltb-true _ _ e)) ∙ h)).1
    go false e =
        let k = ltb-false _ _ e in
        sym (got (tt, from s at) u l (sym (end_file s at k) ∙ h)).1 ∙ ap (from s) (sym (past_end 10 s at k) ∙ ap (past 10 s) (sym (past_end 13 s at k)))

-- inside the file it takes a byte
end_past : (s : List ℕ) (at : ℕ) (u : Unit {0}) (l : Left) → at < length s → record_end (from s at) ≡ some (u, l) → at < l.at
end_past s at u l k h = omega (arith, left_past s at (eats_line_ending (from s at) u l (sym (end_line_lem s at k) ∙ h)))

-- ---- the fields of a record, one after the other

module _ (s : List ℕ) (i : ℕ) where
  pub fields_broken : (n : ℕ) → field (from s i) ≡ none → fields_up_to (suc n) (from s i) ≡ none
  unfolding fields_up_to
  fields_broken n f = rw f

  module _ (v : Field) (e : ℕ) (f : field (from s i) ≡ some (v, from s e)) where
    pub fields_more : (n : ℕ) → get_or s e 0 ≡ 44 → fields_up_to (suc n) (from s i) ≡ and_then (fields_up_to n (from s (e + 1))) (λ vs. give (v ∷ vs))
    unfolding fields_up_to if_next
    fields_more n h = rw (f, first_drop s e, eq-eqb _ _ h, byte_at_read s e 44 h)

    pub fields_last : (n : ℕ) → (get_or s e 0 ≡ 44 → ⊥) → fields_up_to (suc n) (from s i) ≡ and_then (record_end (from s e)) (λ u. give (v ∷ []))
    unfolding fields_up_to if_next
    fields_last n h = rw (f, first_drop s e, ne_eqb _ _ h)

-- ---- what the fields take

size_length : (v : Field) → field_size v ≤ suc (length v)
unfolding field_size
size_length v = go (is_value v)
  where
    go : (t : Bool) → cond t (suc (length v)) 0 ≤ suc (length v)
    go true = omega arith
    go false = omega arith

unfit_one : (v : Field) → field_unfit v ≤ 1
unfolding field_unfit
unfit_one v = go (is_value v)
  where
    go : (t : Bool) → cond t 0 1 ≤ 1
    go true = omega arith
    go false = omega arith

eats_fields_up_to : (n : ℕ) → Eats (λ vs. size_of vs - 1) (fields_up_to n)
unfolding fields_up_to size_of
eats_fields_up_to zero = eats_refuse (λ vs. size_of vs - 1)
eats_fields_up_to (suc n) =
    eats_bind (λ v. field_size v - 1) (λ vs. size_of vs - 1) field _ (eats_less length (λ v. field_size v - 1) field (λ v. omega (arith, size_length v)) eats_field) (λ v.
    eats_if_next (λ vs. size_of vs - 1 - (field_size v - 1)) 44 _ _
    (eats_then 1 (λ vs. size_of vs - 1 - (field_size v - 1)) (byte 44) _ (eats_byte 44 (λ e. absurd (omega arith)))
    (eats_bind (λ vs. size_of vs - 1) (λ vs. size_of vs - 1 - (field_size v - 1) - 1) (fields_up_to n) _ (eats_fields_up_to n) (λ vs.
    eats_give (λ ws. size_of ws - 1 - (field_size v - 1) - 1 - (size_of vs - 1)) (v ∷ vs) (omega arith))))
    (eats_then 0 (λ vs. size_of vs - 1 - (field_size v - 1)) record_end _ eats_record_end (eats_give (λ ws. size_of ws - 1 - (field_size v - 1) - 0) (v ∷ []) (omega arith))))

pub eats_fields : Eats (λ vs. size_of vs - 1) fields
unfolding fields
eats_fields l a l' h = eats_fields_up_to (suc (length l.bytes)) l a l' h

-- inside the file a record takes a byte
fields_up_to_past : (n : ℕ) (s : List ℕ) (at : ℕ) (vs : List Field) (l : Left) → at < length s → fields_up_to n (from s at) ≡ some (vs, l) → at < l.at
fields_up_to_past zero s at vs l k h = unfold fields_up_to in not_read (vs, l) h
fields_up_to_past (suc n) s at vs l k h = go (field (from s at)) refl
  where
    by : (v : Field) (e : ℕ) → field (from s at) ≡ some (v, from s e) → at ≤ e → (t : Bool) → eqb (get_or s e 0) 44 ≡ t → at < l.at
    by v e f p true c =
        let q = then_some (fields_up_to n (from s (e + 1))) (λ ws. give (v ∷ ws)) (vs, l) (sym (fields_more s at v e f n (eqb-true _ _ c)) ∙ h) in
        let g = got (v ∷ q.0.0, q.0.1) vs l q.2 in
        omega (arith, left_past s (e + 1) (eats_fields_up_to n (from s (e + 1)) q.0.0 q.0.1 q.1), ap (λ (m : Left). m.at) g.1)
    by v e f p false c =
        let q = then_some (record_end (from s e)) (λ u. give (v ∷ [])) (vs, l) (sym (fields_last s at v e f n (eqb-false _ _ c)) ∙ h) in
        let g = got (v ∷ [], q.0.1) vs l q.2 in
        ⊎_elim (λ i. omega (arith, end_past s e q.0.0 q.0.1 i q.1, ap (λ (m : Left). m.at) g.1))
        (λ o. omega (arith, k, o, left_past s e (eats_record_end (from s e) q.0.0 q.0.1 q.1), ap (λ (m : Left). m.at) g.1))
        (inside e)
      where
        inside : (e : ℕ) → (e < length s) ⊎ (length s ≤ e)
        inside e = at_most (ltb e (length s)) refl
          where
            at_most : (t : Bool) → ltb e (length s) ≡ t → (e < length s) ⊎ (length s ≤ e)
            at_most true c = inl (ltb-true _ _ c)
            at_most false c = inr (ltb-false _ _ c)

    go : (o : Option (Field × Left)) → field (from s at) ≡ o → at < l.at
    go none f = not_read (vs, l) (sym (fields_broken s at n f) ∙ h)
    go (some r) f =
        let p = eats_field (from s at) r.0 r.1 f in
        by r.0 r.1.at (f ∙ ap (λ (m : Left). some (r.0, m)) (left_from s at p)) (omega (arith, left_past s at p)) (eqb (get_or s r.1.at 0) 44) refl

-- ---- what the code's answers say

-- four parts that were found are the same, each
four_same : {a b c d a' b' c' d' : ℕ} → ◌≡◌ {A = prelude.Option (ℕ × ℕ × ℕ × ℕ)} (Some (a, b, c, d)) (Some (a', b', c', d')) → (a ≡ a') × (b ≡ b') × (c ≡ c') × (d ≡ d')
four_same {a} {b} {c} {d} {a'} {b'} {c'} {d'} h =
    let q : ◌≡◌ {A = ℕ × ℕ × ℕ × ℕ} (a, b, c, d) (a', b', c', d') = cc in
    (ap (λ z. z.0) q, ap (λ z. z.1) q, ap (λ z. z.2) q, ap (λ z. z.3) q)

-- a field that was read
pub record FieldGot (s : List ℕ) (at e z u : ℕ) : Type 0 where
  pub v : Field
  pub read : field (from s at) ≡ some (v, from s e)
  pub size : z ≡ field_size v
  pub unfit : u ≡ field_unfit v
  pub past : at ≤ e
  pub small : z ≤ e - at + 1
  pub short : z ≤ length s + 1
  pub one : u ≤ 1

pub field_got : (s : List ℕ) (at e z u : ℕ) → field_of (field (from s at)) ≡ Some (e, z, u) → FieldGot s at e z u
field_got s at e z u h = go (field (from s at)) refl h
  where
    go : (o : Option (Field × Left)) → field (from s at) ≡ o → field_of o ≡ Some (e, z, u) → FieldGot s at e z u
    go none f k = let x : ◌≡◌ {A = ℕ} 0 1 = cc in absurd (omega arith)
    go (some r) f k =
        let p = eats_field (from s at) r.0 r.1 f in
        let (a, b, d) = triple_same k in
        record {
          v = r.0;
          read = f ∙ ap (λ (m : Left). some (r.0, m)) (left_from s at p ∙ ap (from s) a);
          size = sym b;
          unfit = sym d;
          past = omega (arith, a, left_past s at p);
          small = omega (arith, a, b, size_length r.0, left_past s at p);
          short = omega (arith, b, size_length r.0, p.enough, p.within, length-drop at s);
          one = omega (arith, d, unfit_one r.0);
        }

pub field_lost : (s : List ℕ) (at : ℕ) → field_of (field (from s at)) ≡ None → field (from s at) ≡ none
field_lost s at h = go (field (from s at)) h
  where
    go : (o : Option (Field × Left)) → field_of o ≡ None → o ≡ none
    go none k = refl
    go (some r) k = let x : ◌≡◌ {A = ℕ} 0 1 = cc in absurd (omega arith)

-- a record that was read
pub record RecordGot (s : List ℕ) (at e n z u : ℕ) : Type 0 where
  pub vs : List Field
  pub read : fields (from s at) ≡ some (vs, from s e)
  pub count : n ≡ length vs
  pub size : z ≡ size_of vs
  pub unfit : u ≡ unfit_in vs
  pub past : at < length s → at < e
  pub inside : at ≤ length s → e ≤ length s
  pub small : z ≤ e - at + 1

pub record_got : (s : List ℕ) (at e n z u : ℕ) → record_read_of (fields (from s at)) ≡ Some (e, n, z, u) → RecordGot s at e n z u
unfolding fields
record_got s at e n z u h = go (fields (from s at)) refl h
  where
    go : (o : Option (List Field × Left)) → fields (from s at) ≡ o → record_read_of o ≡ Some (e, n, z, u) → RecordGot s at e n z u
    go none f k = let x : ◌≡◌ {A = ℕ} 0 1 = cc in absurd (omega arith)
    go (some r) f k =
        let p = eats_fields (from s at) r.0 r.1 f in
        let (a, b, d, g) = four_same k in
        record {
          vs = r.0;
          read = f ∙ ap (λ (m : Left). some (r.0, m)) (left_from s at p ∙ ap (from s) a);
          count = sym b;
          size = sym d;
          unfit = sym g;
          past = λ i. omega (arith, a, fields_up_to_past (suc (length (drop at s))) s at r.0 r.1 i f);
          inside = λ i. omega (arith, a, p.within, ap (λ (m : Left). m.at) p.skipped, length-drop at s);
          small = omega (arith, a, d, left_past s at p);
        }

pub record_lost : (s : List ℕ) (at : ℕ) → record_read_of (fields (from s at)) ≡ None → fields (from s at) ≡ none
record_lost s at h = go (fields (from s at)) h
  where
    go : (o : Option (List Field × Left)) → record_read_of o ≡ None → o ≡ none
    go none k = refl
    go (some r) k = let x : ◌≡◌ {A = ℕ} 0 1 = cc in absurd (omega arith)

-- ---- a loop that gathers what the fields come to

-- what was gathered before, and what comes from the fields that are left
abbrev pub gathered : ℕ → ℕ → ℕ → Option (List Field × Left) → prelude.Option (ℕ × ℕ × ℕ × ℕ)
gathered n z u none = None
gathered n z u (some r) = Some (r.1.at, n + length r.0, z + size_of r.0, u + unfit_in r.0)

gather_none : (o : Option (List Field × Left)) → gathered 0 0 0 o ≡ record_read_of o
gather_none none = refl
gather_none (some r) = rw (zero-add (length r.0), zero-add (size_of r.0), zero-add (unfit_in r.0))

gather_one : (n z u : ℕ) (v : Field) (o : Option (List Field × Left)) → gathered n z u (and_then o (λ vs. give (v ∷ vs))) ≡ gathered (n + 1) (z + field_size v) (u + field_unfit v) o
unfolding size_of unfit_in
gather_one n z u v none = refl
gather_one n z u v (some r) =
    let a : n + suc (length r.0) ≡ n + 1 + length r.0 = omega arith in
    let b : z + (field_size v + size_of r.0) ≡ z + field_size v + size_of r.0 = omega arith in
    let d : u + (field_unfit v + unfit_in r.0) ≡ u + field_unfit v + unfit_in r.0 = omega arith in
    rw (a, b, d)

-- at the loop's place i: n fields are gathered, of this size, and so many are unfit
pub record Gathering (s : List ℕ) (at i n z u : ℕ) : Type 0 where
  pub fuel : ℕ
  pub enough : length s - i < fuel
  pub same : gathered n z u (fields_up_to fuel (from s i)) ≡ record_read_of (fields (from s at))
  pub few : n ≤ i
  pub fewer : n ≤ length s
  pub small : z ≤ i
  pub smaller : z ≤ length s
  pub less : u ≤ n

pub gather_start : (s : List ℕ) (at : ℕ) → Gathering s at at 0 0 0
unfolding fields
gather_start s at = record {
  fuel = suc (length (drop at s));
  enough = omega (arith, length-drop at s);
  same = gather_none (fields_up_to (suc (length (drop at s))) (from s at));
  few = omega arith;
  fewer = omega arith;
  small = omega arith;
  smaller = omega arith;
  less = omega arith;
}

module _ (s : List ℕ) (at : ℕ) {i n z u : ℕ} (g : Gathering s at i n z u) where
  -- there is fuel for a field more
  fueled : (m : ℕ) × (g.fuel ≡ suc m) × (length s - i ≤ m)
  fueled = go g.fuel refl g.enough
    where
      go : (k : ℕ) → g.fuel ≡ k → length s - i < k → (m : ℕ) × (g.fuel ≡ suc m) × (length s - i ≤ m)
      go zero e h = absurd (omega (arith, h))
      go (suc m) e h = (m, e, omega (arith, h))

  now_at : gathered n z u (fields_up_to (suc fueled.0) (from s i)) ≡ record_read_of (fields (from s at))
  now_at = ap (λ (k : ℕ). gathered n z u (fields_up_to k (from s i))) (sym fueled.1) ∙ g.same

  pub gather_broken : field (from s i) ≡ none → None ≡ record_read_of (fields (from s at))
  gather_broken f = sym (ap (gathered n z u) (fields_broken s i fueled.0 f)) ∙ now_at

  module _ {e x y : ℕ} (f : FieldGot s i e x y) where
    -- a comma
    pub gather_more : get_or s e 0 ≡ 44 → Gathering s at (e + 1) (n + 1) (z + x) (u + y)
    gather_more c =
        let here = before_end s e (λ o. absurd (omega (arith, c, o))) in
        let q : gathered (n + 1) (z + x) (u + y) (fields_up_to fueled.0 (from s (e + 1))) ≡ record_read_of (fields (from s at)) =
        rw (f.size, f.unfit) (sym (ap (gathered n z u) (fields_more s i f.v e f.read fueled.0 c) ∙ gather_one n z u f.v (fields_up_to fueled.0 (from s (e + 1)))) ∙ now_at) in
        record {
          fuel = fueled.0;
          enough = omega (arith, here, f.past, fueled.2);
          same = q;
          few = omega (arith, g.few, f.past);
          fewer = omega (arith, g.few, f.past, here);
          small = omega (arith, g.small, f.past, f.small);
          smaller = omega (arith, g.small, f.past, f.small, here);
          less = omega (arith, g.less, f.one);
        }

    -- the last field
    last_at : (get_or s e 0 ≡ 44 → ⊥) → gathered n z u (and_then (record_end (from s e)) (λ w. give (f.v ∷ []))) ≡ record_read_of (fields (from s at))
    last_at c = sym (ap (gathered n z u) (fields_last s i f.v e f.read fueled.0 c)) ∙ now_at

    pub gather_wrong : (get_or s e 0 ≡ 44 → ⊥) → word_end (record_end (from s e)) ≡ None → None ≡ record_read_of (fields (from s at))
    gather_wrong c h = go (record_end (from s e)) h (last_at c)
      where
        go : (o : Option (Unit {0} × Left)) → word_end o ≡ None → gathered n z u (and_then o (λ w. give (f.v ∷ []))) ≡ record_read_of (fields (from s at)) → None ≡ record_read_of (fields (from s at))
        go none k q = q
        go (some r) k q = let x : ◌≡◌ {A = ℕ} 0 1 = cc in absurd (omega arith)

    pub gather_last : (get_or s e 0 ≡ 44 → ⊥) → {p : ℕ} → word_end (record_end (from s e)) ≡ Some p → Some (p, n + 1, z + x, u + y) ≡ record_read_of (fields (from s at))
    gather_last c {p} h = go (record_end (from s e)) h (last_at c)
      where
        go : (o : Option (Unit {0} × Left)) → word_end o ≡ Some p → gathered n z u (and_then o (λ w. give (f.v ∷ []))) ≡ record_read_of (fields (from s at))
            → Some (p, n + 1, z + x, u + y) ≡ record_read_of (fields (from s at))
        go none k q = let x : ◌≡◌ {A = ℕ} 0 1 = cc in absurd (omega arith)
        go (some r) k q =
            let a : p ≡ r.1.at = cc in
            rw (a, f.size, f.unfit) (sym (gather_one n z u f.v (some ([], r.1)) ∙ sum) ∙ q)
          where
            sum : gathered (n + 1) (z + field_size f.v) (u + field_unfit f.v) (some ([], r.1)) ≡ Some (r.1.at, n + 1, z + field_size f.v, u + field_unfit f.v)
            sum = unfold size_of unfit_in in rw (add-zero (n + 1), add-zero (z + field_size f.v), add-zero (u + field_unfit f.v))
