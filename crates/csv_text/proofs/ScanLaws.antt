-- The records of a file, as a loop goes through them. Assumes nothing.
use Prim.Native.Nat.{◌*◌, ◌+◌, ◌-◌, ◌<◌, ◌≤◌, suc, zero, ℕ}
use borrow.Author.Tests.{eq-eqb, eqb-false, eqb-true, ne_eqb}
use lib.Dec.{eqb}
use lib.ListN.{drop_of_length-le, length}
use mathlib.Core.Bool.{Bool, ◌&&◌, cond, false, true}
use mathlib.Core.List.{List, [], ◌∷◌}
use mathlib.Core.Option.{Option, none, some}
use mathlib.Core.Path.{◌∙◌, ◌≡◌, ap, refl, sym}
use native.Mathlib.Nat.{add-zero, zero-add}
use native.Mathlib.Omega.{arith}
use Rattle.csv_text.proofs.RecordLaws.{RecordGot, left_here}
use Rattle.csv_text.specs.Scanned.{field_unfit, first_of, place_of, scan_of, size_of, total_size, unfit_in, width_after}
use Rattle.csv_text.specs.Fields.{Field}
use Rattle.csv_text.specs.Records.{Entry, Split, count_read, entry_before, fields, first_unfit, go_on, malformed, record_of, records, records_up_to, split, width}
use Rattle.std.specs.Prelude as prelude
use Rattle.std.specs.Prelude.{None, Some, Err, Ok, Result, is_some}
use Rattle.lists.proofs.Tests.{true_not_false}
use Rattle.lists.specs.Lists.{all_of}
use Rattle.text.specs.Numbers.{is_value}
use Rattle.text.specs.Reader.{Left, from}

-- ---- one record and those behind it

module _ (s : List ℕ) (w i : ℕ) where
  pub records_end : (n : ℕ) → length s ≤ i → records_up_to n w (from s i) ≡ split []
  unfolding records_up_to
  records_end zero h = refl
  records_end (suc n) h = rw (drop_of_length-le s h)

  pub records_step : (n : ℕ) → i < length s → records_up_to (suc n) w (from s i) ≡ go_on i (records_up_to n w) (record_of w (from s i))
  unfolding records_up_to
  records_step n h = rw (left_here s i h)

  pub record_none : fields (from s i) ≡ none → record_of w (from s i) ≡ none
  unfolding record_of
  record_none f = rw f

  module _ (vs : List Field) (l : Left) (f : fields (from s i) ≡ some (vs, l)) where
    pub record_other : (length vs ≡ w → ⊥) → record_of w (from s i) ≡ none
    unfolding record_of
    record_other n = rw (f, ne_eqb _ _ n)

    pub record_read : length vs ≡ w → record_of w (from s i) ≡ some (vs, l)
    unfolding record_of
    record_read e = rw (f, eq-eqb _ _ e)

-- ---- a loop that counts them

-- no field is unfit where all are names and numbers
unfit_none : (vs : List Field) → eqb (unfit_in vs) 0 ≡ all_of is_value vs
unfolding unfit_in all_of field_unfit
unfit_none [] = refl
unfit_none (v ∷ vs) = go (is_value v) (unfit_none vs)
  where
    go : (t : Bool) → eqb (unfit_in vs) 0 ≡ all_of is_value vs → eqb (cond t 0 1 + unfit_in vs) 0 ≡ (t && all_of is_value vs)
    go true e = rw (zero-add (unfit_in vs)) e
    go false e = ne_eqb (1 + unfit_in vs) 0 (λ z. absurd (omega (arith, z)))

-- a place that was found before is the first, and there may be none
pub first_found : (o : prelude.Option ℕ) (u at : ℕ) → is_some o ≡ true → o ≡ first_of o u at
first_found (Some p) u at h = refl
first_found None u at h = true_not_false h refl

pub found_none : (o : prelude.Option ℕ) → is_some o ≡ false → o ≡ None
found_none (Some p) h = true_not_false refl h
found_none None h = refl

-- the first of two places
abbrev pub or_place : prelude.Option ℕ → Option ℕ → prelude.Option ℕ
or_place (Some p) o = Some p
or_place None o = place_of o

-- what was counted before, and what comes from the records that are left
abbrev pub scanned : ℕ → ℕ → prelude.Option ℕ → Split → Result (ℕ × ℕ × (prelude.Option ℕ)) ℕ
scanned n z f (malformed p) = Err p
scanned n z f (split es) = Ok (n + length es, z + total_size es, or_place f (first_unfit es))

scan_none : (p : Split) → scanned 0 0 None p ≡ scan_of p
scan_none (malformed p) = refl
scan_none (split es) = rw (zero-add (length es), zero-add (total_size es))

place_one : (f : prelude.Option ℕ) (vs : List Field) (at : ℕ) (o : Option ℕ) → or_place f (cond (all_of is_value vs) o (some at)) ≡ or_place (first_of f (unfit_in vs) at) o
place_one (Some p) vs at o = refl
place_one None vs at o = rw (unfit_none vs) (go (all_of is_value vs))
  where
    go : (t : Bool) → place_of (cond t o (some at)) ≡ or_place (cond t None (Some at)) o
    go true = refl
    go false = refl

scan_one : (n z : ℕ) (f : prelude.Option ℕ) (e : Entry) (p : Split) → scanned n z f (entry_before e p) ≡ scanned (n + 1) (z + size_of e.fields) (first_of f (unfit_in e.fields) e.at) p
unfolding entry_before total_size first_unfit
scan_one n z f e (malformed p) = refl
scan_one n z f e (split es) =
    let a : n + suc (length es) ≡ n + 1 + length es = omega arith in
    let b : z + (size_of e.fields + total_size es) ≡ z + size_of e.fields + total_size es = omega arith in
    rw (a, b, place_one f e.fields e.at (first_unfit es))

-- at the loop's place i: n records are counted, of this size, and f is the place of the first unfit one
pub record Scanning (s : List ℕ) (w i n z : ℕ) (f : prelude.Option ℕ) : Type 0 where
  pub fuel : ℕ
  pub enough : length s - i ≤ fuel
  pub same : scanned n z f (records_up_to fuel w (from s i)) ≡ scan_of (records s)
  pub few : n ≤ i
  pub small : z ≤ 2 * i
  pub inside : i ≤ length s

pub scan_start : (s : List ℕ) {w : ℕ} → w ≡ width s → Scanning s w 0 0 0 None
unfolding records
scan_start s {w} e = record {
  fuel = length s;
  enough = omega arith;
  same = ap (λ (k : ℕ). scanned 0 0 None (records_up_to (length s) k (from s 0))) e ∙ scan_none (records_up_to (length s) (width s) (from s 0));
  few = omega arith;
  small = omega arith;
  inside = omega arith;
}

module _ (s : List ℕ) (w : ℕ) {i n z : ℕ} {f : prelude.Option ℕ} (g : Scanning s w i n z f) where
  -- nothing is left
  pub scan_done : length s ≤ i → Ok (n, z, f) ≡ scan_of (records s)
  unfolding total_size first_unfit
  scan_done h = sym (counted f) ∙ sym (ap (scanned n z f) (records_end s w i g.fuel h)) ∙ g.same
    where
      counted : (e : prelude.Option ℕ) → scanned n z e (split []) ≡ Ok (n, z, e)
      counted (Some p) = unfold total_size first_unfit in rw (add-zero n, add-zero z)
      counted None = unfold total_size first_unfit in rw (add-zero n, add-zero z)

  module _ (here : i < length s) where
    fueled : (m : ℕ) × (g.fuel ≡ suc m) × (length s - i ≤ suc m)
    fueled = go g.fuel refl g.enough
      where
        go : (k : ℕ) → g.fuel ≡ k → length s - i ≤ k → (m : ℕ) × (g.fuel ≡ suc m) × (length s - i ≤ suc m)
        go zero e h = absurd (omega (arith, h, here))
        go (suc m) e h = (m, e, h)

    now_at : scanned n z f (go_on i (records_up_to fueled.0 w) (record_of w (from s i))) ≡ scan_of (records s)
    now_at = sym (ap (scanned n z f) (ap (λ (k : ℕ). records_up_to k w (from s i)) fueled.1 ∙ records_step s w i fueled.0 here)) ∙ g.same

    wrong_at : record_of w (from s i) ≡ none → Err i ≡ scan_of (records s)
    unfolding go_on
    wrong_at r = sym (ap (λ (o : Option (List Field × Left)). scanned n z f (go_on i (records_up_to fueled.0 w) o)) r) ∙ now_at

    -- the record there is none
    pub scan_broken : fields (from s i) ≡ none → Err i ≡ scan_of (records s)
    scan_broken r = wrong_at (record_none s w i r)

    module _ {e c x y : ℕ} (r : RecordGot s i e c x y) where
      -- it has another number of fields
      pub scan_other : (c ≡ w → ⊥) → Err i ≡ scan_of (records s)
      scan_other k = wrong_at (record_other s w i r.vs (from s e) r.read (λ q. k (r.count ∙ q)))

      -- it has that number
      pub scan_more : c ≡ w → {f' : prelude.Option ℕ} → f' ≡ first_of f y i → Scanning s w e (n + 1) (z + x) f'
      unfolding go_on
      scan_more k {f'} p = record {
        fuel = fueled.0;
        enough = omega (arith, fueled.2, r.past here);
        same = rw (p, r.size, r.unfit) (sym (ap (λ (o : Option (List Field × Left)). scanned n z f (go_on i (records_up_to fueled.0 w) o)) (record_read s w i r.vs (from s e) r.read (sym r.count ∙ k))
            ∙ scan_one n z f (record { at = i; fields = r.vs }) (records_up_to fueled.0 w (from s e))) ∙ now_at);
        few = omega (arith, g.few, r.past here);
        small = omega (arith, g.small, r.past here, r.small);
        inside = r.inside g.inside;
      }

-- ---- the width

-- the same, where w is the first record's width as soon as a record is counted
pub record Widely (s : List ℕ) (w i n z : ℕ) (f : prelude.Option ℕ) : Type 0 where
  pub scanning : Scanning s (width s) i n z f
  pub first : n ≡ 0 → i ≡ 0
  pub wide : (n ≡ 0 → ⊥) → w ≡ width s

pub widely_start : (s : List ℕ) → Widely s 0 0 0 0 None
widely_start s = record { scanning = scan_start s refl; first = λ e. refl; wide = λ k. absurd (k refl) }

module _ (s : List ℕ) (w : ℕ) {i n z : ℕ} {f : prelude.Option ℕ} (g : Widely s w i n z f) {e c x y : ℕ} (r : RecordGot s i e c x y) where
  -- the width that is expected is that of the first record
  pub width_now : width_after n w c ≡ width s
  width_now = go (eqb n 0) refl
    where
      own : i ≡ 0 → c ≡ width s
      own h = unfold width count_read in r.count ∙ sym (ap count_read (ap (λ (k : ℕ). fields (from s k)) (sym h) ∙ r.read))

      go : (t : Bool) → eqb n 0 ≡ t → width_after n w c ≡ width s
      go true k = unfold width_after in rw k (own (g.first (eqb-true n 0 k)))
      go false k = unfold width_after in rw k (g.wide (eqb-false n 0 k))

  pub widely_more : i < length s → c ≡ width s → {f' : prelude.Option ℕ} → f' ≡ first_of f y i → {w' : ℕ} → w' ≡ width s → Widely s w' e (n + 1) (z + x) f'
  widely_more here k p q = record { scanning = scan_more s (width s) g.scanning here r k p; first = λ o. absurd (omega (arith, o)); wide = λ o. q }
