-- What later lines say of tables, as the array holds it: what stores leave, a table that is added, a note more. Assumes nothing.
use Prim.Native.Nat.{◌*◌, ◌+◌, ◌-◌, ◌<◌, ◌≤◌, suc, zero, ℕ}
use Rattle.document.specs.Lookup.{given_by, is_public, notes_of, strong_in, weak_in}
use Rattle.document.specs.Policy.{Noted}
use Rattle.form.specs.Form.{Note, public, strong, weak}
use Rattle.lists.proofs.ListLaws.{map_append, there_none}
use Rattle.lists.proofs.Tests.{and_both, and_left, and_right, never, or_right, true_not_false}
use Rattle.lists.specs.Lists.{all_of, any_of, found, keep, there}
use Rattle.relations.specs.Notes.{Notes, Says, label_of_cell, note_in, public_in}
use borrow.Author.Count.{below_more}
use borrow.Author.Tests.{eq-eqb, eqb-true, lt-ltb, ltb-true}
use lib.Dec.{eqb, ltb}
use lib.ListN.{get_or, get_elem?, length, set}
use lib.Seq.{get_or-set_other, get_or-set_same}
use mathlib.Core.Bool.{Bool, ◌||◌, cond, false, or_assoc, true}
use mathlib.Core.List.{List, [], ◌++◌, ◌∷◌, append-nil, map}
use mathlib.Core.Option.{Option, none-ne-some, some-ne-none, none, some}
use mathlib.Core.Path.{◌∙◌, ◌≡◌, ap, refl, subst, subst₂, sym}
use native.Mathlib.Omega.{arith}

-- ---- what the notes say of one table

-- they say nothing of a table that is not there yet
none_of : (ns : List Noted) (k : ℕ) → all_of (λ n. ltb n.table k) ns ≡ true → notes_of ns k ≡ []
unfolding notes_of keep all_of
none_of [] k h = refl
none_of (n ∷ ns) k h =
    let other : eqb n.table k ≡ false = never _ (λ e. omega (arith, eqb-true n.table k e, ltb-true n.table k (and_left (ltb n.table k) _ h))) in
    rw other (none_of ns k (and_right (ltb n.table k) _ h))

known_more : (ns : List Noted) (k : ℕ) → all_of (λ n. ltb n.table k) ns ≡ true → all_of (λ n. ltb n.table (k + 1)) ns ≡ true
unfolding all_of
known_more [] k h = refl
known_more (n ∷ ns) k h =
    and_both (ltb n.table (k + 1)) _
    (lt-ltb n.table (k + 1) (omega (arith, ltb-true n.table k (and_left (ltb n.table k) _ h))))
    (known_more ns k (and_right (ltb n.table k) _ h))

known_one : (ns : List Noted) (k : ℕ) (x : Noted) → all_of (λ n. ltb n.table k) ns ≡ true → x.table < k → all_of (λ n. ltb n.table k) (ns ++ (x ∷ [])) ≡ true
unfolding all_of
known_one [] k x h l = and_both (ltb x.table k) true (lt-ltb x.table k l) refl
known_one (n ∷ ns) k x h l = and_both (ltb n.table k) _ (and_left (ltb n.table k) _ h) (known_one ns k x (and_right (ltb n.table k) _ h) l)

-- ---- one note more

notes_append : (ns : List Noted) (x : Noted) (t : ℕ) → notes_of (ns ++ (x ∷ [])) t ≡ notes_of ns t ++ notes_of (x ∷ []) t
unfolding notes_of keep
notes_append [] x t = refl
notes_append (n ∷ ns) x t = go (notes_append ns x t) (eqb n.table t)
  where
    said : List Noted → List (Note ℕ)
    said ms = map (λ (m : Noted). m.note) ms

    kept : List Noted → List Noted
    kept ms = keep (λ m. eqb m.table t) ms

    go : said (kept (ns ++ (x ∷ []))) ≡ said (kept ns) ++ said (kept (x ∷ [])) → (b : Bool)
        → said (cond b (n ∷ kept (ns ++ (x ∷ []))) (kept (ns ++ (x ∷ [])))) ≡ said (cond b (n ∷ kept ns) (kept ns)) ++ said (kept (x ∷ []))
    go h true = ap (λ (ms : List (Note ℕ)). n.note ∷ ms) h
    go h false = h

-- of another table they say what they said
notes_other : (ns : List Noted) (t u : ℕ) (n : Note ℕ) → eqb t u ≡ false → notes_of (ns ++ (record { table = t; note = n } ∷ [])) u ≡ notes_of ns u
unfolding notes_of keep
notes_other ns t u n e = notes_append ns (record { table = t; note = n }) u ∙ rw e (append-nil (notes_of ns u))

-- of its own there is one more
notes_own : (ns : List Noted) (t u : ℕ) (n : Note ℕ) → eqb t u ≡ true → notes_of (ns ++ (record { table = t; note = n } ∷ [])) u ≡ notes_of ns u ++ (n ∷ [])
unfolding notes_of keep
notes_own ns t u n e = notes_append ns (record { table = t; note = n }) u ∙ rw e

any_append : (ms ls : List (Note ℕ)) → any_of is_public (ms ++ ls) ≡ (any_of is_public ms || any_of is_public ls)
unfolding any_of
any_append [] ls = refl
any_append (m ∷ ms) ls = ap (λ (b : Bool). is_public m || b) (any_append ms ls) ∙ sym (or_assoc (is_public m) _ _)

or-false : (b : Bool) → (b || false) ≡ b
or-false true = refl
or-false false = refl

-- a note that gives no label leaves what was given
given_same : (f : Note ℕ → Option ℕ) (ms : List (Note ℕ)) (n : Note ℕ) → f n ≡ none → given_by f (ms ++ (n ∷ [])) ≡ given_by f ms
unfolding given_by found
given_same f [] n e = ap (λ (o : Option ℕ). get_elem? (found (o ∷ [])) 0) e
given_same f (m ∷ ms) n e = go (f m) (given_same f ms n e)
  where
    go : (o : Option ℕ) → get_elem? (found (map f (ms ++ (n ∷ [])))) 0 ≡ get_elem? (found (map f ms)) 0 → get_elem? (found (o ∷ map f (ms ++ (n ∷ [])))) 0 ≡ get_elem? (found (o ∷ map f ms)) 0
    go none h = h
    go (some l) h = refl

-- one that gives a label where none was given gives it
given_new : (f : Note ℕ → Option ℕ) (ms : List (Note ℕ)) (n : Note ℕ) (l : ℕ) → there (given_by f ms) ≡ false → f n ≡ some l → given_by f (ms ++ (n ∷ [])) ≡ some l
unfolding given_by found
given_new f [] n l h e = ap (λ (o : Option ℕ). get_elem? (found (o ∷ [])) 0) e
given_new f (m ∷ ms) n l h e = go (f m) (λ k. given_new f ms n l k e) h
  where
    go : (o : Option ℕ) → (there (get_elem? (found (map f ms)) 0) ≡ false → get_elem? (found (map f (ms ++ (n ∷ [])))) 0 ≡ some l)
        → there (get_elem? (found (o ∷ map f ms)) 0) ≡ false → get_elem? (found (o ∷ map f (ms ++ (n ∷ [])))) 0 ≡ some l
    go none k h = k h
    go (some x) k h = absurd (some-ne-none x (there_none (some x) h))

-- ---- labels as numbers

label_cell : (l : ℕ) → label_of_cell (l + 1) ≡ some l
unfolding label_of_cell
label_cell l = ap label_of_cell (suc_is l)
  where
    suc_is : (n : ℕ) → n + 1 ≡ suc n
    suc_is n = omega arith

pub label_before : (n : ℕ) → 0 < n → label_of_cell n ≡ some (n - 1)
unfolding label_of_cell
label_before zero l = absurd (omega (arith, l))
label_before (suc n) l = ap some (back n)
  where
    back : (n : ℕ) → n ≡ suc n - 1
    back n = omega arith

-- ---- what stores leave

says_kept : {ws ws' : List ℕ} {t : ℕ} {ms : List (Note ℕ)} → ((b : ℕ) → b < 3 → note_in ws' b t ≡ note_in ws b t) → Says ws t ms → Says ws' t ms
says_kept same h = record {
  is_public? = ap (λ n. eqb n 1) (same 0 (omega arith)) ∙ h.is_public?;
  weak = ap label_of_cell (same 1 (omega arith)) ∙ h.weak;
  strong = ap label_of_cell (same 2 (omega arith)) ∙ h.strong;
}

pub notes_kept : {ws ws' : List ℕ} {k : ℕ} {ns : List Noted} → ((t : ℕ) → t < k → (b : ℕ) → b < 3 → note_in ws' b t ≡ note_in ws b t) → Notes ws k ns → Notes ws' k ns
notes_kept same h = record { known = h.known; said = λ t l. says_kept (same t l) (h.said t l) }

-- a table is added, and no note is of it
pub notes_table : {ws ws' : List ℕ} {k : ℕ} {ns : List Noted} → ((t : ℕ) → t < k → (b : ℕ) → b < 3 → note_in ws' b t ≡ note_in ws b t) → ((b : ℕ) → b < 3 → note_in ws' b k ≡ 0) → Notes ws k ns → Notes ws' (k + 1) ns
unfolding label_of_cell given_by found any_of
notes_table {ws} {ws'} {k} {ns} same zeros h = record {
  known = known_more ns k h.known;
  said = below_more (λ t. Says ws' t (notes_of ns t)) k (notes_kept {ws' = ws'} same h).said (record {
    is_public? = ap (λ n. eqb n 1) (zeros 0 (omega arith)) ∙ sym (ap (any_of is_public) (none_of ns k h.known));
    weak = ap label_of_cell (zeros 1 (omega arith)) ∙ sym (ap (given_by weak_in) (none_of ns k h.known));
    strong = ap label_of_cell (zeros 2 (omega arith)) ∙ sym (ap (given_by strong_in) (none_of ns k h.known));
  });
}

-- ---- a note is stored

module _ (ws : List ℕ) (t k : ℕ) (ns : List Noted) (long : length ws ≡ 440) (inside : t < k) (few : k ≤ 8) (h : Notes ws k ns) where
  -- a number is stored at kind b of table t: what the array says of it is what the notes say with this one, so it is with all tables
  noted_by : (b v : ℕ) (n : Note ℕ) → b < 3 → Says (set ws (416 + 8 * b + t) v) t (notes_of ns t ++ (n ∷ [])) → Notes (set ws (416 + 8 * b + t) v) k (ns ++ (record { table = t; note = n } ∷ []))
  noted_by b v n m new = record { known = known_one ns k _ h.known inside; said = λ u l. go u l (eqb t u) refl }
    where
      w : List ℕ
      w = set ws (416 + 8 * b + t) v

      go : (u : ℕ) → u < k → (e : Bool) → eqb t u ≡ e → Says w u (notes_of (ns ++ (record { table = t; note = n } ∷ [])) u)
      go u l true e =
          subst₂ (λ (x : ℕ) (ms : List (Note ℕ)). Says w x ms) (eqb-true t u e)
          (ap (λ (x : ℕ). notes_of ns x ++ (n ∷ [])) (eqb-true t u e) ∙ sym (notes_own ns t u n e)) new
      go u l false e =
          subst (Says w u) (sym (notes_other ns t u n e))
          (says_kept (λ c s. get_or-set_other ws (416 + 8 * b + t) (416 + 8 * c + u) v 0 (λ p. true_not_false (eq-eqb t u (same c u s l p)) e)) (h.said u l))
        where
          same : (c u : ℕ) → c < 3 → u < k → 416 + 8 * c + u ≡ 416 + 8 * b + t → t ≡ u
          same c u s l p = omega (arith, s, l, p, inside, few, m)

  here : (b v : ℕ) → b < 3 → note_in (set ws (416 + 8 * b + t) v) b t ≡ v
  here b v m = get_or-set_same ws (416 + 8 * b + t) v 0 (omega (arith, long, inside, few, m))

  there_too : (b c v : ℕ) → (c ≡ b → ⊥) → note_in (set ws (416 + 8 * b + t) v) c t ≡ note_in ws c t
  there_too b c v apart = get_or-set_other ws (416 + 8 * b + t) (416 + 8 * c + t) v 0 (λ p. apart (omega (arith, p)))

  -- the table is declared public
  pub notes_public : Notes (set ws (416 + t) 1) k (ns ++ (record { table = t; note = public } ∷ []))
  unfolding is_public weak_in strong_in any_of
  notes_public = noted_by 0 1 public (omega arith) (record {
    is_public? = ap (λ n. eqb n 1) (here 0 1 (omega arith)) ∙ sym (any_append (notes_of ns t) (public ∷ []) ∙ or_right (any_of is_public (notes_of ns t)) true refl);
    weak = ap label_of_cell (there_too 0 1 1 (λ e. omega (arith, e))) ∙ (h.said t inside).weak ∙ sym (given_same weak_in (notes_of ns t) public refl);
    strong = ap label_of_cell (there_too 0 2 1 (λ e. omega (arith, e))) ∙ (h.said t inside).strong ∙ sym (given_same strong_in (notes_of ns t) public refl);
  })

  -- it gets a weak label, which it has not yet
  pub notes_weak : (l : ℕ) → there (given_by weak_in (notes_of ns t)) ≡ false → Notes (set ws (424 + t) (l + 1)) k (ns ++ (record { table = t; note = weak l } ∷ []))
  unfolding is_public weak_in strong_in any_of label_of_cell
  notes_weak l new = noted_by 1 (l + 1) (weak l) (omega arith) (record {
    is_public? = ap (λ n. eqb n 1) (there_too 1 0 (l + 1) (λ e. omega (arith, e))) ∙ (h.said t inside).is_public? ∙ sym (any_append (notes_of ns t) (weak l ∷ []) ∙ or-false (any_of is_public (notes_of ns t)));
    weak = ap label_of_cell (here 1 (l + 1) (omega arith)) ∙ label_cell l ∙ sym (given_new weak_in (notes_of ns t) (weak l) l new refl);
    strong = ap label_of_cell (there_too 1 2 (l + 1) (λ e. omega (arith, e))) ∙ (h.said t inside).strong ∙ sym (given_same strong_in (notes_of ns t) (weak l) refl);
  })

  -- or a strong one
  pub notes_strong : (l : ℕ) → there (given_by strong_in (notes_of ns t)) ≡ false → Notes (set ws (432 + t) (l + 1)) k (ns ++ (record { table = t; note = strong l } ∷ []))
  unfolding is_public weak_in strong_in any_of label_of_cell
  notes_strong l new = noted_by 2 (l + 1) (strong l) (omega arith) (record {
    is_public? = ap (λ n. eqb n 1) (there_too 2 0 (l + 1) (λ e. omega (arith, e))) ∙ (h.said t inside).is_public? ∙ sym (any_append (notes_of ns t) (strong l ∷ []) ∙ or-false (any_of is_public (notes_of ns t)));
    weak = ap label_of_cell (there_too 2 1 (l + 1) (λ e. omega (arith, e))) ∙ (h.said t inside).weak ∙ sym (given_same weak_in (notes_of ns t) (strong l) refl);
    strong = ap label_of_cell (here 2 (l + 1) (omega arith)) ∙ label_cell l ∙ sym (given_new strong_in (notes_of ns t) (strong l) l new refl);
  })
