-- Labels in the workspace: sets of words, looking a label up, one more, what each says of a purpose, and whether one is open. Assumes nothing.
use Prim.Native.Nat.{◌*◌, ◌+◌, ◌-◌, ◌<◌, ◌≤◌, min, suc, zero, ℕ}
use borrow.Author.Tests.{eqb-false, eqb-true, lt-ltb, ltb-false, ltb-true}
use lib.Dec.{eqb, ltb}
use lib.ListN.{get_or-append, drop, get_or, get_elem?, length, length-drop, length-map, length-set, length-take, set, take}
use lib.Seq.{drop-paste, ext_get_or, get_or-append-add, get_or-drop, get_or-set_other, get_or-set_same, get_or-take, length-paste, length-take-le, paste, paste-suc, take-paste}
use mathlib.Core.Bool.{Bool, ◌&&◌, ◌||◌, cond, false, not, or_comm, or-false, true}
use mathlib.Core.List.{List, [], ◌++◌, ◌∷◌, map}
use mathlib.Core.Logic.{⊎_elim}
use mathlib.Core.Option
use mathlib.Core.Option.{Option, none-ne-some, bind, none, some}
use mathlib.Core.Path.{◌∙◌, ◌≡◌, ap, refl, subst, sym}
use native.Mathlib.Numerals.{add-one}
use native.Mathlib.Omega.{arith}
use Rattle.document.specs.Open.{label_open, marks_at}
use Rattle.document.specs.Policy.{Label, Policy, tree_of}
use Rattle.workspace.proofs.Finding.{found_first}
use Rattle.workspace.proofs.TabulatedLaws.{find_index_map, length_tabulated, tabulated_pushed, tabulated_there}
use Rattle.relations.specs.Labels.{Labels, Said, SetHolds, SetStored, denied_at, label_at, opened_in, set_in, verdict_for, verdict_in}
use Rattle.workspace.specs.Tabulated.{tabulated}
use Rattle.lists.proofs.ListLaws.{any_same, get_elem?_grown, get_elem?_map, map_append, member_append}
use Rattle.lists.proofs.Tests.{decide}
use Rattle.lists.specs.Lists.{any_of, find_index, holds_of, member}
use Rattle.purpose.specs.Meaning.{ClosureOf}
use Rattle.purpose.specs.declared.Closure.{Closure}
use Rattle.purpose.proofs.Nesting.{opens_verdict, verdict_none}
use Rattle.purpose.specs.Compliance.{Same, descends, in_tree, opens, related}
use Rattle.purpose.specs.Members.{including, limit, members, words}
use Rattle.purpose.specs.Nest.{unmarked}
use Rattle.purpose.specs.Verdicts.{silent, verdict}
use Rattle.purpose.specs.declared.Verdict.{Verdict}
use Rattle.text.specs.Words.{Word, is_called, word_at}

-- ---- the words of a set

-- one word more is read
pub words_more : (r sets : List ℕ) (at w : ℕ) → w < length r → ((j : ℕ) → j < w → get_or r j 0 ≡ get_or sets (at + j) 0)
    → (j : ℕ) → j < w + 1 → get_or (set r w (get_or sets (at + w) 0)) j 0 ≡ get_or sets (at + j) 0
words_more r sets at w l pointwise j h = ⊎_elim (λ e. last (eqb-true j w e)) (λ e. old (eqb-false j w e)) (decide (eqb j w))
  where
    last : j ≡ w → get_or (set r w (get_or sets (at + w) 0)) j 0 ≡ get_or sets (at + j) 0
    last e = ap (λ n. get_or (set r w (get_or sets (at + w) 0)) n 0) e ∙ get_or-set_same r w (get_or sets (at + w) 0) 0 l ∙ ap (λ n. get_or sets (at + n) 0) (sym e)

    old : (j ≡ w → ⊥) → get_or (set r w (get_or sets (at + w) 0)) j 0 ≡ get_or sets (at + j) 0
    old apart = get_or-set_other r w j (get_or sets (at + w) 0) 0 apart ∙ pointwise j (omega (arith, h, apart))

-- one word more is stored
pub paste_more : (was sets : List ℕ) (at : ℕ) (s : List ℕ) (w : ℕ) → at + w < length was → w < length s → sets ≡ paste was at s w → set sets (at + w) (get_or s w 0) ≡ paste was at s (w + 1)
paste_more was sets at s w l m e =
    ap (λ x. set x (at + w) (get_or s w 0)) e ∙ paste-suc was at s w 0 l m ∙ ap (paste was at s) (sym (add-one w))

-- words that are those from a place on
pub words_from : (r sets : List ℕ) (at : ℕ) → length r ≡ words → at + words ≤ length sets
    → ((j : ℕ) → j < words → get_or r j 0 ≡ get_or sets (at + j) 0) → r ≡ take words (drop at sets)
words_from r sets at n l pointwise =
    let m : length (take words (drop at sets)) ≡ words = length-take-le words (drop at sets) (simp length-drop (omega arith)) in
    ext_get_or 0 r (take words (drop at sets)) (n ∙ sym m)
    (λ j h. let small : j < words = omega (arith, h, n) in
    pointwise j small ∙ sym (get_or-take words (drop at sets) j 0 small ∙ get_or-drop at sets j 0))

-- lists as long as one another that agree from a place on for n numbers
part_same : (xs ys : List ℕ) (at n : ℕ) → length xs ≡ length ys → ((j : ℕ) → j < n → get_or xs (at + j) 0 ≡ get_or ys (at + j) 0) → take n (drop at xs) ≡ take n (drop at ys)
part_same xs ys at n e pointwise =
    ext_get_or 0 (take n (drop at xs)) (take n (drop at ys)) (long xs ∙ ap (λ m. min n (m - at)) e ∙ sym (long ys))
    (λ j h. let small : j < n = omega (arith, h, long xs) in
    get_or-take n (drop at xs) j 0 small ∙ get_or-drop at xs j 0 ∙ pointwise j small ∙ sym (get_or-take n (drop at ys) j 0 small ∙ get_or-drop at ys j 0))
  where
    long : (zs : List ℕ) → length (take n (drop at zs)) ≡ min n (length zs - at)
    long zs = length-take n (drop at zs) ∙ ap (min n) (length-drop at zs)

-- what stands where s was pasted, and elsewhere
module _ (d : List ℕ) (at : ℕ) (s : List ℕ) (n : ℕ) (fits : at + n ≤ length d) (all : n ≤ length s) where
  paste_here : (j : ℕ) → j < n → get_or (paste d at s n) (at + j) 0 ≡ get_or s j 0
  paste_here j h =
      sym (get_or-take (at + n) (paste d at s n) (at + j) 0 (omega arith))
      ∙ ap (λ l. get_or l (at + j) 0) (take-paste d at s n (omega arith) all)
      ∙ ap (λ m. get_or (take at d ++ take n s) (m + j) 0) (sym (length-take-le at d (omega arith)))
      ∙ get_or-append-add (take at d) (take n s) j 0
      ∙ get_or-take n s j 0 h

  paste_before : (j : ℕ) → j < at → get_or (paste d at s n) j 0 ≡ get_or d j 0
  paste_before j h =
      sym (get_or-take (at + n) (paste d at s n) j 0 (omega arith))
      ∙ ap (λ l. get_or l j 0) (take-paste d at s n (omega arith) all)
      ∙ get_or-append (take at d) (take n s) 0 j (omega (arith, h, length-take-le at d (omega arith)))
      ∙ get_or-take at d j 0 h

  paste_behind : (j : ℕ) → at + n ≤ j → get_or (paste d at s n) j 0 ≡ get_or d j 0
  paste_behind j h =
      ap (λ m. get_or (paste d at s n) m 0) split
      ∙ sym (get_or-drop (at + n) (paste d at s n) (j - (at + n)) 0)
      ∙ ap (λ l. get_or l (j - (at + n)) 0) (drop-paste d at s n (omega arith) all)
      ∙ get_or-drop (at + n) d (j - (at + n)) 0
      ∙ ap (λ m. get_or d m 0) (sym split)
    where
      split : j ≡ at + n + (j - (at + n))
      split = omega (arith, h)

  paste_else : (j : ℕ) → (at ≤ j → j < at + n → ⊥) → get_or (paste d at s n) j 0 ≡ get_or d j 0
  paste_else j h =
      ⊎_elim
      (λ l. paste_before j (ltb-true j at l))
      (λ l. ⊎_elim (λ m. absurd (h (ltb-false j at l) (ltb-true j (at + n) m))) (λ m. paste_behind j (ltb-false j (at + n) m)) (decide (ltb j (at + n))))
      (decide (ltb j at))

-- a set that was pasted at its place was stored
pub set_stored : (sets new : List ℕ) (i : ℕ) (s : List ℕ) → length sets ≡ 128 * words → length s ≡ words → i < 128 → new ≡ paste sets (words * i) s words → SetStored sets new i s
unfolding set_in
set_stored sets new i s full n l e = subst (λ (x : List ℕ). SetStored sets x i s) (sym e) (record {
  here = λ m. sym (words_from s pasted (words * i) n (omega (arith, long)) (λ j h. sym (paste_here sets (words * i) s words fits all j h)));
  others = λ j apart. part_same pasted sets (words * j) words long (λ w h. paste_else sets (words * i) s words fits all (words * j + w) (λ a b. apart (omega (arith, a, b, h))));
})
  where
    pasted : List ℕ
    pasted = paste sets (words * i) s words

    fits : words * i + words ≤ length sets
    fits = omega (arith, full, l)

    all : words ≤ length s
    all = omega (arith, n)

    long : length pasted ≡ length sets
    long = length-paste sets (words * i) s words fits all

-- where nothing is stored, nothing changes
pub set_beyond : (sets : List ℕ) (i : ℕ) (s : List ℕ) → 128 ≤ i → SetStored sets sets i s
set_beyond sets i s h = record { here = λ l. absurd (omega (arith, l, h)); others = λ j apart. refl }

-- ---- sets and the lists that they hold

-- a set with no member
pub holds_none : (ws : List ℕ) → Same (members ws) [] → SetHolds ws []
holds_none ws e = record { same = e }

-- a number that a tree may have, put into a set: in front of the list, or behind it
pub holds_insert : (ws new xs : List ℕ) (p : ℕ) → p < limit → SetHolds ws xs → Same (members new) (including p (members ws)) → SetHolds new (p ∷ xs)
unfolding member any_of
holds_insert ws new xs p l h e = record { same = λ i. e i ∙ ap (λ b. member i (cond b (p ∷ members ws) (members ws))) (lt-ltb p limit l) ∙ ap (λ b. eqb i p || b) (h.same i) }

pub holds_insert_behind : (ws new xs : List ℕ) (p : ℕ) → p < limit → SetHolds ws xs → Same (members new) (including p (members ws)) → SetHolds new (xs ++ (p ∷ []))
unfolding member any_of
holds_insert_behind ws new xs p l h e = record { same = λ i. (holds_insert ws new xs p l h e).same i ∙ turned i }
  where
    turned : (i : ℕ) → member i (p ∷ xs) ≡ member i (xs ++ (p ∷ []))
    turned i = or_comm (eqb i p) (member i xs) ∙ ap (λ b. member i xs || b) (sym (or-false (eqb i p))) ∙ sym (member_append i xs (p ∷ []))

-- ---- by name

-- what is found among the positions of the names is the label of the name
pub label_found : {text ws sets : List ℕ} {k : ℕ} {ls : List Label} (w : Word) (o : Option ℕ) → Labels text ws sets k ls
    → o ≡ find_index (λ p. is_called w (word_at text p)) (tabulated (λ i. get_or ws (0 + i) 0) k) → o ≡ find_index (λ x. is_called w x.name) ls
label_found {text} {ws} {sets} {k} {ls} w o h e =
    e
    ∙ found_first (is_called w) (λ n. n) text ws (λ i. word_at text (get_or ws i 0)) k (map (λ l. l.name) ls) (λ i. refl) h.named
    ∙ find_index_map (is_called w) (λ l. l.name) ls

-- no label yet
pub labels_start : (text ws sets : List ℕ) → Labels text ws sets 0 []
unfolding tabulated
labels_start text ws sets = record {
  few = omega arith;
  named = refl;
  allowed = λ i l e. absurd (none-ne-some _ e);
  denied = λ i l e. absurd (none-ne-some _ e);
  written = λ i l e. absurd (none-ne-some _ e);
}

-- ---- one more

module _ (text ws sets : List ℕ) (k : ℕ) (ls : List Label) (h : Labels text ws sets k ls) where
  -- as many as there are
  pub labels_long : length ls ≡ k
  labels_long = sym (length-map ls (λ l. l.name)) ∙ ap length (sym h.named) ∙ length_tabulated (λ i. word_at text (get_or ws i 0)) k

  -- a label that is there
  pub label_below : (i : ℕ) (l : Label) → get_elem? ls i ≡ some l → i < k
  label_below i l e =
      (tabulated_there (λ i. word_at text (get_or ws i 0)) k i l.name
      (ap (λ x. get_elem? x i) h.named ∙ get_elem?_map (λ x. x.name) ls i ∙ ap (Option.map (λ x. x.name)) e)).0

  -- one label more, its sets stored one after the other
  pub labels_pushed : (w₁ s₁ s₂ : List ℕ) (n : ℕ) (allowed denied xs ys : List ℕ) → length ws ≡ 64 → k < 64 → w₁ ≡ set ws k n → SetStored sets s₁ k allowed → SetStored s₁ s₂ (64 + k) denied
      → SetHolds allowed xs → SetHolds denied ys → Labels text w₁ s₂ (k + 1) (ls ++ (label_at text n xs ys ∷ []))
  labels_pushed w₁ s₁ s₂ n allowed denied xs ys full l e a b ha hb = record {
    few = omega arith;
    named =
        ap (λ w. tabulated (λ i. word_at text (get_or w i 0)) (k + 1)) e
        ∙ tabulated_pushed (λ i. word_at text (get_or ws i 0)) (λ i. word_at text (get_or (set ws k n) i 0)) k (map (λ l. l.name) ls) (word_at text n) h.named
        (λ i m. ap (word_at text) (get_or-set_other ws k i n 0 (omega arith)))
        (ap (word_at text) (get_or-set_same ws k n 0 (omega arith)))
        ∙ sym (map_append (λ l. l.name) ls (new ∷ []));
    allowed = λ i x g. ⊎_elim (λ o. old_allowed i x o) (λ o. subst (λ (y : Label). SetHolds (set_in s₂ i) y.marks.allowed) o.1 (new_allowed i o.0)) (get_elem?_grown ls new i x g);
    denied = λ i x g. ⊎_elim (λ o. old_denied i x o) (λ o. subst (λ (y : Label). SetHolds (set_in s₂ (64 + i)) y.marks.denied) o.1 (new_denied i o.0)) (get_elem?_grown ls new i x g);
    written = λ i x g. ⊎_elim (λ o. old_written i x o) (λ o. sym (ap (λ (y : Label). y.denied_names) o.1) ∙ new_written i o.0) (get_elem?_grown ls new i x g);
  }
    where
      new : Label
      new = label_at text n xs ys

      old_allowed : (i : ℕ) (x : Label) → get_elem? ls i ≡ some x → SetHolds (set_in s₂ i) x.marks.allowed
      old_allowed i x o =
          let m : i < k = label_below i x o in
          subst (λ (s : List ℕ). SetHolds s x.marks.allowed) (sym (b.others i (λ e. omega (arith, e, m, l)) ∙ a.others i (λ e. omega (arith, e, m)))) (h.allowed i x o)

      old_denied : (i : ℕ) (x : Label) → get_elem? ls i ≡ some x → SetHolds (set_in s₂ (64 + i)) x.marks.denied
      old_denied i x o =
          let m : i < k = label_below i x o in
          subst (λ (s : List ℕ). SetHolds s x.marks.denied) (sym (b.others (64 + i) (λ e. omega (arith, e, m)) ∙ a.others (64 + i) (λ e. omega (arith, e, l)))) (h.denied i x o)

      new_allowed : (i : ℕ) → i ≡ length ls → SetHolds (set_in s₂ i) xs
      new_allowed i o =
          let m : i ≡ k = o ∙ labels_long in
          subst (λ (s : List ℕ). SetHolds s xs) (sym (ap (set_in s₂) m ∙ b.others k (λ e. omega (arith, e)) ∙ a.here (omega (arith, l)))) ha

      new_denied : (i : ℕ) → i ≡ length ls → SetHolds (set_in s₂ (64 + i)) ys
      new_denied i o =
          let m : i ≡ k = o ∙ labels_long in
          subst (λ (s : List ℕ). SetHolds s ys) (sym (ap (λ j. set_in s₂ (64 + j)) m ∙ b.here (omega (arith, l)))) hb

      old_written : (i : ℕ) (x : Label) → get_elem? ls i ≡ some x → x.denied_names ≡ denied_at text (get_or w₁ i 0)
      old_written i x o =
          let m : i < k = label_below i x o in
          h.written i x o ∙ ap (denied_at text) (sym (get_or-set_other ws k i n 0 (λ e. omega (arith, e, m)))) ∙ ap (λ (w : List ℕ). denied_at text (get_or w i 0)) (sym e)

      new_written : (i : ℕ) → i ≡ length ls → denied_at text n ≡ denied_at text (get_or w₁ i 0)
      new_written i o =
          let m : i ≡ k = o ∙ labels_long in
          ap (denied_at text) (sym (ap (λ (j : ℕ). get_or (set ws k n) j 0) m ∙ get_or-set_same ws k n 0 (omega (arith, l, full)))) ∙ ap (λ (w : List ℕ). denied_at text (get_or w i 0)) (sym e)

  -- ---- what one says

  -- a label says what its sets say
  pub label_says : (tree : List ℕ) (p i : ℕ) (l : Label) (allowed denied : List ℕ) → get_elem? ls i ≡ some l → allowed ≡ set_in sets i → denied ≡ set_in sets (64 + i)
      → verdict tree (record { allowed = members allowed; denied = members denied }) p ≡ verdict tree l.marks p
  unfolding verdict
  label_says tree p i l allowed denied g a b =
      λ j. record {
        allowed = ap (λ (x : Bool). in_tree tree p && x) (any_same (descends tree p) (descends tree p) (members allowed) l.marks.allowed (λ x. ap (λ s. member x (members s)) a ∙ (h.allowed i l g).same x) (λ x. refl)) j;
        denied = ap (λ (x : Bool). in_tree tree p && x) (any_same (related tree p) (related tree p) (members denied) l.marks.denied (λ x. ap (λ s. member x (members s)) b ∙ (h.denied i l g).same x) (λ x. refl)) j;
      }

-- ---- what each one says

-- a place within a list has an element, one behind it has none
pub element_there : {A : Type 0} (xs : List A) (i : ℕ) → i < length xs → (x : A) × (get_elem? xs i ≡ some x)
element_there [] i h = absurd (omega (arith, h))
element_there (x ∷ xs) zero h = (x, refl)
element_there (x ∷ xs) (suc i) h = element_there xs i (omega (arith, h))

pub element_none : {A : Type 0} (xs : List A) (i : ℕ) → length xs ≤ i → get_elem? xs i ≡ none
element_none [] i h = refl
element_none (x ∷ xs) zero h = absurd (omega (arith, h))
element_none (x ∷ xs) (suc i) h = element_none xs i (omega (arith, h))

-- what is read at a label's two places
said_inside : (truths : List Bool) (l : ℕ) → ltb l 64 ≡ true → verdict_in truths l ≡ record { allowed = get_or truths l false; denied = get_or truths (64 + l) false }
unfolding verdict_in
said_inside truths l e = ap (λ (b : Bool). cond b (record { allowed = get_or truths l false; denied = get_or truths (64 + l) false }) silent) e

-- and where there is none
pub said_behind : (truths : List Bool) (l : ℕ) → ltb l 64 ≡ false → verdict_in truths l ≡ silent
unfolding verdict_in
said_behind truths l e = ap (λ (b : Bool). cond b (record { allowed = get_or truths l false; denied = get_or truths (64 + l) false }) silent) e

pub said_there : (truths : List Bool) (l : ℕ) → l < 64 → verdict_in truths l ≡ record { allowed = get_or truths l false; denied = get_or truths (64 + l) false }
said_there truths l m = said_inside truths l (lt-ltb l 64 m)

-- a verdict that was stored is read there, and the others are as before
said_here : (truths : List Bool) (i : ℕ) (v : Verdict) → i < 64 → 128 ≤ length truths → verdict_in (set (set truths i v.allowed) (64 + i) v.denied) i ≡ v
said_here truths i v m long =
    said_there (set (set truths i v.allowed) (64 + i) v.denied) i m
    ∙ (λ j. record {
      allowed = (get_or-set_other (set truths i v.allowed) (64 + i) i v.denied false (λ e. omega (arith, e)) ∙ get_or-set_same truths i v.allowed false (omega (arith, m, long))) j;
      denied = get_or-set_same (set truths i v.allowed) (64 + i) v.denied false (simp length-set (omega (arith, m, long))) j;
    })

said_other : (truths : List Bool) (i j : ℕ) (v : Verdict) → i < 64 → j < 64 → (j ≡ i → ⊥) → verdict_in (set (set truths i v.allowed) (64 + i) v.denied) j ≡ verdict_in truths j
said_other truths i j v m l apart =
    said_there (set (set truths i v.allowed) (64 + i) v.denied) j l
    ∙ (λ x. record {
      allowed = (get_or-set_other (set truths i v.allowed) (64 + i) j v.denied false (λ e. omega (arith, e, l)) ∙ get_or-set_other truths i j v.allowed false apart) x;
      denied = (get_or-set_other (set truths i v.allowed) (64 + i) (64 + j) v.denied false (λ e. apart (omega (arith, e))) ∙ get_or-set_other truths i (64 + j) v.allowed false (λ e. omega (arith, e, m))) x;
    })
    ∙ sym (said_there truths j l)

module _ (text ws sets : List ℕ) (k : ℕ) (d : Policy) (h : Labels text ws sets k d.labels) (p : ℕ) where
  -- a label that is there says what its marks say
  pub label_there : (i : ℕ) → i < k → (l : Label) × (get_elem? d.labels i ≡ some l) × (marks_at d (some i) ≡ l.marks)
  unfolding marks_at bind
  label_there i m =
      let got = element_there d.labels i (omega (arith, m, labels_long text ws sets k d.labels h)) in
      (got.0, got.1, ap (λ o. Option.get_or (Option.map (λ x. x.marks) o) unmarked) got.1)

  -- one that is not there says nothing
  pub label_silent : (i : ℕ) → k ≤ i → verdict (tree_of d.purposes) (marks_at d (some i)) p ≡ silent
  unfolding marks_at bind
  label_silent i m =
      ap (λ o. verdict (tree_of d.purposes) (Option.get_or (Option.map (λ x. x.marks) o) unmarked) p) (element_none d.labels i (omega (arith, m, labels_long text ws sets k d.labels h)))
      ∙ verdict_none (tree_of d.purposes) p

  -- where what each says that has a place was stored, all is
  pub labels_said : (truths : List Bool) → ((j : ℕ) → j < 64 → verdict_in truths j ≡ verdict (tree_of d.purposes) (marks_at d (some j)) p) → Said d p truths
  labels_said truths each = record { is = λ l. ⊎_elim (λ e. each l (ltb-true l 64 e)) (λ e. behind l e) (decide (ltb l 64)) }
    where
      behind : (l : ℕ) → ltb l 64 ≡ false → verdict_in truths l ≡ verdict (tree_of d.purposes) (marks_at d (some l)) p
      behind l e = said_behind truths l e ∙ sym (label_silent l (omega (arith, ltb-false l 64 e, h.few)))

-- what the first i labels say is stored
abbrev pub SaidBelow : List ℕ → ℕ → Closure → List Bool → ℕ → Type 0
SaidBelow sets k closure truths i =
    (text ws : List ℕ) (d : Policy) (p : ℕ) → Labels text ws sets k d.labels → ClosureOf (tree_of d.purposes) p closure → (j : ℕ) → j < i → verdict_in truths j ≡ verdict (tree_of d.purposes) (marks_at d (some j)) p

-- what one more says is stored
pub said_more : (sets : List ℕ) (k : ℕ) (closure : Closure) (truths : List Bool) (i : ℕ) (v : Verdict) → i < 64 → 128 ≤ length truths → SaidBelow sets k closure truths i
    → ((text ws : List ℕ) (d : Policy) (p : ℕ) → Labels text ws sets k d.labels → ClosureOf (tree_of d.purposes) p closure → v ≡ verdict (tree_of d.purposes) (marks_at d (some i)) p)
    → SaidBelow sets k closure (set (set truths i v.allowed) (64 + i) v.denied) (i + 1)
said_more sets k closure truths i v m long below new text ws d p h of j l = ⊎_elim (λ e. last (eqb-true j i e)) (λ e. old (eqb-false j i e)) (decide (eqb j i))
  where
    last : j ≡ i → verdict_in (set (set truths i v.allowed) (64 + i) v.denied) j ≡ verdict (tree_of d.purposes) (marks_at d (some j)) p
    last e = ap (verdict_in (set (set truths i v.allowed) (64 + i) v.denied)) e ∙ said_here truths i v m long ∙ new text ws d p h of ∙ ap (λ n. verdict (tree_of d.purposes) (marks_at d (some n)) p) (sym e)

    old : (j ≡ i → ⊥) → verdict_in (set (set truths i v.allowed) (64 + i) v.denied) j ≡ verdict (tree_of d.purposes) (marks_at d (some j)) p
    old apart = said_other truths i j v m (omega (arith, l, m)) apart ∙ below text ws d p h of j (omega (arith, l, apart))

-- ---- whether one is open

-- a label is open by its verdict
pub open_verdict : (d : Policy) (p : ℕ) (l : Option ℕ) → ((verdict (tree_of d.purposes) (marks_at d l) p).allowed && not (verdict (tree_of d.purposes) (marks_at d l) p).denied) ≡ label_open d p l
unfolding label_open marks_at holds_of silent
open_verdict d p l = go (bind l (get_elem? d.labels))
  where
    tree : List ℕ
    tree = tree_of d.purposes

    says : Option Label → Verdict
    says o = verdict (tree_of d.purposes) (Option.get_or (Option.map (λ x. x.marks) o) unmarked) p

    go : (o : Option Label) → ((says o).allowed && not (says o).denied) ≡ holds_of (λ x. opens tree x.marks p) o
    go none = ap (λ (v : Verdict). v.allowed && not v.denied) (verdict_none (tree_of d.purposes) p)
    go (some x) = sym (opens_verdict (tree_of d.purposes) x.marks p)

-- so it is by what was stored
pub said_open : {d : Policy} {p : ℕ} {truths : List Bool} → Said d p truths → (l : ℕ) → opened_in truths l ≡ label_open d p (some l)
unfolding opened_in
said_open {d} {p} {truths} s l = ap (λ (v : Verdict). v.allowed && not v.denied) (s.is l) ∙ open_verdict d p (some l)

-- a label that may be none says what was stored of it
pub said_for : {d : Policy} {p : ℕ} {truths : List Bool} → Said d p truths → (o : Option ℕ) → verdict_for truths o ≡ verdict (tree_of d.purposes) (marks_at d o) p
unfolding verdict_for marks_at bind unmarked
said_for {d} {p} {truths} s none = sym (verdict_none (tree_of d.purposes) p)
said_for {d} {p} {truths} s (some l) = s.is l
