-- Storing where the words stand that name columns: the columns of a select, and then those of the condition's comparisons. Each
-- law gives what the code's answer promises, or what its loop keeps. Assumes nothing.
use Prim.Native.Nat.{◌+◌, ◌<◌, ◌≤◌, ℕ}
use lib.ListN.{get_or, length, length-append, length-map, length-set, set, take}
use lib.Seq.{length-take-le, take_all, take-suc, take-suc-set}
use mathlib.Core.List.{List, [], ◌++◌, ◌∷◌, append_assoc, append-nil, map}
use mathlib.Core.Option
use mathlib.Core.Path.{◌∙◌, ◌≡◌, ap, refl, subst, sym}
use native.Mathlib.Numerals.{add-one}
use native.Mathlib.Omega.{arith}
use Rattle.condition.specs.Answers.{Placed, compared_at, comparisons_at}
use Rattle.condition.specs.Cond.{comparisons_in}
use Rattle.condition.specs.CondForm.{Compared, condition_in_form}
use Rattle.form.proofs.WalkSteps.{names_more, names_stop}
use Rattle.form.specs.Walks.{names_at}
use Rattle.lists.proofs.ListLaws.{map_append}
use Rattle.query.proofs.BodiesRead.{first_of, wanted_count}
use Rattle.query.specs.Naming.{ComparedStored, NamesPlaced, PlacesStored, TestStored, TestsPlaced, words_at}
use Rattle.query.proofs.Sources.{named_words_are}
use Rattle.query.specs.QueryForm.{selected, selected_words}
use Rattle.query.specs.QueryPlaces.{IsQuery, TestWithin, chosen_count, comparison_count, condition_at, form_at, selected_from, wanted_at}
use Rattle.text.specs.Reader.{from}
use Rattle.text.specs.Walking.{next_word, word_end_at}
use Rattle.text.specs.Words.{Word, word_at, word_of}
use Rattle.std.specs.Prelude.{Option}
use Rattle.query.specs.declared.reading.Question.{Question}
use Rattle.query.specs.declared.reading.Test.{Test}
use Rattle.query.specs.declared.reading.Test.TheVariants as test
use Rattle.query.specs.declared.reading.Wanted.{Wanted}
use Rattle.query.specs.declared.reading.Verb.{Verb}
use Rattle.query.specs.declared.reading.Wanted.TheVariants as wanted

-- the column that a comparison names
abbrev of_all : List Compared → List Word
of_all xs = map (λ x. x.of) xs

-- one place more
stored_one : (s out : List ℕ) (k v : ℕ) → k < length out → words_at s (k + 1) (set out k v) ≡ words_at s k out ++ (word_of s v ∷ [])
stored_one s out k v h = rw (add-one k, take-suc-set out k v h) (map_append (word_of s) (take k out) (v ∷ []))

words_length : (s out : List ℕ) (k : ℕ) → k ≤ length out → length (words_at s k out) ≡ k
words_length s out k h = length-map (take k out) (word_of s) ∙ length-take-le k out h

-- ---- the columns of a select

module _ (s : List ℕ) (at : ℕ) {e : ℕ} (ends : e ≡ at + length (word_at s at)) where
  -- with a space behind the word, one more stands there
  selected_more : get_or s e 0 ≡ 32 → selected_from s at ≡ word_of s at ∷ selected_from s (e + 1)
  unfolding selected_from word_end_at
  selected_more h = ap (λ (j : ℕ). word_of s at ∷ names_at s j) (sym ends) ∙ ap (λ (ws : List Word). word_of s at ∷ ws) (names_more s e h)

  -- else it is the last
  selected_last : (get_or s e 0 ≡ 32 → ⊥) → selected_from s at ≡ word_of s at ∷ []
  unfolding selected_from word_end_at
  selected_last h = ap (λ (j : ℕ). word_of s at ∷ names_at s j) (sym ends) ∙ ap (λ (ws : List Word). word_of s at ∷ ws) (names_stop s e h)

-- what the loop keeps: the words stored and those from its place on are the columns
pub record Storing (s : List ℕ) (p room : ℕ) (out : List ℕ) (at k : ℕ) : Type 0 where
  pub so_far : words_at s k out ++ selected_from s at ≡ selected_from s p
  pub few : k ≤ length out
  pub long : length out ≡ room

pub storing_start : (s : List ℕ) (p : ℕ) (out : List ℕ) → Storing s p (length out) out p 0
storing_start s p out = record { so_far = refl; few = omega arith; long = refl }

module _ (s : List ℕ) (p room : ℕ) (out : List ℕ) (at k : ℕ) (inv : Storing s p room out at k) where
  module _ (more : k < length out) {e : ℕ} (ends : e ≡ at + length (word_at s at)) where
    pub storing_more : get_or s e 0 ≡ 32 → Storing s p room (set out k at) (e + 1) (k + 1)
    storing_more h = record {
      so_far = ap (λ (ws : List Word). ws ++ selected_from s (e + 1)) (stored_one s out k at more)
          ∙ append_assoc (words_at s k out) (word_of s at ∷ []) (selected_from s (e + 1))
          ∙ ap (λ (ws : List Word). words_at s k out ++ ws) (sym (selected_more s at ends h))
          ∙ inv.so_far;
      few = omega (arith, length-set out k at);
      long = length-set out k at ∙ inv.long;
    }

    pub storing_last : (get_or s e 0 ≡ 32 → ⊥) → (before : List ℕ) → length before ≡ room → PlacesStored s (selected_from s p) (k + 1) before (set out k at)
    storing_last h before l = record {
      small = omega (arith, inv.long);
      same = length-set out k at ∙ inv.long ∙ sym l;
      named = λ z. stored_one s out k at more ∙ ap (λ (ws : List Word). words_at s k out ++ ws) (sym (selected_last s at ends h)) ∙ inv.so_far;
    }

  pub storing_full : length out ≤ k → (before : List ℕ) → length before ≡ room → PlacesStored s (selected_from s p) k before out
  unfolding selected_from
  storing_full h before l =
      let a : length (words_at s k out) + length (selected_from s at) ≡ length (selected_from s p) = sym (length-append (words_at s k out) (selected_from s at)) ∙ ap length inv.so_far in
      let b : length (words_at s k out) ≡ k = words_length s out k inv.few in
      record { small = omega (arith, inv.few, inv.long); same = inv.long ∙ sym l; named = λ z. absurd (omega (arith, a, b, inv.long)) }

-- ---- the columns of comparisons

-- what the loop keeps: behind the first k places stand those of the first j comparisons
pub record Comparing (s ops : List ℕ) (n k : ℕ) (before out : List ℕ) (j m : ℕ) : Type 0 where
  pub so_far : words_at s m out ≡ words_at s k before ++ of_all (map (compared_at s) (take j ops))
  pub place : m ≡ k + j
  pub few : j ≤ n
  pub small : k ≤ length before → m ≤ length before
  pub long : length out ≡ length before

pub comparing_start : (s ops : List ℕ) (n k : ℕ) (out : List ℕ) → Comparing s ops n k out out 0 k
comparing_start s ops n k out = record { so_far = sym (append-nil (words_at s k out)); place = omega arith; few = omega arith; small = λ h. h; long = refl }

-- one comparison more
compared_one : (s ops : List ℕ) (j : ℕ) → j < length ops → of_all (map (compared_at s) (take (j + 1) ops)) ≡ of_all (map (compared_at s) (take j ops)) ++ (word_of s (next_word s (get_or ops j 0)) ∷ [])
unfolding compared_at
compared_one s ops j h =
    rw (add-one j, take-suc ops j 0 h)
    (ap of_all (map_append (compared_at s) (take j ops) (get_or ops j 0 ∷ [])) ∙ map_append (λ (x : Compared). x.of) (map (compared_at s) (take j ops)) (compared_at s (get_or ops j 0) ∷ []))

module _ (s ops : List ℕ) (n k : ℕ) (before out : List ℕ) (j m : ℕ) (inv : Comparing s ops n k before out j m) where
  pub comparing_more : j < n → j < length ops → m < length out → (v : ℕ) → v ≡ next_word s (get_or ops j 0) → Comparing s ops n k before (set out m v) (j + 1) (m + 1)
  comparing_more a b c v e = record {
    so_far = stored_one s out m v c
        ∙ ap (λ (ws : List Word). ws ++ (word_of s v ∷ [])) inv.so_far
        ∙ append_assoc (words_at s k before) (of_all (map (compared_at s) (take j ops))) (word_of s v ∷ [])
        ∙ ap (λ (i : ℕ). words_at s k before ++ (of_all (map (compared_at s) (take j ops)) ++ (word_of s i ∷ []))) e
        ∙ ap (λ (ws : List Word). words_at s k before ++ ws) (sym (compared_one s ops j b));
    place = omega (arith, inv.place);
    few = omega arith;
    small = λ h. omega (arith, inv.long);
    long = length-set out m v ∙ inv.long;
  }

  -- no operator left, or no room
  pub comparing_short : j < n → length ops ≤ j → ComparedStored s ops (length ops) n k m before out
  comparing_short a b = record { small = inv.small; named = λ h g. absurd (omega arith) }

  pub comparing_full : j < n → length out ≤ m → ComparedStored s ops (length ops) n k m before out
  comparing_full a b = record { small = inv.small; named = λ h g. absurd (omega (arith, inv.place, inv.long)) }

  pub comparing_done : n ≤ j → ComparedStored s ops (length ops) n k m before out
  comparing_done a =
      let e : j ≡ n = omega (arith, inv.few) in
      record { small = inv.small; named = λ h g. inv.so_far ∙ ap (λ (i : ℕ). words_at s k before ++ of_all (map (compared_at s) (take i ops))) e }

-- ---- a condition that may be absent

module _ (s : List ℕ) (k : ℕ) (before ops : List ℕ) where
  none_stored : TestStored s test.Always k k before before ops
  unfolding condition_at comparisons_in comparison_count
  none_stored = record {
    small = λ h. h;
    placed = λ w f. record { few = f; number = refl; compared = refl };
    named = λ w f g. sym (append-nil (words_at s k before));
  }

  pub tested_always : {t : Test} → t ≡ test.Always → TestStored s t k k before before ops
  tested_always e = subst (λ v. TestStored s v k k before before ops) (sym e) none_stored

module _ (s : List ℕ) {c : Option (ℕ × ℕ)} {ops : List ℕ} where
  when_placed : (p n : ℕ) → Placed s p c ops → TestWithin s (test.When p n) → n ≤ 64 → TestsPlaced s (test.When p n) ops
  unfolding condition_at TestWithin comparison_count
  when_placed p n placed w f =
      let e : comparisons_in (Option.map (λ x. x.0) (condition_in_form (from s p))) ≡ comparisons_at s p = first_of (condition_in_form (from s p)) in
      let m : length (comparisons_at s p) ≡ n = w.number in
      record {
        few = f;
        number = ap length e ∙ m;
        compared = ap (λ i. map (compared_at s) (take i ops)) (sym m) ∙ placed.places ∙ take_all 64 (comparisons_at s p) (omega (arith, m, f)) ∙ sym e;
      }

  when_stored : {k r : ℕ} {before after : List ℕ} (p n : ℕ) → Placed s p c ops → ComparedStored s ops 64 n k r before after → TestStored s (test.When p n) k r before after ops
  unfolding comparison_count
  when_stored {k} {before} p n placed d = record {
    small = d.small;
    placed = when_placed p n placed;
    named = λ w f g. d.named f g ∙ ap (λ (xs : List Compared). words_at s k before ++ of_all xs) (when_placed p n placed w f).compared;
  }

  pub tested_when : {k r : ℕ} {before after : List ℕ} {t : Test} {p n : ℕ} → t ≡ test.When p n → Placed s p c ops → ComparedStored s ops 64 n k r before after → TestStored s t k r before after ops
  tested_when {k} {r} {before} {after} {p} {n} e placed d = subst (λ v. TestStored s v k r before after ops) (sym e) (when_stored p n placed d)

-- ---- columns that may not be asked for

abbrev wanted_words : List ℕ → Wanted → List Word
wanted_words s w = selected (wanted_at s w)

pub wanted_rows_lem : (s : List ℕ) {w : Wanted} {v : Verb} {p n k : ℕ} {before after : List ℕ} → w ≡ wanted.Rows v p n → PlacesStored s (selected_from s p) k before after → PlacesStored s (wanted_words s w) k before after
unfolding wanted_at selected
wanted_rows_lem s {p} {k} {before} {after} e d = subst (λ v. PlacesStored s (wanted_words s v) k before after) (sym e) d

none_wanted : (s before : List ℕ) → PlacesStored s (wanted_words s wanted.Count) 0 before before
unfolding wanted_at selected
none_wanted s before = record { small = omega arith; same = refl; named = λ h. refl }

pub wanted_none : (s : List ℕ) {w : Wanted} (before : List ℕ) → w ≡ wanted.Count → PlacesStored s (wanted_words s w) 0 before before
wanted_none s before e = subst (λ v. PlacesStored s (wanted_words s v) 0 before before) (sym e) (none_wanted s before)

-- ---- the words that name columns: they have room in 80 places

pub names_placed : (s : List ℕ) (q : Question) {k r : ℕ} {before mid after ops : List ℕ} → length before ≡ 80 → PlacesStored s (wanted_words s q.wanted) k before mid
    → TestStored s q.test k r mid after ops → IsQuery s q → NamesPlaced s q r after ops
unfolding form_at selected_words
names_placed s q {k} {r} {before} {mid} {after} {ops} l b d h =
    let w : length (wanted_words s q.wanted) ≡ chosen_count q.wanted = wanted_count s q.wanted h.within.wanted in
    let v : length mid ≡ 80 = b.same ∙ l in
    let g : words_at s k mid ≡ wanted_words s q.wanted = b.named (omega (arith, w, h.few.columns, l)) in
    let f : length (words_at s k mid) ≡ k = words_length s mid k (omega (arith, b.small, b.same)) in
    let z : k ≡ chosen_count q.wanted = sym f ∙ ap length g ∙ w in
    record {
      small = omega (arith, v, d.small (omega (arith, z, v, h.few.columns)));
      words = d.named h.within.test h.few.tests (omega (arith, z, v, h.few.columns, h.few.tests)) ∙ ap (λ (ws : List Word). ws ++ of_all (comparisons_in (condition_at s q.test))) g ∙ sym (named_words_are (form_at s q));
      tests = d.placed h.within.test h.few.tests;
    }
