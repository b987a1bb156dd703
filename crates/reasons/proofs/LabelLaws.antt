-- What a label says of a purpose, by the names that its line wrote and by its verdict. Assumes nothing.
use Prim.Native.Nat.{◌+◌, ◌<◌, ◌≤◌, suc, zero, ℕ}
use lib.ListN.{get_or, get_elem?, length, length-map}
use mathlib.Core.Bool.{Bool, ◌&&◌, cond, false, not, true}
use mathlib.Core.List.{List, [], ◌∷◌, map}
use mathlib.Core.Option
use mathlib.Core.Option.{Option, bind, none, some}
use mathlib.Core.Path.{◌∙◌, ◌≡◌, ap, refl, sym}
use native.Mathlib.Omega.{arith}
use Rattle.answer.specs.Why.{Reason, allows_none, denies, label_reason, opened, reason_at, reason_by}
use Rattle.document.specs.Invariants.{Denials}
use Rattle.document.specs.Lookup.{purpose_of}
use Rattle.document.specs.Open.{marks_at}
use Rattle.document.specs.Policy.{Label, Policy, tree_of}
use Rattle.form.specs.Walks.{deny_place, names_at}
use Rattle.lists.specs.Lists.{any_of, find_index, find_index_from, holds_of}
use Rattle.purpose.specs.Compliance.{descends, in_tree, related}
use Rattle.purpose.specs.Verdicts.{verdict}
use Rattle.reasons.proofs.NearLaws.{is_far}
use Rattle.reasons.specs.Explaining.{is_near}
use Rattle.relations.proofs.LabelLaws.{element_none, label_there, labels_long}
use Rattle.relations.specs.Labels.{Labels, denied_at}
use Rattle.text.proofs.OffendingLaws.{missing_here, missing_next, missing_nil}
use Rattle.text.specs.Names.{Name}
use Rattle.text.specs.Offending.{missing}
use Rattle.text.specs.Words.{Word, is_called, plain_word}
use Rattle.workspace.proofs.TabulatedLaws.{find_index_from_shift}

-- the reason, by the first denied name that is near, and by whether an allowed purpose is an ancestor
unfoldable pub reason_from : Option Word → Bool → Reason
reason_from (some w) allows = denies w.bytes
reason_from none allows = cond allows opened allows_none

-- ---- names and numbers, one beside the other

unnamed : (names : List Name) (allows : Bool) → reason_by names none allows ≡ reason_from none allows
unfolding reason_by reason_from
unnamed names true = refl
unnamed names false = refl

-- a name in front moves every place by one
reason_behind : (n : Name) (names : List Name) (o : Option ℕ) (allows : Bool) → reason_by (n ∷ names) (Option.map (λ j. 1 + j) o) allows ≡ reason_by names o allows
unfolding reason_by
reason_behind n names none true = refl
reason_behind n names none false = refl
reason_behind n names (some i) allows = let e : 1 + i ≡ suc i = omega arith in ap (λ (k : ℕ). denies (get_or (n ∷ names) k [])) e

module _ (d : Policy) (f : ℕ → Bool) (allows : Bool) where
  -- the word's purpose passes the test
  abbrev passes : Word → Bool
  passes w = holds_of f (purpose_of d w)

  named_first : (ws : List Word) (ns : List ℕ) → length ws ≡ length ns → ((j n : ℕ) → get_elem? ns j ≡ some n → purpose_of d (plain_word (get_or (map (λ (w : Word). w.bytes) ws) j [])) ≡ some n)
      → reason_by (map (λ (w : Word). w.bytes) ws) (find_index_from 0 f ns) allows ≡ reason_from (missing (λ w. not (passes w)) ws) allows
  unfolding find_index_from
  named_first [] [] e h = unnamed [] allows ∙ ap (λ (o : Option Word). reason_from o allows) (sym (missing_nil (λ w. not (passes w))))
  named_first [] (n ∷ ns) e h = absurd (omega (arith, e))
  named_first (w ∷ ws) [] e h = absurd (omega (arith, e))
  named_first (w ∷ ws) (n ∷ ns) e h = go (f n) refl (named_first ws ns (omega (arith, e)) (λ j m z. h (suc j) m z))
    where
      known : purpose_of d w ≡ some n
      known = unfold purpose_of is_called plain_word in h 0 n refl

      tested : passes w ≡ f n
      tested = unfold holds_of in ap (holds_of f) known

      go : (b : Bool) → f n ≡ b → reason_by (map (λ (x : Word). x.bytes) ws) (find_index_from 0 f ns) allows ≡ reason_from (missing (λ x. not (passes x)) ws) allows
          → reason_by (w.bytes ∷ map (λ (x : Word). x.bytes) ws) (cond b (some 0) (find_index_from 1 f ns)) allows ≡ reason_from (missing (λ x. not (passes x)) (w ∷ ws)) allows
      go true t rest = unfold reason_by in (sym (unfold reason_from in ap (λ (o : Option Word). reason_from o allows) (missing_here (λ x. not (passes x)) w ws (ap not (tested ∙ t)))))
      go false t rest =
          ap (λ (o : Option ℕ). reason_by (w.bytes ∷ map (λ (x : Word). x.bytes) ws) o allows) (find_index_from_shift f 1 0 ns)
          ∙ reason_behind w.bytes (map (λ (x : Word). x.bytes) ws) (find_index_from 0 f ns) allows
          ∙ rest
          ∙ ap (λ (o : Option Word). reason_from o allows) (sym (missing_next (λ x. not (passes x)) w ws (ap not (tested ∙ t))))

-- ---- a label

module _ (text ls ms : List ℕ) (k : ℕ) (d : Policy) (p : ℕ) (h : Labels text ls ms k d.labels) where
  -- a label that is not there allows none
  pub label_absent : (l : ℕ) → k ≤ l → reason_at d p (some l) ≡ allows_none
  unfolding reason_at bind
  label_absent l m = ap (λ (o : Option Label). Option.get_or (Option.map (label_reason (tree_of d.purposes) p) o) allows_none) (element_none d.labels l (omega (arith, m, labels_long text ls ms k d.labels h)))

  -- one that is there says what its names and its verdict say
  pub label_says : Denials d → in_tree (tree_of d.purposes) p ≡ true → (l : ℕ) → l < k
      → reason_at d p (some l) ≡ reason_from (missing (is_far d p) (names_at text (deny_place text (get_or ls l 0)))) (verdict (tree_of d.purposes) (marks_at d (some l)) p).allowed
  unfolding reason_at bind label_reason find_index verdict is_near denied_at
  label_says named inside l m =
      let x = label_there text ls ms k d h p l m in
      let tree : List ℕ = tree_of d.purposes in
      let ws : List Word = names_at text (deny_place text (get_or ls l 0)) in
      let written : x.0.denied_names ≡ map (λ (w : Word). w.bytes) ws = h.written l x.0 x.1 in
      let each = named.each l x.0 x.1 in
      let many : length ws ≡ length x.0.marks.denied = sym (length-map ws (λ (w : Word). w.bytes)) ∙ ap length (sym written) ∙ each.as_many in
      ap (λ (o : Option Label). Option.get_or (Option.map (label_reason tree p) o) allows_none) x.1
      ∙ ap (λ (names : List Name). reason_by names (find_index_from 0 (related tree p) x.0.marks.denied) (any_of (descends tree p) x.0.marks.allowed)) written
      ∙ named_first d (related tree p) (any_of (descends tree p) x.0.marks.allowed) ws x.0.marks.denied many
      (λ j n z. ap (λ (names : List Name). purpose_of d (plain_word (get_or names j []))) (sym written) ∙ each.named j n z)
      ∙ (λ i. reason_from (missing (λ w. not (holds_of (λ n. sym inside i && related tree p n) (purpose_of d w))) ws) (sym inside i && any_of (descends tree p) (sym x.2 i).allowed))
