-- A set gathered from the names of a line, and the label that is stored with two of them. Assumes nothing.
use Prim.Native.Nat.{◌+◌, ◌<◌, ◌≤◌, ℕ}
use borrow.Author.Tests.{leb-false}
use lib.ListN.{get_or, length}
use mathlib.Core.List.{List, [], ◌++◌, ◌∷◌, append_assoc, append-nil, map}
use mathlib.Core.Path.{◌∙◌, ◌≡◌, ap, refl, subst, sym}
use native.Mathlib.Omega.{arith}
use Rattle.document.specs.Bounds.{over_bound}
use Rattle.document.specs.Lookup.{purpose_of}
use Rattle.document.specs.Meaning.{add, define, marks_of}
use Rattle.document.specs.Policy.{Doc, Label}
use Rattle.form.proofs.WalkSteps.{names_more, names_stop}
use Rattle.form.specs.Form.{label}
use Rattle.form.specs.Walks.{deny_place, names_at}
use Rattle.relations.proofs.LabelLaws.{holds_insert_behind, holds_none, labels_long}
use Rattle.workspace.specs.Found.{FoundBelow, found_as}
use Rattle.relations.specs.Labels.{Labels, SetHolds, denied_at, label_at}
use Rattle.std.specs.Prelude.{None, Option, Some}
use Rattle.lists.specs.Lists.{or_zero}
use Rattle.purpose.specs.Compliance.{Same}
use Rattle.purpose.specs.Members.{including, limit, members}
use Rattle.stepping.proofs.LabelPlaces.{denied_placed}
use Rattle.stepping.proofs.PassLaws.{passed}
use Rattle.stepping.proofs.PlaceLaws.{word_placed}
use Rattle.stepping.specs.Stored.{LineAt, Passes}
use Rattle.text.specs.Walking.{word_end_at}
use Rattle.text.specs.Words.{Word, word_at, word_of}

-- the words hold the numbers of the names that were passed, and those of the names from j on are left
pub record Gathered (f : Word → ℕ) (line : List ℕ) (at j : ℕ) (ws : List ℕ) : Type 0 where
  pub taken : List ℕ
  pub holds : SetHolds ws taken
  pub all : map f (names_at line at) ≡ taken ++ map f (names_at line j)

module _ (f : Word → ℕ) (line : List ℕ) (at : ℕ) where
  pub gathered_none : (ws : List ℕ) → Same (members ws) [] → Gathered f line at at ws
  gathered_none ws e = record { taken = []; holds = holds_none ws e; all = refl }

  pub gathered_more : (j : ℕ) (ws new : List ℕ) (p e : ℕ) → Gathered f line at j ws → get_or line j 0 ≡ 32 → p ≡ f (word_of line (j + 1)) → p < limit
      → Same (members new) (including p (members ws)) → e ≡ word_end_at line (j + 1) → Gathered f line at e new
  gathered_more j ws new p e g h q l s t = record {
    taken = g.taken ++ (p ∷ []);
    holds = holds_insert_behind ws new g.taken p l g.holds s;
    all =
        g.all
        ∙ ap (λ x. g.taken ++ map f x) (names_more line j h)
        ∙ (λ i. g.taken ++ (sym q i ∷ map f (names_at line (sym t i))))
        ∙ sym (append_assoc g.taken (p ∷ []) (map f (names_at line e)));
  }

  pub gathered_all : (j : ℕ) (ws : List ℕ) → Gathered f line at j ws → (get_or line j 0 ≡ 32 → ⊥) → SetHolds ws (map f (names_at line at))
  gathered_all j ws g h = subst (SetHolds ws) (sym (g.all ∙ ap (λ x. g.taken ++ map f x) (names_stop line j h) ∙ append-nil g.taken)) g.holds

-- a number that was found is one that a tree may have
pub found_small : (r : Option ℕ) (k : ℕ) → FoundBelow r k → k ≤ limit → or_zero (found_as r) < limit
unfolding or_zero
found_small None k b l = omega arith
found_small (Some n) k b l = omega (arith, b, l)

-- the label that is stored is what the line adds
pub label_stored : {text : List ℕ} {at : ℕ} {line : List ℕ} {ws ws' sets sets' : List ℕ} {k : ℕ} (l : LineAt text at line) (d : Doc) (n pos : ℕ) → n ≤ length line → (at + n ≤ length text → pos ≡ at + n)
    → (ps qs : List Word) → qs ≡ names_at line (deny_place line n) → Labels text ws sets k d.policy.labels → Passes d line (label (word_of line n) ps qs)
    → ((k < 64) → Labels text ws' sets' (k + 1) (d.policy.labels ++ (label_at text pos (map (λ w. or_zero (purpose_of d.policy w)) ps) (map (λ w. or_zero (purpose_of d.policy w)) qs) ∷ [])))
    → Labels text ws' sets' (k + 1) (add d (label (word_of line n) ps qs)).policy.labels
unfolding add define over_bound marks_of denied_at
label_stored {text} {at} {line} {ws} {ws'} {sets} {sets'} {k} l d n pos h e ps qs denies N ok more =
    let room : length d.policy.labels < 64 = leb-false 64 _ (passed d line (label (word_of line n) ps qs) ok).room in
    let written : denied_at text pos ≡ map (λ w. w.bytes) qs = denied_placed l n pos h e ∙ ap (map (λ (w : Word). w.bytes)) (sym denies) in
    let same : label_at text pos (map (λ w. or_zero (purpose_of d.policy w)) ps) (map (λ w. or_zero (purpose_of d.policy w)) qs) ≡ record { name = word_at line n; marks = marks_of d.policy ps qs; denied_names = map (λ w. w.bytes) qs }
    = λ i. record { name = word_placed l n pos h e i; marks = marks_of d.policy ps qs; denied_names = written i } in
    subst (λ (x : Label). Labels text ws' sets' (k + 1) (d.policy.labels ++ (x ∷ []))) same
    (more (subst (λ (m : ℕ). m < 64) (labels_long text ws sets k d.policy.labels N) room))
