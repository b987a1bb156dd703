-- The denied purposes of a label, as its line wrote them (02, Q-7): each name is that of the purpose denied at its place. Assumes nothing.
use Prim.Native.Nat.{suc, zero, ℕ}
use lib.ListN.{get_or, get_elem?, length-map}
use mathlib.Core.Bool.{Bool, true}
use mathlib.Core.List.{List, [], ◌++◌, ◌∷◌, map}
use mathlib.Core.Logic.{⊎_elim}
use mathlib.Core.Option.{Option, none-ne-some, some-injective, none, some}
use mathlib.Core.Path.{◌∙◌, ◌≡◌, ap, refl, subst, sym}
use Rattle.document.proofs.Accepting.{check_accepted, last_accepted, line_accepted, more_accepted}
use Rattle.document.specs.Check.{Accepted, check, check_from, check_line}
use Rattle.document.specs.Computing.{computing}
use Rattle.document.specs.Invariants.{Denials, DeniesNamed}
use Rattle.document.specs.Lookup.{purpose_of}
use Rattle.document.specs.Meaning.{add, define, marks_of}
use Rattle.document.specs.NameFaults.{unknown}
use Rattle.document.specs.Policy.{Doc, Label, Policy, empty_doc}
use Rattle.form.specs.Form.{Form, attr, cond_role, grant, label, note, purpose, role, row, table, user}
use Rattle.lists.proofs.ListLaws.{all_here, find_index_from_append, get_elem?_grown, get_elem?_map, map_inv, there_some}
use Rattle.lists.proofs.Tests.{and_right}
use Rattle.lists.specs.Lists.{all_of, find_index, or_zero, there}
use Rattle.text.proofs.OffendingLaws.{missing_none}
use Rattle.text.specs.Names.{Name}
use Rattle.text.specs.Refusal.{accepted}
use Rattle.text.specs.Words.{Word, is_called, plain_word}

-- ---- one more label

name_there : (ws : List Word) (j : ℕ) (w : Word) → get_elem? ws j ≡ some w → get_or (map (λ (v : Word). v.bytes) ws) j [] ≡ w.bytes
name_there [] j w e = absurd (none-ne-some _ e)
name_there (v ∷ ws) zero w e = ap (λ (x : Word). x.bytes) (some-injective _ _ e)
name_there (v ∷ ws) (suc j) w e = name_there ws j w e

all_behind : (f : Word → Bool) (ps qs : List Word) → all_of f (ps ++ qs) ≡ true → all_of f qs ≡ true
unfolding all_of
all_behind f [] qs h = h
all_behind f (p ∷ ps) qs h = all_behind f ps qs (and_right (f p) _ h)

new_named : (d : Policy) (l : Word) (ps qs : List Word) → unknown d (label l ps qs) ≡ none
    → (j n : ℕ) → get_elem? (marks_of d ps qs).denied j ≡ some n → purpose_of d (plain_word (get_or (map (λ (v : Word). v.bytes) qs) j [])) ≡ some n
unfolding unknown marks_of purpose_of is_called plain_word
new_named d l ps qs k j n e =
    let i = map_inv (λ w. or_zero (purpose_of d w)) (get_elem? qs j) n (sym (get_elem?_map (λ w. or_zero (purpose_of d w)) qs j) ∙ e) in
    let known = all_here (λ w. there (purpose_of d w)) qs (all_behind (λ w. there (purpose_of d w)) ps qs (missing_none _ (ps ++ qs) k)) j i.0 i.1 in
    ap (λ (bs : List ℕ). purpose_of d (plain_word bs)) (name_there qs j i.0 i.1) ∙ there_some (purpose_of d i.0) known ∙ ap some (sym i.2)

new_denies : (d : Policy) (l : Word) (ps qs : List Word) → unknown d (label l ps qs) ≡ none → DeniesNamed d (record { name = l.bytes; marks = marks_of d ps qs; denied_names = map (λ (v : Word). v.bytes) qs })
unfolding marks_of
new_denies d l ps qs k = record { as_many = length-map qs (λ (v : Word). v.bytes) ∙ sym (length-map qs (λ w. or_zero (purpose_of d w))); named = new_named d l ps qs k }

-- purposes that keep their numbers
renamed : (d e : Policy) (l : Label) → ((w : Word) (n : ℕ) → purpose_of d w ≡ some n → purpose_of e w ≡ some n) → DeniesNamed d l → DeniesNamed e l
renamed d e l same h = record { as_many = h.as_many; named = λ j n x. same _ n (h.named j n x) }

-- ---- lines

denials_form : (d : Policy) (f : Form) → Denials d → unknown d f ≡ none → Denials (define d f)
unfolding define purpose_of find_index
denials_form d (purpose n p) h k = record { each = λ i l e. renamed d _ l (λ w m x. find_index_from_append 0 _ d.purposes _ m x) (h.each i l e) }
denials_form d (role n p) h k = record { each = λ i l e. renamed d _ l (λ w m x. x) (h.each i l e) }
denials_form d (attr r a x) h k = record { each = λ i l e. renamed d _ l (λ w m x. x) (h.each i l e) }
denials_form d (user u r gs) h k = record { each = λ i l e. renamed d _ l (λ w m x. x) (h.each i l e) }
denials_form d (cond_role c r t) h k = record { each = λ i l e. renamed d _ l (λ w m x. x) (h.each i l e) }
denials_form d (grant p c) h k = record { each = λ i l e. renamed d _ l (λ w m x. x) (h.each i l e) }
denials_form d (label l ps qs) h k = record {
  each = λ i x e. renamed d _ x (λ w m y. y) (⊎_elim (λ o. h.each i x o) (λ o. subst (λ (y : Label). DeniesNamed d y) o.1 (new_denies d l ps qs k)) (get_elem?_grown d.labels _ i x e));
}
denials_form d (table t s cs) h k = record { each = λ i l e. renamed d _ l (λ w m x. x) (h.each i l e) }
denials_form d (row t is) h k = h
denials_form d (note t n) h k = record { each = λ i l e. renamed d _ l (λ w m x. x) (h.each i l e) }

denials_empty : Denials empty_doc.policy
unfolding computing
denials_empty = record { each = λ i l e. absurd (none-ne-some _ e) }

denials_line : (d : Doc) (line : List ℕ) (e : Doc) → Denials d.policy → check_line d line ≡ accepted e → Denials e.policy
denials_line d line e h x =
    let a = line_accepted d line e x in
    subst (λ (y : Doc). Denials y.policy) (sym a.added) (unfold add in denials_form d.policy a.form h a.knows)

denials_from : (ps : List (List ℕ)) (d : Doc) (n at : ℕ) (p : List ℕ) (A : Accepted) → Denials d.policy → check_from d n at p ps ≡ accepted A → Denials A.doc.policy
denials_from [] d n at p A h e = subst (λ (y : Doc). Denials y.policy) (sym (last_accepted d n at p A e)) h
denials_from (p' ∷ ps) d n at p A h e =
    let x = more_accepted d n at p p' ps A e in
    denials_from ps x.0 _ _ p' A (denials_line d p x.0 h x.1) x.2

-- in every accepted document
pub denials : (text : List ℕ) (A : Accepted) → check text ≡ accepted A → Denials A.doc.policy
denials text A h = denials_from _ empty_doc 0 0 _ A denials_empty (check_accepted text A h).1
