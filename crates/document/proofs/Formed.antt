-- Every accepted document is formed: the purposes form one tree, each below an earlier one, and a conditional role has at most 64
-- comparisons. Assumes nothing.
use Prim.Native.Nat.{◌<◌, ◌≤◌, ℕ}
use borrow.Author.Tests.{ltb-false}
use lib.Dec.{leb, ltb}
use lib.ListN.{get_elem?, length, length-append, length-map}
use mathlib.Core.Bool.{false}
use mathlib.Core.List.{List, [], ◌++◌, ◌∷◌}
use mathlib.Core.Logic.{◌⊎◌, inl, inr, ⊎_elim}
use mathlib.Core.Option.{Option, get_or, none-ne-some, bind, none, some}
use mathlib.Core.Path.{◌∙◌, ◌≡◌, ap, refl, subst, sym}
use native.Mathlib.Omega.{arith}
use Rattle.condition.proofs.CondLaws.{comparisons_map}
use Rattle.condition.specs.Cond.{Cond, comparisons, map_cond}
use Rattle.condition.specs.CondForm.{Compared}
use Rattle.document.proofs.Accepting.{check_accepted, last_accepted, line_accepted, more_accepted}
use Rattle.document.specs.Bounds.{over_bound, second_root}
use Rattle.document.specs.Check.{Accepted, check, check_from, check_line}
use Rattle.document.specs.Computing.{computing}
use Rattle.document.specs.Invariants.{Formed}
use Rattle.document.specs.Lookup.{purpose_of}
use Rattle.document.specs.Meaning.{add, attribute_comparison, define, node_of}
use Rattle.document.specs.NameFaults.{unknown}
use Rattle.document.specs.Policy.{CondRole, Doc, Node, Policy, empty_doc, tree_of}
use Rattle.form.specs.Form.{Form, attr, cond_role, grant, label, note, purpose, role, row, table, user}
use Rattle.lists.proofs.ListLaws.{all_here, find_index_found, get_elem?_grown, map_append, there_some}
use Rattle.lists.proofs.Tests.{neither_right}
use Rattle.lists.specs.Lists.{listed, or_zero, there}
use Rattle.purpose.proofs.Growing.{grown_child}
use Rattle.purpose.specs.Compliance.{Grown}
use Rattle.text.proofs.OffendingLaws.{missing_none}
use Rattle.text.specs.Refusal.{accepted}
use Rattle.text.specs.Words.{Word}

-- ---- one more purpose

-- it is the first and its own parent, or its parent is one of those before it
abbrev Hung : List Node → Node → Type 0
Hung ns x = ((length ns ≡ 0) × (x.parent ≡ 0)) ⊎ (x.parent < length ns)

-- a parent that is known
parent_known : (d : Policy) (n w : Word) → unknown d (purpose n (some w)) ≡ none → purpose_of d w ≡ some (or_zero (purpose_of d w))
unfolding unknown listed
parent_known d n w k =
    there_some (purpose_of d w) (all_here (λ v. there (purpose_of d v)) (w ∷ []) (missing_none (λ v. there (purpose_of d v)) (w ∷ []) k) 0 w refl)

purpose_before : (d : Policy) (w : Word) (q : ℕ) → purpose_of d w ≡ some q → q < length d.purposes
unfolding purpose_of
purpose_before d w q e = (find_index_found _ d.purposes q e).1

-- that is so of a purpose line that is not refused
hung : (d : Policy) (n : Word) (p : Option Word) → unknown d (purpose n p) ≡ none → second_root d (purpose n p) ≡ false → Hung d.purposes (node_of (purpose_of d) d.purposes n p)
unfolding second_root there node_of bind
hung d n none k s = let l : length d.purposes ≤ 0 = ltb-false 0 (length d.purposes) s in inl (omega arith, omega arith)
hung d n (some w) k s =
    let e = parent_known d n w k in
    inr (subst (λ (o : Option ℕ). get_or o (length d.purposes) < length d.purposes) (sym e) (purpose_before d w (or_zero (purpose_of d w)) e))

grown_more : (ns : List Node) (x : Node) → Grown (tree_of ns) → Hung ns x → Grown (tree_of (ns ++ (x ∷ [])))
unfolding tree_of
grown_more ns x g h =
    subst (λ (t : List ℕ). Grown t) (sym (map_append (λ n. n.parent) ns (x ∷ [])))
    (⊎_elim
    (λ e p pos l. absurd (omega (arith, pos, e.0, simp (length-append, length-map) at l)))
    (λ l. grown_child (tree_of ns) x.parent (rw length-map l) g)
    h)

rooted_more : (ns : List Node) (x : Node) → ((n : Node) → get_elem? ns 0 ≡ some n → n.parent ≡ 0) → Hung ns x → (n : Node) → get_elem? (ns ++ (x ∷ [])) 0 ≡ some n → n.parent ≡ 0
rooted_more ns x r h n e =
    ⊎_elim (λ old. r n old)
    (λ new. subst (λ (y : Node). y.parent ≡ 0) new.1 (⊎_elim (λ z. z.1) (λ l. absurd (omega (arith, l, new.0))) h))
    (get_elem?_grown ns x 0 n e)

-- ---- one more conditional role

short_more : (d : Policy) (rs : List CondRole) (x : CondRole) (t : Cond Compared) → x.condition ≡ map_cond (attribute_comparison d) t → length (comparisons t) ≤ 64
    → ((i : ℕ) (r : CondRole) → get_elem? rs i ≡ some r → length (comparisons r.condition) ≤ 64)
    → (i : ℕ) (r : CondRole) → get_elem? (rs ++ (x ∷ [])) i ≡ some r → length (comparisons r.condition) ≤ 64
short_more d rs x t is l s i r e =
    ⊎_elim (λ old. s i r old)
    (λ new. subst (λ (y : CondRole). length (comparisons y.condition) ≤ 64) new.1
    (subst (λ (c : ℕ). c ≤ 64) (sym (ap (λ c. length (comparisons c)) is ∙ ap length (comparisons_map (attribute_comparison d) t) ∙ length-map (comparisons t) (attribute_comparison d))) l))
    (get_elem?_grown rs x i r e)

-- ---- lines

-- a form that keeps the bounds, uses no name that is unknown and is no second root
formed_form : (d : Doc) (f : Form) → Formed d.policy → over_bound d f ≡ false → unknown d.policy f ≡ none → second_root d.policy f ≡ false → Formed (define d.policy f)
unfolding define over_bound
formed_form d (purpose n p) m b k s = let h = hung d.policy n p k s in record { grown = grown_more d.policy.purposes _ m.grown h; short = m.short; rooted = rooted_more d.policy.purposes _ m.rooted h }
formed_form d (role n p) m b k s = record { grown = m.grown; short = m.short; rooted = m.rooted }
formed_form d (attr r a x) m b k s = record { grown = m.grown; short = m.short; rooted = m.rooted }
formed_form d (user u r gs) m b k s = record { grown = m.grown; short = m.short; rooted = m.rooted }
formed_form d (cond_role c r t) m b k s = record { grown = m.grown; short = short_more d.policy d.policy.cond_roles _ t refl (ltb-false 64 (length (comparisons t)) (neither_right (leb 64 (length d.policy.cond_roles)) (ltb 64 (length (comparisons t))) b)) m.short; rooted = m.rooted }
formed_form d (grant p c) m b k s = record { grown = m.grown; short = m.short; rooted = m.rooted }
formed_form d (label l ps qs) m b k s = record { grown = m.grown; short = m.short; rooted = m.rooted }
formed_form d (table n x cs) m b k s = record { grown = m.grown; short = m.short; rooted = m.rooted }
formed_form d (row t is) m b k s = m
formed_form d (note t x) m b k s = record { grown = m.grown; short = m.short; rooted = m.rooted }

-- before any line
pub formed_empty : Formed empty_doc.policy
unfolding computing
formed_empty = record { grown = λ p pos l. absurd (omega (arith, l)); short = λ i r e. absurd (none-ne-some _ e); rooted = λ n e. absurd (none-ne-some _ e) }

-- an accepted line keeps it so
pub formed_line : (d : Doc) (line : List ℕ) (e : Doc) → Formed d.policy → check_line d line ≡ accepted e → Formed e.policy
formed_line d line e m h =
    let x = line_accepted d line e h in
    subst (λ (y : Doc). Formed y.policy) (sym x.added) (unfold add in formed_form d x.form m x.bounded x.knows x.single)

-- so do all the lines that are accepted after each other
pub formed_from : (ps : List (List ℕ)) (d : Doc) (n at : ℕ) (p : List ℕ) (A : Accepted) → Formed d.policy → check_from d n at p ps ≡ accepted A → Formed A.doc.policy
formed_from [] d n at p A m h = subst (λ (y : Doc). Formed y.policy) (sym (last_accepted d n at p A h)) m
formed_from (p' ∷ ps) d n at p A m h =
    let x = more_accepted d n at p p' ps A h in
    formed_from ps x.0 _ _ p' A (formed_line d p x.0 m x.1) x.2

-- an accepted document is so formed
pub formed : (text : List ℕ) (A : Accepted) → check text ≡ accepted A → Formed A.doc.policy
formed text A h = formed_from _ empty_doc 0 0 _ A formed_empty (check_accepted text A h).1
