-- What a policy knows it keeps, when lines are added. Assumes nothing.
use Prim.Native.Nat.{◌<◌, ℕ}
use lib.ListN.{get_elem?, length}
use mathlib.Core.Bool.{false, true}
use mathlib.Core.List.{List, [], ◌∷◌}
use mathlib.Core.Option.{Option, get_or, map, none, some}
use mathlib.Core.Path.{◌∙◌, ◌≡◌, ap, refl, subst, sym}
use Rattle.document.proofs.Accepting.{last_accepted, line_accepted, more_accepted}
use Rattle.document.specs.Check.{Accepted, check_from, check_line}
use Rattle.document.specs.Lookup.{label_of, scheme_at, scheme_of, table_of}
use Rattle.document.specs.Meaning.{add, define}
use Rattle.document.specs.Policy.{Doc, Policy, Table}
use Rattle.form.specs.Form.{Form, attr, cond_role, grant, label, note, purpose, role, row, table, unlabelled, user}
use Rattle.lists.proofs.ListLaws.{find_index_found, find_index_from_append, get_elem?_append, there_some}
use Rattle.lists.proofs.Tests.{true_not_false}
use Rattle.lists.specs.Lists.{find_index, holds_of, or_zero, there}
use Rattle.text.specs.Refusal.{accepted}
use Rattle.text.specs.Words.{Word, is_called}

pub record Kept (d e : Policy) : Type 0 where
  pub tables : (w : Word) (n : ℕ) → table_of d w ≡ some n → table_of e w ≡ some n
  pub table : (n : ℕ) (t : Table) → get_elem? d.tables n ≡ some t → get_elem? e.tables n ≡ some t
  pub labels : (w : Word) (n : ℕ) → label_of d w ≡ some n → label_of e w ≡ some n

kept_trans : {d e f : Policy} → Kept d e → Kept e f → Kept d f
kept_trans a b = record {
  tables = λ w n h. b.tables w n (a.tables w n h);
  table = λ n t h. b.table n t (a.table n t h);
  labels = λ w n h. b.labels w n (a.labels w n h);
}

kept_refl : (d : Policy) → Kept d d
kept_refl d = record { tables = λ w n h. h; table = λ n t h. h; labels = λ w n h. h }

kept_define : (d : Policy) (f : Form) → Kept d (define d f)
unfolding define table_of label_of find_index
kept_define d (purpose n p) = record { tables = λ w n h. h; table = λ n t h. h; labels = λ w n h. h }
kept_define d (role n p) = record { tables = λ w n h. h; table = λ n t h. h; labels = λ w n h. h }
kept_define d (attr r a k) = record { tables = λ w n h. h; table = λ n t h. h; labels = λ w n h. h }
kept_define d (user u r gs) = record { tables = λ w n h. h; table = λ n t h. h; labels = λ w n h. h }
kept_define d (cond_role c r t) = record { tables = λ w n h. h; table = λ n t h. h; labels = λ w n h. h }
kept_define d (grant p c) = record { tables = λ w n h. h; table = λ n t h. h; labels = λ w n h. h }
kept_define d (label l ps qs) = record { tables = λ w n h. h; table = λ n t h. h; labels = λ w n h. find_index_from_append 0 _ d.labels _ n h }
kept_define d (table t s cs) = record {
  tables = λ w n h. find_index_from_append 0 _ d.tables _ n h;
  table = λ n t h. get_elem?_append d.tables _ n t h;
  labels = λ w n h. h;
}
kept_define d (row t is) = kept_refl d
kept_define d (note t x) = record { tables = λ w n h. h; table = λ n t h. h; labels = λ w n h. h }

kept_line : (d : Doc) (line : List ℕ) (e : Doc) → check_line d line ≡ accepted e → Kept d.policy e.policy
kept_line d line e h =
    let x = line_accepted d line e h in
    subst (λ (p : Doc). Kept d.policy p.policy) (sym x.added) (unfold add in kept_define d.policy x.form)

pub kept_from : (ps : List (List ℕ)) (d : Doc) (n at : ℕ) (p : List ℕ) (A : Accepted) → check_from d n at p ps ≡ accepted A → Kept d.policy A.doc.policy
kept_from [] d n at p A h = rw (last_accepted d n at p A h) (kept_refl d.policy)
kept_from (p' ∷ ps) d n at p A h =
    let x = more_accepted d n at p p' ps A h in
    kept_trans (kept_line d _ x.0 x.1) (kept_from ps x.0 _ _ p' A x.2)

-- ---- a name that is known is found in the table or label list

-- the table of a known name is there
pub table_there : (d : Policy) (w : Word) → there (table_of d w) ≡ true → or_zero (table_of d w) < length d.tables
unfolding table_of
table_there d w h = (find_index_found _ d.tables (or_zero (table_of d w)) (there_some (table_of d w) h)).1

pub kept_number : (o p : Option ℕ) → there o ≡ true → ((n : ℕ) → o ≡ some n → p ≡ some n) → or_zero o ≡ or_zero p
kept_number o p h k = ap or_zero (there_some o h ∙ sym (k (or_zero o) (there_some o h)))

-- a known table keeps its scheme
pub kept_scheme : (d e : Policy) → Kept d e → (w : Word) → there (table_of d w) ≡ true → scheme_of e w ≡ scheme_of d w
unfolding scheme_of scheme_at
kept_scheme d e k w h = go (get_elem? d.tables (or_zero (table_of d w))) refl
  where
    same : or_zero (table_of e w) ≡ or_zero (table_of d w)
    same = sym (kept_number (table_of d w) (table_of e w) h (k.tables w))

    is_there : holds_of (λ (x : Table). is_called w x.name) (get_elem? d.tables (or_zero (table_of d w))) ≡ true
    is_there = unfold table_of in (find_index_found _ d.tables (or_zero (table_of d w)) (there_some (table_of d w) h)).0

    go : (o : Option Table) → get_elem? d.tables (or_zero (table_of d w)) ≡ o
        → get_or (map (λ (x : Table). x.scheme) (get_elem? e.tables (or_zero (table_of e w)))) (unlabelled false)
        ≡ get_or (map (λ (x : Table). x.scheme) (get_elem? d.tables (or_zero (table_of d w)))) (unlabelled false)
    go none p = unfold holds_of in true_not_false is_there (ap (holds_of (λ (x : Table). is_called w x.name)) p)
    go (some t) p = rw (same, p, k.table _ t p)
