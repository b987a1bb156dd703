-- The line of a reason has at most 39 bytes, whatever the document and the line: so the buffer that is lent for it has. Assumes nothing.
use Prim.Native.Nat.{◌+◌, ◌≤◌, suc, zero, ℕ}
use lib.ListN.{get_or, get_elem?, length, length-append}
use mathlib.Core.Bool.{Bool, ◌&&◌, false, true}
use mathlib.Core.List.{List, [], ◌++◌, ◌∷◌, map}
use mathlib.Core.Logic.{⊎_elim}
use mathlib.Core.Option
use mathlib.Core.Option.{Option, none-ne-some, bind, none, some}
use mathlib.Core.Path.{◌∙◌, ◌≡◌, ap, refl, subst, sym}
use native.Mathlib.Omega.{arith}
use Rattle.answer.proofs.WhyLaws.{why_explained}
use Rattle.answer.specs.Why.{Reason, allows_none, cell_reason, denies, label_reason, opened, reason_at, reason_by, reason_text, unlabelled_table, why}
use Rattle.document.proofs.Accepting.{check_accepted, last_accepted, line_accepted, more_accepted}
use Rattle.document.specs.Check.{Accepted, check, check_from, check_line}
use Rattle.document.specs.Computing.{computing}
use Rattle.document.specs.Meaning.{add, define}
use Rattle.document.specs.Policy.{Doc, Label, Policy, empty_doc, tree_of}
use Rattle.form.specs.Form.{Form, Scheme, attr, by_cell, by_column, by_row, by_table, cond_role, grant, label, nested, note, purpose, role, row, table, unlabelled, user}
use Rattle.lists.proofs.ListLaws.{get_elem?_grown}
use Rattle.lists.proofs.Tests.{and_left, and_right}
use Rattle.lists.specs.Lists.{all_of}
use Rattle.telling.proofs.BriefForms.{Brief, are_names, brief_form, name_short}
use Rattle.text.specs.Bytes.{ascii}
use Rattle.text.specs.Names.{Name, is_name}
use Rattle.text.specs.Refusal.{accepted}
use Rattle.text.specs.Words.{Word}

-- ---- the denied names of every label are names

record AllBrief (d : Policy) : Type 0 where
  each : (i : ℕ) (l : Label) → get_elem? d.labels i ≡ some l → all_of is_name l.denied_names ≡ true

all_bytes : (ws : List Word) → are_names ws → all_of is_name (map (λ (w : Word). w.bytes) ws) ≡ true
unfolding all_of
all_bytes [] h = refl
all_bytes (w ∷ ws) h = (λ i. and_left (is_name w.bytes) _ h i && all_bytes ws (and_right (is_name w.bytes) _ h) i)

brief_define : (d : Policy) (f : Form) → AllBrief d → Brief f → AllBrief (define d f)
unfolding define Brief
brief_define d (purpose n p) h k = record { each = h.each }
brief_define d (role n p) h k = record { each = h.each }
brief_define d (attr r a x) h k = record { each = h.each }
brief_define d (user u r gs) h k = record { each = h.each }
brief_define d (cond_role c r t) h k = record { each = h.each }
brief_define d (grant p c) h k = record { each = h.each }
brief_define d (label l ps qs) h k = record {
  each = λ i x e. ⊎_elim (λ o. h.each i x o) (λ o. subst (λ (y : Label). all_of is_name y.denied_names ≡ true) o.1 (all_bytes qs k)) (get_elem?_grown d.labels _ i x e);
}
brief_define d (table t s cs) h k = record { each = h.each }
brief_define d (row t is) h k = h
brief_define d (note t n) h k = record { each = h.each }

brief_empty : AllBrief empty_doc.policy
unfolding computing
brief_empty = record { each = λ i l e. absurd (none-ne-some _ e) }

brief_line : (d : Doc) (line : List ℕ) (e : Doc) → AllBrief d.policy → check_line d line ≡ accepted e → AllBrief e.policy
brief_line d line e h x =
    let a = line_accepted d line e x in
    subst (λ (y : Doc). AllBrief y.policy) (sym a.added) (unfold add in brief_define d.policy a.form h (brief_form line a.form a.is))

brief_from : (ps : List (List ℕ)) (d : Doc) (n at : ℕ) (p : List ℕ) (A : Accepted) → AllBrief d.policy → check_from d n at p ps ≡ accepted A → AllBrief A.doc.policy
brief_from [] d n at p A h e = subst (λ (y : Doc). AllBrief y.policy) (sym (last_accepted d n at p A e)) h
brief_from (p' ∷ ps) d n at p A h e =
    let x = more_accepted d n at p p' ps A e in
    brief_from ps x.0 _ _ p' A (brief_line d p x.0 h x.1) x.2

all_brief : (text : List ℕ) (A : Accepted) → check text ≡ accepted A → AllBrief A.doc.policy
all_brief text A h = brief_from _ empty_doc 0 0 _ A brief_empty (check_accepted text A h).1

-- ---- the line of a reason

-- the line fits
abbrev pub Fits : Reason → Type 0
Fits e = length (reason_text e) ≤ 39

get_or_short : (names : List Name) (i : ℕ) → all_of is_name names ≡ true → length (get_or names i []) ≤ 24
unfolding all_of
get_or_short [] i h = omega arith
get_or_short (n ∷ names) zero h = name_short n (and_left (is_name n) _ h)
get_or_short (n ∷ names) (suc i) h = get_or_short names i (and_right (is_name n) _ h)

fits_denied : (n : Name) → length n ≤ 24 → Fits (denies n)
unfolding reason_text
fits_denied n h =
    let a = length-append (ascii "(closed deny " ++ n) (ascii ")\n") in
    let b = length-append (ascii "(closed deny ") n in
    omega (arith, a, b, h)

fits_opened : Fits opened
unfolding reason_text
fits_opened = omega arith

fits_allow : Fits allows_none
unfolding reason_text
fits_allow = omega arith

fits_none : Fits unlabelled_table
unfolding reason_text
fits_none = omega arith

fits_by : (names : List Name) → all_of is_name names ≡ true → (o : Option ℕ) (allows : Bool) → Fits (reason_by names o allows)
unfolding reason_by
fits_by names h (some i) allows = fits_denied (get_or names i []) (get_or_short names i h)
fits_by names h none true = fits_opened
fits_by names h none false = fits_allow

module _ (d : Policy) (p : ℕ) (h : AllBrief d) where
  fits_at : (o : Option ℕ) → Fits (reason_at d p o)
  unfolding reason_at bind
  fits_at none = fits_allow
  fits_at (some l) = go (get_elem? d.labels l) refl
    where
      go : (x : Option Label) → get_elem? d.labels l ≡ x → Fits (Option.get_or (Option.map (label_reason (tree_of d.purposes) p) x) allows_none)
      go none e = fits_allow
      go (some y) e = unfold label_reason in fits_by y.denied_names (h.each l y e) _ _

  fits_cell : (s : Scheme ℕ) (labels : List ℕ) (c : ℕ) → Fits (cell_reason d p s labels c)
  unfolding cell_reason
  fits_cell (unlabelled true) labels c = fits_opened
  fits_cell (unlabelled false) labels c = fits_none
  fits_cell (by_table l) labels c = fits_at (some l)
  fits_cell (by_column ls) labels c = fits_at (get_elem? ls c)
  fits_cell by_row labels c = fits_at (get_elem? labels 0)
  fits_cell by_cell labels c = fits_at (get_elem? labels c)
  fits_cell (nested w s) labels c = fits_allow

-- THE LINE FITS: whatever is found for a line, what is printed for it has at most 39 bytes.
pub why_short : (doc line : List ℕ) (e : Reason) → why doc line ≡ accepted e → length (reason_text e) ≤ 39
why_short doc line e h =
    let x = why_explained doc line e h in
    subst Fits (sym x.reason) (fits_cell _ _ (all_brief doc x.checked x.accepts) _ _ _)
