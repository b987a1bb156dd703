-- The loop over a document's lines: what holds before each line, and what a line does to it. Assumes nothing.
use Prim.Native.Nat.{◌+◌, ◌-◌, ◌<◌, ◌≤◌, ℕ}
use borrow.Author.Count.{below_none}
use borrow.Author.Tests.{le-ltb, lt-ltb}
use lib.ListN.{drop, drop_of_length-le, length, length-drop}
use lib.Seq.{length-take-le}
use mathlib.Core.List.{List, [], ◌∷◌}
use mathlib.Core.Path.{◌∙◌, ◌≡◌, ap, ap₂, refl, subst, sym}
use native.Mathlib.Nat.{add-zero}
use native.Mathlib.Omega.{arith}
use Rattle.checker.specs.Loading.{HoldsDocument, Loads}
use Rattle.index.specs.Workspace.{Indexed}
use Rattle.relations.proofs.LabelLaws.{labels_start}
use Rattle.stepping.proofs.PlaceLaws.{line_at}
use Rattle.stepping.specs.Follows.{Grows}
use Rattle.document.proofs.UniqueNames.{unique_empty, unique_line}
use Rattle.document.specs.Check.{check, check_from, check_line}
use Rattle.document.specs.Invariants.{UniqueNames}
use Rattle.document.specs.Policy.{Doc, empty_doc, empty_policy}
use Rattle.principals.proofs.IndexLaws.{attributes_start, conds_start, nodes_start, users_start}
use Rattle.workspace.specs.Cells.{line_in}
use Rattle.workspace.specs.Tabulated.{tabulated}
use Rattle.lists.specs.Lists.{all_of}
use Rattle.purpose.specs.Members.{limit}
use Rattle.stepping.specs.Stored.{LineAt}
use Rattle.text.specs.Lines.{LineEnd, cut}
use Rattle.text.specs.Reasons.{refusal_of}
use Rattle.text.specs.Refusal.{Refusal, ◌>>=◌, ◌>>◌, accepted, document, moved, moved_by, pointing_all, pointing_nowhere, refuse_if, refused}
use Rattle.index.specs.declared.counts.Counts.{Counts}
use Rattle.std.specs.Prelude.{Err, Ok}
use Rattle.text.specs.declared.refusals.Refusal as code

-- the workspace holds the document of the n lines before the position, and the check of the text is the check from there on
pub record Going (text ps rs bs us cs gs ls ms ts ws : List ℕ) (c : Counts) (at n : ℕ) : Type 0 where
  pub doc : Doc
  pub held : Indexed text ps rs bs us cs gs ls ms ts ws c doc
  pub unique : UniqueNames doc.policy
  pub within : at ≤ length text
  pub few : n ≤ at
  pub rest : check_from empty_doc 0 0 (cut text).head (cut text).others ≡ check_from doc n at (cut (drop at text)).head (cut (drop at text)).others

-- before any line
pub begins : (text ps rs bs us cs gs ls ms ts ws : List ℕ)
    → Going text ps rs bs us cs gs ls ms ts ws (record { purposes = 0; roles = 0; attributes = 0; users = 0; conds = 0; grants = 0; labels = 0; tables = 0; rows = 0 }) 0 0
unfolding tabulated empty_doc empty_policy all_of
begins text ps rs bs us cs gs ls ms ts ws = record {
  doc = empty_doc;
  held = record {
    purposes = nodes_start limit text ps;
    roles = nodes_start 64 text rs;
    attributes = attributes_start text bs;
    users = users_start empty_policy text us;
    conds = conds_start empty_policy text cs;
    grants = record { few = omega arith; are = refl };
    labels = labels_start text ls ms;
    tables = record { few = omega arith; narrow = below_none _; are = refl };
    notes = record { known = refl; said = below_none _ };
    rows = record { few = omega arith; narrow = below_none _; marked = below_none _; are = refl };
  };
  unique = unique_empty;
  within = omega arith;
  few = omega arith;
  rest = refl;
}

-- ---- the check of the pieces, one at a time

module _ (d : Doc) (n at : ℕ) (piece : List ℕ) where
  more_fails : (p : List ℕ) (ps : List (List ℕ)) (x : Refusal) → check_line d piece ≡ refused x → check_from d n at piece (p ∷ ps) ≡ refused (moved at x)
  unfolding check_from moved_by ◌>>=◌
  more_fails p ps x h = rw (h, check_from)

  more_goes : (p : List ℕ) (ps : List (List ℕ)) (e : Doc) → check_line d piece ≡ accepted e → check_from d n at piece (p ∷ ps) ≡ check_from e (n + 1) (at + length piece + 1) p ps
  unfolding check_from moved_by ◌>>=◌
  more_goes p ps e h = rw (h, check_from)

  last_open : 0 < length piece → check_from d n at piece [] ≡ refused (moved at (pointing_all 2 document piece))
  unfolding check_from moved_by refuse_if ◌>>◌
  last_open h = rw (lt-ltb 0 (length piece) h, check_from)

last_none : (d : Doc) (n at : ℕ) → check_from d n at [] [] ≡ accepted (record { lines = n; doc = d })
unfolding check_from moved_by refuse_if ◌>>◌
last_none d n at = refl

-- ---- the line from a position to its end

module _ (text : List ℕ) (at e : ℕ) (l : LineEnd text at e) where
  -- it begins before it ends
  pub line_from : at ≤ e
  line_from = omega (arith, l.ends)

  pub line_length_lem : at ≤ length text → length (line_in text at e) ≡ e - at
  line_length_lem h = length-take-le (e - at) (drop at text) (omega (arith, l.within h, length-drop at text))

  -- a line with its line feed stands in the text as what is stored of it has to
  pub line_placed : e < length text → LineAt text at (line_in text at e)
  line_placed h = line_at text at e (omega (arith, h, line_from)) line_from l

  module _ (d : Doc) (n : ℕ) where
    -- it is refused
    pub turn_fails : e < length text → (x : Refusal) → check_line d (line_in text at e) ≡ refused x
        → check_from d n at (cut (drop at text)).head (cut (drop at text)).others ≡ refused (moved at x)
    turn_fails h x k = ap₂ (check_from d n at) l.line (l.behind h) ∙ more_fails d n at (line_in text at e) _ _ x k

    -- it is accepted
    pub turn_goes : e < length text → (f : Doc) → check_line d (line_in text at e) ≡ accepted f
        → check_from d n at (cut (drop at text)).head (cut (drop at text)).others ≡ check_from f (n + 1) (e + 1) (cut (drop (e + 1) text)).head (cut (drop (e + 1) text)).others
    turn_goes h f k =
        let q : at + length (line_in text at e) + 1 ≡ e + 1 = omega (arith, line_from, line_length_lem (omega (arith, line_from))) in
        ap₂ (check_from d n at) l.line (l.behind h) ∙ more_goes d n at (line_in text at e) _ _ f k
        ∙ ap (λ (m : ℕ). check_from f (n + 1) m (cut (drop (e + 1) text)).head (cut (drop (e + 1) text)).others) q

    -- it has no line feed
    pub turn_open : at < length text → length text ≤ e
        → check_from d n at (cut (drop at text)).head (cut (drop at text)).others ≡ refused (moved at (pointing_all 2 document (line_in text at e)))
    turn_open h k =
        ap₂ (check_from d n at) l.line (l.last k) ∙ last_open d n at (line_in text at e) (omega (arith, line_length_lem (omega arith)))

-- nothing is left
pub turn_none : (text : List ℕ) (at : ℕ) → length text ≤ at → (d : Doc) (n : ℕ)
    → check_from d n at (cut (drop at text)).head (cut (drop at text)).others ≡ accepted (record { lines = n; doc = d })
turn_none text at h d n =
    ap (λ (s : List ℕ). check_from d n at (cut s).head (cut s).others) (drop_of_length-le text h) ∙ (unfold cut in last_none d n at)

-- ---- answers

-- a refusal of the whole line
pub whole_moved : (at n : ℕ) (line : List ℕ) → moved at (pointing_all n document line) ≡ record { number = n; source = document; start = at; len = length line }
unfolding moved pointing_all
whole_moved at n line = ap {B = Refusal} (λ k. record { number = n; source = document; start = k; len = length line }) (add-zero at)

-- of one without a line feed
pub open_moved : (text : List ℕ) (at e : ℕ) → LineEnd text at e → at ≤ length text → record { number = 2; source = document; start = at; len = e - at } ≡ moved at (pointing_all 2 document (line_in text at e))
open_moved text at e l h =
    sym (whole_moved at 2 (line_in text at e) ∙ ap {B = Refusal} (λ k. record { number = 2; source = document; start = at; len = k }) (line_length_lem text at e l h))

module _ {text ps rs bs us cs gs ls ms ts ws : List ℕ} where
  pub loads_refused : {x : Refusal} (r : code.Refusal) → check text ≡ refused x → refusal_of r ≡ x → Loads text ps rs bs us cs gs ls ms ts ws (Err r)
  loads_refused r p q = record {
    refuses = λ y e. p ∙ ap refused (sym q ∙ ap refusal_of (let s : r ≡ y = cc in s));
    accepts = λ c n e. absurd (let z : ◌≡◌ {A = ℕ} 0 1 = cc in omega arith);
  }

  pub loads_accepted : {c : Counts} {n : ℕ} → HoldsDocument text ps rs bs us cs gs ls ms ts ws c n → Loads text ps rs bs us cs gs ls ms ts ws (Ok (c, n))
  loads_accepted {c} {n} h = record {
    refuses = λ y e. absurd (let z : ◌≡◌ {A = ℕ} 0 1 = cc in omega arith);
    accepts = λ k m e.
        let q : ◌≡◌ {A = Counts × ℕ} (c, n) (k, m) = cc in
        subst (λ (a : Counts × ℕ). HoldsDocument text ps rs bs us cs gs ls ms ts ws a.0 a.1) q h;
  }

-- ---- the text

pub text_long : (s : List ℕ) → 60000 < length s → check s ≡ refused (pointing_nowhere 1 document)
unfolding check refuse_if ◌>>◌
text_long s h = rw (lt-ltb 60000 (length s) h)

pub text_fits : (s : List ℕ) → length s ≤ 60000 → check s ≡ check_from empty_doc 0 0 (cut s).head (cut s).others
unfolding check refuse_if ◌>>◌
text_fits s h = rw (le-ltb 60000 (length s) h)

-- ---- a turn

module _ {text ps rs bs us cs gs ls ms ts ws : List ℕ} {c : Counts} {at n : ℕ} (e : ℕ) (I : Going text ps rs bs us cs gs ls ms ts ws c at n) (l : LineEnd text at e) (h : e < length text) where
  pub goes_on : {ps' rs' bs' us' cs' gs' ls' ms' ts' ws' : List ℕ} {c' : Counts}
      → Grows (Indexed text ps' rs' bs' us' cs' gs' ls' ms' ts' ws') (check_line I.doc (line_in text at e)) c'
      → Going text ps' rs' bs' us' cs' gs' ls' ms' ts' ws' c' (e + 1) (n + 1)
  goes_on g = record {
    doc = g.doc;
    held = g.held;
    unique = unique_line I.doc (line_in text at e) g.doc I.unique g.is;
    within = omega arith;
    few = omega (arith, I.few, line_from text at e l);
    rest = I.rest ∙ turn_goes text at e l I.doc n h g.doc g.is;
  }
