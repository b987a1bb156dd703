-- What the explaining tool finds depends on no value of a cell (02, Q-7): documents that differ in free values explain alike. Assumes nothing.
use Prim.Native.Nat.{ℕ}
use lib.Dec.{eqb}
use lib.ListN.{get_elem?}
use mathlib.Core.List.{List, map}
use mathlib.Core.Option
use mathlib.Core.Option.{Option, none-ne-some, some-injective, bind, none, some}
use mathlib.Core.Path.{◌∙◌, ◌≡◌, ap, refl, sym}
use Rattle.answer.proofs.AlikeDocuments.{Twins, alike_twins}
use Rattle.answer.proofs.Seeing.{RowsAlike, mapped_same}
use Rattle.answer.specs.Alike.{Alike}
use Rattle.answer.specs.Seen.{rows_in}
use Rattle.answer.specs.Why.{Reason, cell_reason, column_in, explain, purpose_in, row_numbered, table_in, unknown_why, why}
use Rattle.document.specs.Check.{Accepted, check}
use Rattle.document.specs.Lookup.{labelling_at}
use Rattle.document.specs.NoteFaults.{is_nested}
use Rattle.document.specs.Policy.{Doc, Policy, Row}
use Rattle.lists.proofs.ListLaws.{get_elem?_map}
use Rattle.query.specs.QueryForm.{QueryForm, query_of}
use Rattle.query.specs.WhyForm.{WhyForm, why_of}
use Rattle.text.specs.Numbers.{magnitude}
use Rattle.text.specs.Offending.{offending_if}
use Rattle.text.specs.Refusal.{Refusal, Result, ◌>>=◌, ◌>>◌, accepted, need, pointing, pointing_all, query, refuse_at}
use Rattle.text.specs.Words.{Word}

-- alike rows have the same labels
labels_alike : {d : Policy} {q : Option QueryForm} (t : ℕ) {rs ss : List Row} → RowsAlike d q rs ss → map (λ (r : Row). r.labels) (rows_in t rs) ≡ map (λ (r : Row). r.labels) (rows_in t ss)
unfolding rows_in
labels_alike t a = mapped_same (λ r. eqb r.table t) (λ r. r.labels) (λ x y b. rw b.table) (λ x y b e. sym b.labels) a

row_alike : (t : ℕ) (rs ss : List Row) → map (λ (r : Row). r.labels) (rows_in t rs) ≡ map (λ (r : Row). r.labels) (rows_in t ss) → (m : Option ℕ)
    → Option.map (λ (r : Row). r.labels) (bind m (get_elem? (rows_in t rs))) ≡ Option.map (λ (r : Row). r.labels) (bind m (get_elem? (rows_in t ss)))
unfolding bind
row_alike t rs ss h none = refl
row_alike t rs ss h (some n) = sym (get_elem?_map (λ (r : Row). r.labels) (rows_in t rs) n) ∙ ap (λ (ls : List (List ℕ)). get_elem? ls n) h ∙ get_elem?_map (λ (r : Row). r.labels) (rows_in t ss) n

-- of a row only its labels are asked for
need_labels : (K : List ℕ → Result Reason) (x : Refusal) (o p : Option Row) → Option.map (λ (r : Row). r.labels) o ≡ Option.map (λ (r : Row). r.labels) p → (need o x >>= (λ r. K r.labels)) ≡ (need p x >>= (λ r. K r.labels))
unfolding need ◌>>=◌
need_labels K x none none h = refl
need_labels K x none (some s) h = absurd (none-ne-some _ h)
need_labels K x (some r) none h = absurd (none-ne-some _ (sym h))
need_labels K x (some r) (some s) h = ap K (some-injective _ _ h)

-- the rest of the way, from a row's labels on
abbrev behind_row : Policy → WhyForm → List ℕ → Result Reason
behind_row d w labels =
    refuse_at 26 query (offending_if (is_nested (labelling_at d (table_in d w))) w.table)
    >> accepted (cell_reason d (purpose_in d w) (labelling_at d (table_in d w)) labels (column_in d w))

explain_alike : {q : Option QueryForm} {D : Policy} (d e : Doc) → Twins D q d e → (w : WhyForm) → explain d w ≡ explain e w
unfolding explain row_numbered
explain_alike d e tw w =
    ap (λ (x : Result Reason). refuse_at 23 query (unknown_why d.policy w) >> x)
    (need_labels (behind_row d.policy w) (pointing 24 query w.row) _ _ (row_alike (table_in d.policy w) d.rows e.rows (labels_alike (table_in d.policy w) tw.alike) (magnitude w.row.bytes)))
    ∙ (λ i. explain (record { policy = sym tw.policy i; rows = e.rows }) w)

-- WHY, ALIKE: two documents that are alike for any text explain every line alike. A text that is no query names nothing, so that documents
-- alike for it may differ in every value.
pub why_alike : (text a b : List ℕ) → Alike text a b → (line : List ℕ) → why a line ≡ why b line
unfolding why ◌>>=◌
why_alike text a b x line =
    ap (λ (o : Result Accepted). o >>= behind) x.accepts
    ∙ same (why_of line)
    ∙ sym (ap (λ (o : Result Accepted). o >>= behind) x.accepts')
  where
    behind : Accepted → Result Reason
    behind A = need (why_of line) (pointing_all 11 query line) >>= explain A.doc

    same : (o : Option WhyForm) → (need o (pointing_all 11 query line) >>= explain x.first.doc) ≡ (need o (pointing_all 11 query line) >>= explain x.second.doc)
    same none = unfold need ◌>>=◌ in refl
    same (some w) = unfold need ◌>>=◌ in explain_alike x.first.doc x.second.doc (alike_twins text a b x) w
