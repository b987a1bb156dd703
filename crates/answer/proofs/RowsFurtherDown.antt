-- Rows given further down (02, Q-6), from the texts to the answers. Assumes nothing.
use Prim.Native.Nat.{◌≤◌, ℕ}
use borrow.Author.Tests.{le-leb}
use lib.ListN.{length}
use mathlib.Core.Bool.{Bool, cond, false, not, true}
use mathlib.Core.List.{List, ◌++◌, map}
use mathlib.Core.Option
use mathlib.Core.Option.{Option, some-ne-none, none, some}
use mathlib.Core.Path.{◌∙◌, ◌≡◌, ap, refl, subst, sym}
use Rattle.document.specs.Check.{Accepted, check}
use Rattle.document.specs.Lookup.{column_of, columns_of, purpose_of, role_of, table_of, user_of}
use Rattle.document.specs.Policy.{Doc, tree_of}
use Rattle.answer.proofs.AcceptedOrRefused.{Answers, answered, ask_answered, ask_is, is_answered}
use Rattle.answer.proofs.FurtherDown.{further_down, passed_rows, rows_printed}
use Rattle.answer.proofs.SelectReading.{IsSelect, is_select_lem, other, other_query}
use Rattle.answer.specs.Answer.{answer_to, counted, end_line, row_lines, satisfies}
use Rattle.answer.specs.Ask.{Answered, ask}
use Rattle.answer.specs.Further.{Contains, GivenFurtherDown, Prints, SelectsBelow, select_text}
use Rattle.answer.specs.Ranged.{ranged_column, ranged_word}
use Rattle.answer.specs.Seen.{Seen, seen_rows}
use Rattle.answer.specs.Session.{answers}
use Rattle.lists.specs.Lists.{or_zero}
use Rattle.purpose.specs.Compliance.{descends}
use Rattle.query.proofs.Below.{for_purpose}
use Rattle.query.proofs.NamedColumns.{column_number}
use Rattle.query.proofs.QueryPlaceless.{closed_placeless, column_placeless, dates_placeless, missing_placeless, named_placeless, party_placeless, placeless_query, resolved_placeless, types_placeless}
use Rattle.query.proofs.WantedLaws.{ranges_map}
use Rattle.query.specs.Authority.{Clock}
use Rattle.query.specs.Query.{Query, resolved, wanted_of}
use Rattle.query.specs.QueryForm.{QueryForm, admits_ranges, has_gaps, leaves_gaps, map_wanted, named_words, rows_of, select}
use Rattle.text.proofs.ReadBack.{placeless}
use Rattle.text.proofs.RefusalLaws.{accepted_same}
use Rattle.text.specs.Bytes.{ascii}
use Rattle.text.specs.Names.{Name, is_name, same_name}
use Rattle.text.specs.Offending.{missing}
use Rattle.text.specs.Refusal.{accepted}
use Rattle.text.specs.Words.{Word, is_called, plain_word}

-- ---- a query is answered as the same query without places is

none_map : (o : Option Word) → o ≡ none → Option.map placeless o ≡ none
none_map o e = rw e

map_none : (o : Option Word) → Option.map placeless o ≡ none → o ≡ none
map_none none e = refl
map_none (some w) e = absurd (some-ne-none _ e)

ranged_placeless : (d : Doc) (q : QueryForm) → ranged_column d (placeless_query q) ≡ Option.map placeless (ranged_column d q)
unfolding ranged_column
ranged_placeless d q = ap (λ b. cond b none (missing (λ w. not (ranged_word d (placeless_query q) w)) (named_words (placeless_query q)))) admits ∙ go (admits_ranges q.wanted)
  where
    admits : admits_ranges (placeless_query q).wanted ≡ admits_ranges q.wanted
    admits = unfold placeless_query in ranges_map placeless q.wanted

    words : missing (λ w. not (ranged_word d (placeless_query q) w)) (named_words (placeless_query q)) ≡ Option.map placeless (missing (λ w. not (ranged_word d q w)) (named_words q))
    words = unfold ranged_word table_of columns_of column_of is_called placeless plain_word placeless_query in
        ap (missing (λ w. not (ranged_word d q w))) (named_placeless q) ∙ missing_placeless (λ w. not (ranged_word d q w)) (λ w. refl) (named_words q)

    go : (b : Bool) → cond b none (missing (λ w. not (ranged_word d (placeless_query q) w)) (named_words (placeless_query q))) ≡ Option.map placeless (cond b none (missing (λ w. not (ranged_word d q w)) (named_words q)))
    go true = refl
    go false = words

-- the answer to a resolved query
abbrev answer_of : Doc → ℕ → Query → Answered
answer_of d g q = record { answer = answer_to q (seen_rows d q); grant = g }

answers_placeless : (d : Doc) (c : Clock) (q : QueryForm) (r : Answered) → Answers d c q r → Answers d c (placeless_query q) r
unfolding user_of role_of purpose_of is_called placeless plain_word placeless_query
answers_placeless d c q r a = record {
  user = a.user;
  grant = a.grant;
  party = party_placeless d.policy q ∙ none_map _ a.party;
  has_role = a.has_role;
  authorised = a.authorised;
  columns = column_placeless d.policy q ∙ none_map _ a.columns;
  types = types_placeless d.policy q ∙ none_map _ a.types;
  ranges = ranged_placeless d q ∙ none_map _ a.ranges;
  dates = dates_placeless q ∙ none_map _ a.dates;
  parts = closed_placeless d.policy q ∙ none_map _ a.parts;
  is = a.is ∙ ap (answer_of d a.grant) (sym (resolved_placeless d.policy q));
}

answers_placed : (d : Doc) (c : Clock) (q : QueryForm) (r : Answered) → Answers d c (placeless_query q) r → Answers d c q r
unfolding user_of role_of purpose_of is_called placeless plain_word placeless_query
answers_placed d c q r a = record {
  user = a.user;
  grant = a.grant;
  party = map_none _ (sym (party_placeless d.policy q) ∙ a.party);
  has_role = a.has_role;
  authorised = a.authorised;
  columns = map_none _ (sym (column_placeless d.policy q) ∙ a.columns);
  types = map_none _ (sym (types_placeless d.policy q) ∙ a.types);
  ranges = map_none _ (sym (ranged_placeless d q) ∙ a.ranges);
  dates = map_none _ (sym (dates_placeless q) ∙ a.dates);
  parts = map_none _ (sym (closed_placeless d.policy q) ∙ a.parts);
  is = a.is ∙ ap (answer_of d a.grant) (resolved_placeless d.policy q);
}

-- ---- what an answer prints

prints_answer : (q : Query) (cs : List ℕ) (rs : List Seen) → q.wanted ≡ rows_of select cs → Prints (answer_to q rs) cs (passed_rows (satisfies q) rs)
unfolding Prints answer_to counted
prints_answer q cs rs e =
    ap (λ l. l ++ end_line (answer_to q rs).passed (answer_to q rs).withheld (answer_to q rs).unmatched) (ap (λ w. row_lines (satisfies q) w rs) e ∙ rows_printed (satisfies q) select cs rs)

-- an answered select prints its passed rows
answer_prints : (d : Doc) (c : Clock) (q : QueryForm) (a : Answered) (ws : List Word) → q.wanted ≡ rows_of select ws → Answers d c q a
    → Prints a.answer (map (column_number (columns_of d.policy q.table)) ws) (passed_rows (satisfies (resolved d.policy q)) (seen_rows d (resolved d.policy q)))
answer_prints d c q a ws e x =
    let cs : List ℕ = map (column_number (columns_of d.policy q.table)) ws in
    subst (λ (b : Answered). Prints b.answer cs (passed_rows (satisfies (resolved d.policy q)) (seen_rows d (resolved d.policy q)))) (sym x.is)
    (prints_answer (resolved d.policy q) cs (seen_rows d (resolved d.policy q)) wanted)
  where
    wanted : (resolved d.policy q).wanted ≡ rows_of select (map (column_number (columns_of d.policy q.table)) ws)
    wanted = unfold resolved wanted_of map_wanted in ap (wanted_of (columns_of d.policy q.table)) e

-- if a select for P is answered, the same select for Q below P is answered too, under the
-- same clock, with a buffer as long as its answer needs and a text within 4,096 bytes.
further_answered : (doc : List ℕ) (A : Accepted) → check doc ≡ accepted A
    → (k u r p p' : Name) (rest : List ℕ) → same_name k (ascii "select") ≡ true → is_name u ≡ true → is_name r ≡ true → is_name p ≡ true → is_name p' ≡ true
    → (n n' : ℕ) → purpose_of A.doc.policy (plain_word p) ≡ some n → purpose_of A.doc.policy (plain_word p') ≡ some n' → descends (tree_of A.doc.policy.purposes) n' n ≡ true
    → (c : Clock) (room : ℕ) (a : Answered) → ask doc (select_text k u r p rest) c room ≡ accepted a
    → length (select_text k u r p' rest) ≤ 4096
    → (s : Answered) × ((room' : ℕ) → length s.answer.bytes ≤ room' → ask doc (select_text k u r p' rest) c room' ≡ accepted s) × Contains a.answer s.answer
unfolding purpose_of is_called plain_word other or_zero IsSelect for_purpose placeless_query resolved satisfies
further_answered doc A is_A k u r p p' rest is_k is_u is_r is_p is_p' n n' known_p known_p' below c room a h short =
    let d : Doc = A.doc in
    let x = ask_answered doc _ c room a h in
    let same_a : x.checked ≡ A = accepted_same (sym x.accepts ∙ is_A) in
    let q : QueryForm = x.form in
    let answers : Answers d c q a = subst (λ (B : Accepted). Answers B.doc c q a) same_a x.answers in
    let w : Word = other k u r p p' rest is_k is_u is_r is_p is_p' in
    let y = other_query k u r p p' rest is_k is_u is_r is_p is_p' q x.reads (le-leb _ _ short) in
    let sel = is_select_lem k u r p p' rest is_k is_u is_r is_p is_p' q x.reads in
    let z = further_down d q w n' known_p' (subst (λ o. descends (tree_of d.policy.purposes) n' (or_zero o) ≡ true) (sym (ap (purpose_of d.policy) sel.0 ∙ known_p)) below) (unfold has_gaps leaves_gaps in ap has_gaps sel.2) c a (is_answered d c q a answers) in
    let s : Answered = z.0 in
    let q' : QueryForm = for_purpose w y.0 in
    let t : Answers d c (for_purpose w q) s = answered d c (for_purpose w q) s z.1 in
    let t' : Answers d c q' s = answers_placed d c q' s (subst (λ v. Answers d c v s) (ap (for_purpose (placeless w)) y.2) (answers_placeless d c (for_purpose w q) s t)) in (
      s,
      λ room' fits. ask_is doc _ c room' s (record { checked = A; form = q'; accepts = is_A; clock = x.clock; reads = y.1; answers = t'; fits = fits }),
      record {
        columns = map (column_number (columns_of d.policy q.table)) sel.1;
        rows = passed_rows (satisfies (resolved d.policy q)) (seen_rows d (resolved d.policy q));
        rows' = passed_rows (satisfies (resolved d.policy q)) (seen_rows d (resolved d.policy (for_purpose w q)));
        prints = answer_prints d c q a sel.1 sel.2 answers;
        prints' = answer_prints d c (for_purpose w q) s sel.1 sel.2 t;
        in_order = z.2;
        fewer = z.3;
      },
    )

-- For every accepted document: if a select for P is answered, the same select for Q below P is answered too, under the same
-- clock, with a buffer as long as its answer needs and a text within 4,096 bytes. Its rows contain P's rows in the same order,
-- and its withheld count is no larger.
pub rows_further_down : (doc text lower : List ℕ) → SelectsBelow doc text lower → (c : Clock) (room : ℕ) (a : Answered) → ask doc text c room ≡ accepted a → GivenFurtherDown doc lower c a
rows_further_down doc text lower s c room a h =
    let x = further_answered doc s.checked s.accepts s.keyword s.user s.role s.P s.Q s.rest s.is_select s.is_user s.is_role s.is_p s.is_q s.number_p s.number_q s.known_p s.known_q s.below c room a
    (ap (λ t. ask doc t c room) (sym s.is) ∙ h) (subst (λ t. length t ≤ 4096) s.is_lower s.short) in
    record { given = x.0; answers = λ room' fits. ap (λ t. ask doc t c room') s.is_lower ∙ x.1 room' fits; contains = x.2 }
