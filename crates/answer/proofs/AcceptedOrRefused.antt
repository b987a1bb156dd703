-- Asking is refused with the first number whose condition holds, and accepted when none holds. Assumes nothing.
use Prim.Native.Nat.{◌≤◌, ℕ}
use borrow.Author.Tests.{le-ltb, ltb-false}
use lib.Dec.{ltb}
use lib.ListN.{length}
use mathlib.Core.Bool.{Bool, cond, false, not, true}
use mathlib.Core.List.{List, [], ◌++◌, ◌∷◌}
use mathlib.Core.Option.{Option, none-ne-some, some-ne-none, none, some}
use mathlib.Core.Path.{◌∙◌, ◌≡◌, ap, refl, subst, sym}
use Rattle.answer.specs.Answer.{answer_to}
use Rattle.answer.specs.Ask.{Answered, answer_form, ask, ask_unbounded, if_fits}
use Rattle.answer.specs.Faults.{Fault, ask_faults, first_fault, form_answer, form_faults, query_faults, refusal_number}
use Rattle.answer.specs.Ranged.{ranged_column}
use Rattle.answer.specs.Seen.{seen_rows}
use Rattle.document.specs.Check.{Accepted, check}
use Rattle.document.specs.Lookup.{purpose_of, user_of}
use Rattle.document.specs.Policy.{Doc}
use Rattle.lists.proofs.Tests.{not-false}
use Rattle.lists.specs.Lists.{or_zero, there}
use Rattle.query.specs.Authority.{Clock, first_grant, in_range}
use Rattle.query.specs.Query.{closed_part, missing_date, mistyped_query, resolved, unknown_column, unknown_party}
use Rattle.query.specs.QueryForm.{QueryForm, query_of}
use Rattle.text.proofs.RefusalLaws.{accepted_same, bind_accepted, bind_bind, bind_cong, need_accepted, refuse_at_accepted, refuse_if_accepted, then_accepted, then_bind, then_cong}
use Rattle.text.specs.Refusal.{Refusal, Result, Source, ◌>>=◌, ◌>>◌, accepted, need, pointing, pointing_all, pointing_nowhere, query, refuse_at, refuse_if, refused}
use Rattle.text.specs.Words.{Word}

-- ---- the number of a step, from the faults of its parts

-- the first fault of two lists joined
first_before : (fs gs : List Fault) (n : ℕ) → first_fault fs ≡ some n → first_fault (fs ++ gs) ≡ some n
unfolding first_fault
first_before [] gs n e = absurd (none-ne-some _ e)
first_before (f ∷ fs) gs n e = go f.1 (first_before fs gs n) e
  where
    go : (b : Bool) → (first_fault fs ≡ some n → first_fault (fs ++ gs) ≡ some n) → cond b (some f.0) (first_fault fs) ≡ some n → cond b (some f.0) (first_fault (fs ++ gs)) ≡ some n
    go true rest e = e
    go false rest e = rest e

first_after : (fs gs : List Fault) → first_fault fs ≡ none → first_fault (fs ++ gs) ≡ first_fault gs
unfolding first_fault
first_after [] gs e = refl
first_after (f ∷ fs) gs e = go f.1 (first_after fs gs) e
  where
    go : (b : Bool) → (first_fault fs ≡ none → first_fault (fs ++ gs) ≡ first_fault gs) → cond b (some f.0) (first_fault fs) ≡ none → cond b (some f.0) (first_fault (fs ++ gs)) ≡ first_fault gs
    go true rest e = absurd (some-ne-none _ e)
    go false rest e = rest e

-- what has no refusal's number was accepted
pub number_none : {A : Type 0} (m : Result A) → refusal_number m ≡ none → (x : A) × (m ≡ accepted x)
unfolding refusal_number
number_none (refused r) e = absurd (some-ne-none _ e)
number_none (accepted x) e = (x, refl)

-- one step, and then another
bind_number : {A B : Type 0} (m : Result A) (f : A → Result B) (fs gs : List Fault) → refusal_number m ≡ first_fault fs
    → ((x : A) → m ≡ accepted x → refusal_number (f x) ≡ first_fault gs) → refusal_number (m >>= f) ≡ first_fault (fs ++ gs)
unfolding ◌>>=◌ refusal_number
bind_number (refused r) f fs gs e k = sym (first_before fs gs r.number (sym e))
bind_number (accepted x) f fs gs e k = k x refl ∙ sym (first_after fs gs (sym e))

accepted_number : {A : Type 0} (x : A) → refusal_number (accepted x) ≡ first_fault []
unfolding refusal_number first_fault
accepted_number x = refl

module _ {A : Type 0} (fs : List Fault) where
  if_number : (b : Bool) (r : Refusal) (m : Result A) → refusal_number m ≡ first_fault fs → refusal_number (refuse_if b r >> m) ≡ first_fault ((r.number, b) ∷ fs)
  unfolding refuse_if ◌>>◌ refusal_number first_fault
  if_number true r m k = refl
  if_number false r m k = k

  at_number : (n : ℕ) (s : Source) (o : Option Word) (m : Result A) → refusal_number m ≡ first_fault fs → refusal_number (refuse_at n s o >> m) ≡ first_fault ((n, there o) ∷ fs)
  unfolding refuse_at ◌>>◌ refusal_number first_fault there pointing
  at_number n s none m k = k
  at_number n s (some w) m k = refl

  need_number : {B : Type 0} (o : Option B) (r : Refusal) (f : B → Result A) → ((x : B) → o ≡ some x → refusal_number (f x) ≡ first_fault fs)
      → refusal_number (need o r >>= f) ≡ first_fault ((r.number, not (there o)) ∷ fs)
  unfolding need ◌>>=◌ refusal_number first_fault there
  need_number none r f k = refl
  need_number (some x) r f k = k x refl

-- ---- a query as read

module _ (d : Doc) (c : Clock) (q : QueryForm) where
  -- a query is refused with the first of 12 to 16, 27, 31 and 17 whose condition holds
  form_number : refusal_number (answer_form d c q) ≡ first_fault (form_faults d c q)
  unfolding answer_form form_faults pointing or_zero
  form_number =
      at_number _ _ _ _ _ (
      need_number _ _ _ _ (λ u is_u.
      rw is_u (need_number _ _ _ _ (λ g _.
      at_number _ _ _ _ _ (
      at_number _ _ _ _ _ (
      at_number _ _ _ _ _ (
      at_number _ _ _ _ _ (
      at_number _ _ _ _ _ (accepted_number _)))))))))

-- none of 12 to 17, 27 and 31 holds, and this is the answer
pub record Answers (d : Doc) (c : Clock) (q : QueryForm) (r : Answered) : Type 0 where
  pub user : ℕ
  pub grant : ℕ
  pub party : unknown_party d.policy q ≡ none
  pub has_role : user_of d.policy q.user q.role ≡ some user
  pub authorised : first_grant d.policy c user (or_zero (purpose_of d.policy q.purpose)) ≡ some grant
  pub columns : unknown_column d.policy q ≡ none
  pub types : mistyped_query d.policy q ≡ none
  pub ranges : ranged_column d q ≡ none
  pub dates : missing_date q ≡ none
  pub parts : closed_part d.policy q ≡ none
  pub is : r ≡ record { answer = answer_to (resolved d.policy q) (seen_rows d (resolved d.policy q)); grant = grant }

pub answered : (d : Doc) (c : Clock) (q : QueryForm) (r : Answered) → answer_form d c q ≡ accepted r → Answers d c q r
unfolding answer_form
answered d c q r h =
    let h1 = then_accepted _ _ _ h in
    let h2 = bind_accepted _ _ _ h1.2 in
    let h3 = bind_accepted _ _ _ h2.2 in
    let h4 = then_accepted _ _ _ h3.2 in
    let h5 = then_accepted _ _ _ h4.2 in
    let h6 = then_accepted _ _ _ h5.2 in
    let h7 = then_accepted _ _ _ h6.2 in
    let h8 = then_accepted _ _ _ h7.2 in
    record {
      user = h2.0;
      grant = h3.0;
      party = refuse_at_accepted 12 query _ h1.1;
      has_role = need_accepted _ _ _ h2.1;
      authorised = need_accepted _ _ _ h3.1;
      columns = refuse_at_accepted 15 query _ h4.1;
      types = refuse_at_accepted 16 query _ h5.1;
      ranges = refuse_at_accepted 27 query _ h6.1;
      dates = refuse_at_accepted 31 query _ h7.1;
      parts = refuse_at_accepted 17 query _ h8.1;
      is = sym (accepted_same h8.2);
    }

pub is_answered : (d : Doc) (c : Clock) (q : QueryForm) (r : Answered) → Answers d c q r → answer_form d c q ≡ accepted r
unfolding answer_form refuse_at need ◌>>◌ ◌>>=◌
is_answered d c q r a = rw (a.party, a.has_role, a.authorised, a.columns, a.types, a.ranges, a.dates, a.parts) (ap {B = Result Answered} accepted (sym a.is))

-- ---- asking

-- asking as one row of steps
pub ask_steps : (doc text : List ℕ) (c : Clock) (room : ℕ) → ask doc text c room ≡ (check doc >>= (λ a.
    refuse_if (not (in_range c)) (pointing_nowhere 10 query) >> (need (query_of text) (pointing_all 11 query text) >>= (λ q. answer_form a.doc c q >>= if_fits room))))
unfolding ask ask_unbounded
ask_steps doc text c room =
    bind_bind (check doc) _ _ ∙ bind_cong (check doc) _ _ (λ a _.
    then_bind (refuse_if (not (in_range c)) (pointing_nowhere 10 query)) _ _ ∙ then_cong (refuse_if (not (in_range c)) (pointing_nowhere 10 query)) _ _ (λ _ _.
    bind_bind (need (query_of text) (pointing_all 11 query text)) _ _))

-- Asking about an accepted document is refused with the first of 10 to 18, 27 and 31, in their order, whose condition
-- holds, and accepted when none holds.
pub lowest_refused : (doc text : List ℕ) (A : Accepted) → check doc ≡ accepted A → (c : Clock) (room : ℕ)
    → refusal_number (ask doc text c room) ≡ first_fault (ask_faults A.doc text c room)
unfolding ask ask_unbounded if_fits ◌>>=◌ ask_faults query_faults form_answer pointing_all pointing_nowhere
lowest_refused doc text A is_A c room =
    ap refusal_number (ask_steps doc text c room) ∙ rw is_A (
    if_number _ _ _ _ (
    need_number (query_faults A.doc c room (query_of text)) _ _ _ (λ q is_q. rw is_q (
    bind_number (answer_form A.doc c q) _ (form_faults A.doc c q) _ (form_number A.doc c q) (λ r is_r.
    if_number _ _ _ _ (accepted_number r)
    ∙ ap (λ (b : Answered). first_fault ((18, ltb room (length b.answer.bytes)) ∷ [])) (answered A.doc c q r is_r).is)))))

-- Asking about a refused document is refused as the document is, with 1 to 9.
pub document_refused : (doc text : List ℕ) (r : Refusal) → check doc ≡ refused r → (c : Clock) (room : ℕ) → ask doc text c room ≡ refused r
unfolding ask ask_unbounded ◌>>=◌
document_refused doc text r is_r c room = rw is_r

-- none of 1 to 18 holds, and this is the answer
pub record AskAnswers (doc text : List ℕ) (c : Clock) (room : ℕ) (a : Answered) : Type 0 where
  pub checked : Accepted
  pub form : QueryForm
  pub accepts : check doc ≡ accepted checked
  pub clock : in_range c ≡ true
  pub reads : query_of text ≡ some form
  pub answers : Answers checked.doc c form a
  pub fits : length a.answer.bytes ≤ room

-- what an accepted asking went through
pub ask_answered : (doc text : List ℕ) (c : Clock) (room : ℕ) (a : Answered) → ask doc text c room ≡ accepted a → AskAnswers doc text c room a
unfolding if_fits
ask_answered doc text c room a h =
    let h0 = bind_accepted _ _ _ (sym (ask_steps doc text c room) ∙ h) in
    let h1 = then_accepted _ _ _ h0.2 in
    let h2 = bind_accepted _ _ _ h1.2 in
    let h3 = bind_accepted _ _ _ h2.2 in
    let h4 = then_accepted _ _ _ h3.2 in
    let is_a : h3.0 ≡ a = accepted_same h4.2 in
    record {
      checked = h0.0;
      form = h2.0;
      accepts = h0.1;
      clock = not-false _ (refuse_if_accepted _ _ h1.1);
      reads = need_accepted _ _ _ h2.1;
      answers = answered h0.0.doc c h2.0 a (h3.1 ∙ h4.2);
      fits = subst (λ (b : Answered). length b.answer.bytes ≤ room) is_a (ltb-false _ _ (refuse_if_accepted _ _ h4.1));
    }

-- an asking of which none of 1 to 18 holds is accepted
pub ask_is : (doc text : List ℕ) (c : Clock) (room : ℕ) (a : Answered) → AskAnswers doc text c room a → ask doc text c room ≡ accepted a
unfolding ask ask_unbounded if_fits refuse_if need ◌>>=◌ ◌>>◌
ask_is doc text c room a x =
    rw (x.accepts, x.clock, x.reads, is_answered x.checked.doc c x.form a x.answers) (rw (le-ltb room _ x.fits))
