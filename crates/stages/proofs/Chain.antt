-- The steps of asking one by one: what is left of it behind each, and what the code's answer at each says. Assumes nothing.
use Prim.Native.Nat.{ℕ}
use mathlib.Core.Bool.{false, true}
use mathlib.Core.List.{List}
use mathlib.Core.Option.{Option, none, some}
use mathlib.Core.Path.{◌∙◌, ◌≡◌, ap, refl, subst, sym}
use Rattle.answer.specs.Answer.{Answer}
use Rattle.answer.specs.Ask.{Outcome, answer_form}
use Rattle.answer.specs.Ranged.{ranged_column}
use Rattle.answering.specs.Answering.{Writes, measured_of}
use Rattle.document.specs.Lookup.{purpose_of}
use Rattle.document.specs.Policy.{Doc}
use Rattle.workspace.specs.Found.{found_as}
use Rattle.lists.specs.Lists.{or_zero}
use Rattle.query.specs.Authority.{Clock, first_grant, in_range}
use Rattle.query.specs.Query.{closed_part, missing_date, mistyped_query, unknown_column, unknown_party}
use Rattle.query.specs.QueryForm.{QueryForm, query_of}
use Rattle.resolving.specs.Acting.{PartiesKnown, RoleMissing}
use Rattle.text.specs.CodeEnds.{offending_of, offending_value}
use Rattle.text.specs.Refusal.{Refusal, ◌>>=◌, ◌>>◌, accepted, need, pointing, pointing_all, pointing_nowhere, query, refuse_at, refuse_if, refused}
use Rattle.text.specs.Words.{Word, word_of, written_of}
use Rattle.stages.specs.Figures.{answered_as, figures_of, in_figures}
use Rattle.stages.specs.Tails.{Gives, after_fitting, answer_under, if_acting, if_dated, if_granted, if_known, if_open, if_parties, if_plain, if_read, if_timed, if_typed, refused_at, refused_written}
use Rattle.answering.specs.declared.answers.Measured.{Measured}
use Rattle.index.specs.declared.counts.Counts.{Counts}
use Rattle.std.specs.Prelude as prelude
use Rattle.std.specs.Prelude.{None, Some, Ok, Result}
use Rattle.stages.specs.declared.answered.Figures.{Figures}
use Rattle.text.specs.declared.refusals.Refusal as refusals

-- ---- one step

-- an offending word is refused, and where there is none the rest counts
offends : (n : ℕ) {o : Option Word} {w : Word} (rest : Outcome) → some w ≡ o → refuse_at n query o >> rest ≡ refused (pointing n query w)
unfolding refuse_at ◌>>◌
offends n rest e = rw (sym e)

passes : (n : ℕ) {o : Option Word} (rest : Outcome) → none ≡ o → refuse_at n query o >> rest ≡ rest
unfolding refuse_at ◌>>◌
passes n rest e = rw (sym e)

-- the code's answer names an offending word, or none
named_word : (s : List ℕ) {x : prelude.Option ℕ} {at : ℕ} {o : Option Word} → x ≡ Some at → offending_of s x ≡ o → some (word_of s at) ≡ o
named_word s e h = ap (offending_of s) (sym e) ∙ h

pub no_word : (s : List ℕ) {x : prelude.Option ℕ} {o : Option Word} → x ≡ None → offending_of s x ≡ o → none ≡ o
no_word s e h = ap (offending_of s) (sym e) ∙ h

-- the same of a value as it is written
named_value : (s : List ℕ) {x : prelude.Option ℕ} {at : ℕ} {o : Option Word} → x ≡ Some at → offending_value s x ≡ o → some (written_of s at) ≡ o
named_value s e h = ap (offending_value s) (sym e) ∙ h

pub no_value_lem : (s : List ℕ) {x : prelude.Option ℕ} {o : Option Word} → x ≡ None → offending_value s x ≡ o → none ≡ o
no_value_lem s e h = ap (offending_value s) (sym e) ∙ h

-- what is needed is there, or refused
lacks : {o : Option ℕ} (r : Refusal) (f : ℕ → Outcome) → none ≡ o → need o r >>= f ≡ refused r
unfolding need ◌>>=◌
lacks r f e = rw (sym e)

has : {o : Option ℕ} {n : ℕ} (r : Refusal) (f : ℕ → Outcome) → some n ≡ o → need o r >>= f ≡ f n
unfolding need ◌>>=◌
has r f e = rw (sym e)

-- the code's answer names a number, or none
pub number_found : {x : prelude.Option ℕ} {n : ℕ} {o : Option ℕ} → x ≡ Some n → found_as x ≡ o → some n ≡ o
number_found e h = ap found_as (sym e) ∙ h

pub nothing_found : {x : prelude.Option ℕ} {o : Option ℕ} → x ≡ None → found_as x ≡ o → none ≡ o
nothing_found e h = ap found_as (sym e) ∙ h

-- ---- the tails, each by its first step

module _ (d : Doc) (q : QueryForm) (g : ℕ) (s : List ℕ) {x : prelude.Option ℕ} where
  pub open_refused : {at : ℕ} → x ≡ Some at → offending_of s x ≡ closed_part d.policy q → if_open d q g ≡ refused (refused_at 17 s at)
  unfolding if_open refused_at
  open_refused e h = offends 17 (accepted (answer_under d q g)) (named_word s e h)

  pub open_passes : x ≡ None → offending_of s x ≡ closed_part d.policy q → if_open d q g ≡ accepted (answer_under d q g)
  unfolding if_open
  open_passes e h = passes 17 (accepted (answer_under d q g)) (no_word s e h)

  pub dated_refused : {at : ℕ} → x ≡ Some at → offending_value s x ≡ missing_date q → if_dated d q g ≡ refused (refused_written 31 s at)
  unfolding if_dated refused_written
  dated_refused e h = offends 31 (if_open d q g) (named_value s e h)

  pub dated_passes : x ≡ None → offending_value s x ≡ missing_date q → if_dated d q g ≡ if_open d q g
  unfolding if_dated
  dated_passes e h = passes 31 (if_open d q g) (no_value_lem s e h)

  pub plain_refused : {at : ℕ} → x ≡ Some at → offending_of s x ≡ ranged_column d q → if_plain d q g ≡ refused (refused_at 27 s at)
  unfolding if_plain refused_at
  plain_refused e h = offends 27 (if_dated d q g) (named_word s e h)

  pub plain_passes : x ≡ None → offending_of s x ≡ ranged_column d q → if_plain d q g ≡ if_dated d q g
  unfolding if_plain
  plain_passes e h = passes 27 (if_dated d q g) (no_word s e h)

  pub typed_refused : {at : ℕ} → x ≡ Some at → offending_value s x ≡ mistyped_query d.policy q → if_typed d q g ≡ refused (refused_written 16 s at)
  unfolding if_typed refused_written
  typed_refused e h = offends 16 (if_plain d q g) (named_value s e h)

  pub typed_passes : x ≡ None → offending_value s x ≡ mistyped_query d.policy q → if_typed d q g ≡ if_plain d q g
  unfolding if_typed
  typed_passes e h = passes 16 (if_plain d q g) (no_value_lem s e h)

  pub known_refused : {at : ℕ} → x ≡ Some at → offending_of s x ≡ unknown_column d.policy q → if_known d q g ≡ refused (refused_at 15 s at)
  unfolding if_known refused_at
  known_refused e h = offends 15 (if_typed d q g) (named_word s e h)

  pub known_passes : x ≡ None → offending_of s x ≡ unknown_column d.policy q → if_known d q g ≡ if_typed d q g
  unfolding if_known
  known_passes e h = passes 15 (if_typed d q g) (no_word s e h)

-- the table's word is the first that may be unknown
pub table_refused : (d : Doc) (q : QueryForm) (g : ℕ) (s : List ℕ) (at : ℕ) → some (word_of s at) ≡ unknown_column d.policy q → if_known d q g ≡ refused (refused_at 15 s at)
unfolding if_known refused_at
table_refused d q g s at e = offends 15 (if_typed d q g) e

module _ (d : Doc) (c : Clock) (q : QueryForm) where
  -- 12
  pub parties_refused : (s : List ℕ) {at : ℕ} → unknown_party d.policy q ≡ some (word_of s at) → if_parties d c q ≡ refused (refused_at 12 s at)
  unfolding if_parties refused_at
  parties_refused s e = offends 12 (if_acting d c q) (sym e)

  -- 13
  pub acting_refused : RoleMissing d.policy q → if_parties d c q ≡ refused (pointing 13 query q.role)
  unfolding if_parties if_acting
  acting_refused h = passes 12 (if_acting d c q) (sym h.all_known) ∙ lacks (pointing 13 query q.role) (λ u. if_granted d c q u) (sym h.user)

  pub acting_is : {k : Counts} {p u : ℕ} → PartiesKnown d.policy q k p u → if_parties d c q ≡ if_granted d c q u
  unfolding if_parties if_acting
  acting_is h = passes 12 (if_acting d c q) (sym h.all_known) ∙ has (pointing 13 query q.role) (λ u. if_granted d c q u) (sym h.user)

  -- 14
  module _ (u : ℕ) where
    pub granted_refused : none ≡ first_grant d.policy c u (or_zero (purpose_of d.policy q.purpose)) → if_granted d c q u ≡ refused (pointing 14 query q.purpose)
    unfolding if_granted
    granted_refused e = lacks (pointing 14 query q.purpose) (λ g. if_known d q g) e

    pub granted_is : {g : ℕ} → some g ≡ first_grant d.policy c u (or_zero (purpose_of d.policy q.purpose)) → if_granted d c q u ≡ if_known d q g
    unfolding if_granted
    granted_is e = has (pointing 14 query q.purpose) (λ g. if_known d q g) e

  -- the definition's chain is that of the tails
  pub form_tails : answer_form d c q ≡ if_parties d c q
  unfolding answer_form if_parties if_acting if_granted if_known if_typed if_plain if_dated if_open answer_under
  form_tails = refl

module _ (d : Doc) (c : Clock) (text : List ℕ) where
  pub timed_refused : in_range c ≡ false → if_timed d c text ≡ refused (pointing_nowhere 10 query)
  unfolding if_timed refuse_if ◌>>◌
  timed_refused e = rw e

  pub timed_passes : in_range c ≡ true → if_timed d c text ≡ if_read d c text
  unfolding if_timed refuse_if ◌>>◌
  timed_passes e = rw e

  pub read_refused : query_of text ≡ none → if_read d c text ≡ refused (pointing_all 11 query text)
  unfolding if_read need ◌>>=◌
  read_refused e = rw e

  pub read_is : {q : QueryForm} → query_of text ≡ some q → if_read d c text ≡ if_parties d c q
  unfolding if_read need ◌>>=◌
  read_is e = rw e

-- ---- what the code's answer stands for

-- a refusal leaves the buffer
pub gives_refused : {o : Outcome} {r : Refusal} {x : Result Figures refusals.Refusal} {buffer : List ℕ} → o ≡ refused r → answered_as x ≡ refused r → Gives o buffer buffer x
unfolding in_figures after_fitting
gives_refused {buffer} e h = record { is = h ∙ sym (ap in_figures e); buffer = sym (ap (λ o. after_fitting o buffer) e) }

pub gives_same : {o p : Outcome} {before after' : List ℕ} {r : Result Figures refusals.Refusal} → o ≡ p → Gives p before after' r → Gives o before after' r
gives_same {before} {after'} {r} e h = subst (λ o. Gives o before after' r) (sym e) h

-- the answer of answer_rows, under the grant of number g
pub gives_written : (a : Answer) (g : ℕ) {before after' : List ℕ} {x : Measured} → Writes a before after' x
    → Gives (accepted (record { answer = a; grant = g })) before after' (Ok (record { len = x.len; grant = g; passed = x.tally.passed; withheld = x.tally.withheld; unmatched = x.tally.unmatched }))
unfolding answered_as figures_of in_figures after_fitting measured_of
gives_written a g w = record {
  is = ap (λ (y : Measured). accepted (record { len = y.len; grant = g; passed = y.tally.passed; withheld = y.tally.withheld; unmatched = y.tally.unmatched })) w.is;
  buffer = w.buffer;
}
