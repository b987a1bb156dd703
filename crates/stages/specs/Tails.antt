-- Contract: the tails of asking: what is left of it from one of the refusals 10 to 17, 27 and 31 on, the lent buffer's length aside.
use Rattle.std.specs.Prelude.{ℕ, not, List, ◌≡◌}
use Rattle.answer.specs.Answer.{answer_to}
use Rattle.answer.specs.Ask.{Answered, Outcome}
use Rattle.answer.specs.Ranged.{ranged_column}
use Rattle.answer.specs.Seen.{seen_rows}
use Rattle.answering.specs.Answering.{buffer_after}
use Rattle.document.specs.Lookup.{purpose_of, user_of}
use Rattle.document.specs.Policy.{Doc}
use Rattle.stages.specs.Figures.{answered_as, in_figures}
use Rattle.lists.specs.Lists.{or_zero}
use Rattle.query.specs.Authority.{Clock, first_grant, in_range}
use Rattle.query.specs.Query.{closed_part, missing_date, mistyped_query, resolved, unknown_column, unknown_party}
use Rattle.query.specs.QueryForm.{QueryForm, query_of}
use Rattle.text.specs.Refusal.{Refusal, ◌>>=◌, ◌>>◌, accepted, need, pointing, pointing_all, pointing_nowhere, query, refuse_at, refuse_if, refused}
use Rattle.text.specs.Words.{word_of, written_of}
use Rattle.std.specs.Prelude.{Result}
use Rattle.stages.specs.declared.answered.Figures.{Figures}
use Rattle.text.specs.declared.refusals.Refusal as refusals

-- the answer to the query, under the grant of number g
unfoldable pub answer_under : Doc → QueryForm → ℕ → Answered
answer_under d q g = record { answer = answer_to (resolved d.policy q) (seen_rows d (resolved d.policy q)); grant = g }

-- 17 on
unfoldable pub if_open : Doc → QueryForm → ℕ → Outcome
if_open d q g = do
  refuse_at 17 query (closed_part d.policy q)
  accepted (answer_under d q g)

-- 31 on
unfoldable pub if_dated : Doc → QueryForm → ℕ → Outcome
if_dated d q g = do
  refuse_at 31 query (missing_date q)
  if_open d q g

-- 27 on
unfoldable pub if_plain : Doc → QueryForm → ℕ → Outcome
if_plain d q g = do
  refuse_at 27 query (ranged_column d q)
  if_dated d q g

-- 16 on
unfoldable pub if_typed : Doc → QueryForm → ℕ → Outcome
if_typed d q g = do
  refuse_at 16 query (mistyped_query d.policy q)
  if_plain d q g

-- 15 on
unfoldable pub if_known : Doc → QueryForm → ℕ → Outcome
if_known d q g = do
  refuse_at 15 query (unknown_column d.policy q)
  if_typed d q g

-- 14 on, for the user form of number u
unfoldable pub if_granted : Doc → Clock → QueryForm → ℕ → Outcome
if_granted d c q u = do
  g ← need (first_grant d.policy c u (or_zero (purpose_of d.policy q.purpose))) (pointing 14 query q.purpose)
  if_known d q g

-- 13 on
unfoldable pub if_acting : Doc → Clock → QueryForm → Outcome
if_acting d c q = do
  u ← need (user_of d.policy q.user q.role) (pointing 13 query q.role)
  if_granted d c q u

-- 12 on
unfoldable pub if_parties : Doc → Clock → QueryForm → Outcome
if_parties d c q = do
  refuse_at 12 query (unknown_party d.policy q)
  if_acting d c q

-- 11 on
unfoldable pub if_read : Doc → Clock → List ℕ → Outcome
if_read d c text = do
  q ← need (query_of text) (pointing_all 11 query text)
  if_parties d c q

-- 10 on
unfoldable pub if_timed : Doc → Clock → List ℕ → Outcome
if_timed d c text = do
  refuse_if (not (in_range c)) (pointing_nowhere 10 query)
  if_read d c text

-- the refusal that hands back the word at a place of the query
unfoldable pub refused_at : ℕ → List ℕ → ℕ → Refusal
refused_at n s at = pointing n query (word_of s at)

-- the refusal that hands back the value at a place of the query, as it is written
unfoldable pub refused_written : ℕ → List ℕ → ℕ → Refusal
refused_written n s at = pointing n query (written_of s at)

-- the lent buffer afterwards, where 18 is still to be judged: an answer that it has room for fills its first bytes, a longer
-- one and a refusal leave it
unfoldable pub after_fitting : Outcome → List ℕ → List ℕ
after_fitting (refused r) buffer = buffer
after_fitting (accepted a) buffer = buffer_after a.answer buffer

-- the code's answer r stands for the outcome o, 18 aside, and the lent buffer afterwards is what o says
pub record Gives (o : Outcome) (before after' : List ℕ) (r : Result Figures refusals.Refusal) : Type 0 where
  pub is : answered_as r ≡ in_figures o
  pub buffer : after' ≡ after_fitting o before
