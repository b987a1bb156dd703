-- Meaning: asking (01, "Asking"; 02, Q-12, Q-14): the outcome of a query over a document, and the lent buffer afterwards.
use Rattle.std.specs.Prelude.{ℕ, ltb, drop, length, take, not, List, [], ◌++◌}
use Rattle.document.specs.Check.{check}
use Rattle.document.specs.Lookup.{purpose_of, user_of}
use Rattle.document.specs.Policy.{Doc}
use Rattle.answer.specs.Answer.{Answer, answer_to}
use Rattle.answer.specs.Ranged.{ranged_column}
use Rattle.answer.specs.Seen.{seen_rows}
use Rattle.query.specs.Authority.{Clock, first_grant, in_range}
use Rattle.query.specs.Query.{closed_part, missing_date, mistyped_query, resolved, unknown_column, unknown_party}
use Rattle.query.specs.QueryForm.{QueryForm, query_of}
use Rattle.lists.specs.Lists.{or_zero}
use Rattle.text.specs.Refusal.{Refusal, Result, Source, ◌>>=◌, ◌>>◌, accepted, document, file, need, pointing, pointing_all, pointing_nowhere, query, refuse_at, refuse_if, refused}

-- an accepted answer, and the position of the grant that authorised it
pub record Answered : Type 0 where
  pub answer : Answer
  pub grant : ℕ

-- what asking gives: a refusal, or an accepted answer
abbrev pub Outcome : Type 0
Outcome = Result Answered

-- 12 to 16, 27, 31 and 17, in this order, and then the answer
unfoldable pub answer_form : Doc → Clock → QueryForm → Outcome
answer_form d c q = do
  refuse_at 12 query (unknown_party d.policy q)
  u ← need (user_of d.policy q.user q.role) (pointing 13 query q.role)
  g ← need (first_grant d.policy c u (or_zero (purpose_of d.policy q.purpose))) (pointing 14 query q.purpose)
  refuse_at 15 query (unknown_column d.policy q)
  refuse_at 16 query (mistyped_query d.policy q)
  refuse_at 27 query (ranged_column d q)
  refuse_at 31 query (missing_date q)
  refuse_at 17 query (closed_part d.policy q)
  accepted (record { answer = answer_to (resolved d.policy q) (seen_rows d (resolved d.policy q)); grant = g })

-- what asking gives, the lent buffer's length aside: the document's refusal, or the query's first but 18, or the
-- answer
unfoldable pub ask_unbounded : (doc text : List ℕ) (clock : Clock) → Outcome
ask_unbounded doc text c = do
  a ← check doc
  refuse_if (not (in_range c)) (pointing_nowhere 10 query)
  q ← need (query_of text) (pointing_all 11 query text)
  answer_form a.doc c q

-- 18 where the answer is longer than the lent buffer, whose length is `room`; else the answer
unfoldable pub if_fits : (room : ℕ) → Answered → Outcome
if_fits room r = do
  refuse_if (ltb room (length r.answer.bytes)) (pointing_nowhere 18 query)
  accepted r

-- what asking gives
unfoldable pub ask : (doc text : List ℕ) (clock : Clock) (room : ℕ) → Outcome
ask doc text c room = ask_unbounded doc text c >>= if_fits room

-- what measuring gives: the length of the answer, or the refusal that no buffer would change (02, Q-4)
unfoldable pub measure : (doc text : List ℕ) (clock : Clock) → Result ℕ
measure doc text c = do
  r ← ask_unbounded doc text c
  accepted (length r.answer.bytes)

-- the lent buffer afterwards: an answer fills its first bytes, a refusal leaves it as it was
unfoldable pub after : Outcome → List ℕ → List ℕ
after (refused r) buffer = buffer
after (accepted a) buffer = a.answer.bytes ++ drop (length a.answer.bytes) buffer

-- the text that a refusal points into; of a file, which neither is, no byte is handed back (02, Q-1)
unfoldable pub pointed_text : (doc text : List ℕ) → Source → List ℕ
pointed_text doc text document = doc
pointed_text doc text query = text
pointed_text doc text file = []

-- the part that a refusal hands back
unfoldable pub part_of : (doc text : List ℕ) → Refusal → List ℕ
part_of doc text r = take r.len (drop r.start (pointed_text doc text r.source))
