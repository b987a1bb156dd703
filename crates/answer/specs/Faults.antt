-- Meaning: which refusal is given (01, "Asking"; 02, Q-12, Q-14): the conditions of 10 to 18, of 27 and of 31 as a list, of which the
-- earliest that holds counts.
use Rattle.std.specs.Prelude.{ℕ, ltb, length, Bool, cond, not, List, [], ◌++◌, ◌∷◌}
use Rattle.std.proofs.Math.Option.{Option, none, some}
use Rattle.answer.specs.Answer.{Answer, answer_to}
use Rattle.answer.specs.Ranged.{ranged_column}
use Rattle.answer.specs.Seen.{seen_rows}
use Rattle.document.specs.Lookup.{purpose_of, user_of}
use Rattle.document.specs.Policy.{Doc}
use Rattle.lists.specs.Lists.{or_zero, there}
use Rattle.query.specs.Authority.{Clock, first_grant, in_range}
use Rattle.query.specs.Query.{closed_part, missing_date, mistyped_query, resolved, unknown_column, unknown_party}
use Rattle.query.specs.QueryForm.{QueryForm, query_of}
use Rattle.text.specs.Refusal.{Result, accepted, refused}

-- a refusal's number, and whether its condition holds
abbrev pub Fault : Type 0
Fault = (number : ℕ) × Bool

-- the first number of the list whose condition holds
unfoldable pub first_fault : List Fault → Option ℕ
first_fault [] = none
first_fault (f ∷ fs) = cond f.1 (some f.0) (first_fault fs)

-- the number of a refusal; an accepted step has none
unfoldable pub refusal_number : {A : Type 0} → Result A → Option ℕ
refusal_number (refused r) = some r.number
refusal_number (accepted x) = none

-- the faults of a query, in the order of 01 and 02: 12 to 16, 27, 31 and 17
unfoldable pub form_faults : Doc → Clock → QueryForm → List Fault
form_faults d c q =
    (12, there (unknown_party d.policy q))
    ∷ (13, not (there (user_of d.policy q.user q.role)))
    ∷ (14, not (there (first_grant d.policy c (or_zero (user_of d.policy q.user q.role)) (or_zero (purpose_of d.policy q.purpose)))))
    ∷ (15, there (unknown_column d.policy q))
    ∷ (16, there (mistyped_query d.policy q))
    ∷ (27, there (ranged_column d q))
    ∷ (31, there (missing_date q))
    ∷ (17, there (closed_part d.policy q))
    ∷ []

-- the answer to a query as read
unfoldable pub form_answer : Doc → QueryForm → Answer
form_answer d q = answer_to (resolved d.policy q) (seen_rows d (resolved d.policy q))

-- the faults of a query text that is a query, these and 18; one that is none has 11 already
unfoldable pub query_faults : Doc → Clock → (room : ℕ) → Option QueryForm → List Fault
query_faults d c room none = []
query_faults d c room (some q) = form_faults d c q ++ (18, ltb room (length (form_answer d q).bytes)) ∷ []

-- the faults of asking about an accepted document: 10, 11, those of the query, and 18
unfoldable pub ask_faults : Doc → (text : List ℕ) → Clock → (room : ℕ) → List Fault
ask_faults d text c room = (10, not (in_range c)) ∷ (11, not (there (query_of text))) ∷ query_faults d c room (query_of text)
