-- A text that is a query of one table is that query, whatever joins are. Assumes nothing.
use Prim.Native.Nat.{ℕ}
use mathlib.Core.List.{List}
use mathlib.Core.Option.{Option, map, none-ne-some, some-injective, none, some}
use mathlib.Core.Path.{◌≡◌, ap}
use Rattle.query.specs.JoinForm.{JoinForm, Request, first_of, join_of, joined, one, request_of}
use Rattle.query.specs.QueryForm.{QueryForm, query_of}

pub query_request : (text : List ℕ) (q : QueryForm) → query_of text ≡ some q → request_of text ≡ some (one q)
unfolding request_of first_of
query_request text q h = rw h

-- the form of a query of one table; a join has none
one_of : Request → Option QueryForm
one_of (one q) = some q
one_of (joined j) = none

-- the first of a query of one table and a join is the former only where there is one
first_one : (q : QueryForm) (o : Option QueryForm) (p : Option JoinForm) → first_of (map one o) (map joined p) ≡ some (one q) → o ≡ some q
unfolding first_of one_of
first_one q (some x) p e = ap one_of (some-injective (one x) (one q) e)
first_one q none (some j) e = absurd (none-ne-some q (ap one_of (some-injective (joined j) (one q) e)))
first_one q none none e = absurd (none-ne-some (one q) e)

pub request_query : (text : List ℕ) (q : QueryForm) → request_of text ≡ some (one q) → query_of text ≡ some q
unfolding request_of
request_query text q h = first_one q (query_of text) (join_of text) h

-- a text that is none is the join that it is, if it is one
pub request_join : (text : List ℕ) (j : JoinForm) → query_of text ≡ none → join_of text ≡ some j → request_of text ≡ some (joined j)
unfolding request_of first_of
request_join text j h k = rw (h, k)

-- and a text that is neither is no query at all
pub request_none : (text : List ℕ) → query_of text ≡ none → join_of text ≡ none → request_of text ≡ none
unfolding request_of first_of
request_none text h k = rw (h, k)
