-- Measuring and asking (02, Q-4): a refusal in measuring is that of asking with every buffer; a length is that of the answer, and
-- a shorter buffer alone is refused. Assumes nothing.
use Prim.Native.Nat.{◌<◌, ◌≤◌, ℕ}
use borrow.Author.Tests.{le-ltb, lt-ltb}
use lib.ListN.{length}
use mathlib.Core.List.{List}
use mathlib.Core.Path.{◌≡◌, ap, subst, sym}
use Rattle.answer.specs.Ask.{Answered, Outcome, ask, ask_unbounded, if_fits, measure}
use Rattle.query.specs.Authority.{Clock}
use Rattle.text.proofs.RefusalLaws.{accepted_same, not_refused}
use Rattle.text.specs.Refusal.{Refusal, Result, ◌>>=◌, ◌>>◌, accepted, pointing_nowhere, query, refuse_if, refused}

-- the length of what is accepted
abbrev length_of : Outcome → Result ℕ
length_of o = o >>= (λ a. accepted (length a.answer.bytes))

still_refused : (o : Outcome) (r : Refusal) (room : ℕ) → length_of o ≡ refused r → o >>= if_fits room ≡ refused r
unfolding ◌>>=◌
still_refused (refused s) r room h = ap unresult h
  where
    unresult : Result ℕ → Outcome
    unresult (refused s) = refused s
    unresult (accepted n) = refused r
still_refused (accepted a) r room h = not_refused (sym h)

too_short : (o : Outcome) (n room : ℕ) → length_of o ≡ accepted n → room < n → o >>= if_fits room ≡ refused (pointing_nowhere 18 query)
unfolding if_fits refuse_if ◌>>=◌ ◌>>◌
too_short (refused s) n room h l = not_refused h
too_short (accepted a) n room h l = rw (lt-ltb room (length a.answer.bytes) (subst (λ k. room < k) (sym (accepted_same h)) l))

long_enough : (o : Outcome) (n room : ℕ) → length_of o ≡ accepted n → n ≤ room → (a : Answered) × (o >>= if_fits room ≡ accepted a) × (length a.answer.bytes ≡ n)
unfolding if_fits refuse_if ◌>>=◌ ◌>>◌
long_enough (refused s) n room h l = not_refused h
long_enough (accepted a) n room h l = (a, rw (le-ltb room (length a.answer.bytes) (subst (λ k. k ≤ room) (sym (accepted_same h)) l)), accepted_same h)

module _ (doc text : List ℕ) (c : Clock) where
  pub measure_refused : (r : Refusal) → measure doc text c ≡ refused r → (room : ℕ) → ask doc text c room ≡ refused r
  unfolding measure ask
  measure_refused r h room = still_refused (ask_unbounded doc text c) r room h

  module _ (n : ℕ) (h : measure doc text c ≡ accepted n) (room : ℕ) where
    pub measure_short : room < n → ask doc text c room ≡ refused (pointing_nowhere 18 query)
    unfolding measure ask
    measure_short l = too_short (ask_unbounded doc text c) n room h l

    pub measure_fits : n ≤ room → (a : Answered) × (ask doc text c room ≡ accepted a) × (length a.answer.bytes ≡ n)
    unfolding measure ask
    measure_fits l = long_enough (ask_unbounded doc text c) n room h l
