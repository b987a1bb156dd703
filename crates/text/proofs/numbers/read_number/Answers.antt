-- `text::numbers::read_number` meets its contract: the six ways out are those of `rank`, and the number ends where its digits end.
-- Assumes nothing.
use Prim.Native.Nat.{◌+◌, ◌-◌, ◌^◌}
use lib.ListN.{get_or}
use mathlib.Core.Option.{bind, none, some}
use mathlib.Core.Path.{◌∙◌, ◌≡◌, ap, sym}
use native.Mathlib.Omega.{arith}
use Rattle.text.proofs.CodeLaws.{ended_is, ended_nothing, limited_nothing, number_ended}
use Rattle.text.proofs.Lefts.{before_end}
use Rattle.text.proofs.NumberLaws.{end_minus, number_refused, rank_minus, rank_plain, rank_down_is, rank_down_zero, rank_up_is, rank_up_not}
use Rattle.text.specs.Numbers.{magnitude, rank}
use Rattle.text.specs.Words.{word_at}
use Rattle.text.proofs.numbers.read_number.Goals as goal

pub overflow_add-at : goal.overflow_add-at
overflow_add-at c = let s = c.args.s.now in
    let at = c.args.at in
    let e : get_or s at 0 ≡ 45 = sym c.byte_at.ensures ∙ c.if-byte_at-eq45.true in
    omega (arith, before_end s at (λ z. omega arith))

pub overflow_sub-result : goal.overflow_sub-result
overflow_sub-result c = let m = magnitude (word_at c.args.s.now (c.args.at + 1)) in
    omega (arith, (ended_is _ m (sym c.read_magnitude.ensures ∙ c.in_ok-end.was)).2)

pub returns-then-n-eq0 : goal.returns-then-n-eq0
unfolding bind
returns-then-n-eq0 c = let s = c.args.s.now in
    let at = c.args.at in
    let e : get_or s at 0 ≡ 45 = sym c.byte_at.ensures ∙ c.if-byte_at-eq45.true in
    let m = magnitude (word_at s (at + 1)) in
    let l = ended_is _ m (sym c.read_magnitude.ensures ∙ c.in_ok-end.was) in
    let z : m ≡ some 0 = l.1 ∙ ap some c.if-n-eq0.true in
    let k : rank (word_at s at) ≡ none = rw (rank_minus s at e, z, rank_down_zero) in
    rw (number_refused s at k)

pub returns-then-byte_at-eq45 : goal.returns-then-byte_at-eq45
unfolding bind
returns-then-byte_at-eq45 c = let s = c.args.s.now in
    let at = c.args.at in
    let e : get_or s at 0 ≡ 45 = sym c.byte_at.ensures ∙ c.if-byte_at-eq45.true in
    let m = magnitude (word_at s (at + 1)) in
    let n = c.in_ok-end.n in
    let l = ended_is _ m (sym c.read_magnitude.ensures ∙ c.in_ok-end.was) in
    let k : rank (word_at s at) ≡ some (2 ^ 63 - n) = rw (rank_minus s at e, l.1, rank_down_is n c.if-n-eq0.false l.2) in
    number_ended s at (l.0 ∙ end_minus s at e) (k ∙ ap some (omega arith))

pub returns-in_err-end : goal.returns-in_err-end
unfolding bind
returns-in_err-end c = let s = c.args.s.now in
    let at = c.args.at in
    let e : get_or s at 0 ≡ 45 = sym c.byte_at.ensures ∙ c.if-byte_at-eq45.true in
    let m = magnitude (word_at s (at + 1)) in
    let h = ended_nothing _ _ (sym c.read_magnitude.ensures ∙ c.in_err-end.was) in
    c.from_residual.ensures ∙ rw (number_refused s at (rank_minus s at e ∙ (limited_nothing m h).1))

pub returns : goal.returns
unfolding bind
returns c = let s = c.args.s.now in
    let at = c.args.at in
    let b = c.byte_at.ensures in
    let e = rw b at c.if-byte_at-eq45.false in
    let m = magnitude (word_at s at) in
    let n = c.in_ok-end-2.n in
    let l = ended_is _ m (sym c.read_magnitude-2.ensures ∙ c.in_ok-end-2.was) in
    let k : rank (word_at s at) ≡ some (2 ^ 63 + n) = rw (rank_plain s at e, l.1, rank_up_is n (omega arith)) in
    number_ended s at l.0 (k ∙ ap some (omega arith))

pub returns-then-n-ge9223372036854775808 : goal.returns-then-n-ge9223372036854775808
unfolding bind
returns-then-n-ge9223372036854775808 c = let s = c.args.s.now in
    let at = c.args.at in
    let b = c.byte_at.ensures in
    let e = rw b at c.if-byte_at-eq45.false in
    let m = magnitude (word_at s at) in
    let n = c.in_ok-end-2.n in
    let l = ended_is _ m (sym c.read_magnitude-2.ensures ∙ c.in_ok-end-2.was) in
    let k : rank (word_at s at) ≡ none = rw (rank_plain s at e, l.1, rank_up_not n c.if-n-ge9223372036854775808.true) in
    rw (number_refused s at k)

pub returns-in_err-end-2 : goal.returns-in_err-end-2
unfolding bind
returns-in_err-end-2 c = let s = c.args.s.now in
    let at = c.args.at in
    let b = c.byte_at.ensures in
    let e = rw b at c.if-byte_at-eq45.false in
    let m = magnitude (word_at s at) in
    let h = ended_nothing _ _ (sym c.read_magnitude-2.ensures ∙ c.in_err-end-2.was) in
    c.from_residual-in_err-end-2.ensures ∙ rw (number_refused s at (rank_plain s at e ∙ (limited_nothing m h).0))
