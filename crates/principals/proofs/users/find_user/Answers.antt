-- `principals::users::find_user` meets its contract. The loop's invariant: no form that was passed has the name and the role. Assumes nothing.
use Prim.Native.Nat.{◌-◌, ◌<◌}
use borrow.Author.Count.{below_more, below_none}
use lib.ListN.{length}
use mathlib.Core.Bool.{false}
use mathlib.Core.Path.{◌∙◌, ◌≡◌, sym}
use native.Mathlib.Omega.{arith}
use Rattle.principals.proofs.UserLaws.{user_found, user_missed}
use Rattle.text.specs.Words.{word_at, word_of}
use Rattle.principals.proofs.users.find_user.Goals as goal

pub returns-then-k-gt-USERS : goal.returns-then-k-gt-USERS
returns-then-k-gt-USERS c = (λ d us h. absurd (omega (arith, h.few)), tt)

pub overflow_sub-len : goal.overflow_sub-len
overflow_sub-len c = omega (arith, c.print_word-w.ensures.ends)

pub loop-i-init : goal.loop-i-init
loop-i-init c = (omega arith, omega arith, λ p. below_none _)

pub is_user-requires : goal.is_user-requires
is_user-requires c = omega arith

pub returns-then-is_user : goal.returns-then-is_user
returns-then-is_user c = let a = c.args in
    let i = c.loop-i.i in
    let small : c.loop-i.i < c.args.k = omega arith in
    let sized : c.print_word-w.result.end - c.args.u ≡ length (word_at c.args.line.now c.args.u) = omega (arith, c.print_word-w.ensures.ends) in
    (λ d us h. user_found (word_of a.line.now a.u) a.text.now a.ws.now a.role a.k d us h i small (c.loop-i.invariant.2 h.printed) (sym (c.is_user.ensures (h.printed i small) sized c.print_word-w.ensures.is) ∙ c.if-is_user.true), small)

pub loop-i-preserved : goal.loop-i-preserved
loop-i-preserved c = let i = c.loop-i.i in
    let small : c.loop-i.i < c.args.k = omega arith in
    let sized : c.print_word-w.result.end - c.args.u ≡ length (word_at c.args.line.now c.args.u) = omega (arith, c.print_word-w.ensures.ends) in (
      omega arith,
      omega arith,
      λ p. below_more _ i (c.loop-i.invariant.2 p) (sym (c.is_user.ensures (p i small) sized c.print_word-w.ensures.is) ∙ c.if-is_user.false),
    )

pub returns : goal.returns
returns c = let a = c.args in
    let inv = c.loop-i.invariant in
    (λ d us h. user_missed (word_of a.line.now a.u) a.text.now a.ws.now a.role a.k d us h (λ j l. inv.2 h.printed j (omega (arith, l))), tt)
