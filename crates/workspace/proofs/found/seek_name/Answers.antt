-- `workspace::found::seek_name` meets its contract. The loop's invariant: no name that was passed is the one looked for, if that ends
-- where it is said to. Assumes nothing.
use Prim.Native.Nat.{◌+◌, ◌-◌, ◌<◌}
use borrow.Author.Count.{below_more, below_none}
use lib.ListN.{get_or, length}
use mathlib.Core.Bool.{false}
use mathlib.Core.Path.{◌∙◌, ◌≡◌, ap, sym}
use native.Mathlib.Omega.{arith}
use Rattle.workspace.proofs.TabulatedLaws.{tabulated_found, tabulated_none}
use Rattle.text.specs.Words.{is_called, word_at, word_of}
use Rattle.workspace.proofs.found.seek_name.Goals.{Joined-may_be, then-may_be+else-same_length_name, else-may_be}
use Rattle.workspace.proofs.found.seek_name.Goals as goal

pub returns-then-e-i : goal.returns-then-e-i
returns-then-e-i c = (λ ended. absurd (omega (arith, ended)), tt)

pub loop-k-init : goal.loop-k-init
loop-k-init c = (omega arith, λ ended. below_none _)

pub overflow_add-p : goal.overflow_add-p
overflow_add-p c = omega arith

pub offset_bounds-ws-base : goal.offset_bounds-ws-base
offset_bounds-ws-base c = omega arith

pub bounds-ws-base : goal.bounds-ws-base
bounds-ws-base c = omega arith

pub returns-then-same_length_name : goal.returns-then-same_length_name
unfolding is_called
returns-then-same_length_name c = let a = c.args in
    let l = c.loop-k in
    let small : c.loop-k.k < c.args.n = omega arith in
    (λ ended. sym (tabulated_found (λ p. is_called (word_of a.line.now a.i) (word_at a.text.now p)) (λ j. get_or a.ws.now (a.base + j) 0) a.n l.k small (l.invariant.1 ended) (sym (c.same_length_name.ensures (omega (arith, ended))) ∙ c.if-same_length_name.true)), small)

-- the name at k is another: its first or last byte tells, or all of its bytes do
another : (c : Joined-may_be) → c.args.e ≡ c.args.i + length (word_at c.args.line.now c.args.i)
    → is_called (word_of c.args.line.now c.args.i) (word_at c.args.text.now (get_or c.args.ws.now (c.args.base + c.loop-k.k) 0)) ≡ false
unfolding is_called
another c ended =
    let a = c.args in
    let place : c.before-2.result ≡ c.args.i + (c.args.e - c.args.i) - 1 = omega (arith, c.before-2.ensures) in
    elim c.if-may_be.branch [
      | then-may_be+else-same_length_name w ↦ sym (w.same_length_name.ensures (omega (arith, ended))) ∙ w.if-same_length_name.false
      | else-may_be w ↦ c.may_be.ensures a.line.now a.i (omega (arith, ended)) c.byte_at-first.ensures (c.byte_at-last.ensures ∙ ap (λ m. get_or a.line.now m 0) place) w.if-may_be.false
    ]

pub loop-k-preserved : goal.loop-k-preserved
loop-k-preserved c = (omega arith, λ ended. below_more _ c.loop-k.k (c.loop-k.invariant.1 ended) (another c ended))

pub returns : goal.returns
returns c = let a = c.args in
    let inv = c.loop-k.invariant in
    (λ ended. sym (tabulated_none (λ p. is_called (word_of a.line.now a.i) (word_at a.text.now p)) (λ j. get_or a.ws.now (a.base + j) 0) a.n (λ j l. inv.1 ended j (omega (arith, l)))), tt)
