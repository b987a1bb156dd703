-- `workspace::found::seek_printed` meets its contract. The loop's invariant: no name that was passed is the one looked for. Assumes nothing.
use Prim.Native.Nat.{◌+◌, ◌-◌, ◌<◌, ℕ}
use borrow.Author.Count.{below_more, below_none}
use lib.ListN.{get_or, length}
use mathlib.Core.Bool.{false}
use mathlib.Core.Path.{◌∙◌, ◌≡◌, ap, sym}
use native.Mathlib.Nat.{zero-add}
use native.Mathlib.Omega.{arith}
use Rattle.workspace.proofs.HashLaws.{other_print}
use Rattle.workspace.proofs.TabulatedLaws.{tabulated_found, tabulated_none}
use Rattle.workspace.specs.Hash.{Printed}
use Rattle.text.specs.Words.{is_called, word_at, word_of}
use Rattle.workspace.proofs.found.seek_printed.Goals.{Joined-ws-prints, then-ws-prints+else-same_length_name, else-ws-prints}
use Rattle.workspace.proofs.found.seek_printed.Goals as goal

pub overflow_sub-len : goal.overflow_sub-len
overflow_sub-len c = omega (arith, c.print_word-w.ensures.ends)

pub loop-k-init : goal.loop-k-init
loop-k-init c = (omega arith, λ p. below_none _)

pub overflow_add-prints : goal.overflow_add-prints
overflow_add-prints c = omega arith

pub offset_bounds-ws-prints : goal.offset_bounds-ws-prints
offset_bounds-ws-prints c = omega arith

pub bounds-ws-prints : goal.bounds-ws-prints
bounds-ws-prints c = omega arith

pub offset_bounds-ws-k : goal.offset_bounds-ws-k
offset_bounds-ws-k c = omega arith

pub bounds-ws-k : goal.bounds-ws-k
bounds-ws-k c = omega arith

pub returns-then-same_length_name : goal.returns-then-same_length_name
unfolding is_called
returns-then-same_length_name c = let a = c.args in
    let l = c.loop-k in
    let small : c.loop-k.k < c.args.n = omega arith in
    let sized : c.print_word-w.result.end - c.args.i ≡ length (word_at c.args.line.now c.args.i) = omega (arith, c.print_word-w.ensures.ends) in
    (λ p. sym (tabulated_found (λ q. is_called (word_of a.line.now a.i) (word_at a.text.now q)) (λ j. get_or a.ws.now (0 + j) 0) a.n l.k small (l.invariant.1 p) (ap (λ m. is_called (word_of a.line.now a.i) (word_at a.text.now (get_or a.ws.now m 0))) (zero-add l.k) ∙ sym (c.same_length_name.ensures sized) ∙ c.if-same_length_name.true)), small)

-- the name at k is another: its print tells, or its bytes do
another : (c : Joined-ws-prints) → ((j : ℕ) → j < c.args.n → Printed c.args.prints c.args.text.now c.args.ws.now j)
    → is_called (word_of c.args.line.now c.args.i) (word_at c.args.text.now (get_or c.args.ws.now (0 + c.loop-k.k) 0)) ≡ false
unfolding is_called
another c p =
    let a = c.args in
    let small : c.loop-k.k < c.args.n = omega arith in
    let sized : c.print_word-w.result.end - c.args.i ≡ length (word_at c.args.line.now c.args.i) = omega (arith, c.print_word-w.ensures.ends) in
    ap (λ m. is_called (word_of a.line.now a.i) (word_at a.text.now (get_or a.ws.now m 0))) (zero-add c.loop-k.k)
    ∙ elim c.if-ws-prints.branch [
      | then-ws-prints+else-same_length_name w ↦ sym (w.same_length_name.ensures sized) ∙ w.if-same_length_name.false
      | else-ws-prints w ↦ other_print (word_at a.line.now a.i) (word_at a.text.now (get_or a.ws.now c.loop-k.k 0)) (λ q. w.if-ws-prints.false (p c.loop-k.k small ∙ q ∙ sym c.print_word-w.ensures.is))
    ]

pub loop-k-preserved : goal.loop-k-preserved
loop-k-preserved c = (omega arith, λ p. below_more _ c.loop-k.k (c.loop-k.invariant.1 p) (another c p))

pub returns : goal.returns
returns c = let a = c.args in
    let inv = c.loop-k.invariant in
    (λ p. sym (tabulated_none (λ q. is_called (word_of a.line.now a.i) (word_at a.text.now q)) (λ j. get_or a.ws.now (0 + j) 0) a.n (λ j l. inv.1 p j (omega (arith, l)))), tt)
