-- `principals::names::find_node` meets its contract. The loop's invariant: no name that was passed is the one looked for. Assumes nothing.
use Prim.Native.Nat.{◌<◌, ◌≤◌}
use borrow.Author.Count.{below_more}
use lib.ListN.{get_or, length}
use mathlib.Core.Bool.{false}
use mathlib.Core.List.{List}
use mathlib.Core.Path.{◌∙◌, ◌≡◌, subst, sym}
use native.Mathlib.Omega.{arith}
use Rattle.document.specs.Policy.{Node}
use Rattle.principals.proofs.NodeLaws.{first_below, name_before, name_found, name_missed, other_name}
use Rattle.workspace.specs.Hash.{hash_of}
use Rattle.principals.specs.Nodes.{Nodes}
use Rattle.text.specs.Words.{is_called, word_at, word_of}
use Rattle.principals.proofs.names.find_node.Goals.{Joined-ws-room, then-ws-room+else-same_length_name, else-ws-room}
use Rattle.principals.proofs.names.find_node.Goals as goal

pub loop-j-init : goal.loop-j-init
loop-j-init c = let a = c.args in
    let is = c.first_hashed-j.ensures in (
      subst (λ v. v ≤ a.k) (sym is) (first_below a.room a.ws.now a.k a.h),
      λ ns n sized named m l. name_before n (word_of a.line.now a.i) a.h named m (omega (arith, l, is, first_below a.room a.ws.now a.k a.h)) (subst (λ v. m < v) is l),
    )

pub overflow_mul-room : goal.overflow_mul-room
overflow_mul-room c = omega arith

pub overflow_add-room : goal.overflow_add-room
overflow_add-room c = omega arith

pub offset_bounds-ws-room : goal.offset_bounds-ws-room
offset_bounds-ws-room c = omega arith

pub bounds-ws-room : goal.bounds-ws-room
bounds-ws-room c = omega arith

pub offset_bounds-ws-j : goal.offset_bounds-ws-j
offset_bounds-ws-j c = omega arith

pub bounds-ws-j : goal.bounds-ws-j
bounds-ws-j c = omega arith

pub returns-then-same_length_name : goal.returns-then-same_length_name
unfolding is_called
returns-then-same_length_name c = let a = c.args in
    let l = c.loop-j in
    let small : c.loop-j.j < c.args.k = omega arith in
    (λ ns n sized named. name_found n (word_of a.line.now a.i) a.h named l.j small (l.invariant.1 ns n sized named) (sym (c.same_length_name.ensures sized) ∙ c.if-same_length_name.true), small)

-- the name at j is another: its hash tells, or its bytes do
another : (c : Joined-ws-room) (ns : List Node) → Nodes c.args.room c.args.text.now c.args.ws.now c.args.k ns → c.args.len ≡ length (word_at c.args.line.now c.args.i) → c.args.h ≡ hash_of (word_at c.args.line.now c.args.i)
    → is_called (word_of c.args.line.now c.args.i) (word_at c.args.text.now (get_or c.args.ws.now c.loop-j.j 0)) ≡ false
unfolding is_called
another c ns n sized named =
    let a = c.args in
    let small : c.loop-j.j < c.args.k = omega arith in
    elim c.if-ws-room.branch [
      | then-ws-room+else-same_length_name w ↦ sym (w.same_length_name.ensures sized) ∙ w.if-same_length_name.false
      | else-ws-room w ↦ unfold is_called in other_name n (word_of a.line.now a.i) a.h named c.loop-j.j small w.if-ws-room.false
    ]

pub loop-j-preserved : goal.loop-j-preserved
loop-j-preserved c = (omega arith, λ ns n sized named. below_more _ c.loop-j.j (c.loop-j.invariant.1 ns n sized named) (another c ns n sized named))

pub returns : goal.returns
returns c = let a = c.args in
    let inv = c.loop-j.invariant in
    (λ ns n sized named. name_missed n (word_of a.line.now a.i) a.h named (λ m l. inv.1 ns n sized named m (omega (arith, l))), tt)
