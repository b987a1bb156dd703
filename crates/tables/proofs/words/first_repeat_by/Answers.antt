-- `tables::words::first_repeat_by` meets its contract. The loop's invariant: k names were passed, none of them repeats another, what repeats
-- one from the start on is what does from the loop's place on, and the names that were passed were met. Assumes nothing.
use Prim.Native.Nat.{◌+◌}
use lib.ListN.{take}
use mathlib.Core.Bool.{false}
use mathlib.Core.Path.{◌∙◌, ◌≡◌, refl, sym}
use native.Mathlib.Omega.{arith}
use Rattle.tables.proofs.NameWalks.{repeats_here, repeats_more, repeats_on, repeats_start, repeats_stop}
use Rattle.form.specs.Walks.{names_at}
use Rattle.workspace.proofs.MetLaws.{met_none}
use Rattle.lists.specs.Lists.{any_of}
use Rattle.text.proofs.Spaces.{space_here}
use Rattle.text.specs.Words.{is_called, word_of}
use Rattle.tables.proofs.words.first_repeat_by.Goals.{Joined-not-is_new, then-not-is_new+else-among_first, else-not-is_new}
use Rattle.tables.proofs.words.first_repeat_by.Goals as goal

pub loop-v-init : goal.loop-v-init
loop-v-init c = (repeats_start c.args.line.now c.args.at, met_none _, refl)

pub overflow_add-v : goal.overflow_add-v
overflow_add-v c = omega (arith, (space_here c.args.line.now c.loop-v.j _ c.byte_at.ensures c.loop-v-test.true).1)

pub shape_of-met-then-among_first : goal.shape_of-met-then-among_first
shape_of-met-then-among_first c = omega (arith, c.loop-v.invariant.2)

pub returns-then-among_first : goal.returns-then-among_first
returns-then-among_first c = let s = c.args.line.now in
    let j = c.loop-v.j in
    let space = space_here s j _ c.byte_at.ensures c.loop-v-test.true in (
      sym (repeats_here s c.args.at j
          c.loop-v.k
          c.loop-v.invariant.0 space.0 c.among_first.result
          c.among_first.ensures c.if-among_first.true),
      omega (
        arith,
        (space_here s j _
            c.byte_at.ensures
            c.loop-v-test.true).1,
      ),
    )

-- the name is none of those before: it is surely new, or it was compared with them
absent : (c : Joined-not-is_new) → any_of
    (λ v. is_called (word_of c.args.line.now (c.loop-v.j + 1)) v.bytes)
    (take c.loop-v.k (names_at c.args.line.now c.args.at)) ≡ false
absent c = elim c.if-not-is_new.branch [
  | then-not-is_new+else-among_first v ↦ sym v.among_first.ensures ∙ v.if-among_first.false
  | else-not-is_new v ↦ c.is_new.ensures.none _ c.loop-v.invariant.1 v.if-not-is_new.false
]

pub overflow_add-k : goal.overflow_add-k
overflow_add-k c = omega (
  arith,
  (space_here c.args.line.now
      c.loop-v.j _
      c.byte_at.ensures
      c.loop-v-test.true).1,
  c.loop-v.invariant.0.few,
)

pub loop-v-smaller : goal.loop-v-smaller
loop-v-smaller c = omega (
  arith,
  (space_here c.args.line.now
      c.loop-v.j _
      c.byte_at.ensures
      c.loop-v-test.true).1,
  c.word_end-j.ensures,
)

pub loop-v-preserved : goal.loop-v-preserved
loop-v-preserved c = let s = c.args.line.now in
    let j = c.loop-v.j in
    let space = (space_here s j _ c.byte_at.ensures c.loop-v-test.true).0 in (
      repeats_on s c.args.at j
          c.loop-v.k
          c.loop-v.invariant.0 c.word_end-j.result c.word_end-j.ensures space false
          (sym (absent (goal.at.loop-v-preserved c).Joined-not-is_new)) refl,
      c.is_new.ensures.more _ _
          c.loop-v.invariant.1
          (repeats_more s c.args.at j c.loop-v.k c.loop-v.invariant.0 space),
      omega
          (arith, c.loop-v.invariant.2),
    )

pub shape_of-met : goal.shape_of-met
shape_of-met c = c.loop-v.invariant.2

pub returns : goal.returns
returns c = let s = c.args.line.now in
    (sym (repeats_stop s c.args.at c.loop-v.j c.loop-v.k c.loop-v.invariant.0 (λ z. c.loop-v-test.false (c.byte_at.ensures ∙ z))), tt)
