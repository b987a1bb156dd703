-- `workspace::hashes::hash_word` meets its contract. The loop's invariant: the word from the loop's place on ends where the whole word ends,
-- and what is hashed already with it has the whole word's hash. Assumes nothing.
use Prim.Native.Nat.{◌%◌, ◌*◌, ◌+◌, ◌-◌}
use lib.ListN.{get_or, length}
use mathlib.Core.Bool.{false, true}
use mathlib.Core.Path.{◌∙◌, ◌≡◌, ap, refl}
use native.Mathlib.Nat.{mod-lt}
use native.Mathlib.Omega.{arith}
use Rattle.workspace.proofs.HashLaws.{hash_more, hash_stop}
use Rattle.workspace.specs.Hash.{hash_by, hash_of, slots}
use Rattle.text.proofs.Lefts.{test_of}
use Rattle.text.proofs.WordLaws.{name_byte_here, word_more, word_stop}
use Rattle.text.specs.Bytes.{is_name_byte}
use Rattle.text.specs.Names.{lower}
use Rattle.text.specs.Words.{word_at}
use Rattle.workspace.proofs.hashes.hash_word.Goals.{In-loop-h}
use Rattle.workspace.proofs.hashes.hash_word.Goals as goal

pub loop-h-init : goal.loop-h-init
loop-h-init c = (refl, (unfold hash_of in refl), omega arith)

-- in a turn, a name byte stands at the loop's place
turn : (c : In-loop-h) → is_name_byte (get_or c.args.s.now c.loop-h.i 0) ≡ true
turn c = test_of is_name_byte c.byte_at.ensures c.in_name.ensures c.loop-h-test.true

pub overflow_mul-h : goal.overflow_mul-h
overflow_mul-h c = omega (arith, c.loop-h.invariant.2)

pub overflow_add-h : goal.overflow_add-h
overflow_add-h c = omega (arith, c.loop-h.invariant.2)

pub overflow_add-i : goal.overflow_add-i
overflow_add-i c = omega (arith, name_byte_here c.args.s.now c.loop-h.i (turn (goal.at.overflow_add-i c).In-loop-h))

pub loop-h-smaller : goal.loop-h-smaller
loop-h-smaller c = omega (arith, name_byte_here c.args.s.now c.loop-h.i (turn (goal.at.loop-h-smaller c).In-loop-h))

pub loop-h-preserved : goal.loop-h-preserved
loop-h-preserved c = let s = c.args.s.now in
    let l = c.loop-h in
    let byte : c.wide.result ≡ lower (get_or s l.i 0) = c.wide.ensures ∙ c.lower.ensures ∙ ap lower c.byte_at-in-loop-h.ensures in (
      omega (arith, ap length (word_more s l.i (turn (goal.at.loop-h-preserved c).In-loop-h)), l.invariant.0),
      ap (λ b. hash_by 105 slots ((105 * l.h + b) % slots) (word_at s (l.i + 1))) byte ∙ hash_more 105 slots s l.i l.h (turn (goal.at.loop-h-preserved c).In-loop-h) ∙ l.invariant.1,
      mod-lt (105 * l.h + c.wide.result) (omega arith),
    )

pub returns : goal.returns
returns c = let s = c.args.s.now in
    let l = c.loop-h in
    let stops : is_name_byte (get_or s l.i 0) ≡ false = test_of is_name_byte c.byte_at.ensures c.in_name.ensures c.loop-h-test.false in
    record { ends = omega (arith, ap length (word_stop s l.i stops), l.invariant.0); is = hash_stop 105 slots s l.i l.h stops ∙ l.invariant.1 }
