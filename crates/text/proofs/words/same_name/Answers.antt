-- `text::words::same_name` meets its contract. The loop's invariant: what is left of the two words is the same exactly when the whole
-- is. Assumes nothing.
use Prim.Native.Nat.{◌+◌, ◌<◌}
use lib.ListN.{get_or, length}
use mathlib.Core.Bool.{false, true}
use mathlib.Core.Path.{◌∙◌, ◌≡◌, ap, ap₂, refl, sym}
use native.Mathlib.Omega.{arith}
use Rattle.text.proofs.Lefts.{test_of}
use Rattle.text.proofs.WordLaws.{name_byte_here, same_differ, same_more, same_name_byte, same_stop}
use Rattle.text.specs.Bytes.{is_name_byte}
use Rattle.text.specs.Names.{same_byte, same_name}
use Rattle.text.specs.Words.{word_at}
use Rattle.text.proofs.words.same_name.Goals.{Else-not-same_byte}
use Rattle.text.proofs.words.same_name.Goals as goal

pub loop-i-init : goal.loop-i-init
loop-i-init c = refl

pub returns-then-not-same_byte : goal.returns-then-not-same_byte
returns-then-not-same_byte c = let a = c.args.a.now in
    let b = c.args.b.now in
    let x = c.loop-i.x in
    let y = c.loop-i.y in
    let h : is_name_byte (get_or a x 0) ≡ true = test_of is_name_byte c.byte_at.ensures c.is_name_byte.ensures c.loop-i-test.true in
    let d : same_byte (get_or a x 0) (get_or b y 0) ≡ false = sym (c.same_byte.ensures ∙ ap₂ same_byte c.byte_at-in-loop-i.ensures c.byte_at-in-loop-i-2.ensures) ∙ c.if-not-same_byte.true in
    sym (same_differ a x b y h d) ∙ c.loop-i.invariant

-- in a turn, both words go on, with the same byte
turn : (c : Else-not-same_byte) →
    let a = c.args.a.now in
    let b = c.args.b.now in
    let x = c.loop-i.x in
    let y = c.loop-i.y in
    (x < length a) × (y < length b) × (same_name (word_at a x) (word_at b y) ≡ same_name (word_at a (x + 1)) (word_at b (y + 1)))
turn c =
    let a = c.args.a.now in
    let b = c.args.b.now in
    let x = c.loop-i.x in
    let y = c.loop-i.y in
    let h : is_name_byte (get_or a x 0) ≡ true = test_of is_name_byte c.byte_at.ensures c.is_name_byte.ensures c.loop-i-test.true in
    let e : same_byte (get_or a x 0) (get_or b y 0) ≡ true = sym (c.same_byte.ensures ∙ ap₂ same_byte c.byte_at-in-loop-i.ensures c.byte_at-in-loop-i-2.ensures) ∙ c.if-not-same_byte.false in
    (name_byte_here a x h, name_byte_here b y (same_name_byte _ _ e h), same_more a x b y h e)

pub overflow_add-x : goal.overflow_add-x
overflow_add-x c = omega (arith, (turn c).0)

pub overflow_add-y : goal.overflow_add-y
overflow_add-y c = omega (arith, (turn c).1)

pub loop-i-smaller : goal.loop-i-smaller
loop-i-smaller c = omega (arith, (turn c).0)

pub loop-i-preserved : goal.loop-i-preserved
loop-i-preserved c = sym (turn c).2 ∙ c.loop-i.invariant

pub returns : goal.returns
returns c = let a = c.args.a.now in
    let b = c.args.b.now in
    let x = c.loop-i.x in
    let y = c.loop-i.y in
    let h : is_name_byte (get_or a x 0) ≡ false = test_of is_name_byte c.byte_at.ensures c.is_name_byte.ensures c.loop-i-test.false in
    let k = sym (c.is_name_byte-2.ensures ∙ ap is_name_byte c.byte_at-2.ensures) in
    sym (same_stop a x b y c.is_name_byte-2.result h k) ∙ c.loop-i.invariant
