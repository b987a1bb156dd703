-- `text::words::is_word` meets its contract. The loop's invariant: what is left of the word and of the name are the same exactly when
-- the whole is. Assumes nothing.
use Prim.Native.Nat.{◌+◌, ◌<◌, ℕ}
use lib.ListN.{drop, get_or, length}
use mathlib.Core.Bool.{false, true}
use mathlib.Core.Path.{◌∙◌, ◌≡◌, ap, refl, sym}
use native.Mathlib.Omega.{arith}
use Rattle.text.proofs.Lefts.{test_of}
use Rattle.text.proofs.WordLaws.{is_differ, is_done, is_more, is_short, name_byte_here}
use Rattle.text.specs.Bytes.{is_name_byte}
use Rattle.text.specs.Names.{same_byte, same_name}
use Rattle.text.specs.Words.{word_at}
use Rattle.text.proofs.words.is_word.Goals.{Else-not-same_byte}
use Rattle.text.proofs.words.is_word.Goals as goal

pub loop-k-init : goal.loop-k-init
loop-k-init c = refl

pub returns-then-not-is_name_byte : goal.returns-then-not-is_name_byte
returns-then-not-is_name_byte c = let s = c.args.s.now in
    let w = c.args.w.now in
    let x = c.loop-k.x in
    let k = c.loop-k.k in
    let h : is_name_byte (get_or s x 0) ≡ false = test_of is_name_byte c.byte_at.ensures c.is_name_byte.ensures c.if-not-is_name_byte.true in
    sym (is_short s x w k (omega arith) h) ∙ c.loop-k.invariant

pub bounds-w-k : goal.bounds-w-k
bounds-w-k c = omega arith

pub returns-then-not-same_byte : goal.returns-then-not-same_byte
returns-then-not-same_byte c = let s = c.args.s.now in
    let w = c.args.w.now in
    let x = c.loop-k.x in
    let k = c.loop-k.k in
    let h : is_name_byte (get_or s x 0) ≡ true = test_of is_name_byte c.byte_at.ensures c.is_name_byte.ensures c.if-not-is_name_byte.false in
    let e : same_byte (get_or s x 0) (get_or w k 0) ≡ false = sym (c.same_byte.ensures ∙ ap (λ (b : ℕ). same_byte b (get_or w k 0)) c.byte_at-in-loop-k.ensures) ∙ c.if-not-same_byte.true in
    sym (is_differ s x w k (omega arith) h e) ∙ c.loop-k.invariant

-- in a turn, both go on, with the same byte
turn : (c : Else-not-same_byte) →
    let s = c.args.s.now in
    let w = c.args.w.now in
    let x = c.loop-k.x in
    let k = c.loop-k.k in
    (x < length s) × (same_name (word_at s x) (drop k w) ≡ same_name (word_at s (x + 1)) (drop (k + 1) w))
turn c =
    let s = c.args.s.now in
    let w = c.args.w.now in
    let x = c.loop-k.x in
    let k = c.loop-k.k in
    let h : is_name_byte (get_or s x 0) ≡ true = test_of is_name_byte c.byte_at.ensures c.is_name_byte.ensures c.if-not-is_name_byte.false in
    let e : same_byte (get_or s x 0) (get_or w k 0) ≡ true = sym (c.same_byte.ensures ∙ ap (λ (b : ℕ). same_byte b (get_or w k 0)) c.byte_at-in-loop-k.ensures) ∙ c.if-not-same_byte.false in
    (name_byte_here s x h, is_more s x w k (omega arith) h e)

pub overflow_add-x : goal.overflow_add-x
overflow_add-x c = omega (arith, (turn c).0)

pub loop-k-preserved : goal.loop-k-preserved
loop-k-preserved c = sym (turn c).1 ∙ c.loop-k.invariant

pub returns : goal.returns
returns c = let s = c.args.s.now in
    let w = c.args.w.now in
    let x = c.loop-k.x in
    let k = c.loop-k.k in
    let h = sym (c.is_name_byte-2.ensures ∙ ap is_name_byte c.byte_at-2.ensures) in
    sym (is_done s x w k c.is_name_byte-2.result (omega arith) h) ∙ c.loop-k.invariant
