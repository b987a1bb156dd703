-- `tables::words::among_first` meets its contract. The loop's invariant: the name is among the first k from the start on exactly when it is
-- among the first `left` from the loop's place on. Assumes nothing.
use mathlib.Core.Path.{◌∙◌, refl, sym}
use native.Mathlib.Omega.{arith}
use Rattle.tables.proofs.NameWalks.{among_here, among_none, among_on, among_stop}
use Rattle.text.proofs.Spaces.{space_here}
use Rattle.text.specs.Words.{is_called, word_of}
use Rattle.tables.proofs.words.among_first.Goals as goal

pub loop-left-init : goal.loop-left-init
loop-left-init c = refl

pub returns-then-byte_at-ne32 : goal.returns-then-byte_at-ne32
returns-then-byte_at-ne32 c = let s = c.args.line.now in
    let j = c.loop-left.j in
    sym (among_stop (λ v. is_called (word_of s c.args.w) v.bytes) s j c.loop-left.left (λ z. c.if-byte_at-ne32.true (c.byte_at.ensures ∙ z))) ∙ c.loop-left.invariant

pub overflow_add-v : goal.overflow_add-v
overflow_add-v c = let s = c.args.line.now in
    let j = c.loop-left.j in
    omega (arith, (space_here s j _ c.byte_at.ensures c.if-byte_at-ne32.false).1)

pub returns-then-same_name : goal.returns-then-same_name
unfolding is_called
returns-then-same_name c = let s = c.args.line.now in
    let j = c.loop-left.j in
    sym (among_here (λ v. is_called (word_of s c.args.w) v.bytes) s j
    c.loop-left.left c.loop-left-test.true
    (space_here s j _ c.byte_at.ensures c.if-byte_at-ne32.false).0
    (sym c.same_name.ensures ∙ c.if-same_name.true)) ∙ c.loop-left.invariant

pub overflow_sub-left : goal.overflow_sub-left
overflow_sub-left c = omega arith

pub loop-left-smaller : goal.loop-left-smaller
loop-left-smaller c = omega arith

pub loop-left-preserved : goal.loop-left-preserved
unfolding is_called
loop-left-preserved c = let s = c.args.line.now in
    let j = c.loop-left.j in
    among_on (λ v. is_called (word_of s c.args.w) v.bytes) s j
    c.word_end-j.result c.word_end-j.ensures c.loop-left.left
    c.loop-left-test.true
    (space_here s j _ c.byte_at.ensures c.if-byte_at-ne32.false).0
    (sym c.same_name.ensures ∙ c.if-same_name.false) ∙ c.loop-left.invariant

pub returns : goal.returns
returns c = let s = c.args.line.now in
    let j = c.loop-left.j in
    sym (among_none (λ v. is_called (word_of s c.args.w) v.bytes) s j c.loop-left.left (omega arith)) ∙ c.loop-left.invariant
