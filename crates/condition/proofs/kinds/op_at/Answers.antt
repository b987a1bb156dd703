use mathlib.Core.Bool.{false, true}
use mathlib.Core.Path.{◌∙◌, ◌≡◌, sym}
use Rattle.condition.specs.Answers.{operator_of}
use Rattle.text.specs.Bytes.{ascii}
use Rattle.text.specs.Names.{same_name}
use Rattle.text.specs.Words.{word_at}
use Rattle.condition.proofs.kinds.op_at.Goals as goal

pub returns-then-is_word : goal.returns-then-is_word
unfolding operator_of
returns-then-is_word c = let w = word_at c.args.s.now c.args.at in
    let h1 : same_name w (ascii "eq") ≡ true = sym c.is_word.ensures ∙ c.if-is_word.true in
    rw (h1)

pub returns-then-is_word-2 : goal.returns-then-is_word-2
unfolding operator_of
returns-then-is_word-2 c = let w = word_at c.args.s.now c.args.at in
    let h1 : same_name w (ascii "eq") ≡ false = sym c.is_word.ensures ∙ c.if-is_word.false in
    let h2 : same_name w (ascii "ne") ≡ true = sym c.is_word-2.ensures ∙ c.if-is_word-2.true in
    rw (h1, h2)

pub returns-then-is_word-3 : goal.returns-then-is_word-3
unfolding operator_of
returns-then-is_word-3 c = let w = word_at c.args.s.now c.args.at in
    let h1 : same_name w (ascii "eq") ≡ false = sym c.is_word.ensures ∙ c.if-is_word.false in
    let h2 : same_name w (ascii "ne") ≡ false = sym c.is_word-2.ensures ∙ c.if-is_word-2.false in
    let h3 : same_name w (ascii "lt") ≡ true = sym c.is_word-3.ensures ∙ c.if-is_word-3.true in
    rw (h1, h2, h3)

pub returns-then-is_word-4 : goal.returns-then-is_word-4
unfolding operator_of
returns-then-is_word-4 c = let w = word_at c.args.s.now c.args.at in
    let h1 : same_name w (ascii "eq") ≡ false = sym c.is_word.ensures ∙ c.if-is_word.false in
    let h2 : same_name w (ascii "ne") ≡ false = sym c.is_word-2.ensures ∙ c.if-is_word-2.false in
    let h3 : same_name w (ascii "lt") ≡ false = sym c.is_word-3.ensures ∙ c.if-is_word-3.false in
    let h4 : same_name w (ascii "le") ≡ true = sym c.is_word-4.ensures ∙ c.if-is_word-4.true in
    rw (h1, h2, h3, h4)

pub returns-then-is_word-5 : goal.returns-then-is_word-5
unfolding operator_of
returns-then-is_word-5 c = let w = word_at c.args.s.now c.args.at in
    let h1 : same_name w (ascii "eq") ≡ false = sym c.is_word.ensures ∙ c.if-is_word.false in
    let h2 : same_name w (ascii "ne") ≡ false = sym c.is_word-2.ensures ∙ c.if-is_word-2.false in
    let h3 : same_name w (ascii "lt") ≡ false = sym c.is_word-3.ensures ∙ c.if-is_word-3.false in
    let h4 : same_name w (ascii "le") ≡ false = sym c.is_word-4.ensures ∙ c.if-is_word-4.false in
    let h5 : same_name w (ascii "gt") ≡ true = sym c.is_word-5.ensures ∙ c.if-is_word-5.true in
    rw (h1, h2, h3, h4, h5)

pub returns : goal.returns
unfolding operator_of
returns c = let w = word_at c.args.s.now c.args.at in
    let h1 : same_name w (ascii "eq") ≡ false = sym c.is_word.ensures ∙ c.if-is_word.false in
    let h2 : same_name w (ascii "ne") ≡ false = sym c.is_word-2.ensures ∙ c.if-is_word-2.false in
    let h3 : same_name w (ascii "lt") ≡ false = sym c.is_word-3.ensures ∙ c.if-is_word-3.false in
    let h4 : same_name w (ascii "le") ≡ false = sym c.is_word-4.ensures ∙ c.if-is_word-4.false in
    let h5 : same_name w (ascii "gt") ≡ false = sym c.is_word-5.ensures ∙ c.if-is_word-5.false in
    rw (h1, h2, h3, h4, h5)
