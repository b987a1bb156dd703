-- `workspace::met::is_new` meets its contract: a name with both bits set changes nothing, and of another both are set. Assumes nothing.
use mathlib.Core.Bool.{false, true, true≢false}
use mathlib.Core.Path.{◌∙◌, ◌≡◌, ap, sym}
use native.Mathlib.Omega.{arith}
use Rattle.workspace.proofs.HashLaws.{print_below}
use Rattle.workspace.proofs.MetLaws.{both_there, high_missing, low_missing, marked_kept, marked_new, met_more, met_new}
use Rattle.workspace.specs.Met.{marked}
use Rattle.text.specs.Words.{word_at, word_of}
use Rattle.workspace.proofs.met.is_new.Goals.{then-has_bit+else-has_bit-2, else-has_bit}
use Rattle.workspace.proofs.met.is_new.Goals as goal

pub returns-then-ms-lt-MET_WORDS : goal.returns-then-ms-lt-MET_WORDS
returns-then-ms-lt-MET_WORDS c = let w = word_of c.args.line.now c.args.at in
    let short = c.if-ms-lt-MET_WORDS.true in
    record { none = λ ws m t. absurd (true≢false (sym t)); more = λ ws all m e. met_more w (λ l. absurd (omega (arith, l, short))) m e }

pub overflow_mul-high : goal.overflow_mul-high
overflow_mul-high c = omega (arith, c.print_word-w.ensures.is, print_below (word_at c.args.line.now c.args.at))

pub overflow_add-high : goal.overflow_add-high
overflow_add-high c = omega arith

pub has_bit-requires-then-has_bit : goal.has_bit-requires-then-has_bit
has_bit-requires-then-has_bit c = omega (arith, c.print_word-w.ensures.is, print_below (word_at c.args.line.now c.args.at), c.if-ms-lt-MET_WORDS.false)

pub returns-then-has_bit-2 : goal.returns-then-has_bit-2
returns-then-has_bit-2 c = let w = word_of c.args.line.now c.args.at in
    let h = c.print_word-w.result.hash in
    let ms = c.args.ms.now in
    let there : marked ms h ≡ true = both_there ms h (sym c.has_bit.ensures ∙ c.if-has_bit.true) (sym c.has_bit-then-has_bit.ensures ∙ c.if-has_bit-2.true) in
    record { none = λ ws m t. absurd (true≢false (sym t)); more = λ ws all m e. met_more w (λ l. (l, (λ g t. t), ap (marked ms) (sym c.print_word-w.ensures.is) ∙ there)) m e }

pub set_bit-requires-2 : goal.set_bit-requires-2
set_bit-requires-2 c = omega (arith, c.print_word-w.ensures.is, print_below (word_at c.args.line.now c.args.at), c.if-ms-lt-MET_WORDS.false)

pub returns : goal.returns
returns c = let w = word_of c.args.line.now c.args.at in
    let h = c.print_word-w.result.hash in
    let ms = c.args.ms.now in
    let is = c.print_word-w.ensures.is in
    let missing : marked ms h ≡ false =
    elim c.if-has_bit.branch [
      | then-has_bit+else-has_bit-2 v ↦ high_missing ms h (sym v.has_bit-then-has_bit.ensures ∙ v.if-has_bit-2.false)
      | else-has_bit v ↦ low_missing ms h (sym c.has_bit.ensures ∙ v.if-has_bit.false)
    ] in
    record {
      none = λ ws m t. met_new m (omega (arith, c.if-ms-lt-MET_WORDS.false)) w (ap (marked ms) (sym is) ∙ missing);
      more = λ ws all m e. met_more w (λ l. (omega (arith, c.if-ms-lt-MET_WORDS.false), marked_kept ms _ _ h c.set_bit.ensures c.set_bit-2.ensures, ap (marked _) (sym is) ∙ marked_new ms _ _ h c.set_bit.ensures c.set_bit-2.ensures)) m e;
    }
