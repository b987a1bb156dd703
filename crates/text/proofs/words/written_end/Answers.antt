-- `text::words::written_end` meets its contract: a bracket opens there, or a value is a word. Assumes nothing.
use Prim.Native.Nat.{◌+◌}
use lib.ListN.{length}
use mathlib.Core.List.{List}
use mathlib.Core.Path.{◌∙◌, ap, sym}
use Prim.Native.Nat.{ℕ}
use Rattle.text.proofs.Closings.{written_bracket, written_word}
use Rattle.text.proofs.words.written_end.Goals as goal

pub returns-then-byte_at-eq40 : goal.returns-then-byte_at-eq40
returns-then-byte_at-eq40 c = let s = c.args.s.now in
    let at = c.args.at in
    c.closing_end.ensures ∙ ap (λ (v : List ℕ). at + length v) (sym (written_bracket s at (sym c.byte_at.ensures ∙ c.if-byte_at-eq40.true)))

pub returns : goal.returns
returns c = let s = c.args.s.now in
    let at = c.args.at in
    c.word_end.ensures ∙ ap (λ (v : List ℕ). at + length v) (sym (written_word s at (λ z. c.if-byte_at-eq40.false (c.byte_at.ensures ∙ z))))
