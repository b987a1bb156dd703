-- `walks::purposes::begins` meets its contract. Assumes nothing.
use borrow.Author.Tests.{eq-eqb, ne_eqb}
use lib.Dec.{eqb}
use lib.ListN.{get_or}
use mathlib.Core.Bool.{false, true}
use mathlib.Core.Path.{◌∙◌, ◌≡◌, ap, sym}
use Rattle.walks.specs.PurposeLine.{begins_purpose}
use Rattle.text.specs.Bytes.{ascii}
use Rattle.text.specs.Names.{same_name}
use Rattle.text.specs.Words.{word_at}
use Rattle.walks.proofs.purposes.begins.Goals.{Else-byte_at-ne40}
use Rattle.walks.proofs.purposes.begins.Goals as goal

opens : (c : Else-byte_at-ne40) → eqb (get_or c.args.line.now 0 0) 40 ≡ true
opens c = eq-eqb _ _ (sym c.byte_at.ensures ∙ c.if-byte_at-ne40.false)

pub returns-then-byte_at-ne40 : goal.returns-then-byte_at-ne40
unfolding begins_purpose
returns-then-byte_at-ne40 c = rw (ne_eqb (get_or c.args.line.now 0 0) 40 (λ z. c.if-byte_at-ne40.true (c.byte_at.ensures ∙ z)))

pub returns-then-not-is_word : goal.returns-then-not-is_word
unfolding begins_purpose
returns-then-not-is_word c = let other : same_name (word_at c.args.line.now 1) (ascii "purpose") ≡ false = sym c.is_word.ensures ∙ c.if-not-is_word.true in
    rw (opens ((goal.at.returns-then-not-is_word c).Else-byte_at-ne40), other)

pub returns : goal.returns
unfolding begins_purpose
returns c = let is : same_name (word_at c.args.line.now 1) (ascii "purpose") ≡ true = sym c.is_word.ensures ∙ c.if-not-is_word.false in
    rw (opens ((goal.at.returns c).Else-byte_at-ne40), is) (ap (λ b. eqb b 32) c.byte_at-2.ensures)
