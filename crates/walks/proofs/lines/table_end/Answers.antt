-- `walks::lines::table_end` meets its contract. Assumes nothing.
use borrow.Author.Tests.{eq-eqb, ne_eqb}
use lib.Dec.{eqb}
use lib.ListN.{get_or}
use mathlib.Core.Bool.{false, true}
use mathlib.Core.Path.{◌∙◌, ◌≡◌, sym}
use Rattle.text.specs.Bytes.{ascii}
use Rattle.text.specs.Names.{same_name}
use Rattle.text.specs.Words.{word_at}
use Rattle.walks.specs.Taken.{table_end}
use Rattle.walks.proofs.lines.table_end.Goals.{Else-byte_at-ne40, Else-not-is_word}
use Rattle.walks.proofs.lines.table_end.Goals as goal

opens : (c : Else-byte_at-ne40) → eqb (get_or c.args.line.now 0 0) 40 ≡ true
opens c = eq-eqb _ _ (sym c.byte_at.ensures ∙ c.if-byte_at-ne40.false)

is_row_lem : (c : Else-not-is_word) → same_name (word_at c.args.line.now 1) (ascii "row") ≡ true
is_row_lem c = sym c.is_word.ensures ∙ c.if-not-is_word.false

pub returns-then-byte_at-ne40 : goal.returns-then-byte_at-ne40
unfolding table_end
returns-then-byte_at-ne40 c = rw (ne_eqb (get_or c.args.line.now 0 0) 40 (λ z. c.if-byte_at-ne40.true (c.byte_at.ensures ∙ z)))

pub returns-then-not-is_word : goal.returns-then-not-is_word
unfolding table_end
returns-then-not-is_word c = let no_row : same_name (word_at c.args.line.now 1) (ascii "row") ≡ false = sym c.is_word.ensures ∙ c.if-not-is_word.true in rw (opens (goal.at.returns-then-not-is_word c).Else-byte_at-ne40, no_row)

pub returns-then-byte_at-ne32 : goal.returns-then-byte_at-ne32
unfolding table_end
returns-then-byte_at-ne32 c = rw (opens (goal.at.returns-then-byte_at-ne32 c).Else-byte_at-ne40, is_row_lem (goal.at.returns-then-byte_at-ne32 c).Else-not-is_word, ne_eqb (get_or c.args.line.now 4 0) 32 (λ z. c.if-byte_at-ne32.true (c.byte_at-2.ensures ∙ z)))

pub returns : goal.returns
unfolding table_end
returns c = rw
    (opens (goal.at.returns c).Else-byte_at-ne40, is_row_lem (goal.at.returns c).Else-not-is_word, eq-eqb (get_or c.args.line.now 4 0) 32 (sym c.byte_at-2.ensures ∙ c.if-byte_at-ne32.false))
    c.name_end.ensures
