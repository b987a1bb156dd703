-- `condition::kinds::is_comparator` meets its contract: by the operator that is found. Assumes nothing.
use mathlib.Core.Path.{◌∙◌, ap, sym}
use Rattle.condition.proofs.OperatorLaws.{comparator_by, found_by}
use Rattle.condition.specs.Answers.{op_of}
use Rattle.text.specs.Bytes.{ascii}
use Rattle.text.specs.Names.{same_name}
use Rattle.text.specs.Words.{word_at}
use Rattle.condition.proofs.kinds.is_comparator.Goals as goal

pub returns-in-Eq : goal.returns-in-Eq
returns-in-Eq c = let w = word_at c.args.s.now c.args.at in
    sym (comparator_by w ∙ ap (λ o. found_by o (same_name w (ascii "ge"))) (sym c.op_at-op.ensures ∙ ap op_of c.in-Eq.is))

pub returns-in-Ne : goal.returns-in-Ne
returns-in-Ne c = let w = word_at c.args.s.now c.args.at in
    sym (comparator_by w ∙ ap (λ o. found_by o (same_name w (ascii "ge"))) (sym c.op_at-op.ensures ∙ ap op_of c.in-Ne.is))

pub returns-in-Lt : goal.returns-in-Lt
returns-in-Lt c = let w = word_at c.args.s.now c.args.at in
    sym (comparator_by w ∙ ap (λ o. found_by o (same_name w (ascii "ge"))) (sym c.op_at-op.ensures ∙ ap op_of c.in-Lt.is))

pub returns-in-Le : goal.returns-in-Le
returns-in-Le c = let w = word_at c.args.s.now c.args.at in
    sym (comparator_by w ∙ ap (λ o. found_by o (same_name w (ascii "ge"))) (sym c.op_at-op.ensures ∙ ap op_of c.in-Le.is))

pub returns-in-Gt : goal.returns-in-Gt
returns-in-Gt c = let w = word_at c.args.s.now c.args.at in
    sym (comparator_by w ∙ ap (λ o. found_by o (same_name w (ascii "ge"))) (sym c.op_at-op.ensures ∙ ap op_of c.in-Gt.is))

pub returns-in-Ge : goal.returns-in-Ge
returns-in-Ge c = let w = word_at c.args.s.now c.args.at in
    c.is_word.ensures ∙ sym (comparator_by w ∙ ap (λ o. found_by o (same_name w (ascii "ge"))) (sym c.op_at-op.ensures ∙ ap op_of c.in-Ge.is))
