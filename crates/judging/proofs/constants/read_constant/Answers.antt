-- `judging::constants::read_constant` meets its contract. Assumes nothing.
use Rattle.judging.proofs.ConstantLaws.{date_missed, date_read, name_missed, name_read, number_missed, number_read}
use Rattle.judging.proofs.DateLaws.{missing_date_lem, missing_rank, other_date, other_rank, ranked_date, ranked_is}
use Rattle.condition.proofs.FoundLaws.{word_found}
use Rattle.text.proofs.CodeLaws.{amount_is, amount_nothing}
use Rattle.text.proofs.Enclosed.{written_is_name, written_rank}
use Rattle.text.specs.Names.{is_name}
use Rattle.text.specs.Numbers.{rank}
use Rattle.text.specs.Words.{word_at, written_at}
use Rattle.std.specs.Prelude.{Some, is_some}
use mathlib.Core.Path.{◌∙◌, ap, sym}
use Rattle.judging.proofs.constants.read_constant.Goals as goal

pub returns-in-Some : goal.returns-in-Some
returns-in-Some c = let a = c.args in
    let s = a.query.now in
    number_read a.kind (written_at s a.at) c.in-Num.is _ c.rank_number.result
    (written_rank s a.at ∙ amount_is (rank (word_at s a.at)) _ (sym c.rank_at.ensures ∙ c.in-Some.is))
    c.rank_number.ensures

pub returns-in-None : goal.returns-in-None
returns-in-None c = let a = c.args in
    let s = a.query.now in
    number_missed a.kind (written_at s a.at) c.in-Num.is (written_rank s a.at ∙ amount_nothing (rank (word_at s a.at)) (sym c.rank_at.ensures ∙ c.in-None.is))

pub returns-then-is_some : goal.returns-then-is_some
returns-then-is_some c = let a = c.args in
    let s = a.query.now in
    name_read a.kind (written_at s a.at) c.in-Name.is
    (written_is_name s a.at ∙ sym (c.is_some.ensures ∙ ap is_some c.name_end.ensures ∙ word_found is_name s a.at) ∙ c.if-is_some.true)

pub returns-else-is_some : goal.returns-else-is_some
returns-else-is_some c = let a = c.args in
    let s = a.query.now in
    name_missed a.kind (written_at s a.at) c.in-Name.is
    (written_is_name s a.at ∙ sym (c.is_some.ensures ∙ ap is_some c.name_end.ensures ∙ word_found is_name s a.at) ∙ c.if-is_some.false)

pub returns-in-Some-default-Some : goal.returns-in-Some-default-Some
returns-in-Some-default-Some c = let a = c.args in
    let s = a.query.now in
    let p = c.in-Some-default-Some in
    let n = c.rank_number-in-Some-default-Some in
    let e = sym c.read_date.ensures ∙ p.is ∙ ap (λ x. Some (p.field-0-0, x)) p.field-0-1-is in
    date_read a.kind (written_at s a.at) c.in-Date.is n.result (ranked_date s a.at _ _ e) (n.ensures ∙ ranked_is s a.at _ _ e)

pub returns-in-Some-default-None : goal.returns-in-Some-default-None
returns-in-Some-default-None c = let a = c.args in
    let s = a.query.now in
    let p = c.in-Some-default-None in
    let e = sym c.read_date.ensures ∙ p.is ∙ ap (λ x. Some (p.field-0-0, x)) p.field-0-1-is in
    date_read a.kind (written_at s a.at) c.in-Date.is 0 (missing_date_lem s a.at _ e) (missing_rank s a.at _ e)

pub returns-in-None-read_date : goal.returns-in-None-read_date
returns-in-None-read_date c = let a = c.args in
    let s = a.query.now in
    let e = sym c.read_date.ensures ∙ c.in-None-read_date.is in
    date_missed a.kind (written_at s a.at) c.in-Date.is (other_date s a.at e) (other_rank s a.at e)
