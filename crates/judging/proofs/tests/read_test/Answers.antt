-- `judging::tests::read_test` meets its contract. Assumes nothing.
use Rattle.condition.specs.Answers.{mode_by}
use Rattle.condition.specs.Kinds.{has_kind}
use Rattle.judging.proofs.ConstantLaws.{name_written}
use Rattle.judging.specs.Tests.{KindRead}
use Rattle.text.specs.Words.{written_at}
use mathlib.Core.Path.{◌∙◌, ap, refl, subst, sym}
use native.Mathlib.Omega.{arith}
use Rattle.judging.proofs.tests.read_test.Goals as goal

pub returns : goal.returns
unfolding has_kind
returns c = let s = c.args.query.now in
    let place = c.value_place-place in
    let typed = c.kind_cell-kind.ensures in
    record {
      column = refl;
      kind = subst (KindRead _ _ _) (sym typed) c.compared_kind-typed.ensures;
      operator = c.op_code-operator.ensures ∙ c.op_at.ensures;
      sign = refl;
      place = place.ensures;
      fits = c.read_constant-value.ensures.fits ∙ ap (λ k. has_kind k (written_at s place.result)) (sym typed);
      sized = λ fits. record {
        size = omega (arith, c.word_end-end.ensures);
        ranked = λ e. c.read_constant-value.ensures.ranked (sym typed ∙ e);
        plain = λ e. name_written s place.result
            (ap (λ k. has_kind k (written_at s place.result)) (sym (sym typed ∙ e)) ∙ sym c.read_constant-value.ensures.fits ∙ fits);
        dated = λ e. c.read_constant-value.ensures.dated (sym typed ∙ e);
      };
      hit = refl;
      miss = refl;
      asked = ap mode_by c.flag_number.ensures;
    }
