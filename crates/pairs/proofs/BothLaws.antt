-- The answers of two documents that are alike. Assumes nothing.
use Prim.Native.Nat.{ℕ}
use lib.ListN.{length}
use mathlib.Core.List.{List}
use mathlib.Core.Path.{◌∙◌, ap, sym}
use Rattle.answer.proofs.NoDifference.{no_difference}
use Rattle.answer.specs.Ask.{after, ask}
use Rattle.loaded.specs.Outside.{Asks}
use Rattle.pairs.specs.Both.{AsksBoth}
use Rattle.query.specs.Authority.{Clock}
use Rattle.stages.specs.Figures.{in_figures}
use Rattle.pairs.specs.declared.two.Pair.{Pair}

-- each answer is that of asking, so alike documents give the same
pub asks_both : {a b text : List ℕ} {c : Clock} {out out' other other' : List ℕ} {r : Pair} → Asks a text c out out' r.first → Asks b text c other other' r.second → AsksBoth a b text c out out' other other' r
asks_both {a} {b} {text} {c} {out} {out'} {other} {other'} {r} x y = record {
  first = x;
  second = y;
  alike = λ l e. record {
    answers = x.is ∙ ap in_figures (no_difference text a b l c out).0 ∙ ap (λ o. in_figures (ask b text c (length o))) e ∙ sym y.is;
    buffers = x.buffer ∙ (no_difference text a b l c out).1 ∙ ap (λ o. after (ask b text c (length o)) o) e ∙ sym y.buffer;
  };
}
