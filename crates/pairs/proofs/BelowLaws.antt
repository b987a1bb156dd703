-- One select asked for two purposes: the contract of ask twice, and the theorem of rows given further down. Assumes nothing.
use Prim.Native.Nat.{ℕ}
use lib.ListN.{length}
use mathlib.Core.List.{List}
use mathlib.Core.Path.{◌∙◌, ◌≡◌, ap, sym}
use Rattle.answer.proofs.RowsFurtherDown.{rows_further_down}
use Rattle.answer.specs.Ask.{Answered, after, ask}
use Rattle.answer.specs.Further.{SelectsBelow}
use Rattle.gate.proofs.ExportLaws.{figures_accepted}
use Rattle.pairs.specs.Below.{AsksBelow, GivesBelow, IsGiven}
use Rattle.loaded.specs.Outside.{Asks}
use Rattle.stages.specs.Figures.{Figures, answered_as, in_figures}
use Rattle.query.specs.Authority.{Clock}
use Rattle.text.specs.Refusal.{accepted}
use Rattle.std.specs.Prelude.{Result}
use Rattle.pairs.specs.declared.two.Pair.{Pair}
use Rattle.text.specs.declared.refusals.Refusal.{Refusal}
use Rattle.stages.specs.declared.answered.Figures as figures

-- an asking that is accepted gives its answer
is_given_lem : {doc text : List ℕ} {c : Clock} {before after' : List ℕ} {r : Result figures.Figures Refusal} → Asks doc text c before after' r → (a : Answered) → ask doc text c (length before) ≡ accepted a → IsGiven a before after' r
is_given_lem {before} h a e = record { answer = h.is ∙ ap in_figures e; buffer = h.buffer ∙ ap (λ o. after o before) e }

pub asks_below : {doc text lower : List ℕ} {c : Clock} {out out' other other' : List ℕ} {r : Pair} → Asks doc text c out out' r.first → Asks doc lower c other other' r.second → AsksBelow doc text lower c out out' other other' r
asks_below {doc} {text} {lower} {c} {out} {out'} {other} {other'} {r} x y = record { first = x; second = y; further = go }
  where
    go : SelectsBelow doc text lower → (f : Figures) → answered_as r.first ≡ accepted f → GivesBelow out out' other other' r
    go s f e =
        let a = figures_accepted (ask doc text c (length out)) f (sym x.is ∙ e) in
        let z = rows_further_down doc text lower s c (length out) a.0 a.1 in
        record {
          higher = a.0;
          lower = z.given;
          first = is_given_lem x a.0 a.1;
          second = λ fits. is_given_lem y z.given (z.answers (length other) fits);
          contains = z.contains;
        }
