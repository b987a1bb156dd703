-- `gate::exports::store_refusal` meets its contract, by those of the functions that it calls. Assumes nothing.
use mathlib.Core.List.{[], ◌∷◌}
use mathlib.Core.Path.{◌∙◌, ap}
use Rattle.gate.specs.Exports.{refusal_figures}
use Rattle.gate.proofs.exports.store_refusal.Goals as goal

pub returns : goal.returns
unfolding refusal_figures
returns c = record {
  code = c.number-n.ensures;
  filled = c.store_five.ensures ∙ ap (λ s. s ∷ c.args.r.start ∷ c.args.r.len ∷ 0 ∷ 0 ∷ []) c.source_code-s.ensures;
}
