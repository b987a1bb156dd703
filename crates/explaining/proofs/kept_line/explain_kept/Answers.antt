-- `explaining::kept_line::explain_kept` meets its contract: what is kept of a line decides.
use Prim.Native.Nat.{ℕ}
use lib.ListN.{length, take}
use mathlib.Core.List.{List}
use mathlib.Core.Path.{◌∙◌, ap}
use Rattle.explaining.proofs.KeptLaws.{reason_kept, refusal_kept}
use Rattle.explaining.specs.Kept.{line_bytes}
use Rattle.programs.specs.Kept.{part_length}
use Rattle.reasons.specs.Explaining.{explain_line, explained_as, reason_of}
use Rattle.text.specs.Reasons.{refusal_of}
use Rattle.explaining.proofs.kept_line.explain_kept.Goals as goal

pub returns-in-Ok : goal.returns-in-Ok
unfolding explained_as
returns-in-Ok c d line K kept long =
    reason_kept d line (reason_of c.args.text.now c.in-Ok.x) (c.in-Ok.ensures d K ∙ ap (explain_line d) kept)

pub returns-in-Err : goal.returns-in-Err
unfolding explained_as
returns-in-Err c d line K kept long =
    let r = c.in-Err.r in
    refusal_kept d line (refusal_of r) c.part_len.result
    (c.part_len.ensures ∙ ap (λ (k : List ℕ). part_length r.len (length k) c.args.len) kept ∙ ap (part_length r.len (length (take line_bytes line))) long)
    (c.in-Err.ensures d K ∙ ap (explain_line d) kept)
