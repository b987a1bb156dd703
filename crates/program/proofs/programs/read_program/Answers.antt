-- `program::programs::read_program` meets its contract. Assumes nothing.
use mathlib.Core.Path.{◌∙◌, ap}
use Rattle.condition.proofs.ReadLaws.{depth_is}
use Rattle.condition.specs.Answers.{naming_by, read_to}
use Rattle.text.specs.Reader.{from}
use Rattle.program.proofs.ProgramLaws.{stored_runs}
use Rattle.program.proofs.programs.read_program.Goals as goal

pub returns : goal.returns
returns c = let entry = c.args in
    let way = naming_by entry.joined in
    let here = depth_is way (from entry.s.now entry.at) in
    record {
      reads = c.count_condition.ensures ∙ ap read_to here;
      runs = λ x l h few f. stored_runs x entry.trues.now entry.falses.now entry.flips.now _ _ _ (c.build_one.ensures x l (here ∙ h))
          c.told-trues c.told-falses c.told-flips few f;
    }
