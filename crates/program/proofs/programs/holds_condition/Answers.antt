-- `program::programs::holds_condition` meets its contract. Assumes nothing.
use mathlib.Core.Path.{◌∙◌, ap, sym}
use Rattle.condition.specs.Answers.{held_read}
use Rattle.program.proofs.ProgramLaws.{program_none, program_text}
use Rattle.program.proofs.programs.holds_condition.Goals as goal

pub returns : goal.returns
returns c = λ f given. c.holds_program.ensures ∙ program_text c.read_program.ensures _ c.in-Some.m c.in-Some.is c.args.truths.now c.told-truths f given

pub returns-in_default : goal.returns-in_default
returns-in_default c = λ f given. sym (ap (held_read f) (program_none c.read_program.ensures c.in_default.is))
