-- `judging::tests::store_program` meets its contract. Assumes nothing.
use Rattle.condition.specs.Answers.{naming_by}
use Rattle.judging.proofs.TestLaws.{no_program, program_when}
use Rattle.judging.proofs.tests.store_program.Goals as goal

pub returns-in-Always : goal.returns-in-Always
returns-in-Always c = let a = c.args in no_program (naming_by a.joined) a.query.now a.test c.in-Always.is _ _ _

pub returns-in-When : goal.returns-in-When
returns-in-When c = let a = c.args in program_when (naming_by a.joined) a.query.now a.test _ _ c.in-When.is c.read_program.result _ _ _ c.read_program.ensures
