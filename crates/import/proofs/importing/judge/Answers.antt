-- `import::importing::judge` meets its contract. Assumes nothing.
use Rattle.import.proofs.ImportLaws.{judge_counted, judge_malformed}
use mathlib.Core.Path.{◌∙◌, sym}
use Rattle.import.proofs.importing.judge.Goals as goal

pub returns-in-Err : goal.returns-in-Err
returns-in-Err c = let entry = c.args in λ bytes e. judge_malformed bytes entry.table.now entry.label.now entry.room c.refusal_at.result (sym e ∙ c.in-Err.is) c.refusal_at.ensures

pub returns-in-Ok : goal.returns-in-Ok
returns-in-Ok c = let entry = c.args in λ bytes e. judge_counted bytes entry.table.now entry.label.now entry.room (sym e ∙ c.in-Ok.is) c.judge_scanned.ensures
