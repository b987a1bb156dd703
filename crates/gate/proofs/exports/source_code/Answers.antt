-- `gate::exports::source_code` meets its contract. Assumes nothing.
use mathlib.Core.Path.{ap, sym}
use Rattle.gate.specs.Exports.{source_code}
use Rattle.text.specs.Reasons.{source_of}
use Rattle.gate.proofs.exports.source_code.Goals as goal

pub returns-in-Document : goal.returns-in-Document
unfolding source_code
returns-in-Document c = ap (λ s. source_code (source_of s)) (sym c.in-Document.is)

pub returns-in-Query : goal.returns-in-Query
unfolding source_code
returns-in-Query c = ap (λ s. source_code (source_of s)) (sym c.in-Query.is)

pub returns-in-File : goal.returns-in-File
unfolding source_code
returns-in-File c = ap (λ s. source_code (source_of s)) (sym c.in-File.is)
