-- `gate::parts::part` meets its contract: a piece of the text that the refusal points into. Assumes nothing.
use mathlib.Core.Path.{◌∙◌}
use Rattle.gate.proofs.PartLaws.{part_document, part_file, part_query}
use Rattle.gate.proofs.parts.part.Goals as goal

pub returns-in-Document : goal.returns-in-Document
returns-in-Document c = c.piece.ensures ∙ part_document c.args.doc.now c.args.query.now c.args.r c.in-Document.is

pub returns-in-Query : goal.returns-in-Query
returns-in-Query c = c.piece-in-Query.ensures ∙ part_query c.args.doc.now c.args.query.now c.args.r c.in-Query.is

pub returns-in-File : goal.returns-in-File
returns-in-File c = part_file c.args.doc.now c.args.query.now c.args.r c.in-File.is
