-- `programs::lines::put_source` meets its contract: each source has its word.
use Rattle.answer.specs.Session.{source_name}
use Rattle.programs.proofs.lines.put_source.Goals as goal

pub returns-in-Document : goal.returns-in-Document
unfolding source_name
returns-in-Document c = rw c.in-Document.is c.put_bytes.ensures

pub returns-in-Query : goal.returns-in-Query
unfolding source_name
returns-in-Query c = rw c.in-Query.is c.put_bytes-in-Query.ensures

pub returns-in-File : goal.returns-in-File
unfolding source_name
returns-in-File c = rw c.in-File.is c.put_bytes-in-File.ensures
