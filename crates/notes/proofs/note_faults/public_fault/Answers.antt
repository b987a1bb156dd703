-- `notes::note_faults::public_fault` meets its contract: each answer by its law. Assumes nothing.
use Rattle.notes.proofs.NoteFaults.{no_table, public_once, public_twice}
use Rattle.notes.proofs.note_faults.public_fault.Goals as goal

pub returns-in_default : goal.returns-in_default
returns-in_default c = let a = c.args in
    no_table a.text.now a.tables.now a.k a.line.now a.t c.find_table.result c.find_table.ensures.0 c.in_default.is

pub returns-then-is_public : goal.returns-then-is_public
returns-then-is_public c = let a = c.args in
    public_twice a.text.now a.tables.now a.k a.line.now a.t c.find_table.result
    c.find_table.ensures.0 c.in-Some.x
    c.in-Some.is c.find_table.ensures.1 c.is_public.result
    c.is_public.ensures c.if-is_public.true

pub returns : goal.returns
returns c = let a = c.args in
    public_once a.text.now a.tables.now a.k a.line.now a.t c.find_table.result
    c.find_table.ensures.0 c.in-Some.x
    c.in-Some.is c.find_table.ensures.1 c.is_public.result
    c.is_public.ensures c.if-is_public.false
