-- `workspace::found::find_printed` meets its contract: positions behind the array's end are not looked at. Assumes nothing.
use native.Mathlib.Omega.{arith}
use Rattle.workspace.proofs.found.find_printed.Goals as goal

pub returns-then-ws-n : goal.returns-then-ws-n
returns-then-ws-n c = (λ fits p. absurd (omega (arith, fits)), tt)

pub returns-then-ws-n-2 : goal.returns-then-ws-n-2
returns-then-ws-n-2 c = (λ fits p. absurd (omega (arith, fits)), tt)

pub returns : goal.returns
returns c = (λ fits p. c.seek_printed.ensures.0 p, c.seek_printed.ensures.1)
