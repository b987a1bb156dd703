-- Contract: when arrays hold a loaded document.
use Rattle.std.specs.Prelude.{ℕ, get_or, List, ◌≡◌}
use Rattle.document.specs.Check.{Accepted, check}
use Rattle.loaded.specs.Cells.{counts_in, version}
use Rattle.stages.specs.Stages.{Standing}
use Rattle.text.specs.Refusal.{accepted}

-- THE LOADED DOCUMENT: this very text is an accepted document, and the arrays hold it, as many of each kind as the cells say
-- (purposes ps, roles rs, attributes bs, users us, conditional roles cs, grants gs, labels' sets ms, tables ts, rows ws)
pub record Holds (text ps rs bs us cs gs ms ts ws cells : List ℕ) : Type 0 where
  pub what : Accepted
  pub is : check text ≡ accepted what
  pub filled : get_or cells 0 0 ≡ version
  pub standing : Standing text ps rs bs us cs gs ms ts ws (counts_in cells) what.doc
