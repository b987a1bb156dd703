-- Contract: when arrays hold a loaded document, as far as explaining goes (02, Q-7).
use Rattle.std.specs.Prelude.{ℕ, get_or, List, ◌≡◌}
use Rattle.document.specs.Check.{Accepted, check}
use Rattle.loaded.specs.Cells.{counts_in, version}
use Rattle.reasons.specs.Explaining.{Known}
use Rattle.text.specs.Refusal.{accepted}

-- this very text is an accepted document, and the arrays hold so much of it as a reason is found by, as many of each kind as the
-- cells say (purposes ps, labels ls with their sets ms, tables ts, rows ws)
pub record HoldsLabels (text ps ls ms ts ws cells : List ℕ) : Type 0 where
  pub what : Accepted
  pub is : check text ≡ accepted what
  pub filled : get_or cells 0 0 ≡ version
  pub known : Known text ps ls ms ts ws (counts_in cells) what.doc
