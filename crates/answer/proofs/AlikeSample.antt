-- The sample session with Bo's 75 made 10 is alike to the session as it stands, for the sample's query: so the claim speaks
-- of it.
use Prim.Native.Nat.{ℕ}
use mathlib.Core.Bool.{true}
use mathlib.Core.List.{List}
use mathlib.Core.Path.{◌≡◌, refl}
use Rattle.answer.proofs.AlikeDecided.{alike_if_tested}
use Rattle.answer.proofs.Samples.{cy, ida, policy, session, session10}
use Rattle.answer.specs.Alike.{Alike}
use Rattle.answer.specs.AlikeTest.{alike?}
use Rattle.answer.specs.Computing.{computing}
use Rattle.text.specs.Bytes.{ascii}

unfoldable pub asked : List ℕ
asked = ascii "(select ana desk post sub (who) (gt due 50))"

sample_tested : alike? asked session session10 ≡ true
unfolding computing policy ida cy session session10 asked
sample_tested = refl

pub sample_alike : Alike asked session session10
sample_alike = alike_if_tested asked session session10 sample_tested
