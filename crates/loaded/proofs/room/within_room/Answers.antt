-- `loaded::room::within_room` meets its contract: 18 goes by the answer's length. Assumes nothing.
use mathlib.Core.Path.{◌∙◌, ◌≡◌, ap, refl, sym}
use Rattle.loaded.proofs.Chain.{handed_on, room_enough, room_refused, room_short}
use Rattle.loaded.specs.Outside.{figures_fit}
use Rattle.stages.specs.Figures.{answered_as}
use Rattle.text.specs.Refusal.{pointing_nowhere}
use Rattle.loaded.proofs.room.within_room.Goals as goal

pub returns-in_err-f : goal.returns-in_err-f
returns-in_err-f c = handed_on (λ r. answered_as r ≡ figures_fit c.args.room (answered_as c.args.a)) c.from_residual.ensures.1
    (ap answered_as (sym c.in_err-f.was) ∙ room_refused _ c.in_err-f.was)

pub returns-then-room-f : goal.returns-then-room-f
unfolding pointing_nowhere
returns-then-room-f c = room_short _ _ c.in_ok-f.was c.if-room-f.true refl

pub returns : goal.returns
returns c = room_enough _ c.in_ok-f.was c.if-room-f.false
