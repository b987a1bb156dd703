-- `loaded::measures::measure_loaded` meets its contract: the figures of asking without bounds have the answer's length. Assumes nothing.
use Rattle.loaded.proofs.Chain.{handed_on, measures_length, measures_refused}
use Rattle.loaded.specs.Outside.{Measures}
use Rattle.loaded.proofs.measures.measure_loaded.Goals as goal

pub returns-in_err-f : goal.returns-in_err-f
returns-in_err-f c h = handed_on (Measures _ _ _) c.from_residual.ensures.1 (measures_refused _ _ _ (c.ask_unbounded.ensures h) c.in_err-f.was)

pub returns : goal.returns
returns c h = measures_length _ _ _ (c.ask_unbounded.ensures h) c.in_ok-f.was
