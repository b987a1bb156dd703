-- `belonging::values::store_values` meets its contract: there is a place for each attribute, and none is stored at first. Assumes nothing.
use lib.ListN.{replicate}
use mathlib.Core.Path.{◌∙◌, ap, sym}
use Rattle.belonging.proofs.values.store_values.Goals as goal

pub returns : goal.returns
returns c d h = c.walk_values.ensures d h (c.clear_places.auto.places ∙ c.told-values) (c.clear_places.ensures ∙ ap (λ n. replicate n 0) (sym c.clear_places.auto.places))
