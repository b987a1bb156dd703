-- One name that unfolds every definition here and in the crates below: `unfolding computing` lets a closed example compute.
use Rattle.lists.specs.Lists as Lists

unfoldable pub computing : Unit {0}
unfolding mathlib.Core.Option.bind mathlib.Core.List.flatten Lists.any_of Lists.all_of Lists.keep Lists.count_of Lists.find_index_from Lists.find_index Lists.find Lists.found Lists.there Lists.holds_of Lists.listed Lists.member Lists.or_zero
computing = tt
