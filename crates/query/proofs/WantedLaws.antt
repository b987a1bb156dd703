-- What is asked for, with each column replaced. Assumes nothing.
use mathlib.Core.List.{map}
use mathlib.Core.Path.{◌≡◌, refl}
use Rattle.query.specs.QueryForm.{Wanted, counts_only, has_gaps, map_wanted, rows_of, selected, admits_ranges, mode_in}

module _ {A B : Type 0} (f : A → B) where
  pub selected_map : (w : Wanted A) → selected (map_wanted f w) ≡ map f (selected w)
  unfolding selected map_wanted
  selected_map (rows_of v cs) = refl
  selected_map counts_only = refl

  pub gaps_map : (w : Wanted A) → has_gaps (map_wanted f w) ≡ has_gaps w
  unfolding has_gaps map_wanted
  gaps_map (rows_of v cs) = refl
  gaps_map counts_only = refl

-- nor do they say whether ranges are taken
pub ranges_map : {A B : Type 0} (f : A → B) (w : Wanted A) → admits_ranges (map_wanted f w) ≡ admits_ranges w
unfolding admits_ranges map_wanted
ranges_map f (rows_of v cs) = refl
ranges_map f counts_only = refl

-- or which rows pass
pub mode_map : {A B : Type 0} (f : A → B) (w : Wanted A) → mode_in (map_wanted f w) ≡ mode_in w
unfolding mode_in map_wanted
mode_map f (rows_of v cs) = refl
mode_map f counts_only = refl
