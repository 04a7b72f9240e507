-- The number of different places in a list: the length of a list of the same places that has each once.
use Rattle.std.specs.Prelude.{◌≡◌, true, false, List, length}
use Rattle.std.specs.List.{AllByRecursion, list_any}
use Rattle.ele_content.specs.Place.{Place, is_place, different}
use Rattle.ele_lists.specs.Lists.{AllLater}

pub record HasDifferent (places : List Place) : Type 0 where
  pub once : List Place
  pub apart : AllLater (λ earlier later. is_place earlier later ≡ false) once
  pub all : AllByRecursion (λ place. list_any (is_place place) once ≡ true) places
  pub only : AllByRecursion (λ place. list_any (is_place place) places ≡ true) once
  pub count : different is_place places ≡ length once

abbrev pub CountsPlaces : Type 0
CountsPlaces = (places : List Place) → HasDifferent places
