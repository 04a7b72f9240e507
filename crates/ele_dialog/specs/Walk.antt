-- Dates that are added word after word. No public clause cites this module.
use Rattle.std.specs.Prelude.{◌≡◌, ℕ, Bool, List, [], ◌∷◌, ◌++◌}
use Rattle.std.specs.List.{flat_map}
use Rattle.ele_dialog.specs.Dates.{AreDates, between_dates, dated_words, joined, parts_of}

-- what stands before the next text
abbrev pub front_after : List ℕ → List ℕ → List (List ℕ) → List ℕ
front_after first next [] = first
front_after first next (text ∷ texts) = next

-- the dates of words were added to a text, and this stands before the next date
pub record AddsDates (front : List ℕ) (words : List (List ℕ)) (behind old new : List ℕ) : Type 0 where
  pub dates : List (List ℕ)
  pub are : AreDates words dates
  pub behind_is : behind ≡ front_after front between_dates dates
  pub adds : new ≡ old ++ joined front between_dates dates

-- those of the words that are moments by these columns; the columns of the words behind them are left
pub record AddsWords (columns : List Bool) (front : List ℕ) (words : List (List ℕ)) (left : List Bool) (behind old new : List ℕ) : Type 0 where
  pub found : List (List ℕ)
  pub walked : (others : List (List ℕ)) → dated_words columns (words ++ others) ≡ found ++ dated_words left others
  pub adds : AddsDates front (flat_map parts_of found) behind old new
