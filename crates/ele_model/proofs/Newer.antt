-- The held version of a file that has so many newer ones: among the file's rows it is so many from the end.
use Rattle.ele_model.proofs.Basics.{AllLater, List, all-any, arith, eqb, false, filter, later-filter, nat_lt, nat_tests, option_map_or, refl, suc, sym, ℕ, ◌<◌, ◌∙◌, ◌≡◌}
use Rattle.ele_model.proofs.Words.{ArePlaced, VersionRow, is_version_of, newer_held, newest_of, with_newer}
use Rattle.ele_lists.proofs.Alls.{later-weaker}
use Rattle.ele_lists.proofs.Backs.{enough-back, found-back, last-back}
use Rattle.ele_lists.proofs.Filters.{find-filter_both}
use Rattle.ele_lists.proofs.Found.{find-same_all}
use Rattle.ele_lists.proofs.Sums.{count-filter_both}
use Rattle.ele_lists.specs.Keys.{Rises, is_behind}
use Rattle.std.proofs.Common.{count_by, leb, reverse, slice_get}

abbrev pub number_of : VersionRow → ℕ
number_of row = row.number

-- a file's rows are in order of numbers
pub own_rise : (versions : List VersionRow) (file : ℕ) → AllLater ArePlaced versions → Rises number_of (filter (is_version_of file) versions)
own_rise versions file placed = later-filter ArePlaced (λ earlier later. earlier.number < later.number) (is_version_of file) versions (λ x y own its is. let after = is.after in grind (arith, nat_tests)) placed

module _ (versions : List VersionRow) (file : ℕ) where
  abbrev own : List VersionRow
  own = filter (is_version_of file) versions

  -- so many are newer as are among the file's rows
  pub newer_own : (number : ℕ) → newer_held versions file number ≡ count_by (is_behind number_of number) own
  newer_own number = sym (count-filter_both (is_behind number_of number) (is_version_of file) versions)

  module _ (rise : Rises number_of own) (newer : ℕ) where
    pub with_newer_own : with_newer versions file newer ≡ slice_get (reverse own) newer
    with_newer_own =
        sym (find-filter_both (λ row. eqb (newer_held versions file row.number) newer) (is_version_of file) versions)
        ∙ find-same_all (λ row. eqb (newer_held versions file row.number) newer) (λ row. eqb (count_by (is_behind number_of row.number) own) newer) own (all-any _ own (λ row. rw (newer_own row.number) refl))
        ∙ found-back number_of own newer rise

    -- at least so many and one are newer, if there is one that has so many newer ones
    pub enough_newer : (number : ℕ) → leb (suc newer) (newer_held versions file number) ≡ option_map_or (λ (row : VersionRow). nat_lt number row.number) (with_newer versions file newer) false
    enough_newer number =
        rw (newer_own number, with_newer_own)
        (enough-back (is_behind number_of number) own newer (later-weaker (λ x y. number_of x < number_of y) _ own (λ x y less h. grind (arith, nat_tests, less, h)) rise))

-- the newest has none
pub newest_newer : (versions : List VersionRow) (file : ℕ) → AllLater ArePlaced versions → newest_of versions file ≡ with_newer versions file 0
newest_newer versions file placed = last-back (is_version_of file) versions ∙ sym (with_newer_own versions file (own_rise versions file placed) 0)
