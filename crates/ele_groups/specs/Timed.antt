-- The invariant of the fields of `Marks`. No public clause cites this module.
use Rattle.std.specs.Prelude.{◌≡◌, ℕ, ◌==◌, ◌<◌, ◌≤◌, false, List, find, Some}
use Rattle.std.specs.BTreeMap.{BTreeMap, get}
use Rattle.std.specs.List.{list_any}
use Rattle.std.specs.Ordering.{nat_cmp}
use Rattle.ele_lists.specs.Lists.{AllLater}
use Rattle.ele_model.specs.declared.rows.MarkRow.{MarkRow}
use Rattle.ele_model.specs.GroupRows.{is_mark}

-- the list has each number once
abbrev pub AreApart : List ℕ → Type 0
AreApart xs = AllLater (λ earlier later. (earlier == later) ≡ false) xs

-- no two marks have one moment
abbrev pub AreMarksApart : List MarkRow → Type 0
AreMarksApart xs = AllLater (λ earlier later. (earlier.at == later.at) ≡ false) xs

-- no two marks have one moment, and each is under its own
pub record AreTimed (made : List MarkRow) (times : BTreeMap ℕ MarkRow) : Type 0 where
  pub apart : AreMarksApart made
  pub same : (time : ℕ) → get nat_cmp times time ≡ find (is_mark time) made

-- the first of the marks from the moment on
pub record IsFirst (marks : List MarkRow) (from : ℕ) (mark : MarkRow) : Type 0 where
  pub stands : find (is_mark mark.at) marks ≡ Some mark
  pub late : from ≤ mark.at
  pub least : (time : ℕ) → from ≤ time → time < mark.at → list_any (is_mark time) marks ≡ false
