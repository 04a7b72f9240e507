-- What changed between two moments is the difference of what look-ups with these find.
use Rattle.std.specs.Prelude.{◌≡◌, ℕ, Bool, false, not, ◌&&◌, List, Option}
use Rattle.std.specs.List.{list_any}
use Rattle.std.specs.Option.{option_map_or}
use Rattle.ele_model.specs.declared.rows.NameRow.{NameRow}
use Rattle.ele_model.specs.NameRows.{covers}
use Rattle.ele_model.specs.World.{World}
use Rattle.ele_changes.specs.Changes.{changes_between, may_differ}
use Rattle.ele_changes.specs.Names.{is_same_name}
use Rattle.ele_changes.specs.declared.change.Change.{Change}
use Rattle.ele_changes.specs.declared.change.Span.{Span}

-- a look-up with the moment finds this name, of this file or directory
abbrev pub is_found : ℕ → List NameRow → NameRow → Bool
is_found moment rows name = list_any (λ row. covers moment row && is_same_name name row) rows

-- the row is one of the name, if there is a row
abbrev pub is_it : NameRow → Option NameRow → Bool
is_it name row = option_map_or (is_same_name name) row false

-- the change has the name at the first moment alone, at the second alone, or at both
abbrev pub loses : NameRow → Change → Bool
loses name change = is_it name change.from && not (is_it name change.to)

abbrev pub gains : NameRow → Change → Bool
gains name change = is_it name change.to && not (is_it name change.from)

abbrev pub keeps : NameRow → Change → Bool
keeps name change = is_it name change.from && is_it name change.to

-- a change loses a name just if the first look-up finds it and the second doesn't, and gains one the other way round. It keeps a name just if
-- both find it, of a file of which it isn't known that it had one version at both moments
pub record TellsBoth (w : World) (span : Span) (name : NameRow) : Type 0 where
  pub lost : list_any (loses name) (changes_between w span) ≡ (is_found span.first w.names name && not (is_found span.second w.names name))
  pub gained : list_any (gains name) (changes_between w span) ≡ (is_found span.second w.names name && not (is_found span.first w.names name))
  pub kept : list_any (keeps name) (changes_between w span)
      ≡ ((is_found span.first w.names name && is_found span.second w.names name) && may_differ w.versions span name.target)

-- of all names, whether the rows are well formed or not
abbrev pub BothMoments : Type 0
BothMoments = (w : World) (span : Span) (name : NameRow) → TellsBoth w span name
