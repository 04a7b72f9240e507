-- How long marks hold what was current from one moment until another, or still is.
use Rattle.std.specs.Prelude.{ℕ, nat_le, nat_lt, max, Bool, true, false, List, [], ◌∷◌, Option, Some, None, if◌then◌else◌}
use Rattle.ele_moment.specs.Last.{last_moment}
use Rattle.ele_model.specs.declared.cover.Cover.{Cover}
use Rattle.ele_model.specs.declared.cover.Cover.TheVariants.{Free, Until, Always}
use Rattle.ele_model.specs.declared.rows.GroupRow.{GroupRow}
use Rattle.ele_model.specs.declared.rows.MarkRow.{MarkRow}
use Rattle.ele_model.specs.GroupRows.{covers_moment, marks_over}

-- the cover lasts past the moment
abbrev pub lasts : Cover → ℕ → Bool
lasts Free at = false
lasts (Until end) at = nat_lt at end
lasts Always at = true

-- how long a mark holds what it covers, by its end
abbrev pub cover_until : Option ℕ → Cover
cover_until None = Always
cover_until (Some end) = Until end

-- the longer of both
abbrev pub longer : Cover → Cover → Cover
longer Free other = other
longer (Until end) Free = Until end
longer (Until end) (Until other) = Until (max end other)
longer (Until end) Always = Always
longer Always other = Always

-- the longest of the marks that cover that time
abbrev pub cover_by : ℕ → Option ℕ → List MarkRow → Cover
cover_by closed ended [] = Free
cover_by closed ended (mark ∷ marks) =
    if covers_moment closed ended mark.at then longer (cover_until mark.until) (cover_by closed ended marks) else cover_by closed ended marks

-- the longest of the marks that cover that time, of groups that have the file
abbrev pub cover_of : List GroupRow → ℕ → ℕ → Option ℕ → Cover
cover_of rows file closed ended = cover_by closed ended (marks_over rows file)

-- when a version ripens whose policy lets it go from the moment on: the later of that moment and of the end of the cover; none past the
-- last moment
abbrev pub ripe_past : Cover → ℕ → Option ℕ
ripe_past Free ripe = Some ripe
ripe_past (Until end) ripe = if nat_le (max end ripe) last_moment then Some (max end ripe) else None
ripe_past Always ripe = None
