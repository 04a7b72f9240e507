-- Where moments stand in the lines of an answer.
use Rattle.std.specs.Prelude.{ℕ, Bool, true, false, ◌||◌, List, [], ◌∷◌, codes, nat_eq, Option, Some, None, Ok, if◌then◌else◌}
use Rattle.std.specs.List.{starts_with}
use Rattle.std.specs.Str.{bytes_eq}
use Rattle.ele_dialog.specs.declared.places.Places.{Places}
use Rattle.ele_dialog.specs.declared.places.Places.TheVariants.{Versions, Groups, Firsts, Handles, Names, Story, File, Cleaned, Fate}
use Rattle.ele_model.specs.declared.reply.Reply.{Reply}
use Rattle.ele_model.specs.declared.reply.Reply.TheVariants.{Rows, DueList, GroupList, FileStat, Removed}
use Rattle.ele_runs.specs.declared.said.Said.{Said}
use Rattle.ele_runs.specs.declared.said.Said.TheVariants as said

-- where the moments of a reply stand: a time and a date have both words already
abbrev pub places_of_reply : Option Reply → Option Places
places_of_reply (Some (Rows versions)) = Some Versions
places_of_reply (Some (DueList keys)) = Some Firsts
places_of_reply (Some (GroupList groups)) = Some Groups
places_of_reply (Some (FileStat stat)) = Some File
places_of_reply (Some (Removed key)) = Some Cleaned
places_of_reply last = None

-- and those of an answer, with the last reply. Rows of `history` and `answers` are lines that can be typed again, and stay
abbrev pub places_of : Said → Option Reply → Option Places
places_of said.Replied last = places_of_reply last
places_of (said.Why (Ok fate)) last = Some Fate
places_of (said.WhyHeld fate hold) last = Some Fate
places_of (said.WhyRemoved row) last = Some Fate
places_of (said.Ahead (Ok keys)) last = Some Firsts
places_of (said.Gone rows) last = Some Firsts
places_of (said.Handles handles) last = Some Handles
places_of (said.Removals rows) last = Some Names
places_of (said.Expiring (Ok found)) last = Some Names
places_of (said.Story (Ok story)) last = Some Story
places_of other last = None

-- these columns, of a row, which begins with a dash
abbrev pub columns_of_row : List Bool → List ℕ → Option (List Bool)
columns_of_row columns line = if starts_with nat_eq line (codes "- ") then Some columns else None

-- the columns of a row of `story`: from when until when a name lived, or when a version closed and ended
abbrev pub columns_of_story : List ℕ → List Bool
columns_of_story line =
    if starts_with nat_eq line (codes "- name ")
    then false ∷ false ∷ true ∷ true ∷ []
    else false ∷ false ∷ false ∷ true ∷ true ∷ []

-- for each of the first words of a line whether it is a moment; no line but those with columns has moments
abbrev pub columns_of : Places → List ℕ → Option (List Bool)
-- - NUMBER OPENED CLOSED ENDED
columns_of Versions line = columns_of_row (false ∷ false ∷ true ∷ true ∷ true ∷ []) line
-- - NAME members FILES marks MARKS
columns_of Groups line = columns_of_row (false ∷ false ∷ false ∷ false ∷ false ∷ true ∷ []) line
-- - RIPE, or - REMOVED
columns_of Firsts line = columns_of_row (false ∷ true ∷ []) line
-- - HANDLE FILE VERSION SINCE
columns_of Handles line = columns_of_row (false ∷ false ∷ false ∷ false ∷ true ∷ []) line
-- - RIPE FILE VERSION PATH UNTIL, or - REMOVED FILE VERSION PATH UNTIL
columns_of Names line = columns_of_row (false ∷ true ∷ false ∷ false ∷ false ∷ true ∷ []) line
columns_of Story line = columns_of_row (columns_of_story line) line
-- ok file FILE version NUMBER opened OPENED closed CLOSED ended ENDED
columns_of File line =
    Some (false ∷ false ∷ false ∷ false ∷ false ∷ false ∷ true ∷ false ∷ true ∷ false ∷ true ∷ [])
-- ok removed RIPE
columns_of Cleaned line = Some (false ∷ false ∷ true ∷ [])
columns_of Fate line = Some []

-- a moment is behind such a word of a fate
abbrev pub names_moment : List ℕ → Bool
names_moment word = bytes_eq word (codes "due") || (bytes_eq word (codes "until") || bytes_eq word (codes "removed"))

-- and behind these the name of a group, and then a mark
abbrev pub names_mark : List ℕ → Bool
names_mark word = bytes_eq word (codes "held") || bytes_eq word (codes "marked")

-- for the words behind a word of a fate whether each is a moment
abbrev pub columns_behind : List ℕ → List Bool
columns_behind word =
    if names_moment word then true ∷ [] else (if names_mark word then false ∷ true ∷ [] else [])
