-- What changes of groups touch.
use Rattle.std.specs.Prelude.{◌≡◌, ℕ, true, List, [], ◌∷◌, Option, Some, None}
use Rattle.ele_fates.specs.declared.change.GroupChange.{GroupChange}
use Rattle.ele_fates.specs.declared.change.GroupChange.TheVariants.{Marked, Unmarked, Joined, Left, Dropped}
use Rattle.ele_model.specs.declared.cover.Cover.{Cover}
use Rattle.ele_model.specs.declared.rows.GroupRow.{GroupRow}
use Rattle.ele_model.specs.Cover.{cover_of, cover_until, longer}
use Rattle.ele_model.specs.Change.{Change, AddMark, AddMember, DropGroup, RemoveMark, RemoveMember}
use Rattle.ele_model.specs.GroupRows.{has_member, is_marked_at}
use Rattle.ele_model.specs.GroupsAsked.{cover_with, cover_without, marks_of, members_of}

-- the change of the world
abbrev pub change_of : GroupChange → Change
change_of (Marked name mark) = AddMark name mark
change_of (Unmarked name moment) = RemoveMark name moment
change_of (Joined name file) = AddMember name file
change_of (Left name file) = RemoveMember name file
change_of (Dropped name) = DropGroup name

-- the files whose versions it touches
abbrev pub files_of : GroupChange → List GroupRow → List ℕ
files_of (Marked name mark) groups = members_of groups name
files_of (Unmarked name moment) groups = members_of groups name
files_of (Joined name file) groups = file ∷ []
files_of (Left name file) groups = file ∷ []
files_of (Dropped name) groups = members_of groups name

-- and the moments at which these versions were current
abbrev pub moments_of : GroupChange → List GroupRow → List ℕ
moments_of (Marked name mark) groups = mark.at ∷ []
moments_of (Unmarked name moment) groups = moment ∷ []
moments_of (Joined name file) groups = marks_of groups name
moments_of (Left name file) groups = marks_of groups name
moments_of (Dropped name) groups = marks_of groups name

-- the mark or the file that is removed is there
abbrev pub HasLeaving : GroupChange → List GroupRow → Type 0
HasLeaving (Marked name mark) groups = Unit {0}
HasLeaving (Unmarked name moment) groups = is_marked_at groups name moment ≡ true
HasLeaving (Joined name file) groups = Unit {0}
HasLeaving (Left name file) groups = has_member groups name file ≡ true
HasLeaving (Dropped name) groups = Unit {0}

-- how long marks hold what was current of the file from the one moment until the other, after the change of groups
abbrev pub cover_after : GroupChange → List GroupRow → ℕ → ℕ → Option ℕ → Cover
cover_after (Marked name mark) groups file closed ended = longer (cover_until mark.until) (cover_of groups file closed ended)
cover_after (Unmarked name moment) groups file closed ended = cover_without groups name (Some moment) file closed ended
cover_after (Joined name member) groups file closed ended = cover_with groups name file closed ended
cover_after (Left name member) groups file closed ended = cover_without groups name None file closed ended
cover_after (Dropped name) groups file closed ended = cover_without groups name None file closed ended
