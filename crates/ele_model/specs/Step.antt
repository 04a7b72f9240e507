-- The reply to each event, and the world after it: its checks in order, then its reply and its changes.
use Rattle.std.specs.Prelude.{ℕ, ◌+◌, ◌-◌, ◌==◌, nat_lt, nat_le, Bool, false, not, List, [], ◌∷◌, Option, Some, None, is_some, Result, Ok, Err, find, filter, map, length, if◌then◌else◌}
use Rattle.std.specs.List.{list_any}
use Rattle.std.specs.Option.{option_map_or}
use Rattle.ele_content.specs.declared.cell.Cell.{Cell}
use Rattle.ele_content.specs.Content.{content_of, longest_content, cells_after_write}
use Rattle.ele_moment.specs.Last.{last_moment}
use Rattle.ele_lists.specs.Lists.{remove_first}
use Rattle.ele_path.specs.declared.tagged.Tag.TheVariants as tag
use Rattle.ele_model.specs.declared.event.Event.{Event}
use Rattle.ele_model.specs.declared.event.Event.TheVariants.{Clock, Tick, MakeDir, RemoveDir, Create, Link, Unlink, Rename, Undelete, OpenWrite, OpenRead, Write, Truncate, Close, Abandon, Save, Revert, Restore, SetPolicy, SetDefault, GroupMake, GroupDrop, GroupAdd, GroupRemove, Mark, Unmark, CleanOne, Note, Read, Stat, Versions, List as ListNames, Restorable, Due, UsageAll, GroupsAll}
use Rattle.ele_model.specs.declared.event.Source.TheVariants.{Tagged, Of}
use Rattle.ele_model.specs.declared.refusal.Refusal.{Refusal}
use Rattle.ele_model.specs.declared.refusal.Refusal.TheVariants.{ClockBack, ClockEnd, IsDirectory, Exists, NotEmpty, IntoItself, TooBig, Drafting, NotRestorable, NoGroup, GroupExists, NoMark, MarkExists, NotPast, NotAhead, AlreadyMember, NotMember, Full}
use Rattle.ele_model.specs.declared.refusal.Which.TheVariants as which
use Rattle.ele_model.specs.declared.reply.Reply.{Reply}
use Rattle.ele_model.specs.declared.reply.Reply.TheVariants.{Done, Nothing, Now, Directory, File, Handle, Version, Closed, Removed, Bytes, Rows, NameList, RestoreList, DueList, UsageList, GroupList}
use Rattle.ele_model.specs.declared.rows.Reads.{Reads}
use Rattle.ele_model.specs.declared.rows.Reads.TheVariants as reads
use Rattle.ele_model.specs.declared.rows.Target.{Target}
use Rattle.ele_model.specs.declared.rows.Target.TheVariants as target
use Rattle.ele_model.specs.declared.rows.VersionRow.{VersionRow}
use Rattle.ele_model.specs.Change.{Time, SetDirectoryDefault, MakeDirectory, EndName, AddName, MoveName, EndFileName, Revive, MakeFile, SetFilePolicy, Append, Take, StartDraft, WriteDraft, TruncateDraft, EndDraft, OpenHandle, ShutHandle, DropIdle, MakeGroup, DropGroup, AddMember, RemoveMember, AddMark, RemoveMark, version_cells}
use Rattle.ele_model.specs.FileView.{is_version_of}
use Rattle.ele_model.specs.GroupRows.{has_group, has_member, is_marked_at}
use Rattle.ele_model.specs.NameRows.{is_live_in}
use Rattle.ele_model.specs.Plan.{Plan, Tell, Make, Unless, When, Need, IfFound, outcome}
use Rattle.ele_model.specs.Restorable.{may_return, last_target, nameless, restorable}
use Rattle.ele_model.specs.Scan.{scan, first_due}
use Rattle.ele_model.specs.Tagged.{had_life, version_meant, version_found, version_at, walk_meant, walk_then, moment_of}
use Rattle.ele_model.specs.Told.{info_of, stat_of, listing}
use Rattle.ele_model.specs.Usage.{usages}
use Rattle.ele_model.specs.Walk.{live_target, walk_now, file_at, file_now, directory_in, directory_now, parent_now, stands_in}
use Rattle.ele_model.specs.WalkAt.{walk_at}
use Rattle.ele_model.specs.World.{World, default_of, next_of, is_live, has_draft, is_draft, is_handle, is_writer, file_by, reads_by}

-- versions ever made, and open drafts
abbrev pub versions_made : World → ℕ
versions_made w = w.made.versions + length w.drafts

-- another handle than this one writes the file
abbrev pub has_other_writer : World → ℕ → ℕ → Bool
has_other_writer w handle file = list_any (is_writer file) (remove_first (is_handle handle) w.handles)

-- the cells of the file's draft; a handle that writes it has one, so the case of no draft never occurs
abbrev pub draft_cells : World → ℕ → List Cell
draft_cells w file = option_map_or (λ row. row.cells) (find (is_draft file) w.drafts) []

-- the cells that the handle reads
abbrev pub cells_read : World → Reads → List Cell
cells_read w (reads.Draft file) = draft_cells w file
cells_read w (reads.Version file number) = version_cells w file number

-- the file whose draft the handle reads, if it reads one
abbrev pub draft_read : Reads → Option ℕ
draft_read (reads.Draft file) = Some file
draft_read (reads.Version file number) = None

-- the most bytes of a note
abbrev pub longest_note : ℕ
longest_note = 200

-- ---- a save

-- the cells of bytes that one version wrote
abbrev pub cells_by : ℕ → List ℕ → List Cell
cells_by writer bytes = cells_after_write writer 0 bytes []

-- the file at the place of a name, if the name stands; a directory is none
abbrev pub file_standing : Option Target → Result (Option ℕ) Refusal
file_standing None = Ok None
file_standing (Some (target.File file)) = Ok (Some file)
file_standing (Some (target.Directory id)) = Err IsDirectory

-- the file has a new version with these bytes
abbrev pub save_plan : World → ℕ → List ℕ → Plan
save_plan w file bytes =
    let next = next_of w.files file in
    Unless (has_draft w file) Drafting
    (Unless (nat_le w.limits.versions (versions_made w)) (Full which.Versions)
    (Make (Version next) (Append file w.now (cells_by next bytes) ∷ [])))

-- a new file, with an empty first version and a second one with these bytes
abbrev pub save_new_plan : World → ℕ × List ℕ → List ℕ → Plan
save_new_plan w at bytes =
    let id = w.made.files + 1 in
    Unless (nat_le w.limits.files w.made.files) (Full which.Files)
    (Unless (nat_le w.limits.names w.made.names) (Full which.Names)
    (Unless (nat_le w.limits.versions (versions_made w + 1)) (Full which.Versions)
    (Make (Version 2) (MakeFile at.0 at.1 id (default_of w.directories at.0) ∷ Append id w.now (cells_by 2 bytes) ∷ []))))

-- ---- a restore

-- the held version that the file which the path names now had at the moment
abbrev pub own_then : World → Result ℕ Refusal → ℕ → Option VersionRow
own_then w (Ok file) moment = find (had_life file moment) w.versions
own_then w (Err refusal) moment = None

-- the version of the file that the path named at the moment; if it named nothing then, that of the file that it names now
abbrev pub row_then : World → List (List ℕ) → ℕ → Result Target Refusal → Result VersionRow Refusal
row_then w path moment (Ok target) = version_found w (file_at (Ok target)) (tag.At moment)
row_then w path moment (Err refusal) =
    if nat_lt w.now moment then Err refusal
    else option_map_or Ok (own_then w (file_now w.names path) moment) (Err refusal)

abbrev pub version_then : World → List (List ℕ) → ℕ → Result VersionRow Refusal
version_then w path moment = row_then w path moment (walk_at w.names moment w.now path)

-- what a file that stands there becomes: its own older version, or the bytes of another file's
abbrev pub restore_over : World → ℕ → VersionRow → Plan
restore_over w file row =
    When (row.file == file)
    (Unless (has_draft w file) Drafting
    (Unless (nat_le w.limits.versions (versions_made w)) (Full which.Versions)
    (Make (Version (next_of w.files file)) (Append file w.now row.cells ∷ []))))
    (save_plan w file (content_of row.cells))

-- where no name stands: the version's file has the name again if it has no other one, else a new file is made with the bytes
abbrev pub restore_name : World → ℕ × List ℕ → VersionRow → Plan
restore_name w at row =
    When (is_live w row.file)
    (save_new_plan w at (content_of row.cells))
    (Unless (has_draft w row.file) Drafting
    (Unless (nat_le w.limits.names w.made.names) (Full which.Names)
    (Unless (nat_le w.limits.versions (versions_made w)) (Full which.Versions)
    (Make (Version (next_of w.files row.file)) (Revive at.0 at.1 row.file row.number ∷ [])))))

-- ---- each event

abbrev pub plan : World → Event → Plan
-- the clock moves to a moment
plan w (Clock to) = Unless (nat_lt to w.now) ClockBack (Make (Now to) (Time to ∷ []))
-- the clock moves forward by seconds
plan w (Tick seconds) =
    let to = w.now + seconds in Unless (nat_lt last_moment to) ClockEnd (Make (Now to) (Time to ∷ []))
-- a directory with the default policy of its parent, and its name
plan w (MakeDir path) =
    let id = w.made.directories + 1 in
    Need (parent_now w.names path) (λ at.
    Unless (is_some (live_target w.names at.0 at.1)) Exists
    (Unless (nat_le w.limits.directories w.made.directories) (Full which.Directories)
    (Unless (nat_le w.limits.names w.made.names) (Full which.Names)
    (Make (Directory id) (MakeDirectory at.0 at.1 id (default_of w.directories at.0) ∷ [])))))
-- the name of a directory without names dies; the root has none
plan w (RemoveDir path) =
    Need (parent_now w.names path) (λ at.
    Need (directory_now w.names path) (λ directory.
    Unless (list_any (is_live_in directory) w.names) NotEmpty
    (Make Done (EndName at.0 at.1 ∷ []))))
-- a file with the directory's default policy, its name, and an empty first version
plan w (Create path) =
    let id = w.made.files + 1 in
    Need (parent_now w.names path) (λ at.
    Unless (is_some (live_target w.names at.0 at.1)) Exists
    (Unless (nat_le w.limits.files w.made.files) (Full which.Files)
    (Unless (nat_le w.limits.names w.made.names) (Full which.Names)
    (Unless (nat_le w.limits.versions (versions_made w)) (Full which.Versions)
    (Make (File id) (MakeFile at.0 at.1 id (default_of w.directories at.0) ∷ []))))))
-- the file has another name
plan w (Link from to) =
    Need (file_now w.names from) (λ file.
    Need (parent_now w.names to) (λ at.
    Unless (is_some (live_target w.names at.0 at.1)) Exists
    (Unless (nat_le w.limits.names w.made.names) (Full which.Names)
    (Make Done (AddName at.0 at.1 (target.File file) ∷ [])))))
-- the file's name dies; with the last one the current version ends
plan w (Unlink path) =
    Need (parent_now w.names path) (λ at.
    Need (file_now w.names path) (λ file.
    Make Done (EndFileName at.0 at.1 file ∷ [])))
-- the target of the name gets another one in its place; a directory can't move into itself
plan w (Rename from to) =
    Need (parent_now w.names from) (λ old.
    Need (walk_now w.names from) (λ moved.
    Need (parent_now w.names to) (λ at.
    Unless (stands_in w.names moved to) IntoItself
    (Unless (is_some (live_target w.names at.0 at.1)) Exists
    (Unless (nat_le w.limits.names w.made.names) (Full which.Names)
    (Make Done (MoveName old.0 old.1 at.0 at.1 moved ∷ [])))))))
-- the target of the deleted name has it again; a file without a live name gets a version like its last one
plan w (Undelete path) =
    Need (parent_now w.names path) (λ at.
    Unless (is_some (live_target w.names at.0 at.1)) Exists
    (Need (last_target w.names at.0 at.1) (λ lost.
    Unless (not (may_return w lost)) NotRestorable
    (IfFound (nameless w lost)
    (Unless (nat_le w.limits.names w.made.names) (Full which.Names)
    (Make Done (AddName at.0 at.1 lost ∷ [])))
    (λ file.
    Unless (has_draft w file) Drafting
    (Unless (nat_le w.limits.names w.made.names) (Full which.Names)
    (Unless (nat_le w.limits.versions (versions_made w)) (Full which.Versions)
    (Make (Version (next_of w.files file)) (Revive at.0 at.1 file (next_of w.files file - 1) ∷ [])))))))))
-- a handle that writes the file's draft, which begins with the first one
plan w (OpenWrite path) =
    let number = w.made.handles + 1 in
    Need (file_now w.names path) (λ file.
    Unless (nat_le w.limits.handles w.made.handles) (Full which.Handles)
    (When (has_draft w file) (Make (Handle number) (OpenHandle number (reads.Draft file) ∷ []))
    (Unless (nat_le w.limits.versions (versions_made w)) (Full which.Versions)
    (Make (Handle number) (StartDraft file ∷ OpenHandle number (reads.Draft file) ∷ [])))))
-- a handle that reads the version, as long as it is open
plan w (OpenRead tagged) =
    let number = w.made.handles + 1 in
    Need (version_at w tagged) (λ row.
    Unless (nat_le w.limits.handles w.made.handles) (Full which.Handles)
    (Make (Handle number) (OpenHandle number (reads.Version row.file row.number) ∷ [])))
-- the bytes are written over the draft's content; an empty write changes nothing
plan w (Write handle offset bytes) =
    Need (file_by w.handles handle) (λ file.
    When (length bytes == 0) (Tell Done)
    (Unless (nat_lt longest_content (offset + length bytes)) TooBig
    (Make Done (WriteDraft file offset bytes ∷ []))))
-- the draft gets that length
plan w (Truncate handle size) =
    Need (file_by w.handles handle) (λ file.
    Unless (nat_lt longest_content size) TooBig
    (Make Done (TruncateDraft file size ∷ [])))
-- the handle closes. With a file's last writer a changed draft becomes the next version. Any other draft is discarded, and a file without
-- live name, version and draft with it. A writer has a draft, so the reply for the case of none is never given
plan w (Close handle) =
    Need (reads_by w.handles handle) (λ read.
    IfFound (draft_read read) (Make (Closed None) (ShutHandle handle ∷ [])) (λ file.
    When (has_other_writer w handle file) (Make (Closed None) (ShutHandle handle ∷ []))
    (IfFound (find (is_draft file) w.drafts) (Make (Closed None) (ShutHandle handle ∷ [])) (λ draft.
    When draft.changed
    (Make (Closed (Some (next_of w.files file))) (ShutHandle handle ∷ EndDraft file ∷ Append file draft.opened draft.cells ∷ []))
    (Make (Closed None) (ShutHandle handle ∷ EndDraft file ∷ DropIdle file ∷ []))))))
-- the handle of a writer ends; with the last one the draft is discarded, and a file without live name, version and draft with it
plan w (Abandon handle) =
    Need (file_by w.handles handle) (λ file.
    When (has_other_writer w handle file) (Make Done (ShutHandle handle ∷ []))
    (Make Done (ShutHandle handle ∷ EndDraft file ∷ DropIdle file ∷ [])))
-- the file has a next version with these bytes, or is made with them
plan w (Save path bytes) =
    Need (parent_now w.names path) (λ at.
    Need (file_standing (live_target w.names at.0 at.1)) (λ standing.
    Unless (nat_lt longest_content (length bytes)) TooBig
    (IfFound standing (save_new_plan w at bytes) (λ file. save_plan w file bytes))))
-- the file has a new version, with the cells of the version of that number
plan w (Revert path number) =
    Need (file_now w.names path) (λ file.
    Need (version_meant w.files w.versions file (tag.Number number)) (λ row.
    Unless (has_draft w file) Drafting
    (Unless (nat_le w.limits.versions (versions_made w)) (Full which.Versions)
    (Make (Version (next_of w.files file)) (Append file w.now row.cells ∷ [])))))
-- what the path held at the moment becomes its newest version
plan w (Restore path moment) =
    Need (version_then w path moment) (λ row.
    Need (parent_now w.names path) (λ at.
    Need (file_standing (live_target w.names at.0 at.1)) (λ standing.
    IfFound standing (restore_name w at row) (λ file. restore_over w file row))))
-- the file has the policy from now on, for all its versions
plan w (SetPolicy path policy) =
    Need (file_now w.names path) (λ file. Make Done (SetFilePolicy file policy ∷ []))
-- files that are made in the directory from now on have the policy
plan w (SetDefault path policy) =
    Need (directory_now w.names path) (λ directory. Make Done (SetDirectoryDefault directory policy ∷ []))
-- a group of that name
plan w (GroupMake name) =
    Unless (has_group w.groups name) GroupExists
    (Unless (nat_le w.limits.groups w.made.groups) (Full which.Groups)
    (Make Done (MakeGroup name ∷ [])))
-- the group is removed with its marks
plan w (GroupDrop name) = Unless (not (has_group w.groups name)) NoGroup (Make Done (DropGroup name ∷ []))
-- the group has the file, also for the marks that it has
plan w (GroupAdd name path) =
    Unless (not (has_group w.groups name)) NoGroup
    (Need (file_now w.names path) (λ file.
    Unless (has_member w.groups name file) AlreadyMember
    (Unless (nat_le w.limits.members w.made.members) (Full which.Members)
    (Make Done (AddMember name file ∷ [])))))
-- the group no longer has the file
plan w (GroupRemove name path) =
    Unless (not (has_group w.groups name)) NoGroup
    (Need (file_now w.names path) (λ file.
    Unless (not (has_member w.groups name file)) NotMember
    (Make Done (RemoveMember name file ∷ []))))
-- the group has a mark at a moment before now, for good or until a moment after now
plan w (Mark name mark until) =
    Unless (not (has_group w.groups name)) NoGroup
    (Unless (nat_le w.now mark) NotPast
    (Unless (option_map_or (λ end. nat_le end w.now) until false) NotAhead
    (Unless (is_marked_at w.groups name mark) MarkExists
    (Unless (nat_le w.limits.marks w.made.marks) (Full which.Marks)
    (Make Done (AddMark name (record { at = mark; until = until }) ∷ []))))))
-- the group no longer has the mark at the moment
plan w (Unmark name mark) =
    Unless (not (has_group w.groups name)) NoGroup
    (Unless (not (is_marked_at w.groups name mark)) NoMark
    (Make Done (RemoveMark name mark ∷ [])))
-- the first version of the scan is removed, and a file without live name, version and draft with it
plan w CleanOne =
    IfFound (first_due w) (Tell Nothing) (λ key. Make (Removed key) (Take key.file key.number ∷ DropIdle key.file ∷ []))
-- a note changes nothing; the history keeps it
plan w (Note bytes) = Unless (nat_lt longest_note (length bytes)) TooBig (Tell Done)
-- the content that the handle reads
plan w (Read (Of handle)) = Need (reads_by w.handles handle) (λ read. Tell (Bytes (content_of (cells_read w read))))
-- the content of the version that the tagged path means, and of no other
plan w (Read (Tagged tagged)) = Need (version_at w tagged) (λ row. Tell (Bytes (content_of row.cells)))
-- what the path leads to: a version with its moments and its file's policy, or a directory with its own
plan w (Stat tagged) = Need (walk_meant w tagged.path tagged.tag) (λ target. Need (stat_of w target tagged.tag) Tell)
-- the held versions of the file that the path named
plan w (Versions at) =
    Need (file_at (walk_then w at)) (λ file. Tell (Rows (map info_of (filter (is_version_of file) w.versions))))
-- the names that were in the directory that the path named
plan w (ListNames at) =
    Need (directory_in (walk_then w at)) (λ directory. Tell (NameList (listing w.names directory (moment_of w at))))
plan w Restorable = Tell (RestoreList (restorable w))
plan w Due = Tell (DueList (scan w))
plan w UsageAll = Tell (UsageList (usages w))
plan w GroupsAll = Tell (GroupList w.groups)

-- the reply to an event, and the world after it
abbrev pub step : World → Event → Reply × World
step w event = outcome w (plan w event)

abbrev pub clean_step : World → Reply × World
clean_step w = step w CleanOne
