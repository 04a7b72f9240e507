-- The text of replies.
use Rattle.std.specs.Prelude.{◌≡◌, ℕ, List, [], ◌∷◌, ◌++◌, length, map, codes, Option, Some, None, Result, Ok, Err}
use Rattle.std.specs.Fmt.{decimal}
use Rattle.std.specs.List.{flat_map}
use Rattle.ele_moment.specs.Spelled.{SpellsTimestamp}
use Rattle.ele_model.specs.AnswerText.{refusal_words, stop_words, pass_words}
use Rattle.ele_model.specs.FateText.{mark_word}
use Rattle.ele_due.specs.declared.key.Key.{Key}
use Rattle.ele_model.specs.declared.refusal.Refusal.{Refusal}
use Rattle.ele_model.specs.declared.refusal.Stop.{Stop}
use Rattle.ele_model.specs.declared.reply.Reply.{Reply}
use Rattle.ele_model.specs.declared.reply.Reply.TheVariants.{Done, Nothing, Now, Directory, File, Handle, Version, Closed, Removed, Bytes, FileStat, DirStat, Rows, NameList, RestoreList, DueList, UsageList, GroupList, Refused}
use Rattle.ele_policy.specs.PolicyText.{kind_word, policy_word}
use Rattle.ele_policy.specs.declared.policy.Kind.TheVariants as kind
use Rattle.ele_model.specs.declared.rows.DeletedName.{DeletedName}
use Rattle.ele_model.specs.declared.rows.DirectoryRow.{DirectoryRow}
use Rattle.ele_model.specs.declared.rows.FileStat.{FileStat as AnyFileStat}
use Rattle.ele_model.specs.declared.rows.GroupRow.{GroupRow}
use Rattle.ele_model.specs.declared.rows.VersionInfo.{VersionInfo}
use Rattle.ele_model.specs.declared.rows.Target.{Target}
use Rattle.ele_model.specs.declared.rows.Target.TheVariants as target
use Rattle.ele_usage.specs.declared.usage.Usage.{Usage}
use Rattle.ele_model.specs.declared.pass.PassEnd.{PassEnd}
use Rattle.ele_commands.specs.EventText.{bytes_word}
use Rattle.ele_commands.specs.Pieces.{pieces_or_dash}
use Rattle.ele_output.specs.Front.{WritesText}
use Rattle.ele_printer.specs.LineFault.{fault_number, fault_name}
use Rattle.ele_printer.specs.declared.fault.LineFault.{LineFault}
use Rattle.ele_output.specs.Line.{line_text}

-- the words of a key: its moment, its file and its number
abbrev pub key_words : Key → List (List ℕ)
key_words key = decimal key.ripe ∷ decimal key.file ∷ decimal key.number ∷ []

-- the text of a refusal
abbrev pub refusal_text : Refusal → List ℕ
refusal_text why = line_text (codes "no" ∷ refusal_words why)

-- the text of a close, with the number of the version if it made one
abbrev pub closed_text : Option ℕ → List ℕ
closed_text None = line_text (codes "ok closed" ∷ [])
closed_text (Some number) = line_text (codes "ok closed version" ∷ decimal number ∷ [])

-- the words of the target of a name
abbrev pub target_words : Target → List (List ℕ)
target_words (target.File file) = codes "file" ∷ decimal file ∷ []
target_words (target.Directory directory) = codes "directory" ∷ decimal directory ∷ []

-- the line of a restorable name: its directory, its bytes, and its target
abbrev pub restorable_line : DeletedName → List ℕ
restorable_line dead = line_text (codes "-" ∷ decimal dead.directory ∷ dead.name ∷ target_words dead.target)

-- the line of a name of a directory, and its target
abbrev pub name_line : List ℕ × Target → List ℕ
name_line named = line_text (codes "-" ∷ named.0 ∷ target_words named.1)

-- the text of names: their number, and a line for each
abbrev pub names_text : List (List ℕ × Target) → List ℕ
names_text names = line_text (codes "ok names" ∷ decimal (length names) ∷ []) ++ flat_map name_line names

-- the text of restorable names: their number, and a line for each
abbrev pub restorable_text : List DeletedName → List ℕ
restorable_text names =
    line_text (codes "ok restorable" ∷ decimal (length names) ∷ []) ++ flat_map restorable_line names

-- the word of an end: its moment, or `-` for none
abbrev pub end_word : Option ℕ → List ℕ
end_word None = codes "-"
end_word (Some moment) = decimal moment

-- the text of a file's version, with the policy of the file
abbrev pub file_text : AnyFileStat → List ℕ
file_text stat =
    line_text (codes "ok file" ∷ decimal stat.file ∷ codes "version" ∷ decimal stat.info.number ∷ codes "opened" ∷ decimal stat.info.opened ∷ codes "closed" ∷ decimal stat.info.closed
    ∷ codes "ended" ∷ end_word stat.info.ended ∷ codes "length" ∷ decimal stat.info.length ∷ codes "policy" ∷ policy_word stat.policy ∷ [])

-- the text of a directory, with its default policy
abbrev pub directory_text : DirectoryRow → List ℕ
directory_text row =
    line_text (codes "ok directory" ∷ decimal row.id ∷ codes "default" ∷ policy_word row.default ∷ [])

-- the line of a version: its number, when it was opened, closed and ended, and its length
abbrev pub version_line : VersionInfo → List ℕ
version_line info =
    line_text (codes "-" ∷ decimal info.number ∷ decimal info.opened ∷ decimal info.closed ∷ end_word info.ended ∷ decimal info.length ∷ [])

-- the text of versions: their number, and a line for each
abbrev pub versions_text : List VersionInfo → List ℕ
versions_text versions =
    line_text (codes "ok versions" ∷ decimal (length versions) ∷ []) ++ flat_map version_line versions

-- the line of a key that is due
abbrev pub due_line : Key → List ℕ
due_line key = line_text (codes "-" ∷ key_words key)

-- the text of keys: their number, and a line for each
abbrev pub due_text : List Key → List ℕ
due_text keys = line_text (codes "ok due" ∷ decimal (length keys) ∷ []) ++ flat_map due_line keys

-- the text of bytes: their number, and their digits
abbrev pub bytes_text : List ℕ → List ℕ
bytes_text bytes = line_text (codes "ok bytes" ∷ decimal (length bytes) ∷ bytes_word bytes ∷ [])

-- the line of the usage of a kind of policy
abbrev pub usage_line : List ℕ → Usage → List ℕ
usage_line kind usage =
    line_text (codes "-" ∷ kind ∷ decimal usage.files ∷ decimal usage.versions ∷ decimal usage.bytes ∷ decimal usage.blocks ∷ [])

-- a line for each kind
abbrev pub usage_lines : List (List ℕ) → List Usage → List ℕ
usage_lines (kind ∷ kinds) (usage ∷ usages) = usage_line kind usage ++ usage_lines kinds usages
usage_lines kinds usages = []

-- the words of the four kinds
abbrev pub kind_words : List (List ℕ)
kind_words = map kind_word (kind.One ∷ kind.All ∷ kind.Safe ∷ kind.Landmarks ∷ [])

-- the text of usage: the number of lines that follow, and a line for each kind
abbrev pub usage_text : List Usage → List ℕ
usage_text usages = line_text (codes "ok usage" ∷ decimal 4 ∷ []) ++ usage_lines kind_words usages

-- the line of a group: its name, its files and its marks
abbrev pub group_line : GroupRow → List ℕ
group_line row =
    line_text (codes "-" ∷ row.name ∷ codes "members" ∷ pieces_or_dash decimal row.members ∷ codes "marks" ∷ pieces_or_dash mark_word row.marks ∷ [])

-- the text of groups: their number, and a line for each
abbrev pub groups_text : List GroupRow → List ℕ
groups_text groups = line_text (codes "ok groups" ∷ decimal (length groups) ∷ []) ++ flat_map group_line groups

-- the text is that of the reply; a moment has its seconds, and its date and time
abbrev pub IsReplyText : Reply → List ℕ → Type 0
IsReplyText Done text = text ≡ line_text (codes "ok done" ∷ [])
IsReplyText Nothing text = text ≡ line_text (codes "ok nothing" ∷ [])
IsReplyText (Now moment) text =
    (stamp : List ℕ) × SpellsTimestamp stamp moment × (text ≡ line_text (codes "ok now" ∷ decimal moment ∷ stamp ∷ []))
IsReplyText (Directory directory) text = text ≡ line_text (codes "ok directory" ∷ decimal directory ∷ [])
IsReplyText (File file) text = text ≡ line_text (codes "ok file" ∷ decimal file ∷ [])
IsReplyText (Handle handle) text = text ≡ line_text (codes "ok handle" ∷ decimal handle ∷ [])
IsReplyText (Version number) text = text ≡ line_text (codes "ok version" ∷ decimal number ∷ [])
IsReplyText (Closed made) text = text ≡ closed_text made
IsReplyText (Removed key) text = text ≡ line_text (codes "ok removed" ∷ key_words key)
IsReplyText (Bytes bytes) text = text ≡ bytes_text bytes
IsReplyText (FileStat stat) text = text ≡ file_text stat
IsReplyText (DirStat row) text = text ≡ directory_text row
IsReplyText (Rows versions) text = text ≡ versions_text versions
IsReplyText (NameList names) text = text ≡ names_text names
IsReplyText (RestoreList names) text = text ≡ restorable_text names
IsReplyText (DueList keys) text = text ≡ due_text keys
IsReplyText (UsageList usages) text = text ≡ usage_text usages
IsReplyText (GroupList groups) text = text ≡ groups_text groups
IsReplyText (Refused why) text = text ≡ refusal_text why

-- the text of a stop
abbrev pub stop_text : Stop → List ℕ
stop_text stop = line_text (codes "stop" ∷ stop_words stop)

-- the text is that of a reply, or of the stop in its place
abbrev pub IsAnswerText : Result Reply Stop → List ℕ → Type 0
IsAnswerText (Ok reply) text = IsReplyText reply text
IsAnswerText (Err stop) text = text ≡ stop_text stop

-- the text of the end of a pass
abbrev pub pass_text : PassEnd → List ℕ
pass_text end = line_text (pass_words end)

-- the text for a bad line: the number and the name of its fault
abbrev pub bad_text : LineFault → List ℕ
bad_text fault = line_text (codes "bad" ∷ decimal (fault_number fault) ∷ fault_name fault ∷ [])

-- the text of the answer was written, or at a fault a prefix of it
pub record WritesAnswer {A E : Type 0} (answer : Result Reply Stop) (old new : Option (List ℕ)) (result : Result A E) : Type 0 where
  pub text : List ℕ
  pub is : IsAnswerText answer text
  pub written : WritesText text old new result
