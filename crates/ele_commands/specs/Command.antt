-- The commands: the words that name each, the kinds of the words behind these, and in which runs it is one.
use Rattle.std.specs.Prelude.{ℕ, Bool, true, List, [], ◌∷◌, codes}
use Rattle.ele_commands.specs.declared.command.Command.{Command}
use Rattle.ele_commands.specs.declared.command.Command.TheVariants as command
use Rattle.ele_commands.specs.declared.command.When.{When}
use Rattle.ele_commands.specs.declared.command.When.TheVariants.{Always, Explaining}
use Rattle.ele_commands.specs.declared.kind.WordKind.{WordKind}
use Rattle.ele_commands.specs.declared.kind.WordKind.TheVariants.{Number, Handle, Version, Moment, End, Name, Path, Tagged, Timed, Source, Bytes, Policy}

pub record Row : Type 0 where
  pub words : List (List ℕ)
  pub kinds : List WordKind
  pub when : When

abbrev pub takes : List (List ℕ) → List WordKind → Row
takes words kinds = record { words = words; kinds = kinds; when = Always }

-- a question, which only a run answers that explains
abbrev pub asks : List (List ℕ) → List WordKind → Row
asks words kinds = record { words = words; kinds = kinds; when = Explaining }

-- a command's row; a last word that is an end, or a path after moments, may be left out
abbrev pub row : Command → Row
row command.Ahead = asks (codes "ahead" ∷ []) (Moment ∷ [])
row command.Answers = asks (codes "answers" ∷ []) []
row command.Abandon = takes (codes "abandon" ∷ []) (Handle ∷ [])
row command.Clock = takes (codes "clock" ∷ []) (Moment ∷ [])
row command.Close = takes (codes "close" ∷ []) (Handle ∷ [])
row command.Clean = takes (codes "clean" ∷ []) []
row command.Create = takes (codes "create" ∷ []) (Path ∷ [])
row command.Changes = asks (codes "changes" ∷ []) (Moment ∷ Moment ∷ Path ∷ [])
row command.Due = takes (codes "due" ∷ []) []
row command.Default = takes (codes "default" ∷ []) (Path ∷ Policy ∷ [])
row command.Expiring = asks (codes "expiring" ∷ []) (Moment ∷ [])
row command.GroupMake = takes (codes "group" ∷ codes "make" ∷ []) (Name ∷ [])
row command.GroupDrop = takes (codes "group" ∷ codes "drop" ∷ []) (Name ∷ [])
row command.GroupAdd = takes (codes "group" ∷ codes "add" ∷ []) (Name ∷ Path ∷ [])
row command.GroupRemove = takes (codes "group" ∷ codes "remove" ∷ []) (Name ∷ Path ∷ [])
row command.Groups = takes (codes "groups" ∷ []) []
row command.Gone = asks (codes "gone" ∷ []) []
row command.History = takes (codes "history" ∷ []) []
row command.Handles = asks (codes "handles" ∷ []) []
row command.Link = takes (codes "link" ∷ []) (Path ∷ Path ∷ [])
row command.ListNames = takes (codes "list" ∷ []) (Timed ∷ [])
row command.Mark = takes (codes "mark" ∷ []) (Name ∷ Moment ∷ End ∷ [])
row command.MakeDir = takes (codes "mkdir" ∷ []) (Path ∷ [])
row command.Note = takes (codes "note" ∷ []) (Bytes ∷ [])
row command.OpenWrite = takes (codes "open" ∷ codes "write" ∷ []) (Path ∷ [])
row command.OpenRead = takes (codes "open" ∷ codes "read" ∷ []) (Tagged ∷ [])
row command.Pass = takes (codes "pass" ∷ []) (Number ∷ [])
row command.SetPolicy = takes (codes "policy" ∷ []) (Path ∷ Policy ∷ [])
row command.Read = takes (codes "read" ∷ []) (Source ∷ [])
row command.Rename = takes (codes "rename" ∷ []) (Path ∷ Path ∷ [])
row command.Revert = takes (codes "revert" ∷ []) (Path ∷ Version ∷ [])
row command.Restore = takes (codes "restore" ∷ []) (Path ∷ Moment ∷ [])
row command.RemoveDir = takes (codes "rmdir" ∷ []) (Path ∷ [])
row command.Restorable = takes (codes "restorable" ∷ []) []
row command.Removals = asks (codes "removals" ∷ []) []
row command.Save = takes (codes "save" ∷ []) (Path ∷ Bytes ∷ [])
row command.Stat = takes (codes "stat" ∷ []) (Tagged ∷ [])
row command.Story = asks (codes "story" ∷ []) (Path ∷ [])
row command.Tick = takes (codes "tick" ∷ []) (Number ∷ [])
row command.Truncate = takes (codes "truncate" ∷ []) (Handle ∷ Number ∷ [])
row command.Trim = takes (codes "trim" ∷ []) []
row command.Unlink = takes (codes "unlink" ∷ []) (Path ∷ [])
row command.Undelete = takes (codes "undelete" ∷ []) (Path ∷ [])
row command.Unmark = takes (codes "unmark" ∷ []) (Name ∷ Moment ∷ [])
row command.Usage = takes (codes "usage" ∷ []) []
row command.Versions = takes (codes "versions" ∷ []) (Timed ∷ [])
row command.Write = takes (codes "write" ∷ []) (Handle ∷ Number ∷ Bytes ∷ [])
row command.Why = asks (codes "why" ∷ []) (Tagged ∷ [])

-- the words that name a command
abbrev pub command_words : Command → List (List ℕ)
command_words command = (row command).words

-- the kinds of the words behind its name
abbrev pub kinds_of : Command → List WordKind
kinds_of command = (row command).kinds

-- in a run that explains, and in one that doesn't
abbrev pub allows : Bool → When → Bool
allows explains Always = true
allows explains Explaining = explains

-- it is a command of such a run
abbrev pub is_allowed : Bool → Command → Bool
is_allowed explains command = allows explains (row command).when

-- a name of one word, or of two
abbrev pub name_of : List ℕ → List ℕ → List (List ℕ)
name_of first [] = first ∷ []
name_of first (byte ∷ bytes) = first ∷ (byte ∷ bytes) ∷ []
