-- The text of what an audit asks.
use Rattle.std.specs.Prelude.{◌≡◌, ℕ, List, [], ◌∷◌, ◌++◌, codes, length, Option, Some, None}
use Rattle.std.specs.Fmt.{decimal}
use Rattle.std.specs.List.{flat_map}
use Rattle.ele_holds.specs.declared.hold.Hold.{Hold}
use Rattle.ele_model.specs.declared.entry.Entry.{Entry}
use Rattle.ele_model.specs.declared.fate.Fate.{Fate}
use Rattle.ele_model.specs.declared.rows.Reads.{Reads}
use Rattle.ele_model.specs.declared.rows.Reads.TheVariants.{Draft, Version}
use Rattle.ele_output.specs.Line.{line_text}
use Rattle.ele_path.specs.PathText.{path_word}
use Rattle.ele_printer.specs.HistoryText.{entry_line}
use Rattle.ele_printer.specs.Printed.{IsReplyText, end_word}
use Rattle.ele_model.specs.FateText.{fate_words}
use Rattle.ele_name_paths.specs.LivePath.{names_in}
use Rattle.ele_audit.specs.HoldText.{hold_words}
use Rattle.ele_audit.specs.Open.{file_of}
use Rattle.ele_audit.specs.declared.row.OpenHandle.{OpenHandle}
use Rattle.ele_audit.specs.declared.row.Removed.{Removed}

-- ---- removed versions

-- the word of a path, or `-` for none
abbrev pub path_or_dash : Option (List (List ℕ)) → List ℕ
path_or_dash None = codes "-"
path_or_dash (Some names) = path_word names

-- the words of what had become of a removed version: it was due at least since that moment
abbrev pub gone_words : ℕ → Option Fate → List (List ℕ)
gone_words ripe None = codes "due" ∷ decimal ripe ∷ []
gone_words ripe (Some fate) = fate_words fate

-- the line of a removed version: when it was removed, its file and number, the path, the mark that held it after its policy had let it go, and
-- what had become of it
abbrev pub removed_line : Removed → List ℕ
removed_line row =
    line_text (codes "-" ∷ decimal row.at ∷ decimal row.key.file ∷ decimal row.key.number ∷ path_or_dash (names_in row.path) ∷ hold_words row.hold ++ gone_words row.key.ripe row.fate)

-- the text of removed versions: how many entries were folded, how many rows there are, and a line for each
abbrev pub gone_text : ℕ → List Removed → List ℕ
gone_text folded rows =
    line_text (codes "ok gone" ∷ decimal folded ∷ decimal (length rows) ∷ []) ++ flat_map removed_line rows

-- the text of when a version was removed, the mark that held it after its policy had let it go, and what had become of it
abbrev pub why_gone_text : Removed → List ℕ
why_gone_text row = line_text (codes "ok why removed" ∷ decimal row.at ∷ hold_words row.hold ++ gone_words row.key.ripe row.fate)

-- the text of the fate of a version that a mark held after its policy had let it go
abbrev pub why_held_text : Fate → Hold → List ℕ
why_held_text fate hold = line_text (codes "ok why" ∷ hold_words (Some hold) ++ fate_words fate)

-- ---- open handles

-- the word of what is read: the number of a version, or `draft`
abbrev pub read_word : Reads → List ℕ
read_word (Draft file) = codes "draft"
read_word (Version file number) = decimal number

-- the line of an open handle: its number, its file, what it reads, since when, and the path
abbrev pub handle_line : OpenHandle → List ℕ
handle_line handle =
    line_text (codes "-" ∷ decimal handle.row.number ∷ decimal (file_of handle.row.reads) ∷ read_word handle.row.reads ∷ end_word handle.since ∷ path_or_dash (names_in handle.path) ∷ [])

-- the text of open handles: how many, and a line for each
abbrev pub handles_text : List OpenHandle → List ℕ
handles_text handles = line_text (codes "ok handles" ∷ decimal (length handles) ∷ []) ++ flat_map handle_line handles

-- ---- answers

-- the text is that of each entry in turn: the line of its event, and its reply
abbrev pub AreAnswers : List Entry → List ℕ → Type 0
AreAnswers [] text = text ≡ []
AreAnswers (entry ∷ entries) text =
    (reply others : List ℕ) × IsReplyText entry.reply reply × AreAnswers entries others × (text ≡ entry_line entry ++ (reply ++ others))

-- the text of a history with its replies: how many entries were folded, how many are stored, and each of these with its reply
abbrev pub IsAnswersText : ℕ → List Entry → List ℕ → Type 0
IsAnswersText folded entries text =
    (answers : List ℕ) × AreAnswers entries answers × (text ≡ line_text (codes "ok answers" ∷ decimal folded ∷ decimal (length entries) ∷ []) ++ answers)
