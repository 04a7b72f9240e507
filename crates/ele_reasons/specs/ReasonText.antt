-- The text of a reason.
use Rattle.std.specs.Prelude.{ℕ, ◌/◌, ◌%◌, ◌==◌, Bool, true, false, List, [], ◌∷◌, ◌++◌, codes, decimal, if◌then◌else◌}
use Rattle.ele_commands.specs.Command.{command_words, kinds_of}
use Rattle.ele_commands.specs.declared.command.Command.{Command}
use Rattle.ele_printer.specs.declared.fault.LineFault.{LineFault}
use Rattle.ele_printer.specs.declared.fault.LineFault.TheVariants.{BadName, BadPath, BadMoment, BadLadder}
use Rattle.ele_script.specs.Value.{WordKind, NumberWord, HandleWord, VersionWord, MomentWord, EndWord, NameWord, PathWord, TaggedWord, TimedWord, SourceWord, BytesWord, PolicyWord}
use Rattle.ele_reasons.specs.declared.reasons.Detail.{Detail}
use Rattle.ele_reasons.specs.declared.reasons.Detail.TheVariants.{LeadingZero, TooLarge, Unit as UnitDetail, Date, NoSlash, Tag, Floor, Seconds, Pairs, Ages, Widths, Other}
use Rattle.ele_reasons.specs.declared.reasons.Hint.{Hint}
use Rattle.ele_reasons.specs.declared.reasons.Hint.TheVariants.{Explaining, Case, Instead, Leave, Place, Remark, Group, Open, Unknown}
use Rattle.ele_reasons.specs.declared.reasons.Reason.{Reason}
use Rattle.ele_reasons.specs.declared.reasons.Reason.TheVariants.{TooLong, Cut, ByteOrderMark, Empty, Byte, NoCommand, Words, Word}

abbrev pub kind_text : WordKind → List ℕ
kind_text NumberWord = codes "a number"
kind_text HandleWord = codes "a handle"
kind_text VersionWord = codes "a version"
kind_text MomentWord = codes "a moment"
kind_text EndWord = codes "an end"
kind_text NameWord = codes "a group"
kind_text PathWord = codes "a path"
kind_text TaggedWord = codes "a path with a tag"
kind_text TimedWord = codes "a path at a moment"
kind_text SourceWord = codes "a path with a tag, or a handle"
kind_text BytesWord = codes "bytes"
kind_text PolicyWord = codes "a policy"

-- the kinds after the first
abbrev pub behind_text : List WordKind → List ℕ
behind_text [] = []
behind_text (MomentWord ∷ EndWord ∷ []) = codes " and one moment or two"
behind_text (last ∷ []) = codes " and " ++ kind_text last
behind_text (kind ∷ kinds) = codes ", " ++ kind_text kind ++ behind_text kinds

-- the kinds in a list
abbrev pub list_text : List WordKind → List ℕ
list_text [] = codes "no words"
list_text (PathWord ∷ PathWord ∷ []) = codes "two paths"
list_text (kind ∷ kinds) = kind_text kind ++ behind_text kinds

-- two moments and a path: the path may be left out
abbrev pub is_span : List WordKind → Bool
is_span (MomentWord ∷ MomentWord ∷ PathWord ∷ []) = true
is_span kinds = false

-- the words that a command takes, by their kinds
abbrev pub takes_text : List WordKind → List ℕ
takes_text kinds = if is_span kinds then codes "two moments, and a path or none" else list_text kinds

-- what to add if a command that begins with a path has too many words
abbrev pub count_text : List WordKind → Bool → List ℕ
count_text kinds false = []
count_text (PathWord ∷ kinds) true = codes ", and a name has no space: write %20"
count_text (TaggedWord ∷ kinds) true = codes ", and a name has no space: write %20"
count_text (TimedWord ∷ kinds) true = codes ", and a name has no space: write %20"
count_text (SourceWord ∷ kinds) true = codes ", and a name has no space: write %20"
count_text kinds true = []

-- a word that has only the fault Syntax
abbrev pub syntax_text : WordKind → List ℕ
syntax_text NumberWord = codes "a number has only digits"
syntax_text HandleWord = codes "a number has only digits"
syntax_text VersionWord = codes "a number has only digits"
syntax_text SourceWord = codes "a path begins with a slash, and a handle has only digits"
syntax_text TimedWord = codes "only @ and a moment may follow the path"
syntax_text BytesWord = codes "bytes are an even number of hexadecimal digits, or - for none"
syntax_text PolicyWord = codes "a policy is one, all, safe:SECONDS, safe:SECONDS/FLOOR or landmarks:AGE/WIDTH,.."
syntax_text kind = codes "not as it should be"

-- a word that begins with a slash and is no path
abbrev pub path_text : WordKind → List ℕ
path_text TaggedWord = codes "a path has no empty name and at most 32 names, and a number after #"
path_text SourceWord = codes "a path has no empty name and at most 32 names, and a number after #"
path_text kind = codes "a path has no empty name and at most 32 names"

-- a word with no detail
abbrev pub other_text : WordKind → LineFault → List ℕ
other_text kind BadName = codes "a name has at most 64 bytes, and is neither . nor .."
other_text kind BadPath = path_text kind
other_text kind BadMoment = codes "a moment is seconds since 1970, or a time as 2026-03-02T00:00:00Z"
other_text kind BadLadder = codes "a policy has no such numbers"
other_text kind fault = syntax_text kind

abbrev pub is_moment : WordKind → Bool
is_moment MomentWord = true
is_moment EndWord = true
is_moment kind = false

-- a name with a byte that no name has
abbrev pub tag_text : WordKind → List ℕ
tag_text NameWord = codes "the name of a group has no /, @ or #"
tag_text kind = codes "a name has no @ and no #"

abbrev pub name_text : WordKind → LineFault → List ℕ
name_text kind BadName = tag_text kind
name_text kind fault = other_text kind fault

abbrev pub word_text : WordKind → LineFault → Detail → List ℕ
word_text kind fault LeadingZero = if is_moment kind then codes "a moment has no leading zero" else codes "a number has no leading zero"
word_text kind fault TooLarge = if is_moment kind then codes "a moment is at most 253402300799" else codes "a number is at most 18446744073709551615"
word_text kind fault Date = if is_moment kind then codes "a date wants its time, for example 2026-03-02T00:00:00Z" else other_text kind fault
word_text kind fault UnitDetail = if is_moment kind then other_text kind fault else codes "a number has only digits, and a time is in seconds: a day has 86400"
word_text kind fault NoSlash = codes "a path begins with a slash"
word_text kind fault Tag = name_text kind fault
word_text kind fault Floor = codes "a floor is at most 16 versions"
word_text kind fault Seconds = codes "a policy has from 1 to 253402300799 seconds"
word_text kind fault Pairs = codes "a ladder has one to eight pairs, as in landmarks:3600/60,86400/3600"
word_text kind fault Ages = codes "each age of a ladder is greater than the one before it"
word_text kind fault Widths = codes "each width of a ladder divides the next, as 60 divides 3600"
word_text kind fault Other = other_text kind fault

-- a number below 16 as a hexadecimal digit
abbrev pub digit_text : ℕ → List ℕ
digit_text number =
    if number == 0 then codes "0"
    else if number == 1 then codes "1"
    else if number == 2 then codes "2"
    else if number == 3 then codes "3"
    else if number == 4 then codes "4"
    else if number == 5 then codes "5"
    else if number == 6 then codes "6"
    else if number == 7 then codes "7"
    else if number == 8 then codes "8"
    else if number == 9 then codes "9"
    else if number == 10 then codes "a"
    else if number == 11 then codes "b"
    else if number == 12 then codes "c"
    else if number == 13 then codes "d"
    else if number == 14 then codes "e"
    else codes "f"

-- a byte as two hexadecimal digits
abbrev pub hexadecimal : ℕ → List ℕ
hexadecimal byte = digit_text (byte / 16) ++ digit_text (byte % 16)

-- a carriage return (13), a tab (9), or another byte
abbrev pub byte_text : ℕ → List ℕ
byte_text byte =
    if byte == 13 then codes "it has a carriage return: end a line with a line feed alone"
    else if byte == 9 then codes "it has a tab: put one space between two words"
    else codes "it has the byte " ++ hexadecimal byte ++ codes ", which is none from space to ~: a name may have %" ++ hexadecimal byte

abbrev pub first_of : List (List ℕ) → List ℕ
first_of [] = []
first_of (word ∷ words) = word

abbrev pub first_text : Command → List ℕ
first_text command = first_of (command_words command)

-- a hint that names no other command
abbrev pub after_text : Hint → List ℕ
after_text Explaining = codes "the command needs the option --explain"
after_text Leave = codes "there is no such command: the end of the input ends the run"
after_text Place = codes "there is no current directory: a path begins with a slash"
after_text Remark = codes "remarks need the option --remarks"
after_text Group = codes "make, drop, add or remove follows group"
after_text Open = codes "write or read follows open"
after_text Case = codes "commands are in lower case, as create"
after_text hint = codes "there is no such command: elephant help script lists all"

-- any hint
abbrev pub hint_text : Hint → List ℕ
hint_text (Instead command) = codes "the command for this is " ++ first_text command
hint_text hint = after_text hint

-- the reason without the place
abbrev pub cause_text : Reason → List ℕ
cause_text TooLong = codes "a line has at most 8192 bytes"
cause_text Cut = codes "it has no line feed"
cause_text ByteOrderMark = codes "a byte order mark precedes it: save the script without one"
cause_text (Empty number) = codes "one space too many stands here"
cause_text (Byte number byte) = byte_text byte
cause_text (NoCommand number hint) = hint_text hint
cause_text (Words command more) = codes "the command takes " ++ takes_text (kinds_of command) ++ count_text (kinds_of command) more
cause_text (Word number kind fault detail) = word_text kind fault detail

abbrev pub place_text : Reason → List ℕ
place_text TooLong = codes "length"
place_text Cut = codes "end"
place_text ByteOrderMark = codes "word 1"
place_text (Empty number) = codes "word " ++ decimal number
place_text (Byte number byte) = codes "word " ++ decimal number
place_text (NoCommand number hint) = codes "word " ++ decimal number
place_text (Words command more) = codes "number of words"
place_text (Word number kind fault detail) = codes "word " ++ decimal number

-- the place and the reason
abbrev pub reason_text : Reason → List ℕ
reason_text reason = place_text reason ++ codes ": " ++ cause_text reason
