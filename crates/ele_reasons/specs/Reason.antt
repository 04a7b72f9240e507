-- Why a line is no command, and which of its words is at fault.
use Rattle.std.specs.Prelude.{nat_eq, ◌||◌, ◌≡◌, ◌≢◌, ℕ, ◌+◌, ◌<◌, ◌≤◌, ◌==◌, ◌&&◌, nat_le, nat_lt, not, Bool, false, List, [], ◌∷◌, ◌++◌, length, true, Some, ◌⊎◌, if◌then◌else◌}
use Rattle.std.specs.List.{find, list_all, list_any, starts_with}
use Rattle.ele_commands.specs.Command.{command_words, is_allowed, kinds_of}
use Rattle.ele_commands.specs.declared.command.Command.{Command}
use Rattle.ele_printer.specs.declared.fault.LineFault.{LineFault}
use Rattle.ele_printer.specs.declared.fault.LineFault.TheVariants.{Syntax, LineTooLong}
use Rattle.ele_script.specs.Command.{kinds_behind}
use Rattle.ele_script.specs.FirstFault.{FitsCommand, IsOfKind, IsWordFault}
use Rattle.ele_reasons.specs.Hints.{hint_of}
use Rattle.ele_script.specs.PathWord.{begins_path}
use Rattle.ele_reasons.specs.PolicyDetail.{IsPolicyDetail}
use Rattle.ele_script.specs.Value.{WordKind, NumberWord, HandleWord, VersionWord, MomentWord, EndWord, NameWord, PathWord, TaggedWord, TimedWord, SourceWord, BytesWord, PolicyWord}
use Rattle.ele_script.specs.Words.{ends_word, is_worded, longest_line, words_of}
use Rattle.ele_reasons.specs.declared.reasons.Detail.{Detail}
use Rattle.ele_reasons.specs.declared.reasons.Detail.TheVariants.{LeadingZero, TooLarge, Unit as UnitDetail, Date, NoSlash, Tag, Other}
use Rattle.ele_reasons.specs.declared.reasons.Hint.{Hint}
use Rattle.ele_reasons.specs.declared.reasons.Reason.{Reason}
use Rattle.ele_reasons.specs.declared.reasons.Reason.TheVariants.{TooLong, Cut, ByteOrderMark, Empty, Byte, NoCommand, Words, Word}

-- the fault that the line is answered with
abbrev pub fault_of : Reason → LineFault
fault_of TooLong = LineTooLong
fault_of Cut = Syntax
fault_of ByteOrderMark = Syntax
fault_of (Empty number) = Syntax
fault_of (Byte number byte) = Syntax
fault_of (NoCommand number hint) = Syntax
fault_of (Words command more) = Syntax
fault_of (Word number kind fault detail) = fault

-- a digit, from `0` (48) to `9` (57)
abbrev pub is_digit : ℕ → Bool
is_digit byte = nat_le 48 byte && nat_le byte 57

-- a digit, or a hyphen (45)
abbrev pub is_dated : ℕ → Bool
is_dated byte = is_digit byte || byte == 45

-- a digit, or a letter from `a` (97) to `z` (122)
abbrev pub is_united : ℕ → Bool
is_united byte = is_digit byte || (nat_le 97 byte && nat_le byte 122)

-- the detail of a word that begins with a digit, and isn't only digits
abbrev pub mixed_detail : List ℕ → Detail
mixed_detail word = if list_all is_dated word then Date else if list_all is_united word then UnitDetail else Other

-- the detail of digits that are no number, or of any other word
abbrev pub digits_detail : List ℕ → Detail
digits_detail [] = Other
digits_detail (first ∷ rest) =
    if list_all is_digit (first ∷ rest) then (if first == 48 then LeadingZero else TooLarge)
    else if is_digit first then mixed_detail (first ∷ rest) else Other

-- a byte that begins a tag: `@` (64) or `#` (35)
abbrev pub is_tag : ℕ → Bool
is_tag byte = byte == 64 || byte == 35

-- or one that separates the names of a path: `/` (47)
abbrev pub divides_names : ℕ → Bool
divides_names byte = byte == 47 || is_tag byte

-- a path, which has no tag
abbrev pub path_detail : List ℕ → Detail
path_detail word = if begins_path word then (if list_any is_tag word then Tag else Other) else NoSlash

-- a path that may have a tag
abbrev pub tagged_detail : List ℕ → Detail
tagged_detail word = if begins_path word then Other else NoSlash

-- the name of a group
abbrev pub name_detail : List ℕ → Detail
name_detail word = if list_any divides_names word then Tag else Other

-- the detail of a word that isn't of its kind, unless that is a policy
abbrev pub detail_of : WordKind → List ℕ → Detail
detail_of NumberWord word = digits_detail word
detail_of HandleWord word = digits_detail word
detail_of VersionWord word = digits_detail word
detail_of MomentWord word = digits_detail word
detail_of EndWord word = digits_detail word
detail_of NameWord word = name_detail word
detail_of PathWord word = path_detail word
detail_of TaggedWord word = tagged_detail word
detail_of TimedWord word = tagged_detail word
detail_of SourceWord word = if begins_path word then Other else digits_detail word
detail_of BytesWord word = Other
detail_of PolicyWord word = Other

-- of any kind
abbrev pub IsDetail : WordKind → List ℕ → Detail → Type 0
IsDetail PolicyWord word detail = IsPolicyDetail word detail
IsDetail kind word detail = detail ≡ detail_of kind word

-- a byte order mark (EF BB BF), and whether the line begins with one
abbrev pub byte_order_mark : List ℕ
byte_order_mark = 239 ∷ 187 ∷ 191 ∷ []

abbrev pub is_marked : List ℕ → Bool
is_marked line = starts_with nat_eq line byte_order_mark

-- the reason of a word after this many others: the word is empty, or this is its first byte that no word may have
abbrev pub IsUnfit : ℕ → List ℕ → Reason → Type 0
IsUnfit before word (Empty number) = (number ≡ before + 1) × (word ≡ [])
IsUnfit before word (Byte number byte) = (number ≡ before + 1) × (find ends_word word ≡ Some byte)
IsUnfit before word reason = ⊥

-- a word that isn't empty and has only bytes that a word may have
abbrev pub is_fit : List ℕ → Bool
is_fit [] = false
is_fit (byte ∷ bytes) = list_all (λ b. not (ends_word b)) (byte ∷ bytes)

-- the reason of the first word that isn't fit
pub record HasUnfit (words : List (List ℕ)) (reason : Reason) : Type 0 where
  pub front : List (List ℕ)
  pub word : List ℕ
  pub behind : List (List ℕ)
  pub are : words ≡ front ++ word ∷ behind
  pub fit : list_all is_fit front ≡ true
  pub unfit : IsUnfit (length front) word reason

-- the word begins the name of a command that the run has
pub record BeginsCommand (explains : Bool) (word : List ℕ) : Type 0 where
  pub command : Command
  pub allowed : is_allowed explains command ≡ true
  pub rest : List (List ℕ)
  pub are : command_words command ≡ word ∷ rest

-- the number of the word that makes the words no command: 2 if the first word begins the name of one
abbrev pub IsUnknown : Bool → List (List ℕ) → ℕ → Type 0
IsUnknown explains [] number = number ≡ 1
IsUnknown explains (word ∷ words) number = (BeginsCommand explains word × (number ≡ 2)) ⊎ ((¬ BeginsCommand explains word) × (number ≡ 1))

-- the reason of the word with this number, if it isn't of its kind
abbrev pub IsWordReason : ℕ → WordKind → List ℕ → Reason → Type 0
IsWordReason number kind word reason =
    (fault : LineFault) × (detail : Detail) × IsWordFault kind word fault × IsDetail kind word detail × (reason ≡ Word number kind fault detail)

-- the reason of the first word that isn't of its kind, with this many words before these
abbrev pub IsFirstBadWord : ℕ → List WordKind → List (List ℕ) → Reason → Type 0
IsFirstBadWord before (kind ∷ kinds) (word ∷ words) reason =
    IsWordReason (before + 1) kind word reason ⊎ (IsOfKind kind word × IsFirstBadWord (before + 1) kinds words reason)
IsFirstBadWord before kinds words reason = ⊥

-- the reason of fit words: they begin with no command, the wrong number of words follows it, or the first bad word
pub data IsReasonOfWords (explains : Bool) (words : List (List ℕ)) (reason : Reason) : Type 0 where
  no_command : (number : ℕ) → ((command : Command) (arguments : List (List ℕ)) → is_allowed explains command ≡ true → words ≢ command_words command ++ arguments) → IsUnknown explains words number → reason ≡ NoCommand number (hint_of number words) → IsReasonOfWords explains words reason
  miscounted : (command : Command) (arguments : List (List ℕ)) → is_allowed explains command ≡ true → words ≡ command_words command ++ arguments → length arguments ≢ length (kinds_behind command arguments) → reason ≡ Words command (nat_lt (length (kinds_of command)) (length arguments))
      → IsReasonOfWords explains words reason
  of_word : (command : Command) (arguments : List (List ℕ)) → FitsCommand explains words command arguments → IsFirstBadWord (length (command_words command)) (kinds_behind command arguments) arguments reason
      → IsReasonOfWords explains words reason

-- the reason of a line: its length, its byte order mark, its bytes and spaces, its words
pub data IsReason (explains : Bool) (line : List ℕ) (reason : Reason) : Type 0 where
  too_long : longest_line < length line → reason ≡ TooLong → IsReason explains line reason
  marked : length line ≤ longest_line → is_marked line ≡ true → reason ≡ ByteOrderMark → IsReason explains line reason
  unfit : length line ≤ longest_line → is_marked line ≡ false → HasUnfit (words_of line) reason → IsReason explains line reason
  of_words : length line ≤ longest_line → is_worded line ≡ true → IsReasonOfWords explains (words_of line) reason → IsReason explains line reason
