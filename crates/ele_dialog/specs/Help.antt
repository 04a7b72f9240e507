-- Which lines ask for help, and on which topic there is some.
use Rattle.std.specs.Prelude.{◌≡◌, ◌≢◌, ℕ, ◌==◌, true, false, List, [], ◌∷◌, ◌++◌, codes, MatchBool, Option, Some, None, if◌then◌else◌}
use Rattle.std.specs.Str.{IsUtf8, bytes_eq}
use Rattle.ele_help.specs.Topics.{has_help}

-- the bytes before the first space (32)
abbrev pub first_word : List ℕ → List ℕ
first_word [] = []
first_word (byte ∷ bytes) = if byte == 32 then [] else byte ∷ first_word bytes

-- the topic of a line that begins with `help` and a space: the word behind it
abbrev pub IsTopicBehind : List ℕ → Option (List ℕ) → Type 0
IsTopicBehind line None = (words : List ℕ) → line ≢ codes "help " ++ words
IsTopicBehind line (Some topic) = (words : List ℕ) × (line ≡ codes "help " ++ words) × (topic ≡ first_word words)

-- the topic on which a line asks for help, `help` alone on scripts; none of any other line
abbrev pub IsTopic : List ℕ → Option (List ℕ) → Type 0
IsTopic line topic = MatchBool (bytes_eq line (codes "help")) (topic ≡ Some (codes "script")) (IsTopicBehind line topic)

-- what is printed if there is no help on a topic
abbrev pub no_help : List ℕ
no_help = codes "there is no help on this; help lists all lines, and help create explains one\n"

-- the text is help on the topic; or it says that there is none
pub data IsHelp (topic text : List ℕ) : Type 0 where
  found : has_help topic None ≡ true → IsHelp topic text
  none : has_help topic None ≡ false → text ≡ no_help → IsHelp topic text
  unreadable : ¬ IsUtf8 topic → text ≡ no_help → IsHelp topic text
