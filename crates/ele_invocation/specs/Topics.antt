-- Which words ask for the help on a topic, which clap knows nothing of.
use Rattle.std.specs.Prelude.{Bool, false, List, [], ◌∷◌, Option, Some, None, ◌&&◌, nat_le, length, option_and_then, slice_get, if◌then◌else◌, codes}
use Rattle.std.specs.List.{list_any}
use Rattle.std.specs.Option.{option_map_or}
use Rattle.std.specs.Str.{bytes_eq}
use Rattle.clap.specs.Words.{Text}

-- clap has the help on these words itself
abbrev pub is_left_to_clap : Text → Bool
is_left_to_clap word =
    list_any (bytes_eq word)
    (codes "run" ∷ codes "storm" ∷ codes "forecast" ∷ codes "evidence" ∷ codes "verify" ∷ codes "help" ∷ codes "--help" ∷ codes "-h" ∷ [])

-- the words after the program's name are `help`, a topic and at most one word more
abbrev pub is_help : List Text → Bool
is_help words = nat_le (length words) 4 && option_map_or (λ word. bytes_eq word (codes "help")) (slice_get words 1) false

-- the topic of `help TOPIC` and the word after it
abbrev pub topic_in : List Text → Option (Text × Option Text)
topic_in words = if is_help words
    then option_and_then (λ first. if is_left_to_clap first then None else Some (first, slice_get words 3)) (slice_get words 2)
    else None
