-- The text of refusals, stops and the ends of passes.
use Rattle.std.specs.Prelude.{ℕ, List, [], ◌∷◌, codes, Some, None}
use Rattle.std.specs.Fmt.{decimal}
use Rattle.std.specs.List.{join_with_byte}
use Rattle.ele_model.specs.Answers.{refusal_number, refusal_name, stop_number, stop_name, which_word}
use Rattle.ele_model.specs.declared.pass.PassEnd.{PassEnd}
use Rattle.ele_model.specs.declared.pass.PassEnd.TheVariants.{Finished, Budget, Stopped}
use Rattle.ele_model.specs.declared.refusal.Refusal.{Refusal}
use Rattle.ele_model.specs.declared.refusal.Refusal.TheVariants.{Forgotten, Full}
use Rattle.ele_model.specs.declared.refusal.Stop.{Stop}

-- words with a space (32) between each two
abbrev pub words_text : List (List ℕ) → List ℕ
words_text words = join_with_byte 32 words

-- the words after the name of a refusal
abbrev pub refusal_details : Refusal → List (List ℕ)
refusal_details (Forgotten (Some before)) = decimal before ∷ []
refusal_details (Forgotten None) = codes "-" ∷ []
refusal_details (Full which) = which_word which ∷ []
refusal_details other = []

-- the words of a refusal: its number, its name, and the details
abbrev pub refusal_words : Refusal → List (List ℕ)
refusal_words why = decimal (refusal_number why) ∷ refusal_name why ∷ refusal_details why

-- the words of a stop: its number and its name
abbrev pub stop_words : Stop → List (List ℕ)
stop_words stop = decimal (stop_number stop) ∷ stop_name stop ∷ []

-- the words of the end of a pass: how it ended, and how many it removed
abbrev pub pass_words : PassEnd → List (List ℕ)
pass_words (Finished removed) = codes "ok pass finished" ∷ decimal removed ∷ []
pass_words (Budget removed) = codes "ok pass budget" ∷ decimal removed ∷ []
pass_words (Stopped stop removed) =
    codes "stop" ∷ decimal (stop_number stop) ∷ stop_name stop ∷ codes "removed" ∷ decimal removed ∷ []
