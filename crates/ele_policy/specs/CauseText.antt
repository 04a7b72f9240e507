-- Causes in text: the words that `why` prints after the moment since which a version is due.
use Rattle.std.specs.Prelude.{ℕ, List, [], ◌∷◌, codes}
use Rattle.std.specs.Fmt.{decimal}
use Rattle.std.specs.List.{join_with_byte}
use Rattle.ele_policy.specs.declared.cause.Cause.{Cause}
use Rattle.ele_policy.specs.declared.cause.Cause.TheVariants.{AtOnce, Age, Displaced}

-- the words of a cause
abbrev pub cause_words : Cause → List (List ℕ)
cause_words AtOnce = codes "at" ∷ codes "once" ∷ []
cause_words (Age seconds) = codes "by" ∷ codes "age" ∷ decimal seconds ∷ []
cause_words (Displaced level by) = codes "by" ∷ decimal by ∷ codes "level" ∷ decimal level ∷ []

-- its words with a space (32) between each two
abbrev pub cause_text : Cause → List ℕ
cause_text cause = join_with_byte 32 (cause_words cause)
