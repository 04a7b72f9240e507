-- The bytes of the words of a line.
use Rattle.std.proofs.Common.{arith, ◌≡◌, ℕ, List, [], ◌∷◌, ◌++◌, length, refl, sym, ap, ◌∙◌, append_assoc}
use Rattle.std.proofs.lemmas.List.{append-nil}
use Rattle.std.specs.List.{IsFirstAndRest, flat_map, join_with_byte}
use Rattle.std.specs.Prelude.{codes, decimal}
use Rattle.ele_output.proofs.Lists.{joined_are}
use Rattle.ele_output.specs.Line.{line_text}
use Rattle.ele_policy.specs.Ladder.{Rung}
use Rattle.ele_policy.specs.PolicyText.{ladder_word, pair_word}
use Rattle.ele_forecast_text.specs.Details.{detail_words}
use Rattle.ele_forecast_text.specs.Stamp.{stamp_of, stamp_or}
use Rattle.ele_forecast_text.specs.Table.{detailed_line, table_line, told_words}
use Rattle.ele_forecast_text.specs.Why.{length_words, never_word, span_words, spaced, why_words, width_at}
use Rattle.ele_policy.specs.declared.cause.Cause.TheVariants.{AtOnce, Age, Displaced}
use Rattle.ele_policy.specs.declared.policy.Policy.{Policy}
use Rattle.ele_forecast.specs.declared.forecast.Forecast.{Forecast}
use Rattle.ele_forecast.specs.declared.forecast.Why.{Why}
use Rattle.ele_forecast.specs.declared.forecast.Why.TheVariants.{Current, Never, AfterLast, Goes}
use Rattle.ele_forecast_text.specs.declared.details.Details.{Details}

-- joined words are the first, and then a space and the word for each other
pub joined : (first : List ℕ) (words : List (List ℕ)) → join_with_byte 32 (first ∷ words) ≡ first ++ spaced words
joined first [] = sym (append-nil first)
joined first (word ∷ words) = ap (λ (rest : List ℕ). first ++ 32 ∷ rest) (joined word words)

-- a space and a word, joined with others
pub fronted : (word : List ℕ) (words : List (List ℕ)) → join_with_byte 32 ((32 ∷ word) ∷ words) ≡ spaced (word ∷ words)
fronted word words = joined (32 ∷ word) words

-- why a version is displaced, in words with a space between each two
pub displaced : (by width : ℕ) → codes "version" ++ spaced (decimal by ∷ codes "closed in the same" ∷ span_words width)
    ≡ join_with_byte 32 (codes "version" ∷ decimal by ∷ codes "closed in the same" ∷ span_words width)
displaced by width = sym (joined (codes "version") (decimal by ∷ codes "closed in the same" ∷ span_words width))

-- a reason has a word, so it is a space and its words
pub why_spaced : (policy : Policy) (why : Why) → spaced (why_words policy why) ≡ 32 ∷ join_with_byte 32 (why_words policy why)
why_spaced policy Current = refl
why_spaced policy Never = sym (ap (λ (rest : List ℕ). 32 ∷ rest) (joined (never_word policy) []))
why_spaced policy AfterLast = refl
why_spaced policy (Goes AtOnce) = refl
why_spaced policy (Goes (Age seconds)) = sym (ap (λ (rest : List ℕ). 32 ∷ rest) (joined (codes "ended for") (length_words seconds)))
why_spaced policy (Goes (Displaced level by)) =
    sym (ap (λ (rest : List ℕ). 32 ∷ rest) (joined (codes "version") (decimal by ∷ codes "closed in the same" ∷ span_words (width_at policy level))))

-- words after others
pub spaced_both : (words more : List (List ℕ)) → spaced (words ++ more) ≡ spaced words ++ spaced more
spaced_both [] more = refl
spaced_both (word ∷ words) more = ap (λ (rest : List ℕ). (32 ∷ word) ++ rest) (spaced_both words more) ∙ sym (append_assoc (32 ∷ word) (spaced words) (spaced more))

pub joined_both : (first : List ℕ) (words more : List (List ℕ)) → join_with_byte 32 (first ∷ (words ++ more)) ≡ join_with_byte 32 (first ∷ words) ++ spaced more
joined_both first words more =
    joined first (words ++ more) ∙ ap (λ (rest : List ℕ). first ++ rest) (spaced_both words more) ∙ sym (append_assoc first (spaced words) (spaced more))
    ∙ ap (λ (front : List ℕ). front ++ spaced more) (sym (joined first words))

-- a line is its first word, and then a space and the word for each other
line_parts : (first : List ℕ) (words : List (List ℕ)) → line_text (first ∷ words) ≡ first ++ (spaced words ++ 10 ∷ [])
line_parts first words = ap (λ (line : List ℕ). line ++ 10 ∷ []) (joined first words) ∙ append_assoc first (spaced words) (10 ∷ [])

-- the moments and the reason of a version, in parts
pub told_parts : (policy : Policy) (told : Forecast) → spaced (told_words policy told) ++ 10 ∷ []
    ≡ spaced (stamp_of told.closed ∷ stamp_or told.ended ∷ stamp_or told.ripe ∷ []) ++ (spaced (why_words policy told.why) ++ 10 ∷ [])
told_parts policy told =
    let moments = stamp_of told.closed ∷ stamp_or told.ended ∷ stamp_or told.ripe ∷ [] in
    let why = why_words policy told.why in
    ap (λ (r : List ℕ). r ++ 10 ∷ []) (spaced_both moments why) ∙ append_assoc (spaced moments) (spaced why) (10 ∷ [])

-- the line of a version in its parts
pub version_parts : (policy : Policy) (told : Forecast) → table_line policy told ≡ decimal told.number ++ (spaced (told_words policy told) ++ 10 ∷ [])
version_parts policy told = line_parts (decimal told.number) (told_words policy told)

-- the line of a version with its details in its parts
pub detailed_parts : (policy : Policy) (details : Details) (told : Forecast) → detailed_line policy details told
    ≡ decimal told.number ++ (spaced (detail_words details told.number) ++ (spaced (told_words policy told) ++ 10 ∷ []))
detailed_parts policy details told =
    let more = detail_words details told.number in
    let words = told_words policy told in
    line_parts (decimal told.number) (more ++ words)
    ∙ ap (λ (r : List ℕ). decimal told.number ++ r) (ap (λ (r : List ℕ). r ++ 10 ∷ []) (spaced_both more words) ∙ append_assoc (spaced more) (spaced words) (10 ∷ []))

-- no pairs have no word
pub no_pairs : (pairs : List Rung) → length pairs ≡ 0 → [] ≡ ladder_word pairs
no_pairs [] none = refl
no_pairs (pair ∷ pairs) none = absurd (omega (arith, none))

-- the words of pairs are that of the first, and a comma and a word for each other
pub pairs_are : (pairs : List Rung) (first : Rung) (rest : List Rung) → IsFirstAndRest pairs first rest → ladder_word pairs ≡ pair_word first ++ flat_map (λ (pair : Rung). 44 ∷ pair_word pair) rest
pairs_are pairs first rest is = rw is.0 (joined_are 44 pair_word (pair_word first) rest)
