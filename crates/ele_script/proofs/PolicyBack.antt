-- The word that a policy is printed as reads back as it.
use Rattle.ele_script.proofs.Basics.{◌≡◌, ℕ, zero, suc, ◌++◌, inl, inr, sym, subst, append-nil, ◌<◌, ◌≤◌, ◌==◌, true, false, List, [], ◌∷◌, length, map, refl, ap, ◌∙◌, arith, length-append, AllZip, join_with_byte, slice_split, decimal, nat_tests, All-append, All-cons}
use Rattle.ele_script.proofs.Basics.{slice_split_none, slice_split_at}
use Rattle.ele_script.proofs.Prelude.{SpellsNumber, One, KeepAll, Safe, Landmarks, Rung, IsLadder, climbs, ground, is_above, SpellsPair, SpellsPairs, SpellsSafe, pair_word}
use Rattle.std.specs.Prelude.{All}
use Rattle.ele_moment.specs.Last.{last_moment}
use Rattle.ele_policy.specs.PolicyText.{floor_word}
use Rattle.ele_script.specs.PolicyBack.{PolicyBack}
use Rattle.ele_script.proofs.PairWords.{number_unmarked, parts_are}

-- a number up to the last moment is spelled by its digits
pub spelled : (n : ℕ) → n ≤ last_moment → SpellsNumber (decimal n) n
spelled n le = record { fits = omega (arith, le); digits = refl }

-- the numbers of a rung are no greater than the last moment
record IsShort (rung : Rung) : Type 0 where
  age : rung.0 ≤ last_moment
  width : rung.1 ≤ last_moment

short : (low rung : Rung) → is_above low rung ≡ true → IsShort rung
short low rung h = record { age = grind (arith, nat_tests); width = grind (arith, nat_tests) }

spelled_pair : (low rung : Rung) → is_above low rung ≡ true → SpellsPair (pair_word rung) rung
spelled_pair low rung h =
    let is = short low rung h in
    record { age = decimal rung.0; width = decimal rung.1; are = refl; age_is = spelled rung.0 is.age; width_is = spelled rung.1 is.width }

pub spelled_pairs : (low : Rung) (rungs : List Rung) → climbs low rungs ≡ true → AllZip SpellsPair (map pair_word rungs) rungs
spelled_pairs low [] up = tt
spelled_pairs low (rung ∷ rungs) up =
    (spelled_pair low rung (grind (arith, nat_tests)), spelled_pairs rung rungs (grind (arith, nat_tests)))

-- the word of a pair has no comma
whole_pair : (word : List ℕ) (rung : Rung) → SpellsPair word rung → All (λ byte. (byte == 44) ≡ false) word
whole_pair word rung is =
    let age = number_unmarked 44 (omega arith) is.age rung.0 is.age_is in
    let width = number_unmarked 44 (omega arith) is.width rung.1 is.width_is in
    rw is.are (All-append (λ byte. (byte == 44) ≡ false) is.age (47 ∷ is.width) age (All-cons (λ byte. (byte == 44) ≡ false) 47 is.width refl width))

-- joined words of pairs are cut into these
cut_pairs : (first : Rung) (rungs : List Rung) → AllZip SpellsPair (map pair_word (first ∷ rungs)) (first ∷ rungs) → slice_split (λ byte. byte == 44) (join_with_byte 44 (map pair_word (first ∷ rungs))) ≡ map pair_word (first ∷ rungs)
cut_pairs first [] are = slice_split_none _ (pair_word first) (whole_pair (pair_word first) first are.0)
cut_pairs first (next ∷ rungs) are =
    slice_split_at (λ byte. byte == 44) (pair_word first) 44 (join_with_byte 44 (map pair_word (next ∷ rungs))) (whole_pair (pair_word first) first are.0) refl
    ∙ ap (λ (words : List (List ℕ)). pair_word first ∷ words) (cut_pairs next rungs are.1)

is_some : (n : ℕ) → 0 < n → (n == 0) ≡ false
is_some n lt = grind (arith, nat_tests)

some_bytes : (first : Rung) (rungs : List Rung) → 0 < length (join_with_byte 44 (map pair_word (first ∷ rungs)))
some_bytes first [] = omega (arith, length-append (decimal first.0) (47 ∷ decimal first.1))
some_bytes first (next ∷ rungs) = omega (arith, length-append (pair_word first) (44 ∷ join_with_byte 44 (map pair_word (next ∷ rungs))))

joined_pairs : (rungs : List Rung) → IsLadder rungs → SpellsPairs (join_with_byte 44 (map pair_word rungs)) rungs
joined_pairs [] is = absurd (omega (arith, is.some))
joined_pairs (first ∷ rungs) is =
    let are = spelled_pairs ground (first ∷ rungs) is.climbing in
    let text = join_with_byte 44 (map pair_word (first ∷ rungs)) in
    rw (parts_are text (is_some (length text) (some_bytes first rungs)), cut_pairs first rungs are) are

-- seconds, with a floor after them if there is one
spelled_safe : (seconds floor : ℕ) → seconds ≤ last_moment → floor ≤ 16 → SpellsSafe (decimal seconds ++ floor_word floor) seconds floor
spelled_safe seconds zero fits few = inl (subst (λ (text : List ℕ). SpellsNumber text seconds) (sym (append-nil (decimal seconds))) (spelled seconds fits), refl)
spelled_safe seconds (suc n) fits few = inr (record { age = decimal seconds; width = decimal (suc n); are = refl; age_is = spelled seconds fits; width_is = spelled (suc n) (omega (arith, few)) })

pub policy_back : PolicyBack
policy_back One is = (refl, is)
policy_back KeepAll is = (refl, is)
policy_back (Safe seconds floor) is = (record { text = decimal seconds ++ floor_word floor; are = refl; spelled = spelled_safe seconds floor is.0.fits is.1 }, is)
policy_back (Landmarks rungs) is = (record { text = join_with_byte 44 (map pair_word rungs); are = refl; spelled = joined_pairs rungs is }, is)
