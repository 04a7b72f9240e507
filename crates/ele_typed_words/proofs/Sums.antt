-- Moments from now on, and at a time of day.
use Rattle.std.proofs.Common.{◌≡◌, ℕ, ◌+◌, ◌*◌, ◌<◌, ◌≤◌, Bool, true, false, cond, List, [], ◌∷◌, ◌++◌, take, drop, length, Option, Some, None, IfSome, IsSome, ◌↔◌, inl, inr, refl, sym, ap, subst, ◌∙◌, arith}
use Rattle.std.specs.Prelude.{codes}
use Rattle.std.proofs.lemmas.Bool.{false≢true}
use Rattle.ele_moment.specs.Last.{last_moment}
use Rattle.ele_tool_words.specs.Zone.{SpellsClock, SpellsOffset, SpellsZone}
use Rattle.ele_tool_words.specs.declared.zone.Offset.{Offset}
use Rattle.ele_tool_words.specs.declared.zone.Offset.TheVariants.{Ahead, Behind}
use Rattle.ele_typed_words.specs.When.{lacks_seconds, minutes_ahead, with_seconds}

-- a sum in range is the moment that was made of it
pub sum_only : (r : Option ℕ) (sum m : ℕ) → (IsSome r ↔ (sum ≤ last_moment)) → IfSome r (λ x. x ≡ sum) → m ≡ sum → m ≤ last_moment → r ≡ Some m
sum_only (Some x) sum m some value is fits = ap Some (value ∙ sym is)
sum_only None sum m some value is fits = absurd (false≢true (some.1 (subst (λ (n : ℕ). n ≤ last_moment) is fits)))

-- a clock shows less than a day
pub clock_few : (word : List ℕ) (minutes : ℕ) → SpellsClock word minutes → minutes < 1440
clock_few word minutes h = omega (arith, h.hour_in, h.minute_in, h.worth)

-- behind a plus, an offset ahead is a clock
plus_clock : (word : List ℕ) (minutes : ℕ) → SpellsZone (43 ∷ word) (Ahead minutes) → SpellsClock word minutes
plus_clock word minutes h = elim h [
  | inl utc ↦ elim utc.0 [
    | inl none ↦ absurd cc
    | inr letter ↦ elim letter [ inl z ↦ absurd (let e : ◌≡◌ {A = ℕ} 43 90 = cc in omega (arith, e)) | inr z ↦ absurd (let e : ◌≡◌ {A = ℕ} 43 122 = cc in omega (arith, e)) ]
  ]
  | inr signed ↦ elim signed [
    | inl plain ↦ let same : word ≡ plain.0 = cc in subst (λ (w : List ℕ). SpellsClock w minutes) (sym same) plain.2
    | inr spaced ↦ absurd (let e : ◌≡◌ {A = ℕ} 43 32 = cc in omega (arith, e))
  ]
]

pub ahead_found : (word : List ℕ) (r : Option Offset) → IfSome r (SpellsZone (43 ∷ word)) → IfSome (minutes_ahead r) (SpellsClock word)
ahead_found word None h = tt
ahead_found word (Some (Ahead minutes)) h = plus_clock word minutes h
ahead_found word (Some (Behind minutes)) h = tt

pub ahead_few : (word : List ℕ) (r : Option Offset) → IfSome r (SpellsZone (43 ∷ word)) → IfSome (minutes_ahead r) (λ (minutes : ℕ). minutes < 1440)
ahead_few word None h = tt
ahead_few word (Some (Ahead minutes)) h = clock_few word minutes (plus_clock word minutes h)
ahead_few word (Some (Behind minutes)) h = tt

-- and a clock is an offset ahead
pub clock_zone : (word : List ℕ) (minutes : ℕ) → SpellsClock word minutes → SpellsZone (43 ∷ word) (Ahead minutes)
clock_zone word minutes h = inr (inl (word, refl, h))

cond_no : (b : Bool) (x y : List ℕ) → b ≡ false → cond b x y ≡ y
cond_no true x y e = absurd cc
cond_no false x y e = refl

cond_yes : (b : Bool) (x y : List ℕ) → b ≡ true → cond b x y ≡ x
cond_yes true x y e = refl
cond_yes false x y e = absurd cc

-- a time with seconds is whole, and one without gets them
pub whole_is : (word : List ℕ) → lacks_seconds word ≡ false → with_seconds word ≡ word
whole_is word e = cond_no (lacks_seconds word) (take 16 word ++ (codes ":00" ++ drop 16 word)) word e

pub whole_made : (word : List ℕ) → lacks_seconds word ≡ true → with_seconds word ≡ take 16 word ++ (codes ":00" ++ drop 16 word)
whole_made word e = cond_yes (lacks_seconds word) (take 16 word ++ (codes ":00" ++ drop 16 word)) word e
