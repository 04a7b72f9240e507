-- Fractions, and what follows them.
use Rattle.std.proofs.Common.{◌≡◌, ◌≢◌, ℕ, ◌==◌, ◌&&◌, Bool, true, false, cond, List, [], ◌∷◌, ◌++◌, Some, None, inl, inr, refl, sym, ap, subst, ◌∙◌}
use Rattle.std.specs.Prelude.{IsTrue}
use Rattle.std.specs.Char.{is_ascii_digit}
use Rattle.std.specs.List.{list_all}
use Rattle.std.proofs.lemmas.Bool.{eqb-true}
use Rattle.ele_moment.specs.ReadFields.{and_then}
use Rattle.ele_moment.proofs.Timestamps.{given, some_is}
use Rattle.ele_tool_words.specs.ReadParts.{after_digits, after_fraction, after_some_digits, rest_of, zone_of}
use Rattle.ele_tool_words.specs.Time.{IsFraction}
use Rattle.ele_tool_words.specs.Zone.{SpellsZone}
use Rattle.ele_tool_words.specs.declared.zone.Offset.{Offset}
use Rattle.ele_tool_words.proofs.Zones.{offset_long, zone_found, zone_again}

-- a word is its digits, and what follows these
record IsCut (w rest : List ℕ) : Type 0 where
  front : List ℕ
  digits : IsTrue (list_all is_ascii_digit front)
  parts : w ≡ front ++ rest

cut_case : (c : ℕ) (rest behind : List ℕ) (b : Bool) → is_ascii_digit c ≡ b → IsCut rest behind → IsCut (c ∷ rest) (cond b behind (c ∷ rest))
cut_case c rest behind true e cut =
    record { front = c ∷ cut.front; digits = rw (e, cut.digits) refl; parts = ap (λ (r : List ℕ). c ∷ r) cut.parts }
cut_case c rest behind false e cut = record { front = []; digits = refl; parts = refl }

digits_cut : (w : List ℕ) → IsCut w (after_digits w)
digits_cut [] = record { front = []; digits = refl; parts = refl }
digits_cut (c ∷ rest) = cut_case c rest (after_digits rest) (is_ascii_digit c) refl (digits_cut rest)

-- a fraction at the start of a word, and the rest
record IsCutOff (w rest : List ℕ) : Type 0 where
  fraction : List ℕ
  is : IsFraction fraction
  parts : w ≡ fraction ++ rest

some_case : (c : ℕ) (rest z : List ℕ) (b : Bool) → is_ascii_digit c ≡ b → cond b (Some (after_digits rest)) None ≡ Some z → IsCutOff (46 ∷ c ∷ rest) z
some_case c rest z true e h =
    let cut = digits_cut rest in
    let same = some_is _ _ h in
    record {
      fraction = 46 ∷ c ∷ cut.front;
      is = (refl, λ none. absurd cc, rw (e, cut.digits) refl);
      parts = ap (λ (r : List ℕ). 46 ∷ c ∷ r) (cut.parts ∙ ap (λ (r : List ℕ). cut.front ++ r) same);
    }
some_case c rest z false e h = absurd cc

some_cut : (digits z : List ℕ) → after_some_digits digits ≡ Some z → IsCutOff (46 ∷ digits) z
some_cut [] z h = absurd cc
some_cut (c ∷ rest) z h = some_case c rest z (is_ascii_digit c) refl h

point_case : (c : ℕ) (rest z : List ℕ) (b : Bool) → (c == 46) ≡ b → cond b (after_some_digits rest) (Some (c ∷ rest)) ≡ Some z → IsCutOff (c ∷ rest) z
point_case c rest z true e h = subst (λ (x : ℕ). IsCutOff (x ∷ rest) z) (sym (eqb-true c 46 e)) (some_cut rest z h)
point_case c rest z false e h = record { fraction = []; is = tt; parts = some_is _ _ h }

fraction_found : (w z : List ℕ) → after_fraction w ≡ Some z → IsCutOff w z
fraction_found [] z h = record { fraction = []; is = tt; parts = some_is _ _ h }
fraction_found (c ∷ rest) z h = point_case c rest z (c == 46) refl h

-- it begins with neither a digit nor a point
record IsPlain (z : List ℕ) : Type 0 where
  digits : after_digits z ≡ z
  fraction : after_fraction z ≡ Some z

both : (b c : Bool) → b && c ≡ true → (b ≡ true) × (c ≡ true)
both true c h = (refl, h)
both false c h = absurd cc

digits_again : (ds z : List ℕ) → IsTrue (list_all is_ascii_digit ds) → IsPlain z → after_digits (ds ++ z) ≡ z
digits_again [] z h plain = plain.digits
digits_again (d ∷ ds) z h plain =
    let tests = both (is_ascii_digit d) (list_all is_ascii_digit ds) h in
    rw tests.0 (digits_again ds z tests.1 plain)

some_again : (ds z : List ℕ) → ds ≢ [] → IsTrue (list_all is_ascii_digit ds) → IsPlain z → after_some_digits (ds ++ z) ≡ Some z
some_again [] z some h plain = absurd (some refl)
some_again (d ∷ ds) z some h plain =
    let tests = both (is_ascii_digit d) (list_all is_ascii_digit ds) h in
    rw tests.0 (ap Some (digits_again ds z tests.1 plain))

fraction_again : (f z : List ℕ) → IsFraction f → IsPlain z → after_fraction (f ++ z) ≡ Some z
fraction_again [] z is plain = plain.fraction
fraction_again (point ∷ ds) z is plain = rw is.0 (some_again ds z is.1 is.2 plain)

-- a zone begins so
zone_plain : (z : List ℕ) (o : Offset) → SpellsZone z o → IsPlain z
zone_plain z o h = elim h [
  | inl utc ↦ elim utc.0 [
    | inl none ↦ rw none (record { digits = refl; fraction = refl })
    | inr letter ↦ elim letter [ inl big ↦ rw big (record { digits = refl; fraction = refl }) | inr small ↦ rw small (record { digits = refl; fraction = refl }) ]
  ]
  | inr other ↦ elim other [
    | inl signed ↦ let long = offset_long z o signed in
        elim long.is_sign [ inl plus ↦ rw (long.text, plus) (record { digits = refl; fraction = refl }) | inr minus ↦ rw (long.text, minus) (record { digits = refl; fraction = refl }) ]
    | inr spaced ↦ rw spaced.1 (record { digits = refl; fraction = refl })
  ]
]

-- a fraction and a zone
pub record IsRest (rest : List ℕ) (o : Offset) : Type 0 where
  pub fraction : List ℕ
  pub zone : List ℕ
  pub fraction_is : IsFraction fraction
  pub zone_is : SpellsZone zone o
  pub parts : rest ≡ fraction ++ zone

-- are what is read after a time of day
pub rest_found : (rest : List ℕ) (o : Offset) → rest_of rest ≡ Some o → IsRest rest o
unfolding rest_of
rest_found rest o h = given _ _ _ h (λ zone e h1.
    let cut = fraction_found rest zone e in
    record { fraction = cut.fraction; zone = zone; fraction_is = cut.is; zone_is = zone_found zone o h1; parts = cut.parts })

pub rest_again : (fraction zone : List ℕ) (o : Offset) → IsFraction fraction → SpellsZone zone o → rest_of (fraction ++ zone) ≡ Some o
unfolding rest_of and_then
rest_again fraction zone o is spelled = rw (fraction_again fraction zone is (zone_plain zone o spelled)) (zone_again zone o spelled)

-- what follows a fraction
pub zone_again_behind : (fraction zone : List ℕ) (o : Offset) → IsFraction fraction → SpellsZone zone o → after_fraction (fraction ++ zone) ≡ Some zone
zone_again_behind fraction zone o is spelled = fraction_again fraction zone is (zone_plain zone o spelled)

-- is the zone
pub rest_by_zone : (rest zone : List ℕ) (o : Offset) → after_fraction rest ≡ Some zone → zone_of zone ≡ Some o → rest_of rest ≡ Some o
unfolding rest_of and_then
rest_by_zone rest zone o e is = rw e is
