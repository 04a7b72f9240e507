-- Zones: what is read is what is spelled.
use Rattle.std.proofs.Common.{◌≡◌, ℕ, ◌+◌, ◌*◌, ◌/◌, ◌<◌, ◌==◌, ◌&&◌, Bool, true, false, cond, List, [], ◌∷◌, ◌++◌, Some, None, inl, inr, refl, sym, ap, subst, ◌∙◌, arith}
use Rattle.std.specs.Prelude.{◌⊎◌, ◌||◌, nat_lt}
use Rattle.std.proofs.lemmas.Bool.{ne_eqb, eqb-true}
use Rattle.std.proofs.lemmas.Bool.Decides.{nat_tests}
use Rattle.std.proofs.lemmas.Option.{cond_some}
use Rattle.ele_moment.specs.ReadFields.{and_then}
use Rattle.ele_moment.specs.Timestamp.{two_digits}
use Rattle.ele_moment.proofs.Timestamps.{given, pair_of, pair_takes, some_is}
use Rattle.ele_tool_words.specs.ReadParts.{clock_at_end, clock_of, is_utc, offset_of, with_sign, without, zone_of}
use Rattle.ele_tool_words.specs.Zone.{IsUtc, SpellsClock, SpellsOffset, SpellsZone}
use Rattle.ele_tool_words.specs.declared.zone.Offset.{Offset}
use Rattle.ele_tool_words.specs.declared.zone.Offset.TheVariants.{Ahead, Behind}

-- a mark is there, or nothing is taken
without_case : (mark c : ℕ) (rest : List ℕ) (b : Bool) → (c == mark) ≡ b → (c ∷ rest ≡ mark ∷ cond b rest (c ∷ rest)) ⊎ (c ∷ rest ≡ cond b rest (c ∷ rest))
without_case mark c rest true e = inl (ap (λ (x : ℕ). x ∷ rest) (eqb-true c mark e))
without_case mark c rest false e = inr refl

without_takes : (mark : ℕ) (w : List ℕ) → (w ≡ mark ∷ without mark w) ⊎ (w ≡ without mark w)
without_takes mark [] = inr refl
without_takes mark (c ∷ rest) = without_case mark c rest (c == mark) refl

-- a clock has the hours and the minutes
record IsEnd (hour minute n : ℕ) (rest : List ℕ) : Type 0 where
  none : rest ≡ []
  hour_in : hour < 24
  minute_in : minute < 60
  worth : n ≡ 60 * hour + minute

clock_end : (hour minute : ℕ) (rest : List ℕ) (n : ℕ) → clock_at_end hour minute rest ≡ Some n → IsEnd hour minute n rest
clock_end hour minute [] n h =
    let g = cond_some _ _ _ h in
    let both : nat_lt hour 24 && nat_lt minute 60 ≡ true = g.0 in
    record { none = refl; hour_in = grind (arith, nat_tests); minute_in = grind (arith, nat_tests); worth = sym g.1 }
clock_end hour minute (c ∷ rest) n h = absurd cc

clock_text : (w : List ℕ) (hour minute : ℕ × List ℕ) → w ≡ two_digits hour.0 ++ hour.1 → without 58 hour.1 ≡ two_digits minute.0 ++ minute.1 → minute.1 ≡ []
    → (w ≡ two_digits hour.0 ++ 58 ∷ two_digits minute.0) ⊎ (w ≡ two_digits hour.0 ++ two_digits minute.0)
clock_text w hour minute front behind none =
    elim (without_takes 58 hour.1) [
      | inl colon ↦ inl (front ∙ ap (λ (r : List ℕ). two_digits hour.0 ++ r) (colon ∙ ap (λ (r : List ℕ). 58 ∷ r) (behind ∙ ap (λ (r : List ℕ). two_digits minute.0 ++ r) none)))
      | inr plain ↦ inr (front ∙ ap (λ (r : List ℕ). two_digits hour.0 ++ r) (plain ∙ behind ∙ ap (λ (r : List ℕ). two_digits minute.0 ++ r) none))
    ]

clock_found : (w : List ℕ) (n : ℕ) → clock_of w ≡ Some n → SpellsClock w n
unfolding clock_of
clock_found w n h =
    given _ _ _ h (λ hour eh h1. given _ _ _ h1 (λ minute em h2.
    let end = clock_end hour.0 minute.0 minute.1 n h2 in
    record {
      hour = hour.0;
      minute = minute.0;
      hour_in = end.hour_in;
      minute_in = end.minute_in;
      text = clock_text w hour minute (pair_takes w hour eh).1 (pair_takes _ minute em).1 end.none;
      worth = end.worth;
    }))

clock_again : (w : List ℕ) (n : ℕ) → SpellsClock w n → clock_of w ≡ Some n
unfolding clock_of and_then
clock_again w n h =
    let hour = pair_of h.hour (omega (arith, h.hour_in)) in
    let minute = pair_of h.minute (omega (arith, h.minute_in)) in
    let both : nat_lt h.hour 24 && nat_lt h.minute 60 ≡ true = grind (arith, nat_tests, h.hour_in, h.minute_in) in
    let digit : (48 + h.minute / 10 == 58) ≡ false = ne_eqb _ 58 (λ e. omega (arith, h.minute_in, e)) in
    elim h.text [
      | inl colon ↦ rw (colon, hour.tests, hour.value, minute.tests, minute.value, both) (ap Some (sym h.worth))
      | inr plain ↦ rw (plain, hour.tests, hour.value, digit, minute.tests, minute.value, both) (ap Some (sym h.worth))
    ]

sign_case : (b c : Bool) (n : ℕ) (o : Offset) → cond b (Some (Ahead n)) (cond c (Some (Behind n)) None) ≡ Some o → ((b ≡ true) × (o ≡ Ahead n)) ⊎ ((c ≡ true) × (o ≡ Behind n))
sign_case true c n o h = inl (refl, sym (some_is _ _ h))
sign_case false true n o h = inr (refl, sym (some_is _ _ h))
sign_case false false n o h = absurd cc

sign_found : (sign : ℕ) (clock : List ℕ) (n : ℕ) (o : Offset) → SpellsClock clock n → with_sign sign n ≡ Some o → SpellsOffset (sign ∷ clock) o
sign_found sign clock n o spelled h =
    elim (sign_case (sign == 43) (sign == 45) n o h) [
      | inl ahead ↦ rw ahead.1 (clock, ap (λ (s : ℕ). s ∷ clock) (eqb-true sign 43 ahead.0), spelled)
      | inr behind ↦ rw behind.1 (clock, ap (λ (s : ℕ). s ∷ clock) (eqb-true sign 45 behind.0), spelled)
    ]

offset_found : (w : List ℕ) (o : Offset) → offset_of w ≡ Some o → SpellsOffset w o
unfolding offset_of
offset_found [] o h = absurd cc
offset_found (sign ∷ clock) o h = given _ _ _ h (λ n e h1. sign_found sign clock n o (clock_found clock n e) h1)

offset_again : (w : List ℕ) (o : Offset) → SpellsOffset w o → offset_of w ≡ Some o
unfolding offset_of and_then
offset_again w (Ahead n) h = rw (h.1, clock_again h.0 n h.2) refl
offset_again w (Behind n) h = rw (h.1, clock_again h.0 n h.2) refl

utc_is : (z : List ℕ) → is_utc z ≡ true → IsUtc z
utc_is [] h = inl refl
utc_is (c ∷ []) h = elim (utc_case (c == 90) (c == 122) h) [
  | inl a ↦ inr (inl (ap (λ (x : ℕ). x ∷ []) (eqb-true c 90 a)))
  | inr b ↦ inr (inr (ap (λ (x : ℕ). x ∷ []) (eqb-true c 122 b)))
]
  where
    utc_case : (b c : Bool) → b || c ≡ true → (b ≡ true) ⊎ (c ≡ true)
    utc_case true c h = inl refl
    utc_case false c h = inr h
utc_is (c ∷ d ∷ rest) h = absurd cc

zone_case : (z : List ℕ) (o : Offset) (b : Bool) → is_utc z ≡ b → cond b (Some (Ahead 0)) (offset_of (without 32 z)) ≡ Some o → SpellsZone z o
zone_case z o true e h = inl (utc_is z e, sym (some_is _ _ h))
zone_case z o false e h =
    elim (without_takes 32 z) [
      | inl space ↦ inr (inr (without 32 z, space, offset_found (without 32 z) o h))
      | inr plain ↦ inr (inl (subst (λ (w : List ℕ). SpellsOffset w o) (sym plain) (offset_found (without 32 z) o h)))
    ]

pub zone_found : (z : List ℕ) (o : Offset) → zone_of z ≡ Some o → SpellsZone z o
zone_found z o h = zone_case z o (is_utc z) refl h

-- an offset begins with a sign, and isn't alone
pub record IsLong (w : List ℕ) : Type 0 where
  pub sign : ℕ
  pub digit : ℕ
  pub rest : List ℕ
  pub text : w ≡ sign ∷ digit ∷ rest
  pub is_sign : (sign ≡ 43) ⊎ (sign ≡ 45)

clock_long : (w : List ℕ) (n : ℕ) → SpellsClock w n → (digit : ℕ) × (rest : List ℕ) × (w ≡ digit ∷ rest)
clock_long w n h = elim h.text [ inl e ↦ (_, _, e) | inr e ↦ (_, _, e) ]

pub offset_long : (w : List ℕ) (o : Offset) → SpellsOffset w o → IsLong w
offset_long w (Ahead n) h =
    let long = clock_long h.0 n h.2 in
    record { sign = 43; digit = long.0; rest = long.1; text = h.1 ∙ ap (λ (c : List ℕ). 43 ∷ c) long.2; is_sign = inl refl }
offset_long w (Behind n) h =
    let long = clock_long h.0 n h.2 in
    record { sign = 45; digit = long.0; rest = long.1; text = h.1 ∙ ap (λ (c : List ℕ). 45 ∷ c) long.2; is_sign = inr refl }

long_zone : (w : List ℕ) → IsLong w → zone_of w ≡ offset_of w
long_zone w long = elim long.is_sign [
  | inl plus ↦ rw (long.text, plus) refl
  | inr minus ↦ rw (long.text, minus) refl
]

pub zone_again : (z : List ℕ) (o : Offset) → SpellsZone z o → zone_of z ≡ Some o
zone_again z o h = elim h [
  | inl utc ↦ elim utc.0 [
    | inl none ↦ rw (none, utc.1) refl
    | inr letter ↦ elim letter [ inl big ↦ rw (big, utc.1) refl | inr small ↦ rw (small, utc.1) refl ]
  ]
  | inr other ↦ elim other [
    | inl plain ↦ long_zone z (offset_long z o plain) ∙ offset_again z o plain
    | inr spaced ↦ let long = offset_long spaced.0 o spaced.2 in
        rw (spaced.1, long.text) (ap offset_of (sym long.text) ∙ offset_again spaced.0 o spaced.2)
  ]
]
