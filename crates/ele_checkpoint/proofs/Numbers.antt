-- A number is read as it was written, and no other bytes stand for it.
use Rattle.std.proofs.Common.{◌≡◌, ℕ, zero, suc, ◌+◌, ◌-◌, ◌*◌, ◌/◌, ◌%◌, ◌^◌, ◌<◌, ◌≤◌, true, false, cond, eqb, ltb, List, [], ◌∷◌, ◌++◌, length, Bor, Result, Ok, Err, refl, sym, ap, subst, ◌∙◌, arith, inl, inr}
use Rattle.ele_checkpoint.specs.declared.fault.Stop.{Stop}
use Rattle.ele_checkpoint.specs.declared.fault.Stop.TheVariants as stop
use Rattle.std.proofs.lemmas.Bool.{cases_lt, ltb-false, lt-ltb, le-ltb, eqb-false, ne_eqb, eq-eqb}
use Rattle.ele_checkpoint.specs.declared.fault.Flaw.TheVariants.{Short, Padded, TooLarge}
use Rattle.ele_checkpoint.specs.declared.fault.Mistake.{Mistake}
use Rattle.ele_checkpoint.specs.Fits.{IsNumber}
use Rattle.ele_checkpoint.specs.Reading.{◌>>=◌, Fails, Gives, mistake}
use Rattle.ele_checkpoint.specs.Number.{digits, number_text}
use Rattle.ele_checkpoint.specs.PartsRead.{top, joined, digits_at, number_at}
use Rattle.ele_checkpoint.proofs.Forms.{IsForm, bind_ok, guard_ok, ok_is}

-- ---- the cases of reading, whatever the number of bytes

pub at_end : (more : ℕ) → digits_at more [] ≡ Err (mistake 0 Short)
unfolding digits_at
at_end zero = refl
at_end (suc more) = refl

pub at_last : (more byte : ℕ) (rest : List ℕ) → byte < 128 → digits_at more (byte ∷ rest) ≡ Ok (byte, rest)
unfolding digits_at
at_last zero byte rest low = rw (lt-ltb byte 128 low) refl
at_last (suc more) byte rest low = rw (lt-ltb byte 128 low) refl

pub at_full : (byte : ℕ) (rest : List ℕ) → 128 ≤ byte → digits_at 0 (byte ∷ rest) ≡ Err (mistake (length (byte ∷ rest)) TooLarge)
unfolding digits_at
at_full byte rest high = rw (le-ltb byte 128 high) refl

pub at_more : (more byte : ℕ) (rest : List ℕ) → 128 ≤ byte → digits_at (suc more) (byte ∷ rest) ≡ (digits_at more rest >>= λ high. joined byte (byte ∷ rest) high)
unfolding digits_at
at_more more byte rest high = rw (le-ltb byte 128 high) refl

-- memory or a mistake after the first byte
pub fails_more : (e : Stop) (more byte : ℕ) (rest : List ℕ) → 128 ≤ byte → Fails e (digits_at more rest) → Fails e (digits_at (suc more) (byte ∷ rest))
fails_more stop.Memory more byte rest high h = tt
fails_more (stop.At m) more byte rest high h = at_more more byte rest high ∙ rw h refl

-- ---- a first byte, and what the others stand for

pub record Joins (byte : ℕ) (high : ℕ × List ℕ) (n : ℕ) (rest : List ℕ) : Type 0 where
  pub small : byte < 256
  pub some : 0 < high.0
  pub whole : n ≡ byte - 128 + 128 * high.0
  pub same : high.1 ≡ rest

pub joined_ok : (byte : ℕ) (bytes : List ℕ) (high : ℕ × List ℕ) (n : ℕ) (rest : List ℕ) → joined byte bytes high ≡ Ok (n, rest) → Joins byte high n rest
unfolding joined
joined_ok byte bytes high n rest e =
    let a = guard_ok (ltb 255 byte) (mistake (length bytes) TooLarge) (cond (eqb high.0 0) (Err (mistake (length bytes) Padded)) (cond (ltb 144115188075855871 high.0) (Err (mistake (length bytes) TooLarge)) (Ok (byte - 128 + 128 * high.0, high.1)))) (n, rest) e in
    let b = guard_ok (eqb high.0 0) (mistake (length bytes) Padded) (cond (ltb 144115188075855871 high.0) (Err (mistake (length bytes) TooLarge)) (Ok (byte - 128 + 128 * high.0, high.1))) (n, rest) a.1 in
    let c = guard_ok (ltb 144115188075855871 high.0) (mistake (length bytes) TooLarge) (Ok (byte - 128 + 128 * high.0, high.1)) (n, rest) b.1 in
    let same = ok_is (byte - 128 + 128 * high.0, high.1) (n, rest) c.1 in
    let below : byte ≤ 255 = ltb-false 255 byte a.0 in
    let nonzero : high.0 ≡ 0 → ⊥ = eqb-false high.0 0 b.0 in
    record {
      small = omega arith;
      some = omega arith;
      whole = sym (ap (λ (p : ℕ × List ℕ). p.0) same);
      same = ap (λ (p : ℕ × List ℕ). p.1) same;
    }

pub joined_again : (byte : ℕ) (bytes : List ℕ) (high : ℕ) (rest : List ℕ) → byte < 256 → 0 < high → high ≤ 144115188075855871 → joined byte bytes (high, rest) ≡ Ok (byte - 128 + 128 * high, rest)
unfolding joined
joined_again byte bytes high rest low some few =
    let nonzero : high ≡ 0 → ⊥ = λ (e : high ≡ 0). omega arith in
    rw (le-ltb 255 byte (omega arith), ne_eqb high 0 nonzero, le-ltb 144115188075855871 high few) refl

pub joined_padded : (byte : ℕ) (bytes : List ℕ) (high : ℕ) (rest : List ℕ) → byte < 256 → high ≡ 0 → joined byte bytes (high, rest) ≡ Err (mistake (length bytes) Padded)
unfolding joined
joined_padded byte bytes high rest low none = rw (le-ltb 255 byte (omega arith), eq-eqb high 0 none) refl

pub joined_large : (byte : ℕ) (bytes : List ℕ) (high : ℕ) (rest : List ℕ) → byte < 256 → (high ≡ 0 → ⊥) → 144115188075855871 < high → joined byte bytes (high, rest) ≡ Err (mistake (length bytes) TooLarge)
unfolding joined
joined_large byte bytes high rest low some many = rw (le-ltb 255 byte (omega arith), ne_eqb high 0 some, lt-ltb 144115188075855871 high many) refl

-- what the first byte and the others give
pub give_more : (r : Result (ℕ × Bor (List ℕ)) Stop) (more first : ℕ) (rest bytes : List ℕ) (high : ℕ × List ℕ) → (more ≡ 0 → ⊥) → 128 ≤ first → bytes ≡ first ∷ rest → digits_at (more - 1) rest ≡ Ok high
    → Gives (λ (x : ℕ × Bor (List ℕ)). (x.0, x.1.now)) r (joined first bytes high) → Gives (λ (x : ℕ × Bor (List ℕ)). (x.0, x.1.now)) r (digits_at more bytes)
give_more r more first rest bytes high some big is found given =
    let n : more ≡ suc (more - 1) = omega arith in
    let whole : digits_at more bytes ≡ joined first bytes high =
    ap (digits_at more) is ∙ ap (λ (k : ℕ). digits_at k (first ∷ rest)) n ∙ at_more (more - 1) first rest big ∙ ap (λ (f : Result (ℕ × List ℕ) Mistake). f >>= λ h. joined first (first ∷ rest) h) found ∙ ap (λ (b : List ℕ). joined first b high) (sym is) in
    subst (λ (f : Result (ℕ × List ℕ) Mistake). Gives (λ (x : ℕ × Bor (List ℕ)). (x.0, x.1.now)) r f) (sym whole) given

-- ---- both laws

pub digits_low : (more n : ℕ) → n < 128 → digits more n ≡ n ∷ []
digits_low zero n low = refl
digits_low (suc more) n low = rw (lt-ltb n 128 low) refl

pub digits_more : (more n : ℕ) → 128 ≤ n → digits (suc more) n ≡ (n % 128 + 128) ∷ digits more (n / 128)
digits_more more n high = rw (le-ltb n 128 high) refl

high_part : (n byte high : ℕ) → 128 ≤ byte → byte < 256 → n ≡ byte - 128 + 128 * high → (n % 128 + 128 ≡ byte) × (n / 128 ≡ high)
high_part n byte high big small e = (omega arith, omega arith)

pub digits_take : (more : ℕ) (bytes : List ℕ) (n : ℕ) (rest : List ℕ) → digits_at more bytes ≡ Ok (n, rest) → bytes ≡ digits more n ++ rest
digits_take more [] n rest e = absurd (let f = sym (at_end more) ∙ e in cc)
digits_take zero (byte ∷ rest') n rest e =
    elim (cases_lt byte 128) [
      | inl low ↦
          let same = ok_is (byte, rest') (n, rest) (sym (at_last 0 byte rest' low) ∙ e) in
          subst (λ (y : ℕ × List ℕ). byte ∷ rest' ≡ digits 0 y.0 ++ y.1) same refl
      | inr high ↦ absurd (let f = sym (at_full byte rest' high) ∙ e in cc)
    ]
digits_take (suc more) (byte ∷ rest') n rest e =
    elim (cases_lt byte 128) [
      | inl low ↦
          let same = ok_is (byte, rest') (n, rest) (sym (at_last (suc more) byte rest' low) ∙ e) in
          subst (λ (y : ℕ × List ℕ). byte ∷ rest' ≡ digits (suc more) y.0 ++ y.1) same (ap (λ (t : List ℕ). t ++ rest') (sym (digits_low (suc more) byte low)))
      | inr high ↦
          let a = bind_ok (digits_at more rest') (λ found. joined byte (byte ∷ rest') found) (n, rest) (sym (at_more more byte rest' high) ∙ e) in
          let j = joined_ok byte (byte ∷ rest') a.0 n rest a.2 in
          let part = high_part n byte a.0.0 high j.small j.whole in
          let some = j.some in
          let whole = j.whole in
          let test : ltb n 128 ≡ false = le-ltb n 128 (omega arith) in
          let inner : rest' ≡ digits more a.0.0 ++ a.0.1 = digits_take more rest' a.0.0 a.0.1 a.1 in
          rw (test, part.0, part.1) (ap (λ (t : List ℕ). byte ∷ t) (inner ∙ ap (λ (t : List ℕ). digits more a.0.0 ++ t) j.same))
    ]

pub digits_again : (more n : ℕ) (rest : List ℕ) → n < top more → n < 2 ^ 64 → digits_at more (digits more n ++ rest) ≡ Ok (n, rest)
digits_again zero n rest below fits = at_last 0 n rest below
digits_again (suc more) n rest below fits =
    elim (cases_lt n 128) [
      | inl low ↦
          let test : ltb n 128 ≡ true = lt-ltb n 128 low in
          rw test (at_last (suc more) n rest low)
      | inr high ↦
          let test : ltb n 128 ≡ false = le-ltb n 128 high in
          let few : n / 128 < top more = omega arith in
          let fits' : n / 128 < 2 ^ 64 = omega arith in
          let big : 128 ≤ n % 128 + 128 = omega arith in
          let inner = digits_again more (n / 128) rest few fits' in
          let whole : n % 128 + 128 - 128 + 128 * (n / 128) ≡ n = omega arith in
          rw test (at_more more (n % 128 + 128) (digits more (n / 128) ++ rest) big
          ∙ rw inner (joined_again (n % 128 + 128) ((n % 128 + 128) ∷ (digits more (n / 128) ++ rest)) (n / 128) rest (omega arith) (omega arith) (omega arith)
          ∙ ap (λ (m : ℕ). Ok (m, rest)) whole))
    ]

pub number_form : IsForm number_text number_at IsNumber
unfolding number_text number_at
number_form = record {
  takes = λ bytes n rest e. digits_take 9 bytes n rest e;
  again = λ n rest fits. digits_again 9 n rest (omega arith) fits;
}

-- ---- writing

-- a number that isn't below 128 has a byte more
pub some_more : (more n : ℕ) → n < top more → 128 ≤ n → (less : ℕ) × (more ≡ suc less) × (n / 128 < top less)
some_more zero n below high = absurd (omega arith)
some_more (suc less) n below high = (less, refl, omega arith)
