-- A span of a rung lies in one span of each higher rung; the nearest moment shares a span if any later one does.
use Rattle.std.proofs.Common.{◌≡◌, ℕ, ◌≤◌, ◌<◌, ◌*◌, ◌/◌, ◌%◌, true, List, ◌∷◌, ap, sym, ◌∙◌, arith, eq-eqb, zero, suc}
use Rattle.std.specs.List.{list_any}
use Rattle.std.proofs.Math.Nat.{div-div-eq-div-mul, div-add-mod, div-mul-le_self, div-zero}
use Rattle.std.proofs.lemmas.Nat.{le-div}
use Rattle.std.proofs.lemmas.Bool.Decides.{nat_tests}
use Rattle.ele_lists.specs.Lists.{AllLater}
use Rattle.ele_lists.proofs.Edits.{all-weaker}
use Rattle.ele_policy.specs.Ladder.{Rung, is_above, climbs, shares}
use Rattle.ele_lists.proofs.Anys.{any-first}

pub record IsAbove (low high : Rung) : Type 0 where
  pub older : low.0 < high.0
  pub some : 0 < high.1
  pub divides : high.1 % low.1 ≡ 0

above : (low high : Rung) → is_above low high ≡ true → IsAbove low high
above low high h = record { older = grind (arith, nat_tests); some = grind (arith, nat_tests); divides = grind (arith, nat_tests) }

pub climbed : (low rung : Rung) (rungs : List Rung) → climbs low (rung ∷ rungs) ≡ true → IsAbove low rung × (climbs rung rungs ≡ true)
climbed low rung rungs h = (above low rung (grind (arith, nat_tests)), grind (arith, nat_tests))

-- sharing a span of a rung implies sharing one of each higher one
pub nests : (low high : Rung) (a b : ℕ) → IsAbove low high → shares a b low ≡ true → shares a b high ≡ true
nests low high a b is h =
    let times = high.1 / low.1 in
    let wide : high.1 ≡ low.1 * times = (let whole = div-add-mod high.1 low.1 in let exact = is.divides in omega (arith, whole, exact)) in
    let same : a / low.1 ≡ b / low.1 = grind (arith, nat_tests) in
    let by = λ (c : ℕ). (ap (λ w. c / w) wide ∙ sym (div-div-eq-div-mul c low.1 times)) in
    eq-eqb (a / high.1) (b / high.1) (by a ∙ ap (λ q. q / times) same ∙ sym (by b))

pub shares_on : (rung : Rung) (a b c : ℕ) → shares a b rung ≡ true → shares b c rung ≡ true → shares a c rung ≡ true
shares_on rung a b c h k = grind (arith, nat_tests)

div-mono : (m n k : ℕ) → m ≤ n → m / k ≤ n / k
div-mono m n zero h = rw (div-zero m, div-zero n) (omega arith)
div-mono m n (suc k) h = let most = div-mul-le_self m (suc k) in le-div (m / suc k) n (suc k) (omega arith) (omega (arith, most))

-- what lies between lies in the span of both
between_shares : (rung : Rung) (a n x : ℕ) → a ≤ n → n ≤ x → shares a x rung ≡ true → shares a n rung ≡ true
between_shares rung a n x an nx h = grind (arith, nat_tests, div-mono a n rung.1 an, div-mono n x rung.1 nx)

pub nearest_decides : (rung : Rung) (closed n : ℕ) (more : List ℕ) → AllLater ◌≤◌ (closed ∷ n ∷ more) → list_any (λ newer. shares closed newer rung) (n ∷ more) ≡ shares closed n rung
nearest_decides rung closed n more later =
    any-first (λ newer. shares closed newer rung) n more (all-weaker (λ x. n ≤ x) (λ x. shares closed x rung ≡ true → shares closed n rung ≡ true) more (λ x later' h. between_shares rung closed n x later.0.0 later' h) later.1.0)
