-- The detail of a ladder is that of its first nine pairs.
use Rattle.ele_reasons.proofs.Basics.{nat_tests, arith, ◌≡◌, ℕ, ◌<◌, ◌≤◌, Bool, true, false, List, [], ◌∷◌, zero, suc, length, take, refl, sym, ap, ◌∙◌, take_all}
use Rattle.ele_reasons.proofs.Prelude.{Rung}
use Rattle.std.specs.Prelude.{nat_lt}
use Rattle.ele_reasons.specs.PolicyDetail.{ladder_detail}
use Rattle.ele_reasons.specs.declared.reasons.Detail.TheVariants.{Pairs}

too_many : (pairs : List Rung) → 8 < length pairs → ladder_detail pairs ≡ Pairs
too_many [] many = absurd (omega (arith, many))
too_many (pair ∷ pairs) many = grind (arith, nat_tests, many)

take_many : {A : Type 0} (n : ℕ) (xs : List A) → n ≤ length xs → length (take n xs) ≡ n
take_many zero xs many = refl
take_many (suc n) [] many = absurd (omega (arith, many))
take_many (suc n) (x ∷ xs) many = ap suc (take_many n xs (omega (arith, many)))

pub kept_detail : (pairs : List Rung) → ladder_detail (take 9 pairs) ≡ ladder_detail pairs
kept_detail pairs = by_test (nat_lt 8 (length pairs)) refl where
  by_test : (more : Bool) → nat_lt 8 (length pairs) ≡ more → ladder_detail (take 9 pairs) ≡ ladder_detail pairs
  by_test true more =
      let many : 8 < length pairs = grind (arith, nat_tests, more) in
      let nine = take_many 9 pairs (omega (arith, many)) in
      too_many (take 9 pairs) (omega (arith, nine)) ∙ sym (too_many pairs many)
  by_test false fewer =
      let few : length pairs ≤ 8 = grind (arith, nat_tests, fewer) in
      ap ladder_detail (take_all 9 pairs (omega (arith, few)))
