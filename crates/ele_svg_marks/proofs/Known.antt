-- What the numbers of a scale and the words of a floor come to.
use Rattle.std.proofs.Common.{◌≡◌, ℕ, zero, suc, ◌+◌, ◌-◌, ◌<◌, ◌≤◌, List, [], ◌∷◌, ◌++◌, length, refl, sym, ap, ◌∙◌, arith}
use Rattle.std.specs.List.{flat_map, fold, join_with_byte, range_with_len}
use Rattle.std.specs.Prelude.{codes, decimal}
use Rattle.ele_forecast_text.proofs.Known.{fronted}
use Rattle.ele_svg_marks.specs.Escaped.{titled}
use Rattle.ele_svg_marks.specs.Head.{floor_words}
use Rattle.ele_forecast_text.specs.Why.{spaced}

-- the numbers behind one and up to another, told by where they begin and end
pub each_between : (line : ℕ → List ℕ) (a b first behind : ℕ) → first ≡ a + 1 → behind ≡ b + 1 → flat_map line (range_with_len (a + 1) (b - a)) ≡ flat_map line (range_with_len first (behind - first))
each_between line a b first behind e f =
    let n : b - a ≡ behind - first = omega (arith, e, f) in
    ap (λ (m : ℕ). flat_map line (range_with_len (a + 1) m)) n ∙ ap (λ (k : ℕ). flat_map line (range_with_len k (behind - first))) (sym e)

-- the name of a floor, with a space in front
pub floor_parts : (n : ℕ) → 0 < n → join_with_byte 32 (codes " with a floor of" ∷ decimal n ∷ []) ≡ spaced (floor_words n)
floor_parts zero some = absurd (omega arith)
floor_parts (suc n) some = fronted (codes "with a floor of") (decimal (suc n) ∷ [])

-- what stands in place of a title that has no byte
pub titled_none : (title : List ℕ) → length title < 1 → titled title ≡ codes "Retention forecast"
titled_none [] few = refl
titled_none (byte ∷ bytes) few = absurd (omega (arith, few))
