-- The depths of rows, as their spans are begun one row after another, are those by which the first rows are sought.
use Rattle.std.proofs.Common.{⊎_elim, ◌≡◌, ℕ, zero, suc, ◌+◌, ◌<◌, ◌≤◌, ◌==◌, Bool, true, false, not, List, [], ◌∷◌, length, map, replicate, Option, Some, None, refl, sym, ap, ◌∙◌, arith, if◌then◌else◌}
use Rattle.std.specs.Prelude.{nat_le, ◌⊎◌}
use Rattle.std.proofs.lemmas.Bool.{cases_lt}
use Rattle.std.proofs.lemmas.Bool.Decides.{nat_tests}
use Rattle.ele_rule_parts.specs.declared.row.Row.{Row}
use Rattle.ele_rule_parts.specs.declared.span.Span.TheVariants.{Hour, Day, Week, Month, Year}
use Rattle.ele_btrbk_rules.specs.declared.begins.Begins.{Begins}
use Rattle.ele_btrbk_rules.specs.declared.begun.Begun.{Begun}
use Rattle.ele_btrbk_rules.specs.Begun.{begun_after, begun_if, depth, depths_from, none_begun}
use Rattle.ele_btrbk_rules.specs.Firsts.{deepened, depths_of, is_new}
use Rattle.ele_btrbk_rules.specs.Numbers.{number_of}

-- a depth, up to this one
abbrev up_to : ℕ → ℕ → ℕ
up_to most deep = if nat_le most deep then most else deep

-- a row that begins no span lies in the one that was begun last
last_is : (last : Option ℕ) (number : ℕ) → is_new last number ≡ false → Some number ≡ last
last_is None number old = absurd cc
last_is (Some n) number old = ap (λ (m : ℕ). Some m) (grind (arith, nat_tests))

-- one row gets its depth up to the next one
one_deeper : (k : ℕ) (number : Row → ℕ) (last after : Option ℕ) (row : Row) (rows : List Row) (deep : ℕ) (depths wanted : List ℕ)
    → (k ≤ deep → is_new last (number row) ≡ nat_le (suc k) deep)
    → after ≡ begun_if (nat_le (suc k) deep) (number row) last
    → deepened k number after rows (map (up_to k) depths) ≡ wanted
    → (deep < k) ⊎ (k ≤ deep)
    → (deep < suc k) ⊎ (suc k ≤ deep)
    → deepened k number last (row ∷ rows) (up_to k deep ∷ map (up_to k) depths) ≡ up_to (suc k) deep ∷ wanted
one_deeper k number last after row rows deep depths wanted one next rest =
    ⊎_elim
    (λ (less : deep < k). λ other.
    let same : after ≡ last = grind (arith, nat_tests) in
    let more = ap (λ (l : Option ℕ). deepened k number l rows (map (up_to k) depths)) (sym same) ∙ rest in
    grind (arith, nat_tests))
    (λ (there : k ≤ deep). ⊎_elim
    (λ (less : deep < suc k).
    let old : is_new last (number row) ≡ false = grind (arith, nat_tests, one there) in
    let same : Some (number row) ≡ after = last_is last (number row) old ∙ grind (arith, nat_tests) in
    let more = ap (λ (l : Option ℕ). deepened k number l rows (map (up_to k) depths)) same ∙ rest in
    grind (arith, nat_tests))
    (λ (new : suc k ≤ deep).
    let is : is_new last (number row) ≡ true = grind (arith, nat_tests, one there) in
    let same : Some (number row) ≡ after = grind (arith, nat_tests) in
    let more = ap (λ (l : Option ℕ). deepened k number l rows (map (up_to k) depths)) same ∙ rest in
    grind (arith, nat_tests)))

-- all rows do, if the spans of the kind are begun by those of that depth
deeper : (k : ℕ) (begins : Begins) (number : Row → ℕ) (last_in : Begun → Option ℕ)
    → ((begun : Begun) (row : Row) → k ≤ depth begins begun row → is_new (last_in begun) (number row) ≡ nat_le (suc k) (depth begins begun row))
    → ((begun : Begun) (row : Row) → last_in (begun_after begins begun (depth begins begun row) row) ≡ begun_if (nat_le (suc k) (depth begins begun row)) (number row) (last_in begun))
    → (begun : Begun) (rows : List Row)
    → deepened k number (last_in begun) rows (map (up_to k) (depths_from begins begun rows)) ≡ map (up_to (suc k)) (depths_from begins begun rows)
deeper k begins number last_in one next begun [] = refl
deeper k begins number last_in one next begun (row ∷ rows) =
    let deep = depth begins begun row in
    let after = begun_after begins begun deep row in
    one_deeper k number (last_in begun) (last_in after) row rows deep (depths_from begins after rows) _ (one begun row) (next begun row)
    (deeper k begins number last_in one next after rows) (cases_lt deep k) (cases_lt deep (suc k))

-- a depth by five tests
abbrev nested : Bool → Bool → Bool → Bool → Bool → ℕ
nested a b c d e = if a then (if b then (if c then (if d then (if e then 5 else 4) else 3) else 2) else 1) else 0

first_of_hour : (a b c d e : Bool) → 0 ≤ nested a b c d e → a ≡ nat_le 1 (nested a b c d e)
first_of_hour false b c d e there = refl
first_of_hour true false c d e there = refl
first_of_hour true true false d e there = refl
first_of_hour true true true false e there = refl
first_of_hour true true true true false there = refl
first_of_hour true true true true true there = refl

first_of_day : (a b c d e : Bool) → 1 ≤ nested a b c d e → b ≡ nat_le 2 (nested a b c d e)
first_of_day false b c d e there = absurd (omega (arith, there))
first_of_day true false c d e there = refl
first_of_day true true false d e there = refl
first_of_day true true true false e there = refl
first_of_day true true true true false there = refl
first_of_day true true true true true there = refl

first_of_week : (a b c d e : Bool) → 2 ≤ nested a b c d e → c ≡ nat_le 3 (nested a b c d e)
first_of_week false b c d e there = absurd (omega (arith, there))
first_of_week true false c d e there = absurd (omega (arith, there))
first_of_week true true false d e there = refl
first_of_week true true true false e there = refl
first_of_week true true true true false there = refl
first_of_week true true true true true there = refl

first_of_month : (a b c d e : Bool) → 3 ≤ nested a b c d e → d ≡ nat_le 4 (nested a b c d e)
first_of_month false b c d e there = absurd (omega (arith, there))
first_of_month true false c d e there = absurd (omega (arith, there))
first_of_month true true false d e there = absurd (omega (arith, there))
first_of_month true true true false e there = refl
first_of_month true true true true false there = refl
first_of_month true true true true true there = refl

first_of_year : (a b c d e : Bool) → 4 ≤ nested a b c d e → e ≡ nat_le 5 (nested a b c d e)
first_of_year false b c d e there = absurd (omega (arith, there))
first_of_year true false c d e there = absurd (omega (arith, there))
first_of_year true true false d e there = absurd (omega (arith, there))
first_of_year true true true false e there = absurd (omega (arith, there))
first_of_year true true true true false there = refl
first_of_year true true true true true there = refl

five_at_most : (a b c d e : Bool) → up_to 5 (nested a b c d e) ≡ nested a b c d e
five_at_most false b c d e = refl
five_at_most true false c d e = refl
five_at_most true true false d e = refl
five_at_most true true true false e = refl
five_at_most true true true true false = refl
five_at_most true true true true true = refl

-- whether the row lies in another span of the kind than that begun last
abbrev by_hour : Begins → Begun → Row → Bool
by_hour begins begun row = is_new begun.hour (number_of begins Hour row)

abbrev by_day : Begins → Begun → Row → Bool
by_day begins begun row = is_new begun.day (number_of begins Day row)

abbrev by_week : Begins → Begun → Row → Bool
by_week begins begun row = is_new begun.week (number_of begins Week row)

abbrev by_month : Begins → Begun → Row → Bool
by_month begins begun row = is_new begun.month (number_of begins Month row)

abbrev by_year : Begins → Begun → Row → Bool
by_year begins begun row = is_new begun.year (number_of begins Year row)

-- before any span is sought, and after all of them
none_deep : (begins : Begins) (begun : Begun) (rows : List Row) → replicate (length rows) 0 ≡ map (up_to 0) (depths_from begins begun rows)
none_deep begins begun [] = refl
none_deep begins begun (row ∷ rows) =
    let deep = depth begins begun row in
    let here : 0 ≡ up_to 0 deep = grind (arith, nat_tests) in
    ap (λ (ns : List ℕ). 0 ∷ ns) (none_deep begins (begun_after begins begun deep row) rows)
    ∙ ap (λ (n : ℕ). n ∷ map (up_to 0) (depths_from begins (begun_after begins begun deep row) rows)) here

all_deep : (begins : Begins) (begun : Begun) (rows : List Row) → map (up_to 5) (depths_from begins begun rows) ≡ depths_from begins begun rows
all_deep begins begun [] = refl
all_deep begins begun (row ∷ rows) =
    let deep = depth begins begun row in
    let after = begun_after begins begun deep row in
    ap (λ (ns : List ℕ). up_to 5 deep ∷ ns) (all_deep begins after rows)
    ∙ ap (λ (n : ℕ). n ∷ depths_from begins after rows) (five_at_most (by_hour begins begun row) (by_day begins begun row) (by_week begins begun row) (by_month begins begun row) (by_year begins begun row))

pub depths_are : (begins : Begins) (rows : List Row) → depths_from begins none_begun rows ≡ depths_of begins rows
depths_are begins rows =
    let hours = ap (deepened 0 (number_of begins Hour) None rows) (none_deep begins none_begun rows)
    ∙ deeper 0 begins (number_of begins Hour) (λ (b : Begun). b.hour)
    (λ (b : Begun) (row : Row). first_of_hour (by_hour begins b row) (by_day begins b row) (by_week begins b row) (by_month begins b row) (by_year begins b row)) (λ (b : Begun) (row : Row). refl) none_begun rows in
    let days = ap (deepened 1 (number_of begins Day) None rows) hours
    ∙ deeper 1 begins (number_of begins Day) (λ (b : Begun). b.day)
    (λ (b : Begun) (row : Row). first_of_day (by_hour begins b row) (by_day begins b row) (by_week begins b row) (by_month begins b row) (by_year begins b row)) (λ (b : Begun) (row : Row). refl) none_begun rows in
    let weeks = ap (deepened 2 (number_of begins Week) None rows) days
    ∙ deeper 2 begins (number_of begins Week) (λ (b : Begun). b.week)
    (λ (b : Begun) (row : Row). first_of_week (by_hour begins b row) (by_day begins b row) (by_week begins b row) (by_month begins b row) (by_year begins b row)) (λ (b : Begun) (row : Row). refl) none_begun rows in
    let months = ap (deepened 3 (number_of begins Month) None rows) weeks
    ∙ deeper 3 begins (number_of begins Month) (λ (b : Begun). b.month)
    (λ (b : Begun) (row : Row). first_of_month (by_hour begins b row) (by_day begins b row) (by_week begins b row) (by_month begins b row) (by_year begins b row)) (λ (b : Begun) (row : Row). refl) none_begun rows in
    let years = ap (deepened 4 (number_of begins Year) None rows) months
    ∙ deeper 4 begins (number_of begins Year) (λ (b : Begun). b.year)
    (λ (b : Begun) (row : Row). first_of_year (by_hour begins b row) (by_day begins b row) (by_week begins b row) (by_month begins b row) (by_year begins b row)) (λ (b : Begun) (row : Row). refl) none_begun rows in
    sym (years ∙ all_deep begins none_begun rows)
