-- Laws of the order of keys.
use Rattle.std.proofs.Common.{◌≡◌, ℕ, ◌≤◌, true, ap, arith}
use Rattle.std.specs.declared.cmp.Ordering.{Ordering}
use Rattle.std.specs.declared.cmp.Ordering.TheVariants.{Less}
use Rattle.std.specs.Ordering.{nat_cmp, ordering_then}
use Rattle.std.specs.Cmp.{IsTotalOrder, nat_cmp_total}
use Rattle.std.proofs.lemmas.Cmp.{then_total, on_total}
use Rattle.std.proofs.lemmas.Map.Lookups.{CmpEqualImpliesEq, exact_pairs, exact_unsigned}
use Rattle.std.proofs.lemmas.Bool.Decides.{nat_tests}
use Rattle.ele_due.specs.declared.key.Key.{Key}
use Rattle.ele_due.specs.Key.{key_cmp, is_key}

-- the order of keys is total
pub key_total : IsTotalOrder key_cmp
key_total =
    then_total (on_total (λ k. k.ripe) nat_cmp_total)
    (then_total (on_total (λ k. k.file) nat_cmp_total) (on_total (λ k. k.number) nat_cmp_total))

-- keys that compare alike are one
pub key_exact : CmpEqualImpliesEq key_cmp
key_exact a b alike =
    let inner : ℕ × ℕ → ℕ × ℕ → Ordering = λ x y. ordering_then (nat_cmp x.0 y.0) (nat_cmp x.1 y.1) in
    ap (λ (p : ℕ × (ℕ × ℕ)). record { ripe = p.0; file = p.1.0; number = p.1.1 })
    (exact_pairs nat_cmp inner exact_unsigned (exact_pairs nat_cmp nat_cmp exact_unsigned exact_unsigned)
    (a.ripe, (a.file, a.number)) (b.ripe, (b.file, b.number)) alike)

-- keys that are one are equal
pub is_key-same : (a b : Key) → is_key a b ≡ true → a ≡ b
is_key-same a b h = grind (arith, key_exact a b)

pub is_key-sym : (a b : Key) → is_key a b ≡ is_key b a
is_key-sym a b = grind (arith, key_total.antisymm a b)

-- the lower key is ripe no later
pub less-ripe : (a b : Key) → key_cmp a b ≡ Less → a.ripe ≤ b.ripe
less-ripe a b h = grind (arith, nat_tests)
