-- What lies between two entries of one group.
use Rattle.ele_lists.proofs.Basics.{Bound, Equal, Included, IsLeBy, IsTotalOrder, IsTrue, Ordering, any-filter_same, arith, eq_by_cmp_equiv, false, is_at, is_lt, keys_between, list_any, list_any_congr, nat_cmp_total, nat_tests, on_total, range_contains, range_contains-from_IsInRange, then_total, tied_itself, true, ℕ, ◌<◌, ◌==◌, ◌^◌, ◌∙◌, ◌≡◌, ◌≤◌}
use Rattle.ele_rows.proofs.Basics.{Index, IsLastOf, entry_cmp, has}
use Rattle.ele_lists.proofs.Anys.{any-weaker}

module _ {G : Type 0} {cmp : G → G → Ordering} (o : IsTotalOrder cmp) where
  pub entry_total : IsTotalOrder (entry_cmp cmp)
  entry_total = then_total (then_total (on_total (λ e. e.0) o) (on_total (λ e. e.1) nat_cmp_total)) (on_total (λ e. e.2) nat_cmp_total)

  -- what has the group in its place
  has_same : (index : Index G) (g h : G) (r s : ℕ) → cmp g h ≡ Equal → has cmp index g r s ≡ has cmp index h r s
  has_same index g h r s e = grind (arith, nat_tests, list_any_congr, eq_by_cmp_equiv, entry_total, tied_itself, nat_cmp_total)

  module _ (index : Index G) (g : G) (rank : ℕ) where
    -- the least and the greatest entry of the group up to the rank
    abbrev pub InGroup : G × ℕ × ℕ → Type 0
    InGroup e = IsLeBy (entry_cmp cmp) (g, 0, 0) e × IsLeBy (entry_cmp cmp) e (g, rank, 18446744073709551615)

    pub in_group : (q t : ℕ) → q ≤ rank → t < 2 ^ 64 → InGroup (g, q, t)
    in_group q t h k = (grind (arith, nat_tests, tied_itself o g), grind (arith, nat_tests, tied_itself o g))

    here : (e : G × ℕ × ℕ) → InGroup e → cmp g e.0 ≡ Equal
    here e inside = grind (arith, o.antisymm g e.0, inside.0, inside.1)

    pub of_group : (e : G × ℕ × ℕ) → InGroup e → IsTrue (has cmp index e.0 e.1 e.2) → has cmp index g e.1 e.2 ≡ true
    of_group e inside there = rw (has_same index g e.0 e.1 e.2 (here e inside)) there

    pub last_of_group : (e : G × ℕ × ℕ) → InGroup e → IsTrue (has cmp index e.0 e.1 e.2)
        → ((e' : G × ℕ × ℕ) → InGroup e' → IsTrue (has cmp index e'.0 e'.1 e'.2) → is_lt (entry_cmp cmp e e') ≡ false)
        → IsLastOf (has cmp index g) rank e.1 e.2
    last_of_group e inside there last =
        let same = here e inside in
        let back = o.antisymm e.0 g in
        record { there = of_group e inside there; up_to = grind (arith, nat_tests, inside.1); last = λ q t h k has. grind (arith, nat_tests, last (g, q, t) (in_group q t h k) has) }

-- the bounds of a group
abbrev pub least : {G : Type 0} → G → Bound (G × ℕ × ℕ)
least g = Included (g, 0, 0)

abbrev pub greatest : {G : Type 0} → G → Bound (G × ℕ × ℕ)
greatest g = Included (g, 18446744073709551615, 18446744073709551615)

module _ {G : Type 0} {cmp : G → G → Ordering} (o : IsTotalOrder cmp) (index : Index G) (g : G) (r s : ℕ) where
  -- what is there is found among all of the group
  pub found_of_group : r < 2 ^ 64 → s < 2 ^ 64 → has cmp index g r s ≡ true
      → list_any (λ e. e.2 == s) (keys_between (entry_cmp cmp) (least g) (greatest g) index.entries) ≡ true
  found_of_group fits small there =
      any-weaker (is_at (entry_cmp cmp (g, r, s))) (λ e. e.2 == s) (keys_between (entry_cmp cmp) (least g) (greatest g) index.entries) (λ e is. grind (arith, nat_tests))
      (any-filter_same (is_at (entry_cmp cmp (g, r, s))) (range_contains (entry_cmp cmp) (least g) (greatest g)) true (λ e is. range_contains-from_IsInRange (entry_total o) (least g) (greatest g) e (grind (arith, nat_tests, is), grind (arith, nat_tests, is, o.antisymm e.0 g))) index.entries.keys ∙ there)
