-- Serial numbers by group and rank.
use Rattle.std.specs.Prelude.{◌≡◌, ℕ, ◌≤◌, ◌<◌, ◌^◌, Bool, IsTrue, ◌⊎◌}
use Rattle.std.specs.declared.cmp.Ordering.{Ordering}
use Rattle.std.specs.Ordering.{nat_cmp, ordering_then}
use Rattle.std.specs.BTreeMap.{is_at}
use Rattle.std.specs.BTreeSet.{contains}
use Rattle.ele_rows.specs.declared.index.Index.{Index}

module _ {G : Type 0} (cmp : G → G → Ordering) where
  -- by group, then by rank, then by serial number
  abbrev pub entry_cmp : G × ℕ × ℕ → G × ℕ × ℕ → Ordering
  entry_cmp a b = ordering_then (ordering_then (cmp a.0 b.0) (nat_cmp a.1 b.1)) (nat_cmp a.2 b.2)

  -- the second entry is the first
  abbrev pub is_entry : G → ℕ → ℕ → G → ℕ → ℕ → Bool
  is_entry group rank serial q r s = is_at (entry_cmp (group, rank, serial)) (q, r, s)

  -- the index has the serial number s at the group q and the rank r
  abbrev pub has : Index G → G → ℕ → ℕ → Bool
  has index q r s = contains entry_cmp index.entries (q, r, s)

-- of all entries up to a rank that pass the test, the last is s at r
pub record IsLastOf (has_at : ℕ → ℕ → Bool) (rank r s : ℕ) : Type 0 where
  pub there : IsTrue (has_at r s)
  pub up_to : r ≤ rank
  pub last : (q t : ℕ) → q ≤ rank → t < 2 ^ 64 → IsTrue (has_at q t) → (q < r) ⊎ ((q ≡ r) × (t ≤ s))
