-- The newest row of each name, and those before it, when one is added or removed.
use Rattle.ele_names.proofs.Words.{◌≡◌, ℕ, ◌<◌, ◌^◌, ◌&&◌, ◌==◌, ◌≤◌, length, slice_get_past, true, false, cond, Some, None, arith, nat_tests, nat_eq, nat_cmp, unsigned_tied, has, is_entry, IsLastOf, AreBelow, BirthIndex, Born, is_up_to, newest_of, has_birth}

entry_is : (n b t q r s : ℕ) → is_entry nat_cmp n b t q r s ≡ (nat_eq n q && (b == r) && (t == s))
entry_is n b t q r s = grind (arith, nat_tests, unsigned_tied)

-- a later row is later than all that aren't later than an earlier one
later_up : (b t r s : ℕ) (e : Born) → is_up_to b t e ≡ false → is_up_to r s e ≡ true → is_up_to r s (record { birth = b; serial = t }) ≡ true
later_up b t r s e later up = grind (arith, nat_tests)

module _ (old new : BirthIndex) where
  pub below_same : ((q : ℕ) → newest_of new q ≡ newest_of old q) → ((q r s : ℕ) → has nat_cmp new.older q r s ≡ has nat_cmp old.older q r s) → AreBelow old → AreBelow new
  below_same newest same was = record { each = λ q r s small short h. grind (arith, nat_tests, newest q, same q r s, was.each q r s small short) }

  module _ (n b t : ℕ) where
    -- a row less in the tree
    pub below_less : ((q : ℕ) → newest_of new q ≡ newest_of old q) → ((q r s : ℕ) → has nat_cmp new.older q r s ≡ cond (is_entry nat_cmp n b t q r s) false (has nat_cmp old.older q r s)) → AreBelow old → AreBelow new
    below_less newest less was = record { each = λ q r s small short h. grind (arith, nat_tests, newest q, less q r s, was.each q r s small short) }

    -- a row more in the tree, no later than the newest of its name
    pub below_more : (e : Born) → newest_of old n ≡ Some e → is_up_to b t e ≡ true → ((q : ℕ) → newest_of new q ≡ newest_of old q)
        → ((q r s : ℕ) → has nat_cmp new.older q r s ≡ cond (is_entry nat_cmp n b t q r s) true (has nat_cmp old.older q r s)) → AreBelow old → AreBelow new
    below_more e is up newest more was = record { each = λ q r s small short h. grind (arith, nat_tests, newest q, more q r s, entry_is n b t q r s, was.each q r s small short) }

    module _ (changed : (q : ℕ) → newest_of new q ≡ cond (nat_eq n q) (Some (record { birth = b; serial = t })) (newest_of old q)) where
      -- the first row of a name
      pub stands_first : newest_of old n ≡ None → ((q r s : ℕ) → has nat_cmp new.older q r s ≡ has nat_cmp old.older q r s)
          → (q r s : ℕ) → has_birth new q r s ≡ cond (is_entry nat_cmp n b t q r s) true (has_birth old q r s)
      stands_first none same q r s = grind (arith, nat_tests, changed q, same q r s, entry_is n b t q r s)

      pub below_first : newest_of old n ≡ None → ((q r s : ℕ) → has nat_cmp new.older q r s ≡ has nat_cmp old.older q r s) → AreBelow old → AreBelow new
      below_first none same was = record { each = λ q r s small short h. grind (arith, nat_tests, changed q, same q r s, was.each q r s small short) }

      -- a later row, before which the one that was the newest goes into the tree
      module _ (e : Born) (is : newest_of old n ≡ Some e) (more : (q r s : ℕ) → has nat_cmp new.older q r s ≡ cond (is_entry nat_cmp n e.birth e.serial q r s) true (has nat_cmp old.older q r s)) where
        pub stands_later : (q r s : ℕ) → has_birth new q r s ≡ cond (is_entry nat_cmp n b t q r s) true (has_birth old q r s)
        stands_later q r s = grind (arith, nat_tests, changed q, more q r s, entry_is n b t q r s, entry_is n e.birth e.serial q r s)

        pub below_later : is_up_to b t e ≡ false → AreBelow old → AreBelow new
        below_later later was = record { each = λ q r s small short h. grind (arith, nat_tests, changed q, more q r s, entry_is n e.birth e.serial q r s, was.each q r s small short, later_up b t r s e later) }

      -- the last row of the tree is the newest now
      module _ (last : IsLastOf (has nat_cmp old.older n) 18446744073709551615 b t) (less : (q r s : ℕ) → has nat_cmp new.older q r s ≡ cond (is_entry nat_cmp n b t q r s) false (has nat_cmp old.older q r s)) where
        pub stands_renewed : (q r s : ℕ) → has_birth new q r s ≡ cond (nat_eq n q) (has nat_cmp old.older q r s) (has_birth old q r s)
        stands_renewed q r s = grind (arith, nat_tests, changed q, less q r s, entry_is n b t q r s, last.there)

        pub below_renewed : AreBelow old → AreBelow new
        below_renewed was = record { each = λ q r s small short h. grind (arith, nat_tests, changed q, less q r s, last.last r s, was.each q r s small short) }

    -- no row is left of the name
    pub below_none : ((q : ℕ) → newest_of new q ≡ cond (nat_eq n q) None (newest_of old q)) → ((r s : ℕ) → r ≤ 18446744073709551615 → s < 2 ^ 64 → has nat_cmp old.older n r s ≡ false)
        → ((q r s : ℕ) → has nat_cmp new.older q r s ≡ has nat_cmp old.older q r s) → AreBelow old → AreBelow new
    below_none changed none same was = record { each = λ q r s small short h. grind (arith, nat_tests, changed q, none r s, same q r s, was.each q r s small short) }

-- a name with a row has a place
pub has_place : (birth_index : BirthIndex) (q : ℕ) (e : Born) → newest_of birth_index q ≡ Some e → q < length birth_index.newest.items
has_place birth_index q e is = grind (arith, nat_tests, is, slice_get_past birth_index.newest.items q)
