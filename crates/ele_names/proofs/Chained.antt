-- The members of each group, when a newer one is added or the newest is removed.
use Rattle.ele_names.proofs.Words.{◌≡◌, ℕ, zero, suc, ◌≤◌, ◌<◌, ◌^◌, Bool, true, false, cond, List, [], ◌∷◌, ◌++◌, length, take, slice_get, slice_set, IsSome, Option, Some, None, refl, sym, ◌∙◌, arith, is_at, nat_eq, option_map_or, nat_cmp, false≢true, nat_tests, RowLists, AreChained, HasOlder, IsLastBelow, Gains, Keeps, Loses, is_member, newest_in, at_itself, ◌-◌}
use Rattle.ele_names.proofs.Live.{same_serial}

apart : (n s : ℕ) → s < n → is_at (nat_cmp n) s ≡ false
apart n s h = grind (arith, nat_tests)

after : (n s : ℕ) → is_at (nat_cmp n) s ≡ false → n ≤ s → n < s
after n s h le = grind (arith, nat_tests)

-- elements before a place, if the list is cut there and grows again, or that place is set
module _ {X : Type 0} where
  pub cut_kept : (xs ys : List X) (n s : ℕ) (x : X) → s < n → slice_get xs s ≡ Some x → slice_get (take n xs ++ ys) s ≡ Some x
  cut_kept [] ys n s x lt is = absurd cc
  cut_kept (y ∷ xs) ys zero s x lt is = absurd (omega (arith, lt))
  cut_kept (y ∷ xs) ys (suc n) s x lt is = grind (arith, nat_tests, cut_kept xs ys n (s - 1) x)

  pub own_pushed : (xs : List X) (x : X) (n : ℕ) → length xs ≡ n → slice_get (xs ++ x ∷ []) n ≡ Some x
  own_pushed [] x n is = rw (← is) refl
  own_pushed (y ∷ xs) x n is = grind (arith, nat_tests, own_pushed xs x (n - 1))

-- what is seen of an element, if one is set
module _ {X Y : Type 0} (f : Option X → Y) where
  pub set_seen : (xs : List X) (n : ℕ) (v : X) → n < length xs → (s : ℕ) → f (slice_get (slice_set xs n v) s) ≡ cond (nat_eq n s) (f (Some v)) (f (slice_get xs s))
  set_seen [] n v lt s = absurd (omega (arith, lt))
  set_seen (x ∷ xs) n v lt s = grind (arith, nat_tests, set_seen xs (n - 1) v)

  pub same_seen : (xs : List X) (n : ℕ) (v : X) → f (Some v) ≡ f (slice_get xs n) → (s : ℕ) → f (slice_get (slice_set xs n v) s) ≡ f (slice_get xs s)
  same_seen [] n v same s = refl
  same_seen (x ∷ xs) n v same s = grind (arith, nat_tests, same, same_seen xs (n - 1) v)

-- what passes alike has the same last
last_same : (p q : ℕ → Bool) (bound : ℕ) (o : Option ℕ) → ((s : ℕ) → s < bound → q s ≡ p s) → IsLastBelow p bound o → IsLastBelow q bound o
last_same p q bound x0 same last = grind (arith, nat_tests, same, last)

-- if nothing passes between two bounds, the last below the one is that below the other
module _ (p : ℕ → Bool) (low high : ℕ) (le : low ≤ high) (none : (s : ℕ) → low ≤ s → s < high → p s ≡ false) where
  last_lower : (o : Option ℕ) → IsLastBelow p high o → IsLastBelow p low o
  last_lower x0 last = grind (arith, nat_tests, none, last)

  last_higher : (o : Option ℕ) → IsLastBelow p low o → IsLastBelow p high o
  last_higher x0 last = grind (arith, nat_tests, none, last)

module _ {X : Type 0} (belongs : ℕ → X → Bool) where
  -- members of the same groups are chained alike
  pub chained_same : (at to : ℕ → Option X) (row_lists : RowLists) → ((g s : ℕ) → is_member belongs to g s ≡ is_member belongs at g s) → AreChained belongs at row_lists → AreChained belongs to row_lists
  chained_same at to row_lists same was = record {
    newest = λ g. last_same (is_member belongs at g) (is_member belongs to g) (2 ^ 64) (newest_in row_lists g) (λ s lt. same g s) (was.newest g);
    older = λ g s is. let prior = was.older g s (sym (same g s) ∙ is) in record { number = prior.number; there = prior.there; last = last_same (is_member belongs at g) (is_member belongs to g) s prior.number (λ k lt. same g k) prior.last };
  }

  -- and so are chains with the same members
  pub chained_told : (at : ℕ → Option X) (old new : RowLists) → ((g : ℕ) → newest_in new g ≡ newest_in old g) → new.older ≡ old.older → AreChained belongs at old → AreChained belongs at new
  chained_told at old new newest older was = grind (arith, nat_tests, newest, was.newest, was.older)

  pub chained_none : (row_lists : RowLists) → ((g : ℕ) → newest_in row_lists g ≡ None) → AreChained belongs (λ _. None) row_lists
  chained_none row_lists empty = record { newest = λ g. rw (empty g) (λ s lt. refl); older = λ g s is. absurd (false≢true is) }

  module _ (at : ℕ → Option X) (number : ℕ) (fresh : (s : ℕ) → number ≤ s → at s ≡ None) where
    none_stands : (g s : ℕ) → number ≤ s → is_member belongs at g s ≡ false
    none_stands g s le = rw (fresh s le) refl

    first : (g s : ℕ) → is_member belongs at g s ≡ true → s < number
    first g s is = grind (arith, nat_tests, none_stands g s)

    pub chained_kept : (old new : RowLists) → Keeps number old new → AreChained belongs at old → AreChained belongs at new
    chained_kept old new keeps was = grind (arith, nat_tests, first)

    module _ (x : X) where
      abbrev entered : ℕ → Option X
      entered s = cond (is_at (nat_cmp number) s) (Some x) (at s)

      before : (g s : ℕ) → s < number → is_member belongs entered g s ≡ is_member belongs at g s
      before g s lt = rw (apart number s lt) refl

      -- nothing else is added at the end
      pub none_behind : (g s : ℕ) → number < s → is_member belongs entered g s ≡ false
      none_behind g s over = grind (arith, nat_tests, none_stands g s)

      others : (g : ℕ) → belongs g x ≡ false → (s : ℕ) → is_member belongs entered g s ≡ is_member belongs at g s
      others g not s = grind (arith, nat_tests, is_at, nat_cmp, option_map_or, is_member, same_serial, none_stands)

      pub chained_entered : (group : ℕ) → ((g : ℕ) → belongs g x ≡ nat_eq group g) → (old new : RowLists) → number < 2 ^ 64 → Gains group number old new → AreChained belongs at old → AreChained belongs entered new
      chained_entered group its old new short gains was = record { newest = newest; older = older } where
        newest : (g : ℕ) → IsLastBelow (is_member belongs entered g) (2 ^ 64) (newest_in new g)
        newest g = rw (gains.newest g) (by (nat_eq group g) refl) where
          by : (b : Bool) → nat_eq group g ≡ b → IsLastBelow (is_member belongs entered g) (2 ^ 64) (cond b (Some number) (newest_in old g))
          by true e = record { there = rw (at_itself number) (its g ∙ e); below = short; last = λ s over lt. none_behind g s over }
          by false e = last_same (is_member belongs at g) (is_member belongs entered g) (2 ^ 64) (newest_in old g) (λ s lt. others g (its g ∙ e) s) (was.newest g)

        older : (g s : ℕ) → is_member belongs entered g s ≡ true → HasOlder (is_member belongs entered g) new.older.items s
        older g s is = by (is_at (nat_cmp number) s) refl is where
          by : (b : Bool) → is_at (nat_cmp number) s ≡ b → option_map_or (belongs g) (cond b (Some x) (at s)) false ≡ true → HasOlder (is_member belongs entered g) new.older.items s
          by true e h = let group_is : group ≡ g = grind (arith, nat_tests, its g) in rw (← same_serial number s e, ← group_is) (record {
            number = newest_in old group;
            there = gains.own;
            last = last_same (is_member belongs at group) (is_member belongs entered group) number (newest_in old group) (before group)
                (last_lower (is_member belongs at group) number (2 ^ 64) (omega (arith, short)) (λ k le lt. none_stands group k le) (newest_in old group) (was.newest group));
          })
          by false e h = let prior = was.older g s h in let lt = first g s h in record {
            number = prior.number;
            there = gains.older s prior.number lt prior.there;
            last = last_same (is_member belongs at g) (is_member belongs entered g) s prior.number (λ k less. before g k (omega (arith, less, lt))) prior.last;
          }

  -- a member of a group that nothing of it follows
  module _ (at : ℕ → Option X) (x : X) (number : ℕ) (there : at number ≡ Some x) where
    abbrev left : ℕ → Option X
    left s = cond (is_at (nat_cmp number) s) None (at s)

    below : (g s : ℕ) → s < number → is_member belongs left g s ≡ is_member belongs at g s
    below g s lt = rw (apart number s lt) refl

    unlike : (g : ℕ) → belongs g x ≡ false → (s : ℕ) → is_member belongs left g s ≡ is_member belongs at g s
    unlike g not s = grind (arith, nat_tests, is_at, nat_cmp, option_map_or, is_member, same_serial)

    -- the group of a member has a newest one
    pub newest_known : (g : ℕ) → belongs g x ≡ true → (old : RowLists) → number < 2 ^ 64 → AreChained belongs at old → IsSome (newest_in old g)
    newest_known g its old short was = grind (arith, nat_tests, was.newest g)

    module _ (group : ℕ) (its : (g : ℕ) → belongs g x ≡ nat_eq group g) (newest_of : (s : ℕ) → number < s → is_member belongs at group s ≡ false) where
      equal : (g : ℕ) → nat_eq group g ≡ true → group ≡ g
      equal g h = grind (arith, nat_tests)

      -- no member of its group is there, or after it
      gone : (s : ℕ) → number ≤ s → is_member belongs left group s ≡ false
      gone s le = grind (arith, nat_tests, is_at, nat_cmp, option_map_or, after)

      pub chained_left : (old new : RowLists) → number < 2 ^ 64 → Loses group number old new → AreChained belongs at old → AreChained belongs left new
      chained_left old new short loses was = record { newest = newest; older = older } where
        prior : HasOlder (is_member belongs at group) old.older.items number
        prior = was.older group number (rw there (its group ∙ grind (arith, nat_tests)))

        newest : (g : ℕ) → IsLastBelow (is_member belongs left g) (2 ^ 64) (newest_in new g)
        newest g = rw (loses.newest g, prior.there) (by (nat_eq group g) refl) where
          by : (b : Bool) → nat_eq group g ≡ b → IsLastBelow (is_member belongs left g) (2 ^ 64) (cond b prior.number (newest_in old g))
          by true e = rw (← equal g e) (last_higher (is_member belongs left group) number (2 ^ 64) (omega (arith, short)) (λ s le lt. gone s le) prior.number
              (last_same (is_member belongs at group) (is_member belongs left group) number prior.number (below group) prior.last))
          by false e = last_same (is_member belongs at g) (is_member belongs left g) (2 ^ 64) (newest_in old g) (λ s lt. unlike g (its g ∙ e) s) (was.newest g)

        older : (g s : ℕ) → is_member belongs left g s ≡ true → HasOlder (is_member belongs left g) new.older.items s
        older g s is = by (is_at (nat_cmp number) s) refl is where
          alike : is_at (nat_cmp number) s ≡ false → is_member belongs at g s ≡ true → (k : ℕ) → k < s → is_member belongs left g k ≡ is_member belongs at g k
          alike e h k less = grind (arith, nat_tests, below g k, unlike g, its g, equal g, newest_of s, after number s)

          by : (b : Bool) → is_at (nat_cmp number) s ≡ b → option_map_or (belongs g) (cond b None (at s)) false ≡ true → HasOlder (is_member belongs left g) new.older.items s
          by true e h = absurd (false≢true h)
          by false e h = let prior = was.older g s h in record {
            number = prior.number;
            there = rw loses.older prior.there;
            last = last_same (is_member belongs at g) (is_member belongs left g) s prior.number (alike e h) prior.last;
          }
