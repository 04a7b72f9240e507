-- Changes of moments, and the keys that they add and remove.
use Rattle.ele_state.proofs.Words.{AllByRecursion, IfSome, all-found, found_passes, AreChanges, Bool, IsQueued, Key, KeyChange, List, None, Option, Some, World, [], arith, comes, false, find, goes, has_key, is_some, if_changed, is_alone, is_entry, is_one, list_any, list_any-append, nat_tests, not, refl, ripe_at, sym, true, ℕ, ◌&&◌, ◌++◌, ◌||◌, ◌∙◌, ◌∷◌, ◌≡◌, ap}

-- one passes if one is found
pub any_is : {X : Type 0} (p : X → Bool) (xs : List X) → list_any p xs ≡ is_some (find p xs)
any_is p [] = refl
any_is {X} p (x ∷ xs) = grind (arith, nat_tests, any_is p xs)

-- what is found passes, and is as all are
pub passing : {X : Type 0} (p : X → Bool) (xs : List X) → IfSome (find p xs) (λ x. p x ≡ true)
passing {X} p xs = by (find p xs) refl where
  by : (o : Option X) → find p xs ≡ o → IfSome o (λ x. p x ≡ true)
  by None none = tt
  by (Some x) found = found_passes p xs x found

pub found_is : {X : Type 0} (p : X → Bool) (P : X → Type 0) (xs : List X) → AllByRecursion P xs → IfSome (find p xs) P
found_is {X} p P xs all = by (find p xs) refl where
  by : (o : Option X) → find p xs ≡ o → IfSome o P
  by None none = tt
  by (Some x) found = all-found p P xs x found all

pub none_any : {X : Type 0} (p : X → Bool) (xs : List X) → find p xs ≡ None → list_any p xs ≡ false
none_any p xs none = any_is p xs ∙ ap is_some none

-- if a version had no key, one is added
pub brought : (k : Key) (file number : ℕ) (is : Option ℕ) → comes (if_changed (Some (record { file = file; number = number; was = None; is = is }))) k ≡ is_entry file number is k
brought k file number is = grind (arith, nat_tests)

module _ (was is : ℕ → ℕ → Option ℕ) where
  -- none of those that are touched has another moment
  pub none_changes : (touched : ℕ → ℕ → Bool) → ((file number : ℕ) → touched file number ≡ true → is file number ≡ was file number) → AreChanges touched was is []
  none_changes touched same = record { come = λ k. grind (arith, nat_tests, same k.file k.number); go = λ k. grind (arith, nat_tests, same k.file k.number) }

  pub one_stays : (file number : ℕ) → is file number ≡ was file number → AreChanges (is_one file number) was is []
  one_stays file number same = none_changes (is_one file number) (λ owner n h. grind (arith, nat_tests, h, same))

  -- one has
  pub one_changes : (file number : ℕ) (one other : Option ℕ) → was file number ≡ one → is file number ≡ other → AreChanges (is_one file number) was is (if_changed (Some (record { file = file; number = number; was = one; is = other })))
  one_changes file number one other had has = record { come = λ k. grind (arith, nat_tests, had, has); go = λ k. grind (arith, nat_tests, had, has) }

  -- those of both
  pub both_change : (one other all : ℕ → ℕ → Bool) (xs ys : List KeyChange) → ((file number : ℕ) → all file number ≡ (one file number || other file number)) → AreChanges one was is xs → AreChanges other was is ys → AreChanges all was is (xs ++ ys)
  both_change one other all xs ys parts first second = record {
    come = λ k. grind (arith, nat_tests, list_any-append, parts k.file k.number, first.come k, second.come k);
    go = λ k. grind (arith, nat_tests, list_any-append, parts k.file k.number, first.go k, second.go k);
  }

  -- or of versions that are the same ones
  pub same_change : (touched other : ℕ → ℕ → Bool) (xs : List KeyChange) → ((file number : ℕ) → touched file number ≡ other file number) → AreChanges other was is xs → AreChanges touched was is xs
  same_change touched other xs same are = record { come = λ k. are.come k ∙ ap (λ b. b && is_alone is was k) (sym (same k.file k.number)); go = λ k. are.go k ∙ ap (λ b. b && is_alone was is k) (sym (same k.file k.number)) }

  -- or of more, if none of those has another
  pub wider : (touched wide : ℕ → ℕ → Bool) (xs : List KeyChange) → ((file number : ℕ) → touched file number ≡ true → wide file number ≡ true) → ((file number : ℕ) → wide file number ≡ true → touched file number ≡ false → is file number ≡ was file number) → AreChanges touched was is xs → AreChanges wide was is xs
  wider touched wide xs more same are = record {
    come = λ k. grind (arith, nat_tests, are.come k, more k.file k.number, same k.file k.number);
    go = λ k. grind (arith, nat_tests, are.go k, more k.file k.number, same k.file k.number);
  }

-- ---- the queue

-- from the one world to the other the moments change of versions that are touched alone
pub record Move (w v : World) (touched : ℕ → ℕ → Bool) (was is : ℕ → ℕ → Option ℕ) : Type 0 where
  pub had : (file number : ℕ) → touched file number ≡ true → ripe_at w file number ≡ was file number
  pub has : (file number : ℕ) → touched file number ≡ true → ripe_at v file number ≡ is file number
  pub others : (file number : ℕ) → touched file number ≡ false → ripe_at v file number ≡ ripe_at w file number

module _ (w v : World) (touched : ℕ → ℕ → Bool) (was is : ℕ → ℕ → Option ℕ) (move : Move w v touched was is) (changes : List KeyChange) (are : AreChanges touched was is changes) (queue : List Key) (queued : IsQueued w queue) where
  come : (k : Key) → comes changes k ≡ is_alone (ripe_at v) (ripe_at w) k
  come k = grind (arith, nat_tests, are.come k, move.had k.file k.number, move.has k.file k.number, move.others k.file k.number)

  go : (k : Key) → goes changes k ≡ is_alone (ripe_at w) (ripe_at v) k
  go k = grind (arith, nat_tests, are.go k, move.had k.file k.number, move.has k.file k.number, move.others k.file k.number)

  -- after the additions and the removals of keys the queue is up to date
  pub moved_queue : (between after : List Key) → ((k : Key) → has_key k between ≡ (comes changes k || has_key k queue)) → ((k : Key) → has_key k after ≡ (not (goes changes k) && has_key k between)) → IsQueued v after
  moved_queue between after came went k = grind (arith, nat_tests, came k, went k, come k, go k, queued k)

  -- and if they are refused, it is as it was
  pub refused_queue : (after : List Key) → ((k : Key) → has_key k after ≡ (not (comes changes k) && has_key k queue)) → IsQueued w after
  refused_queue after back k = grind (arith, nat_tests, back k, come k, queued k)

  -- so it is if they were added and removed again
  pub returned_queue : (between after : List Key) → ((k : Key) → has_key k between ≡ (comes changes k || has_key k queue)) → ((k : Key) → has_key k after ≡ (not (comes changes k) && has_key k between)) → IsQueued w after
  returned_queue between after came back k = grind (arith, nat_tests, came k, back k, come k, queued k)
