-- A name more, which is live nowhere.
use Rattle.ele_names.proofs.Words.{same_from_push, false≢true, lookup, option_and_then, option_to_list, KeepsPlaces, keys-insert_entry-present, ◌≡◌, ℕ, ◌<◌, ◌^◌, Bool, IsSome, false, cond, List, [], ◌∷◌, ◌++◌, length, slice_get, Option, Some, None, refl, sym, ap, ◌∙◌, arith, length_append, option_map_or, nat_cmp, is_at, get, keys_of, length-map, map-append, get_or_append_left, get_or_push, slice_get_past, slice_got, nat_tests, insert_entry-new, Target, Live, LiveNames, live_at, AreListed, name_eq, names_of, place_in, nat_eq, Gains, Keeps, newest_in}
use Rattle.indexmap.specs.IndexMap.{insert_entry}
use Rattle.ele_names.proofs.Chained.{chained_entered, chained_kept, chained_none, chained_same, chained_told, newest_known}
use Rattle.ele_names.proofs.Numbers.{at_place, exact, missing, present}

-- a name of the directory
abbrev stands_in : ℕ → ℕ × List ℕ → Bool
stands_in d name = nat_eq name.0 d

-- the element after a list
got_pushed : {X : Type 0} (xs : List X) (x : X) (s : ℕ) → slice_get (xs ++ x ∷ []) s ≡ cond (is_at (nat_cmp (length xs)) s) (Some x) (slice_get xs s)
got_pushed xs x s = grind (arith, nat_tests, slice_got (xs ++ x ∷ []) s x, length_append xs (x ∷ []), get_or_push xs x x s, get_or_append_left xs (x ∷ []) x s, slice_got xs s x, slice_get_past (xs ++ x ∷ []) s, slice_get_past xs s)

module _ (old new : LiveNames) (d : ℕ) (n : List ℕ) (unknown : place_in (names_of old) d n ≡ length (names_of old)) where
  pub names_pushed : new.by_name.entries ≡ insert_entry name_eq old.by_name.entries (d, n) None → names_of new ≡ names_of old ++ (d, n) ∷ []
  names_pushed inserted =
      ap keys_of (inserted ∙ insert_entry-new name_eq old.by_name (d, n) None (missing old.by_name d n unknown))
      ∙ map-append (λ (e : (ℕ × List ℕ) × Option (Live Target)). e.0) old.by_name.entries (((d, n), None) ∷ [])

  -- and the name is the newest of its directory
  pub listed_pushed : length (names_of old) < 2 ^ 63 → names_of new ≡ names_of old ++ (d, n) ∷ [] → Gains d (length (names_of old)) old.in_directory new.in_directory → AreListed old → AreListed new
  listed_pushed few are gains was = record {
    few = rw (are, length_append (names_of old) ((d, n) ∷ [])) (omega (arith, few));
    each = chained_same stands_in (λ s. cond (is_at (nat_cmp (length (names_of old))) s) (Some (d, n)) (slice_get (names_of old) s)) (slice_get (names_of new)) new.in_directory
        (λ g s. ap (λ o. option_map_or (stands_in g) o false) (ap (λ names. slice_get names s) are ∙ got_pushed (names_of old) (d, n) s))
        (chained_entered stands_in (slice_get (names_of old)) (length (names_of old)) (λ s le. slice_get_past (names_of old) s le) (d, n) d (λ g. refl) old.in_directory new.in_directory (omega (arith, few)) gains was.each);
  }

module _ (old new : LiveNames) (d : ℕ) (n : List ℕ) where
  -- a name that was given is given again, and the names stay
  pub names_known : place_in (names_of old) d n < length (names_of old) → new.by_name.entries ≡ insert_entry name_eq old.by_name.entries (d, n) None → names_of new ≡ names_of old
  names_known inside inserted = ap keys_of inserted ∙ keys-insert_entry-present name_eq old.by_name (d, n) None (present old.by_name d n inside)

  -- one that is live nowhere leaves all live as they were
  pub same_live : live_at old d n ≡ None → ((k : ℕ × List ℕ) → get name_eq new.by_name k ≡ cond (name_eq (d, n) k) (Some None) (get name_eq old.by_name k)) → (e : ℕ) (m : List ℕ) → live_at new e m ≡ live_at old e m
  same_live dead updated e m = grind (arith, nat_tests, updated (e, m), exact (d, n) (e, m), dead)

-- a name after the others is removed again
pub popped : {X : Type 0} (xs ys : List X) (x : X) (o : Option X) → IsSome o → xs ++ x ∷ [] ≡ ys ++ option_to_list o → ys ≡ xs
popped xs ys x (Some y) some is = (same_from_push ys xs y x (sym is)).0
popped xs ys x None some is = absurd (false≢true some)

pub same_entries : (old new : LiveNames) → new.by_name.entries ≡ old.by_name.entries → (e : ℕ) (m : List ℕ) → live_at new e m ≡ live_at old e m
same_entries old new are e m = ap (λ (es : List ((ℕ × List ℕ) × Option (Live Target))). option_and_then (λ live. live) (lookup (name_eq (e, m)) es)) are

pub places_stay : (old new : List (ℕ × List ℕ)) → new ≡ old → KeepsPlaces old new
places_stay old new are = rw are (record { each = λ d n inside. (refl, inside) })

-- how many names there are
pub names_counted : (live_names : LiveNames) → length live_names.by_name.entries ≡ length (names_of live_names)
names_counted live_names = sym (length-map live_names.by_name.entries (λ (e : (ℕ × List ℕ) × Option (Live Target)). e.0))

-- what has the same names, and chains that keep theirs, is listed as it was
pub listed_kept : (old new : LiveNames) → names_of new ≡ names_of old → Keeps (length (names_of old)) old.in_directory new.in_directory → AreListed old → AreListed new
listed_kept old new are keeps was = grind (arith, nat_tests, chained_kept, stands_in, slice_get, names_of, slice_get_past)

pub listed_told : (old new : LiveNames) → names_of new ≡ names_of old → ((g : ℕ) → newest_in new.in_directory g ≡ newest_in old.in_directory g) → new.in_directory.older ≡ old.in_directory.older → AreListed old → AreListed new
listed_told old new are newest older was = grind (arith, nat_tests, chained_told, stands_in, slice_get, names_of)

-- no names
pub listed_none : (new : LiveNames) → new.by_name.entries ≡ [] → ((d : ℕ) → newest_in new.in_directory d ≡ None) → AreListed new
listed_none new none empty = record { few = rw none (omega arith); each = rw none (chained_none stands_in new.in_directory empty) }

-- the directory of a name that was given has one
pub has_names : (live_names : LiveNames) (d : ℕ) (n : List ℕ) → place_in (names_of live_names) d n < length (names_of live_names) → AreListed live_names → IsSome (newest_in live_names.in_directory d)
has_names live_names d n known listed = newest_known stands_in (slice_get (names_of live_names)) (d, n) (place_in (names_of live_names) d n) (at_place (names_of live_names) d n known) d (grind (arith, nat_tests)) live_names.in_directory (omega (arith, known, listed.few)) listed.each
