use Rattle.ele_names.proofs.Lemmas.{◌≡◌, ℕ, ◌<◌, List, length, length_append, ◌∷◌, [], refl, sym, ap, subst, ◌∙◌, ◌++◌, arith, keys_of, LiveNames, live_at, names_of, place_in, names_pushed, names_known, names_counted, same_live, same_entries, popped, places_stay, listed_pushed, listed_kept, listed_told, counted_same, numbered_same, keeps_pushed, pushed_place, missing, insert_entry-new, name_eq, place_within, Keeps, Gains, None}
use Rattle.ele_names.proofs.live_names.LiveNames.number_or_next.Goals as goal

-- ---- a name that was given

module _ (c : goal.Then-number-next) where
  abbrev was : LiveNames
  was = c.args.self.now

  abbrev now : LiveNames
  now = record { by_name = c.insert_full.new.self; in_directory = c.args.self.now.in_directory }

  inside : place_in (names_of was) c.args.directory c.args.name < length (names_of was)
  inside = omega (arith, c.in_ok-number.ensures.index, c.len-next.ensures.len, names_counted was, c.if-number-next.true)

  stay : names_of now ≡ names_of was
  stay = names_known was now c.args.directory c.args.name inside c.in_ok-number.ensures.entries

  live : (d : ℕ) (n : List ℕ) → live_at now d n ≡ live_at was d n
  live = same_live was now c.args.directory c.args.name c.requires c.in_ok-number.ensures.updates.0

pub returns-then-number-next-clause-number : goal.returns-then-number-next-clause-number
returns-then-number-next-clause-number c = rw (stay c) (c.in_ok-number.ensures.index, omega (arith, c.in_ok-number.ensures.index, inside c))

pub returns-then-number-next-clause-places : goal.returns-then-number-next-clause-places
returns-then-number-next-clause-places c = places_stay _ _ (stay c)

pub returns-then-number-next-clause-listed : goal.returns-then-number-next-clause-listed
returns-then-number-next-clause-listed c = listed_told (was c) (now c) (stay c) (λ g. refl) refl

pub returns-then-number-next-clause-counted : goal.returns-then-number-next-clause-counted
returns-then-number-next-clause-counted c = λ rows. counted_same rows (was c) (now c) (live c) (λ d. refl)

pub returns-then-number-next-clause-numbered : goal.returns-then-number-next-clause-numbered
returns-then-number-next-clause-numbered c = λ at. numbered_same at at (was c) (now c) (λ s. refl) (live c)

-- ---- a new name, which is added after the others and removed again if memory for its directory is refused

module _ (c : goal.After-pop) where
  abbrev first : LiveNames
  first = c.args.self.now

  abbrev back : LiveNames
  back = record { by_name = c.pop.new.self; in_directory = c.enter.new.self }

  unknown : place_in (names_of first) c.args.directory c.args.name ≡ length (names_of first)
  unknown = omega (arith, c.in_ok-number.ensures.index, c.len-next.ensures.len, names_counted first, c.if-number-next.false, place_within (names_of first) c.args.directory c.args.name)

  entries : c.insert_full.new.self.entries ≡ first.by_name.entries ++ ((c.args.directory, c.args.name), None) ∷ []
  entries = c.in_ok-number.ensures.entries ∙ insert_entry-new name_eq first.by_name (c.args.directory, c.args.name) None (missing first.by_name c.args.directory c.args.name unknown)

  same : c.pop.new.self.entries ≡ first.by_name.entries
  same = popped first.by_name.entries c.pop.new.self.entries ((c.args.directory, c.args.name), None) c.pop.result
      (c.pop.ensures.found.1 (rw entries (omega (arith, length_append first.by_name.entries (((c.args.directory, c.args.name), None) ∷ []))))) (sym entries ∙ c.pop.ensures.entries)

  keeps : Keeps (length (names_of first)) first.in_directory c.enter.new.self
  keeps = rw (c.len-next.ensures.len ∙ names_counted first) at c.in-Err.ensures.err

pub returns-in-Err-clause-places : goal.returns-in-Err-clause-places
returns-in-Err-clause-places c = places_stay _ _ (ap keys_of (same c))

pub returns-in-Err-clause-listed : goal.returns-in-Err-clause-listed
returns-in-Err-clause-listed c = listed_kept (first c) (back c) (ap keys_of (same c)) (keeps c)

pub returns-in-Err-clause-counted : goal.returns-in-Err-clause-counted
returns-in-Err-clause-counted c = λ rows. counted_same rows (first c) (back c) (same_entries (first c) (back c) (same c)) (keeps c).live

pub returns-in-Err-clause-numbered : goal.returns-in-Err-clause-numbered
returns-in-Err-clause-numbered c = λ at. numbered_same at at (first c) (back c) (λ s. refl) (same_entries (first c) (back c) (same c))

-- ---- or stays

module _ (c : goal.In_default) where
  abbrev old : LiveNames
  old = c.args.self.now

  abbrev new : LiveNames
  new = record { by_name = c.insert_full.new.self; in_directory = c.enter.new.self }

  end : place_in (names_of old) c.args.directory c.args.name ≡ length (names_of old)
  end = omega (arith, c.in_ok-number.ensures.index, c.len-next.ensures.len, names_counted old, c.if-number-next.false, place_within (names_of old) c.args.directory c.args.name)

  next : c.len-next.result ≡ length (names_of old)
  next = c.len-next.ensures.len ∙ names_counted old

  pushed : names_of new ≡ names_of old ++ (c.args.directory, c.args.name) ∷ []
  pushed = names_pushed old new c.args.directory c.args.name end c.in_ok-number.ensures.entries

  live_names : (d : ℕ) (n : List ℕ) → live_at new d n ≡ live_at old d n
  live_names = same_live old new c.args.directory c.args.name c.requires c.in_ok-number.ensures.updates.0

pub returns-clause-number : goal.returns-clause-number
returns-clause-number c = rw (pushed c) (grind (arith, next c, pushed_place (names_of (old c)) (c.args.directory, c.args.name) (end c), length_append))

pub returns-clause-places : goal.returns-clause-places
returns-clause-places c = rw (pushed c) (keeps_pushed (names_of (old c)) (c.args.directory, c.args.name))

pub returns-clause-listed : goal.returns-clause-listed
returns-clause-listed c =
    let gains : Gains c.args.directory c.len-next.result (old c).in_directory (new c).in_directory = subst (λ (d : ℕ). Gains d c.len-next.result (old c).in_directory (new c).in_directory) c.directory.view_is c.in_default.ensures.ok in
    listed_pushed (old c) (new c) c.args.directory c.args.name (end c) (rw (next c) at c.len-next.ensures.small) (pushed c) (subst (λ n. Gains c.args.directory n (old c).in_directory (new c).in_directory) (next c) gains)

pub returns-clause-counted : goal.returns-clause-counted
returns-clause-counted c = λ rows. counted_same rows (old c) (new c) (live_names c) (rw (next c) at c.in_default.ensures.ok).live

pub returns-clause-numbered : goal.returns-clause-numbered
returns-clause-numbered c = λ at. numbered_same at at (old c) (new c) (λ s. refl) (live_names c)
