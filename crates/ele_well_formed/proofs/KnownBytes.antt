-- The bytes that are known at places, one content after another.
use Rattle.ele_well_formed.proofs.Words.{AllByRecursion, AllLater, Bool, Cell, IsMisplaced, List, None, Option, Some, [], all-weaker, arith, cond, false, inl, inr, length, nat_tests, refl, slice_get, slice_get_within, sym, take, true, ℕ, ◌+◌, ◌∷◌, ◌<◌, ◌≡◌, ◌≤◌, ◌⊎◌, zero, suc}
use Rattle.std.proofs.lemmas.Bool.{cases_lt}
use Rattle.ele_lists.proofs.Taken.{all-one_more}
use Rattle.ele_well_formed.specs.Known.{Bytes, Differs, DiffersAt, Puts, PutsCell, known_at, place_cmp}
use Rattle.ele_well_formed.specs.Sharing.{AreShared, Content, HasBytes, contents}
use Rattle.std.specs.Bool.{OnFalse}
use Rattle.std.proofs.lemmas.List.{length-append, length-map}
use Rattle.std.proofs.lemmas.Option.{slice_get-get_or}
use Rattle.ele_well_formed.proofs.Words.{World}
use Rattle.ele_content.specs.Place.{Place, is_place}
use Rattle.std.specs.BTreeMap.{get, is_at}
use Rattle.std.specs.Borrow.{Bor}

-- the first so many, with the next
module _ {X : Type 0} where
  later-one_more : (R : X → X → Type 0) (xs : List X) (at : ℕ) (x : X) → slice_get xs at ≡ Some x → AllLater R (take at xs) → AllByRecursion (λ z. R z x) (take at xs) → AllLater R (take (suc at) xs)
  later-one_more R [] at x is later all = absurd cc
  later-one_more R (y ∷ ys) zero x is later all = (tt, tt)
  later-one_more R (y ∷ ys) (suc at) x is later all = (all-one_more (R y) ys at later.0 (rw is all.0), later-one_more R ys at x is later.1 all.1)

  taken-slice_get : (xs : List X) (at k : ℕ) (x : X) → slice_get (take at xs) k ≡ Some x → (k < at) × (slice_get xs k ≡ Some x)
  taken-slice_get [] zero k x is = absurd cc
  taken-slice_get [] (suc at) k x is = absurd cc
  taken-slice_get (y ∷ ys) zero k x is = absurd cc
  taken-slice_get (y ∷ ys) (suc at) zero x is = (omega arith, is)
  taken-slice_get (y ∷ ys) (suc at) (suc k) x is = let rest = taken-slice_get ys at k x is in (omega (arith, rest.0), rest.1)

  one_more-slice_get : (xs : List X) (at k : ℕ) (x : X) → slice_get (take at xs) k ≡ Some x → slice_get (take (suc at) xs) k ≡ Some x
  one_more-slice_get [] zero k x is = absurd cc
  one_more-slice_get [] (suc at) k x is = absurd cc
  one_more-slice_get (y ∷ ys) zero k x is = absurd cc
  one_more-slice_get (y ∷ ys) (suc at) zero x is = is
  one_more-slice_get (y ∷ ys) (suc at) (suc k) x is = one_more-slice_get ys at k x is

  last-slice_get : (xs : List X) (at : ℕ) (x : X) → slice_get xs at ≡ Some x → slice_get (take (suc at) xs) at ≡ Some x
  last-slice_get [] at x is = absurd cc
  last-slice_get (y ∷ ys) zero x is = is
  last-slice_get (y ∷ ys) (suc at) x is = last-slice_get ys at x is

-- some of the contents has the bytes at the place
pub record IsHeld (contents : List Content) (place : Place) (bytes : List ℕ) : Type 0 where
  pub at : ℕ
  pub content : Content
  pub found : slice_get contents at ≡ Some content
  pub has : HasBytes place bytes content

-- the bytes of all contents are known
abbrev pub IsKnown : Bytes → Content → Type 0
IsKnown known content = (place : Place) (bytes : List ℕ) → HasBytes place bytes content → known_at known place ≡ Some bytes

-- and no others
pub record AreKnown (contents : List Content) (known : Bytes) : Type 0 where
  pub each : AllByRecursion (IsKnown known) contents
  pub only : (place : Place) (bytes : List ℕ) → known_at known place ≡ Some bytes → IsHeld contents place bytes

same_bytes : (o : Option (List ℕ)) (a b : List ℕ) → o ≡ Some a → o ≡ Some b → a ≡ b
same_bytes o a b h k = cc

module _ (xs : List Content) (at : ℕ) (x : Content) (is : slice_get xs at ≡ Some x) (old : Bytes) (known : AreKnown (take at xs) old) where
  pub known_more : (new : Bytes) → Puts old new x → AreKnown (take (at + 1) xs) new
  known_more new puts =
      let each = all-one_more (IsKnown new) xs at (all-weaker (IsKnown old) (IsKnown new) (take at xs) (λ z h place bytes has. puts.kept place bytes (h place bytes has)) known.each) (rw is puts.put) in
      rw add_one (record {
        each = each;
        only = λ place bytes there. elim (puts.only place bytes there) as (λ _. IsHeld (take (suc at) xs) place bytes) [
          | inl before ↦ let held = known.only place bytes before in record { at = held.at; content = held.content; found = one_more-slice_get xs at held.at held.content held.found; has = held.has }
          | inr here ↦ record { at = at; content = x; found = last-slice_get xs at x is; has = here }
        ];
      }) where
        add_one : at + 1 ≡ suc at
        add_one = omega arith

  pub shared_more : (new : Bytes) → Puts old new x → AllLater AreShared (take at xs) → AllLater AreShared (take (at + 1) xs)
  shared_more new puts later = rw add_one (later-one_more AreShared xs at x is later (all-weaker (IsKnown old) (λ z. AreShared z x) (take at xs) (λ z h place bytes other a b. same_bytes (known_at new place) bytes other (puts.kept place bytes (h place bytes a)) (puts.put place other b)) known.each)) where
    add_one : at + 1 ≡ suc at
    add_one = omega arith

  pub differs : Differs old x → IsMisplaced AreShared xs at
  differs d =
      let held = known.only d.place d.bytes d.there in
      let found = taken-slice_get xs at held.at held.content held.found in
      record { place = held.at; before = found.0; earlier = held.content; row = x; found = found.1; there = is; wrong = λ shared. d.differ (shared d.place d.bytes d.other held.has d.has) }

-- a key is at a place if the place is that
place_test : (file slot writer : ℕ) (place : Place) → is_at (place_cmp (file, slot, writer)) (place.file, place.slot, place.writer) ≡ is_place (record { file = file; slot = slot; writer = writer }) place
place_test file slot writer place = grind (arith, nat_tests)

same_place : (file slot writer : ℕ) (place : Place) → is_place (record { file = file; slot = slot; writer = writer }) place ≡ true → (place.file ≡ file) × (place.slot ≡ slot) × (place.writer ≡ writer)
same_place file slot writer place h = grind (arith, nat_tests)

none_some : (o : Option (List ℕ)) (a : List ℕ) → o ≡ None → o ≡ Some a → ⊥
none_some o a none some = absurd (cc)

-- ---- the cells of one content, one after another

-- what is known once the first so many cells were added
pub record PutsSome (old new : Bytes) (file : ℕ) (cells : List Cell) (slot : ℕ) : Type 0 where
  pub kept : (place : Place) (bytes : List ℕ) → known_at old place ≡ Some bytes → known_at new place ≡ Some bytes
  pub put : (place : Place) (bytes : List ℕ) → place.slot < slot → HasBytes place bytes (record { file = file; cells = cells }) → known_at new place ≡ Some bytes
  pub only : (place : Place) (bytes : List ℕ) → known_at new place ≡ Some bytes → (known_at old place ≡ Some bytes) ⊎ ((place.slot < slot) × HasBytes place bytes (record { file = file; cells = cells }))

pub puts_all : (old new : Bytes) (file : ℕ) (cells : List Cell) (slot : ℕ) → length cells ≤ slot → PutsSome old new file cells slot → Puts old new (record { file = file; cells = cells })
puts_all old new file cells slot past puts = record {
  kept = puts.kept;
  put = λ place bytes has. puts.put place bytes (omega (arith, past, slice_get_within cells place.slot _ has.there)) has;
  only = λ place bytes there. elim (puts.only place bytes there) as (λ _. (known_at old place ≡ Some bytes) ⊎ HasBytes place bytes (record { file = file; cells = cells })) [ inl before ↦ inl before | inr here ↦ inr here.1 ];
}

-- one more cell
abbrev pub place_of : ℕ → ℕ → Cell → Place
place_of file slot cell = record { file = file; slot = slot; writer = cell.writer }

-- a place with the bytes that a cell has
same_cell : (c d : Option Cell) (a b : Cell) → c ≡ d → c ≡ Some a → d ≡ Some b → a ≡ b
same_cell c d a b same is other = cc

module _ (file : ℕ) (cells : List Cell) (slot : ℕ) (cell : Cell) (is : slice_get cells slot ≡ Some cell) where
  abbrev content : Content
  content = record { file = file; cells = cells }

  -- the bytes at the slot's places are the cell's
  here_is : (place : Place) (bytes : List ℕ) → place.slot ≡ slot → HasBytes place bytes content → (place.file ≡ file) × (place.writer ≡ cell.writer) × (bytes ≡ cell.bytes)
  here_is place bytes at has =
      let same : cell ≡ record { writer = place.writer; bytes = bytes } = same_cell (slice_get cells slot) (slice_get cells place.slot) cell (record { writer = place.writer; bytes = bytes }) (rw at refl) is has.there in
      (sym has.of_file, cc, cc)

  here_has : HasBytes (place_of file slot cell) cell.bytes content
  here_has = record { of_file = refl; there = is }

  module _ (old now : Bytes) (puts : PutsSome old now file cells slot) where
    -- what is known with the next cell too
    pub puts_more : (new : Bytes) → PutsCell now new (place_of file slot cell) cell.bytes → PutsSome old new file cells (slot + 1)
    puts_more new cell_puts = record { kept = λ place b h. keeps place b (puts.kept place b h); put = put; only = only } where
      keeps : (place : Place) (b : List ℕ) → known_at now place ≡ Some b → known_at new place ≡ Some b
      keeps place b known = elim (is_place (place_of file slot cell) place) as (λ t. is_place (place_of file slot cell) place ≡ t → known_at new place ≡ Some b) [
        | true ↦ λ e.
            let here = same_place file slot cell.writer place e in
            let same = cell_puts.same b (rw (here.0, here.1, here.2) at known) in
            rw (cell_puts.at_each place, e, same) refl
        | false ↦ λ e. rw (cell_puts.at_each place, e) known
      ] refl

      put : (place : Place) (b : List ℕ) → place.slot < slot + 1 → HasBytes place b content → known_at new place ≡ Some b
      put place b lt has = elim (cases_lt place.slot slot) as (λ _. known_at new place ≡ Some b) [
        | inl before ↦ keeps place b (puts.put place b before has)
        | inr past ↦
            let h = here_is place b (omega arith) has in
            let at : place.slot ≡ slot = omega arith in
            let test : is_place (place_of file slot cell) place ≡ true = grind (arith, nat_tests, h.0, h.1, at) in
            rw (cell_puts.at_each place, test, h.2) refl
      ]

      only : (place : Place) (b : List ℕ) → known_at new place ≡ Some b → (known_at old place ≡ Some b) ⊎ ((place.slot < slot + 1) × HasBytes place b content)
      only place b known = elim (is_place (place_of file slot cell) place) as (λ t. is_place (place_of file slot cell) place ≡ t → (known_at old place ≡ Some b) ⊎ ((place.slot < slot + 1) × HasBytes place b content)) [
        | true ↦ λ e.
            let here = same_place file slot cell.writer place e in
            let b_is : Some cell.bytes ≡ Some b = rw (cell_puts.at_each place, e) at known in
            let bytes_are : cell.bytes ≡ b = cc in
            let held : slice_get cells place.slot ≡ Some (record { writer = place.writer; bytes = b }) = rw (here.1, here.2, ← bytes_are) is in
            inr (omega (arith, here.1), record { of_file = sym here.0; there = held })
        | false ↦ λ e. let before : known_at now place ≡ Some b = rw (cell_puts.at_each place, e) at known in elim (puts.only place b before) as (λ _. (known_at old place ≡ Some b) ⊎ ((place.slot < slot + 1) × HasBytes place b content)) [
          | inl first ↦ inl first
          | inr some ↦ inr (omega (arith, some.0), some.1)
        ]
      ] refl

    -- or that the cell has other bytes
    pub cell_differs : DiffersAt now (place_of file slot cell) cell.bytes → Differs old content
    cell_differs d = elim (puts.only (place_of file slot cell) d.other d.there) as (λ _. Differs old content) [
      | inl before ↦ record { place = place_of file slot cell; bytes = d.other; other = cell.bytes; there = before; has = here_has; differ = d.differ }
      | inr here ↦ absurd (omega (arith, here.0))
    ]

-- ---- one cell

pub puts_new : (old new : Bytes) (file slot writer : ℕ) (bytes : Bor (List ℕ)) → known_at old (record { file = file; slot = slot; writer = writer }) ≡ None → ((q : ℕ × ℕ × ℕ) → get place_cmp new q ≡ cond (is_at (place_cmp (file, slot, writer)) q) (Some bytes) (get place_cmp old q)) → PutsCell old new (record { file = file; slot = slot; writer = writer }) bytes.now
puts_new old new file slot writer bytes none updates = record { at_each = at_each; same = λ other h. absurd (none_some (known_at old (record { file = file; slot = slot; writer = writer })) other none h) } where
  at_each : (q : Place) → known_at new q ≡ cond (is_place (record { file = file; slot = slot; writer = writer }) q) (Some bytes.now) (known_at old q)
  at_each q = grind (arith, nat_tests, updates (q.file, q.slot, q.writer), place_test file slot writer q)

pub differs_if : (known : Bytes) (place : Place) (bytes other : List ℕ) (r : Bool) → (r ≡ false → other ≡ bytes → ⊥) → known_at known place ≡ Some other → OnFalse r (DiffersAt known place bytes)
differs_if known place bytes other true differ there = tt
differs_if known place bytes other false differ there = record { other = other; there = there; differ = differ refl }

-- each version and each draft has its content
pub content_there : (w : World) (at : ℕ) → at < length w.versions + length w.drafts → slice_get (contents w) at ≡ None → ⊥
content_there w at lt none =
    let within : at < length (contents w) = simp (length-append, length-map) (omega (arith, lt)) in
    let some = slice_get-get_or (contents w) at (record { file = 0; cells = [] }) within in
    absurd (cc)
