-- A map of new slots leaves slots and blocks one to one.
use Rattle.ele_blocks.proofs.Lemmas.{[], ap, AreOneToOne, arith, eqb, false, false≢true, inl, inr, IsIn, is_place, Layout, List, list_all, ltb, Named, names_of, nat_tests, owners_at, refl, slice_get, Slot, slots_of, Some, Store, suc, sym, true, zero, ℕ, ⊎_elim, ◌++◌, ◌+◌, ◌<◌, ◌∙◌, ◌∷◌, ◌≡◌, ◌⊎◌}
use Rattle.ele_blocks.proofs.OneToOnes.{IsSlot, in_either, name_of, slot_from, times_two}
use Rattle.ele_blocks.specs.Made.{HasBlock, IsBlockFor, IsMade, IsSlotFor}
use Rattle.ele_blocks.specs.Placed.{ArePlaced, IsPlaced}
use Rattle.ele_blocks.specs.declared.new_slot.NewSlot.{NewSlot}
use Rattle.ele_blocks.specs.declared.new_slot.SlotBytes.{SlotBytes}
use Rattle.ele_blocks.specs.declared.new_slot.SlotBytes.TheVariants.{Shared, Fresh}
use Rattle.std.specs.List.{AllByRecursion, AllZip}

-- each writer is below the bound
pub slots_below : (s : Store) (below : ℕ) (news : List NewSlot) (slots : List Slot) → AllZip (IsSlotFor s.blocks) news slots → AllByRecursion (λ n. n.writer < below) news → list_all (λ (slot : Slot). ltb slot.writer below) slots ≡ true
slots_below s below [] [] zip all = refl
slots_below s below [] (y ∷ ys) zip all = absurd zip
slots_below s below (x ∷ xs) [] zip all = absurd zip
slots_below s below (x ∷ xs) (y ∷ ys) zip all = grind (arith, nat_tests, zip.0.0, all.0, slots_below s below xs ys zip.1 all.1)

-- a block that a place has is there
has_placed : (s : Store) (names : List Named) (owned : (n : Named) → IsIn n names → 0 < owners_at s n.block) (file slot writer : ℕ) (bytes : SlotBytes) → IsPlaced names (record { file = file; slot = slot; writer = writer }) bytes → HasBlock s.blocks bytes
has_placed s names owned file slot writer (Shared id) placed = owned _ placed
has_placed s names owned file slot writer (Fresh bytes) placed = tt

pub have_placed : (s : Store) (names : List Named) (owned : (n : Named) → IsIn n names → 0 < owners_at s n.block) (file first : ℕ) (news : List NewSlot) → ArePlaced file first names news → AllByRecursion (λ n. HasBlock s.blocks n.bytes) news
have_placed s names owned file first [] placed = tt
have_placed s names owned file first (x ∷ xs) placed = (has_placed s names owned file first x.writer x.bytes placed.0, have_placed s names owned file (first + 1) xs placed.1)

module _ (s : Store) (names : List Named) (owned : (n : Named) → IsIn n names → 0 < owners_at s n.block) (one : AreOneToOne names) where
  -- no place has the block, and none has its place
  record IsNew (n : Named) : Type 0 where
    pub free : owners_at s n.block ≡ 0
    pub apart : (m : Named) → IsIn m names → is_place n.place m.place ≡ false

  named_so : (file slot : ℕ) (new : NewSlot) (bytes : SlotBytes) (cell : Slot) → cell.writer ≡ new.writer → IsBlockFor s.blocks bytes cell.block → IsPlaced names (record { file = file; slot = slot; writer = new.writer }) bytes → IsIn (name_of file slot cell) names ⊎ IsNew (name_of file slot cell)
  named_so file slot new (Shared id) cell writer is placed = inl (rw (writer, is) placed)
  named_so file slot new (Fresh bytes) cell writer is placed = inr (record { free = is; apart = rw writer placed })

  named_at : (file first k : ℕ) (news : List NewSlot) (slots : List Slot) (cell : Slot) → AllZip (IsSlotFor s.blocks) news slots → ArePlaced file first names news → slice_get slots k ≡ Some cell → IsIn (name_of file (first + k) cell) names ⊎ IsNew (name_of file (first + k) cell)
  named_at file first k [] [] cell zip placed got = absurd (cc)
  named_at file first k [] (y ∷ ys) cell zip placed got = absurd zip
  named_at file first k (x ∷ xs) [] cell zip placed got = absurd zip
  named_at file first zero (x ∷ xs) (y ∷ ys) cell zip placed got = let here : first + 0 ≡ first = omega arith in let same : y ≡ cell = cc in rw (here, sym same) (named_so file first x x.bytes y zip.0.0 zip.0.1 placed.0)
  named_at file first (suc k) (x ∷ xs) (y ∷ ys) cell zip placed got = let there : first + suc k ≡ first + 1 + k = omega arith in rw there (named_at file (first + 1) k xs ys cell zip.1 placed.1 got)

  module _ (t : Store) (file count : ℕ) (news : List NewSlot) (now : Layout) (made : IsMade s t count news now) (placed : ArePlaced file 0 names news) where
    -- a name afterwards is one of the new map's slots, and new, or it was there
    record IsFresh (n : Named) : Type 0 where
      pub place : ℕ
      pub cell : Slot
      pub got : slice_get (slots_of t now) place ≡ Some cell
      pub is : n ≡ name_of file place cell
      pub new : IsNew n

    of_slot : (n : Named) → IsSlot n file 0 (slots_of t now) → IsFresh n ⊎ IsIn n names
    of_slot n h =
        let is : n ≡ name_of file (0 + h.place) h.cell = h.is in
        let here : 0 + h.place ≡ h.place = omega arith in
        let at : n ≡ name_of file h.place h.cell = is ∙ ap (λ k. name_of file k h.cell) here in
        ⊎_elim (λ (old : IsIn (name_of file (0 + h.place) h.cell) names). inr (rw is old))
        (λ (new : IsNew (name_of file (0 + h.place) h.cell)). inl (record { place = h.place; cell = h.cell; got = h.got; is = at; new = rw is new }))
        (named_at file 0 h.place news (slots_of t now) h.cell made.slots placed h.got)

    of_name : (n : Named) → IsIn n (names_of t file now ++ names) → IsFresh n ⊎ IsIn n names
    of_name n i = ⊎_elim (λ (new : IsIn n (names_of t file now)). of_slot n (slot_from n file 0 (slots_of t now) new)) (λ (old : IsIn n names). inr old) (in_either n (names_of t file now) names i)

    both_fresh : (m n : Named) → IsFresh m → IsFresh n → is_place m.place n.place ≡ eqb m.block n.block
    both_fresh m n f g = grind (arith, nat_tests, times_two, made.once m.block, f.new.free, false≢true)

    pub made_one_to_one : AreOneToOne (names_of t file now ++ names)
    made_one_to_one m n i j =
        ⊎_elim (λ (f : IsFresh m). ⊎_elim (λ (g : IsFresh n). both_fresh m n f g) (λ (g : IsIn n names). grind (arith, nat_tests, f.new.free, f.new.apart n g, owned n g)) (of_name n j))
        (λ (f : IsIn m names). ⊎_elim (λ (g : IsFresh n). grind (arith, nat_tests, g.new.free, g.new.apart m f, owned m f)) (λ (g : IsIn n names). one m n f g) (of_name n j))
        (of_name m i)
