-- A change by a new writer leaves slots and blocks one to one.
use Rattle.ele_blocks.proofs.Lemmas.{◌-◌, [], AreOneToOne, arith, backed_there, Bool, false, false≢true, ids_of, inr, IsIn, Layout, List, LivesIn, Moves, Named, names_from, names_of, nat_tests, None, Option, owners_at, refl, Renews, slice_get, slice_get_within, Slot, slots_of, Some, Store, suc, times, true, ℕ, ⊎_elim, ◌++◌, ◌+◌, ◌<◌, ◌∷◌, ◌≡◌, ◌⊎◌}

-- no name is of this writer of the file
abbrev pub NoneBy : ℕ → ℕ → List Named → Type 0
NoneBy file writer ns = (n : Named) → IsIn n ns → n.place.file ≡ file → n.place.writer ≡ writer → ⊥

abbrev pub name_of : ℕ → ℕ → Slot → Named
name_of file slot x = record { place = record { file = file; slot = slot; writer = x.writer }; block = x.block }

pub in_either : (n : Named) (xs ys : List Named) → IsIn n (xs ++ ys) → IsIn n xs ⊎ IsIn n ys
in_either n [] ys i = inr i
in_either n (x ∷ xs) ys i = grind (arith, in_either n xs ys)

pub in_front : (n : Named) (xs ys : List Named) → IsIn n xs → IsIn n (xs ++ ys)
in_front n [] ys i = absurd i
in_front n (x ∷ xs) ys i = grind (arith, in_front n xs ys)

pub in_back : (n : Named) (xs ys : List Named) → IsIn n ys → IsIn n (xs ++ ys)
in_back n [] ys i = i
in_back n (x ∷ xs) ys i = inr (in_back n xs ys i)

-- the slot of a map's name
pub record IsSlot (n : Named) (file first : ℕ) (slots : List Slot) : Type 0 where
  pub place : ℕ
  pub cell : Slot
  pub got : slice_get slots place ≡ Some cell
  pub is : n ≡ name_of file (first + place) cell

pub slot_from : (n : Named) (file first : ℕ) (slots : List Slot) → IsIn n (names_from file first slots) → IsSlot n file first slots
slot_from n file first [] i = absurd i
slot_from n file first (x ∷ xs) i = ⊎_elim (λ (e : n ≡ name_of file first x). record { place = 0; cell = x; got = refl; is = grind (arith) })
    (λ (j : IsIn n (names_from file (first + 1) xs)). let h = slot_from n file (first + 1) xs j in record { place = suc h.place; cell = h.cell; got = h.got; is = grind (arith, h.is) }) i

slot_in : (file first k : ℕ) (slots : List Slot) (x : Slot) → slice_get slots k ≡ Some x → IsIn (name_of file (first + k) x) (names_from file first slots)
slot_in file first k [] x e = absurd (let none : Option Slot = None in cc)
slot_in file first k (y ∷ ys) x e = grind (arith, nat_tests, slot_in file (first + 1) (k - 1) ys x)

times_got : (k : ℕ) (slots : List Slot) (x : Slot) → slice_get slots k ≡ Some x → 0 < times x.block (ids_of slots)
times_got k [] x e = absurd cc
times_got k (y ∷ ys) x e = grind (arith, nat_tests, times_got (k - 1) ys x)

-- the same block in two places is named twice
pub times_two : (j k : ℕ) (slots : List Slot) (x y : Slot) → j < k → slice_get slots j ≡ Some x → slice_get slots k ≡ Some y → x.block ≡ y.block → 1 < times x.block (ids_of slots)
times_two j k [] x y lt e h b = absurd cc
times_two j k (z ∷ zs) x y lt e h b = grind (arith, nat_tests, times_got, times_two (j - 1) (k - 1) zs x y)

-- each block of a map that lives is owned
pub slot_owned : (s : Store) (m : Layout) → LivesIn s m → (k : ℕ) (x : Slot) → slice_get (slots_of s m) k ≡ Some x → 0 < owners_at s x.block
slot_owned s m lives k x e = backed_there s m.leaves lives.backed x.block (times_got k (slots_of s m) x e)

module _ (s t : Store) (w file : ℕ) (p : ℕ → Bool) (was now : Layout) (rest : List Named) (lives : LivesIn s was) (moves : Moves s t (was ∷ []) (now ∷ [])) (renews : Renews s t w p was now) (none : NoneBy file w rest) (owned : (n : Named) → IsIn n rest → 0 < owners_at s n.block) (one : AreOneToOne (names_of s file was ++ rest)) where
  -- a name after the change is fresh, or it was there before and is in no renewed slot by the writer
  record IsFresh (n : Named) : Type 0 where
    pub place : ℕ
    pub cell : Slot
    pub got : slice_get (slots_of t now) place ≡ Some cell
    pub is : n ≡ name_of file place cell
    pub renewed : p place ≡ true
    pub writer : cell.writer ≡ w
    pub free : owners_at s cell.block ≡ 0

  record IsOld (n : Named) : Type 0 where
    pub before : IsIn n (names_of s file was ++ rest)
    pub stays : n.place.file ≡ file → n.place.writer ≡ w → p n.place.slot ≡ false
    pub held : 0 < owners_at s n.block

  of_slot : (n : Named) → IsSlot n file 0 (slots_of t now) → IsFresh n ⊎ IsOld n
  of_slot n h = grind (arith, nat_tests, slot_in, slice_get_within, in_front, slot_from, slot_owned)

  of_name : (n : Named) → IsIn n (names_of t file now ++ rest) → IsFresh n ⊎ IsOld n
  of_name n i = grind (arith, of_slot n, slot_from, in_back, none n, owned n, in_either n (names_of t file now) rest i)

  pub stays_one_to_one : AreOneToOne (names_of t file now ++ rest)
  stays_one_to_one m n i j = grind (arith, nat_tests, times_two, false≢true, of_name)
