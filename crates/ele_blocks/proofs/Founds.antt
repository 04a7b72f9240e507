-- The blocks of a file's places, one after another.
use Rattle.ele_blocks.proofs.Lemmas.{[], ap, arith, Cell, cond, eqb, get_or, inl, inr, IsIn, length, length-take-le, List, Named, names_from, nat_tests, None, Option, refl, slice_get, Slot, Some, sym, take, take_more, ℕ, ⊎_elim, ◌&&◌, ◌++◌, ◌+◌, ◌<◌, ◌∙◌, ◌∷◌, ◌≡◌, ◌⊎◌}
use Rattle.ele_blocks.proofs.OneToOnes.{in_back, in_either, in_front, name_of}
use Rattle.ele_blocks.proofs.Words.{option_map, slice_get-get_or, slice_get_within}
use Rattle.ele_blocks.specs.Placed.{Finds, block_in, slot_with, slots_with}
use Rattle.ele_blocks.specs.declared.placed.PlacedBlocks.{PlacedBlocks}

-- ---- one new slot more

with_more : (p : PlacedBlocks) (first : ℕ) (cells : List Cell) (x : Cell) → slots_with p first (cells ++ x ∷ []) ≡ slots_with p first cells ++ slot_with (block_in p (first + length cells) x.writer) x ∷ []
with_more p first [] x = let here : first + 0 ≡ first = omega arith in rw here refl
with_more p first (y ∷ ys) x = let there : first + length (y ∷ ys) ≡ first + 1 + length ys = omega arith in rw there (ap (λ rest. slot_with (block_in p first y.writer) y ∷ rest) (with_more p (first + 1) ys x))

pub with_next : (p : PlacedBlocks) (cells : List Cell) (k : ℕ) (x : Cell) → k < length cells → x ≡ get_or cells k x → slots_with p 0 (take (k + 1) cells) ≡ slots_with p 0 (take k cells) ++ slot_with (block_in p k x.writer) x ∷ []
with_next p cells k x lt is =
    let place : 0 + length (take k cells) ≡ k = omega (arith, length-take-le k cells (omega (arith, lt))) in
    let more = with_more p 0 (take k cells) x in
    ap (slots_with p 0) (take_more cells k x lt ∙ ap (λ (y : Cell). take k cells ++ y ∷ []) (sym is)) ∙ rw place at more

-- ---- one name more

names_push : (file first : ℕ) (xs : List Slot) (x : Slot) → names_from file first (xs ++ x ∷ []) ≡ names_from file first xs ++ name_of file (first + length xs) x ∷ []
names_push file first [] x = let here : first + 0 ≡ first = omega arith in rw here refl
names_push file first (y ∷ ys) x = let there : first + length (y ∷ ys) ≡ first + 1 + length ys = omega arith in rw there (ap (λ rest. name_of file first y ∷ rest) (names_push file (first + 1) ys x))

abbrev pub pair_of : Slot → ℕ × ℕ
pair_of cell = (cell.writer, cell.block)

pub slot_got : (o : Option Slot) (c : ℕ × ℕ) → Some c ≡ option_map pair_of o → o ≡ Some (record { writer = c.0; block = c.1 })
slot_got None c e = absurd cc
slot_got (Some z) c e = let same : c ≡ pair_of z = cc in rw same refl

pub no_pair : (slots : List Slot) (k : ℕ) → k < length slots → option_map pair_of (slice_get slots k) ≡ None → ⊥
no_pair slots k lt e =
    let d : Slot = record { writer = 0; block = 0 } in
    let none : Some (pair_of (get_or slots k d)) ≡ None = sym (ap (option_map pair_of) (slice_get-get_or slots k d lt)) ∙ e in
    absurd cc

module _ (file k : ℕ) (slots : List Slot) (w b : ℕ) (got : slice_get slots k ≡ Some (record { writer = w; block = b })) (names : List Named) where
  abbrev x : Slot
  x = record { writer = w; block = b }

  abbrev old : List Named
  old = names_from file 0 (take k slots)

  within : k < length slots
  within = slice_get_within slots k x got

  next : names_from file 0 (take (k + 1) slots) ≡ old ++ name_of file k x ∷ []
  next =
      let place : 0 + length (take k slots) ≡ k = omega (arith, length-take-le k slots (omega (arith, within))) in
      let is : get_or slots k x ≡ x = grind (arith, got, within, slice_get-get_or slots k x) in
      let more = names_push file 0 (take k slots) x in
      ap (names_from file 0) (take_more slots k x within ∙ ap (λ (y : Slot). take k slots ++ y ∷ []) is) ∙ rw place at more

  into : (n : Named) → IsIn n (old ++ names) ⊎ (n ≡ name_of file k x) → IsIn n ((old ++ name_of file k x ∷ []) ++ names)
  into n (inl i) = ⊎_elim (λ (a : IsIn n old). in_front n (old ++ name_of file k x ∷ []) names (in_front n old (name_of file k x ∷ []) a)) (λ (c : IsIn n names). in_back n (old ++ name_of file k x ∷ []) names c) (in_either n old names i)
  into n (inr e) = in_front n (old ++ name_of file k x ∷ []) names (in_back n old (name_of file k x ∷ []) (inl e))

  outof : (n : Named) → IsIn n ((old ++ name_of file k x ∷ []) ++ names) → IsIn n (old ++ names) ⊎ (n ≡ name_of file k x)
  outof n i =
      ⊎_elim (λ (a : IsIn n (old ++ name_of file k x ∷ [])). ⊎_elim (λ (c : IsIn n old). inl (in_front n old names c)) (λ (c : IsIn n (name_of file k x ∷ [])). ⊎_elim (λ (e : n ≡ name_of file k x). inr e) (λ (z : ⊥). absurd z) c) (in_either n old (name_of file k x ∷ []) a))
      (λ (c : IsIn n names). inl (in_back n old names c))
      (in_either n (old ++ name_of file k x ∷ []) names i)

  pub find_more : (p q : PlacedBlocks) → ((other by : ℕ) → block_in q other by ≡ cond (eqb k other && eqb w by) (Some b) (block_in p other by)) → Finds p file (old ++ names) → Finds q file (names_from file 0 (take (k + 1) slots) ++ names)
  find_more p q step h = rw next (record {
    named = λ other by block e. into _ (grind (arith, nat_tests, step other by, e, h.named other by block));
    none = λ other by e n i. grind (arith, nat_tests, step other by, e, h.none other by, outof n i);
  })
