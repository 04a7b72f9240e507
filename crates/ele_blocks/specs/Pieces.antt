-- Lists cut into pieces. No public clause cites this module.
use Rattle.std.specs.Prelude.{◌≡◌, ℕ, ◌*◌, ◌-◌, ◌<◌, min, List, [], ◌∷◌, length, drop}
use Rattle.std.specs.Simd.{first_chunks}
use Rattle.ele_content.specs.Content.{slot_count}

-- f gives a piece of c items for each, and 1 to c for the last; they have so many in all
abbrev pub AreSized : {A X : Type 0} → ℕ → (A → List X) → ℕ → List A → Type 0
AreSized c f n [] = n ≡ 0
AreSized c f n (x ∷ xs) = (length (f x) ≡ min n c) × (0 < n) × AreSized c f (n - c) xs

-- the pieces of 512 bytes from the first until before the last
abbrev pub pieces_between : ℕ → ℕ → List ℕ → List (List ℕ)
pieces_between first past xs = first_chunks 512 (past - first) (drop (512 * first) xs)

-- the bytes in pieces of 512; the last may be shorter
unfoldable pub pieces : List ℕ → List (List ℕ)
pieces xs = first_chunks 512 (slot_count (length xs)) xs
