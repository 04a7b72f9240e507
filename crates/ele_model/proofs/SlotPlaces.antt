-- Which places the rows have, and how many bytes, one row after another.
use Rattle.ele_model.proofs.Basics.{◌≡◌, ℕ, ◌+◌, ◌-◌, ◌<◌, zero, suc, Bool, true, false, ◌&&◌, ◌||◌, cond, List, [], ◌∷◌, ◌++◌, length, get_or, take, drop, refl, arith, eqb, append_assoc, filter, list_any, flat_map, nat_tests, flat_map-cons, list_any-append, list_any-filter, drop_more, take_all, length-append, length-drop}
use Rattle.ele_model.proofs.Words.{Cell, Place, content_of, is_place, different, VersionRow, DraftRow, has_slot, is_among, new_places, different_of, places_from, places, bytes_in}
use Rattle.ele_model.proofs.Splits.{bytes_in-cons}

-- ---- lists

pub list_any-flat_map : {X Y : Type 0} (p : Y → Bool) (g : X → List Y) (xs : List X) → list_any p (flat_map g xs) ≡ list_any (λ x. list_any p (g x)) xs
list_any-flat_map p g [] = refl
list_any-flat_map p g (x ∷ xs) = grind (arith, nat_tests, flat_map-cons, list_any-append, list_any-flat_map p g xs)

-- ---- a row

-- a slot before the first one
none_before : (f s : ℕ) (cells : List Cell) (place : Place) → place.slot < s → is_among (places_from f s cells) place ≡ false
none_before f s [] place lt = refl
none_before f s (cell ∷ cells) place lt = grind (arith, nat_tests, eqb, none_before f (s + 1) cells place (omega arith))

-- another file's place
none_other : (f s : ℕ) (cells : List Cell) (place : Place) → eqb f place.file ≡ false → is_among (places_from f s cells) place ≡ false
none_other f s [] place e = refl
none_other f s (cell ∷ cells) place e = grind (arith, none_other f (s + 1) cells place e)

among_from : (f s n : ℕ) (cells : List Cell) (place : Place) → place.slot ≡ s + n → is_among (places_from f s cells) place ≡ (eqb f place.file && has_slot cells n place.writer)
among_from f s n [] place at = grind (arith)
among_from f s zero (cell ∷ cells) place at = grind (arith, nat_tests, none_before)
among_from f s (suc n) (cell ∷ cells) place at = grind (arith, nat_tests, eqb, among_from f (s + 1) n cells place (omega arith))

among_each : {R : Type 0} (file_of : R → ℕ) (cells_of : R → List Cell) (rows : List R) (place : Place) → is_among (flat_map (λ r. places_from (file_of r) 0 (cells_of r)) rows) place ≡ list_any (λ r. eqb (file_of r) place.file && has_slot (cells_of r) place.slot place.writer) rows
among_each file_of cells_of [] place = refl
among_each file_of cells_of (row ∷ rows) place = grind (arith, nat_tests, flat_map-cons, list_any-append, among_from (file_of row) 0 place.slot (cells_of row) place, among_each file_of cells_of rows place)

-- a place of all rows is one of some row
pub among_rows : (versions : List VersionRow) (drafts : List DraftRow) (file slot writer : ℕ) → is_among (places versions drafts) (record { file = file; slot = slot; writer = writer }) ≡ (list_any (λ (row : VersionRow). eqb row.file file && has_slot row.cells slot writer) versions || list_any (λ (row : DraftRow). eqb row.file file && has_slot row.cells slot writer) drafts)
among_rows versions drafts file slot writer = grind (arith, nat_tests, list_any-append, among_each (λ (row : VersionRow). row.file) (λ row. row.cells) versions, among_each (λ (row : DraftRow). row.file) (λ row. row.cells) drafts)

-- ---- how many places are new

pub new_places-cons : (others : List Place) (place : Place) (rest : List Place) → new_places others (place ∷ rest) ≡ cond (is_among others place) 0 1 + new_places others rest
new_places-cons others place rest = grind (arith, nat_tests)

-- a row before others adds those that are new
different_row : (f s : ℕ) (cells : List Cell) (others : List Place) → different is_place (places_from f s cells ++ others) ≡ new_places others (places_from f s cells) + different is_place others
different_row f s [] others = omega arith
different_row f s (cell ∷ cells) others = grind (arith, nat_tests, list_any-append (λ p. is_place p (record { file = f; slot = s; writer = cell.writer })) (places_from f (s + 1) cells) others, none_before f (s + 1) cells (record { file = f; slot = s; writer = cell.writer }), new_places-cons, different_row f (s + 1) cells others)

-- the rows of the files that pass
module _ (t : ℕ → Bool) where
  -- of a file that passes, as many are new
  passing_new : (versions : List VersionRow) (drafts : List DraftRow) (f s : ℕ) (cells : List Cell) → t f ≡ true → new_places (places (filter (λ row. t row.file) versions) (filter (λ row. t row.file) drafts)) (places_from f s cells) ≡ new_places (places versions drafts) (places_from f s cells)
  passing_new versions drafts f s [] passes = refl
  passing_new versions drafts f s (cell ∷ cells) passes = grind (arith, nat_tests, new_places-cons (places versions drafts), list_any-append, list_any-flat_map, list_any-filter, none_other, passing_new versions drafts f (s + 1) cells passes)

-- ---- one row after another

-- the bytes of the rest of the cells
pub cell_bytes : (cells : List Cell) (i : ℕ) (cell : Cell) → i < length cells → cell ≡ get_or cells i cell → length (content_of (drop i cells)) ≡ length cell.bytes + length (content_of (drop (i + 1) cells))
cell_bytes cells i cell lt is = grind (arith, nat_tests, drop_more, flat_map-cons, length-append)

-- and of the versions
pub row_bytes : (t : ℕ → Bool) (versions : List VersionRow) (i : ℕ) (row : VersionRow) → i < length versions → row ≡ get_or versions i row → bytes_in (filter (λ r. t r.file) (drop i versions)) ≡ cond (t row.file) (length (content_of row.cells)) 0 + bytes_in (filter (λ r. t r.file) (drop (i + 1) versions))
row_bytes t versions i row lt is = grind (arith, nat_tests, drop_more versions i row lt, bytes_in-cons)

-- the slots of the rest of the cells
pub cell_places : (others : List Place) (file : ℕ) (cells : List Cell) (i : ℕ) (cell : Cell) → i < length cells → cell ≡ get_or cells i cell → new_places others (places_from file i (drop i cells)) ≡ cond (is_among others (record { file = file; slot = i; writer = cell.writer })) 0 1 + new_places others (places_from file (i + 1) (drop (i + 1) cells))
cell_places others file cells i cell lt is = grind (arith, nat_tests, drop_more, new_places-cons, places_from)

-- the places of the rest of the versions
pub version_places : (t : ℕ → Bool) (versions : List VersionRow) (drafts : List DraftRow) (i : ℕ) (row : VersionRow) → i < length versions → row ≡ get_or versions i row → different_of t (drop i versions) drafts ≡ cond (t row.file) (new_places (places (take (length versions - (i + 1)) (drop (i + 1) versions)) drafts) (places_from row.file 0 row.cells)) 0 + different_of t (drop (i + 1) versions) drafts
version_places t versions drafts i row lt is = grind (arith, nat_tests, drop_more versions i row lt, flat_map-cons, append_assoc, different_row row.file 0 row.cells, passing_new t (drop (i + 1) versions) drafts row.file 0 row.cells, take_all (length versions - (i + 1)) (drop (i + 1) versions), length-drop (i + 1) versions)

-- and of the drafts
pub draft_places : (t : ℕ → Bool) (drafts : List DraftRow) (i : ℕ) (row : DraftRow) → i < length drafts → row ≡ get_or drafts i row → different_of t [] (drop i drafts) ≡ cond (t row.file) (new_places (places [] (take (length drafts - (i + 1)) (drop (i + 1) drafts))) (places_from row.file 0 row.cells)) 0 + different_of t [] (drop (i + 1) drafts)
draft_places t drafts i row lt is = grind (arith, nat_tests, drop_more drafts i row lt, flat_map-cons, different_row row.file 0 row.cells, passing_new t [] (drop (i + 1) drafts) row.file 0 row.cells, take_all (length drafts - (i + 1)) (drop (i + 1) drafts), length-drop (i + 1) drafts)
