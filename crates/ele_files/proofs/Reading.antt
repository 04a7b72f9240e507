-- The progress of a copy of a content.
use Rattle.ele_blocks.specs.LivesIn.{fills}
use Rattle.ele_files.proofs.Words.{Cell, Layout, List, LivesIn, Slot, Some, Store, [], ap, append_nil, arith, bytes_at, cell_of, content_of, length, nat_tests, option_map, refl, shown, slice_get, slots_of, sym, take, true, zero, suc, ℕ, ◌*◌, ◌++◌, ◌+◌, ◌-◌, ◌∙◌, ◌∷◌, ◌≡◌, ◌≤◌, StockLaws}
use Rattle.ele_files.specs.Copied.{IsCopied}
use Rattle.ele_files.specs.declared.files.reading.Copied.{Copied}
use Rattle.std.proofs.Common.{drop, length-drop, length-take}
use Rattle.std.proofs.Math.Seq.{drop-append-add, take-add}
use Rattle.std.proofs.lemmas.List.{drop-drop, drop-take, take-take, take_at, take_all, take_min}
use Rattle.std.proofs.lemmas.Option.{slice_get-map}
use Rattle.std.specs.Prelude.{min}

-- ---- the bytes of a slot

-- a cell has the bytes of its place, if all but the last have 512
cell_bytes : (k n : ℕ) (cells : List Cell) (x : Cell) → fills 512 (λ (cell : Cell). cell.bytes) n cells ≡ true → slice_get cells k ≡ Some x → x.bytes ≡ take 512 (drop (512 * k) (content_of cells))
cell_bytes k n [] x h got = absurd cc
cell_bytes zero n (y ∷ []) x h got = grind (arith, nat_tests, h, got, take_all 512 y.bytes, append_nil y.bytes)
cell_bytes zero n (y ∷ z ∷ cells) x h got = grind (arith, nat_tests, h, got, take_at y.bytes (content_of (z ∷ cells)) 512)
cell_bytes (suc k) n (y ∷ []) x h got = absurd cc
cell_bytes (suc k) n (y ∷ z ∷ cells) x h got = grind (arith, nat_tests, h, cell_bytes k (n - 512) (z ∷ cells) x, drop-append-add y.bytes (content_of (z ∷ cells)) (512 * k))

module _ (laws : StockLaws) (s : Store) (m : Layout) (lives : LivesIn s m) (k : ℕ) (cell : ℕ × ℕ) (got : Some cell ≡ option_map (λ (x : Slot). (x.writer, x.block)) (slice_get (slots_of s m) k)) where
  slot : (x : Slot) × (slice_get (slots_of s m) k ≡ Some x) × ((x.writer, x.block) ≡ cell)
  slot = grind (arith, nat_tests)

  module _ (block : List ℕ) (is : block ≡ bytes_at s cell.1) where
    pub block_bytes : block ≡ take 512 (drop (512 * k) (content_of (shown s m)))
    block_bytes =
        let filled : fills 512 (λ (cell : Cell). cell.bytes) m.size (shown s m) ≡ true = grind (arith, nat_tests, lives.whole) in
        let there : slice_get (shown s m) k ≡ Some (cell_of s slot.0) = slice_get-map (cell_of s) (slots_of s m) k ∙ ap (option_map (cell_of s)) slot.1 in
        is ∙ (ap (λ (c : ℕ × ℕ). bytes_at s c.1) (sym slot.2) ∙ cell_bytes k m.size (shown s m) (cell_of s slot.0) filled there)

    pub block_size : length block ≡ min 512 (m.size - 512 * k)
    block_size = omega (arith, ap (λ (bytes : List ℕ). length bytes) block_bytes, length-take 512 (drop (512 * k) (content_of (shown s m))), length-drop (512 * k) (content_of (shown s m)), laws.long s m lives)

-- ---- one block more

module _ (content old : List ℕ) (offset done skip count slot : ℕ) where
  pub copied_next : (block into : List ℕ) → into ≡ take done (drop offset content) ++ drop done old → block ≡ take 512 (drop (512 * slot) content) → 512 * slot + skip ≡ offset + done → skip + count ≤ 512 → done ≤ length content - offset → take done into ++ take count (drop skip block) ++ drop (done + count) into ≡ take (done + count) (drop offset content) ++ drop (done + count) old
  copied_next block into is_into is_block place within far =
      let left = drop offset content in
      let size : length (take done left) ≡ done = omega (arith, length-take done left, length-drop offset content, far) in
      let front : take done into ≡ take done left = rw is_into (take_at (take done left) (drop done old) done size) in
      let behind : drop (done + count) into ≡ drop (done + count) old = rw is_into ((rw size at (drop-append-add (take done left) (drop done old) count)) ∙ drop-drop count done old) in
      let all : skip + (512 - skip) ≡ 512 = omega (arith, within) in
      let rest = drop (512 * slot) content in
      let cut : drop skip block ≡ take (512 - skip) (drop skip rest) = rw is_block (rw all at (drop-take skip (512 - skip) rest)) in
      let met : drop skip rest ≡ drop done left = drop-drop skip (512 * slot) content ∙ (ap (λ (n : ℕ). drop n content) place ∙ sym (drop-drop done offset content)) in
      let middle : take count (drop skip block) ≡ take count (drop done left) = ap (take count) cut ∙ (take-take count (512 - skip) (drop skip rest) (omega (arith, within)) ∙ ap (take count) met) in
      rw (front, middle, behind, take-add done count left) refl

pub copied_by : (content old new : List ℕ) (offset : ℕ) (copied : Copied) → copied.length ≡ length content → copied.count ≡ min (length old) (length content - offset) → new ≡ take copied.count (drop offset content) ++ drop copied.count old → IsCopied content offset old new copied
copied_by content old new offset copied whole counted written =
    let same : copied.count ≡ min (length old) (length (drop offset content)) = rw (length-drop offset content) counted in
    record {
      whole = whole;
      counted = omega (arith, same, length-take (length old) (drop offset content));
      written = written ∙ ap (λ (piece : List ℕ). piece ++ drop copied.count old) (rw same (take_min (length old) (drop offset content)));
    }
