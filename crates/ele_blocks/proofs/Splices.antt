-- A splice touches only the part of a content that it meets, which is cut into pieces.
use Rattle.ele_blocks.proofs.Words.{[], AreSized, arith, content_after_write, drop, drop-drop, first_chunks, flat_map, length, length-append, length-drop, length-replicate, length-take, List, max, nat_tests, pieces_between, replicate, slot_bytes, slot_count, take, take-append-drop, take-append-le, take-take, ℕ, ◌*◌, ◌++◌, ◌+◌, ◌-◌, ◌<◌, ◌∷◌, ◌≡◌, ◌≤◌, drop-append-add, cond, get_or, get_or-append_right, get_or-drop, get_or-replicate, get_or-take, get_or_append_left, get_or_past, is_between, min, same_number_lists}
use Rattle.ele_blocks.specs.Pieces.{pieces}
use Rattle.ele_blocks.proofs.Sized.{chunk_more, sized-chunks, chunks_joined, chunks_taken, length-chunks}

-- bytes in pieces of 512: how many, each of so many bytes, and joined again
pub pieces_are : (xs : List ℕ) → (length (pieces xs) ≡ slot_count (length xs)) × AreSized 512 (λ piece. piece) (length xs) (pieces xs) × (flat_map (λ piece. piece) (pieces xs) ≡ xs)
unfolding pieces
pieces_are xs = (length-chunks 512 (slot_count (length xs)) xs, sized-chunks 512 (omega arith) (slot_count (length xs)) xs (omega arith) (omega arith), chunks_joined 512 (omega arith) (slot_count (length xs)) xs (omega arith))

-- one piece more
pub piece_more : (first slot : ℕ) (xs : List ℕ) → first ≤ slot → pieces_between first (slot + 1) xs ≡ pieces_between first slot xs ++ slot_bytes xs slot ∷ []
piece_more first slot xs le = grind (arith, nat_tests, drop-drop, chunk_more)

-- the first pieces
pub pieces_taken : (n : ℕ) (xs : List ℕ) → 512 * n < length xs + 512 → pieces (take (512 * n) xs) ≡ first_chunks 512 n xs
unfolding pieces
pieces_taken n xs lt = grind (arith, nat_tests, length-take, chunks_taken)

pub length-spliced : (content : List ℕ) (offset : ℕ) (bytes : List ℕ) → length (content_after_write content offset bytes) ≡ max (length content) (offset + length bytes)
length-spliced content offset bytes = grind (arith, nat_tests, length-append, length-take, length-replicate, length-drop)

-- what is after the bytes stays
spliced-back : (content : List ℕ) (offset : ℕ) (bytes : List ℕ) (n : ℕ) → offset + length bytes ≤ n → drop n (content_after_write content offset bytes) ≡ drop n content
spliced-back content offset bytes n le = grind (arith, drop-append-add (take offset content ++ replicate (offset - length content) 0 ++ bytes) (drop (offset + length bytes) content) (n - (offset + length bytes)), length-append, length-take, length-replicate, drop-drop)

-- so a splice is the part of q bytes from p on, between what was before it and after it
pub spliced_part : (content : List ℕ) (offset p q r : ℕ) (bytes : List ℕ) → p ≤ offset → p ≤ length content → offset + length bytes ≤ r → r ≡ p + q → content_after_write content offset bytes ≡ take p content ++ (take q (drop p (content_after_write content offset bytes)) ++ drop r content)
spliced_part content offset p q r bytes from le past is =
    let after = content_after_write content offset bytes in grind (arith, nat_tests, spliced-back content offset bytes r past, length-take, take-append-le, length-append, take-take, take-append-drop p after, take-append-drop q (drop p after), drop-drop q p after)

-- ---- what a write makes of each piece

-- the bytes are at their places, and at all others what was there, or zero
spliced_at : (content : List ℕ) (offset : ℕ) (bytes : List ℕ) (k : ℕ) → get_or (content_after_write content offset bytes) k 0 ≡ cond (is_between offset (offset + length bytes) k) (get_or bytes (k - offset) 0) (get_or content k 0)
spliced_at content offset bytes k = grind (arith, nat_tests, length-append, length-take, length-replicate, get_or_append_left, get_or-append_right, get_or-take, get_or-replicate, get_or-drop, get_or_past)

-- a piece after a write: what of the bytes falls into it lies over the piece
pub patched : (content : List ℕ) (at offset start from past : ℕ) (bytes : List ℕ) → start ≡ min (offset - at) 512 → from ≡ min (at - offset) (length bytes) → past ≡ min (at + 512 - offset) (length bytes) → content_after_write (take 512 (drop at content)) start (take (past - from) (drop from bytes)) ≡ take 512 (drop at (content_after_write content offset bytes))
patched content at offset start from past bytes is_start is_from is_past =
    let after = content_after_write content offset bytes in
    let piece = take 512 (drop at content) in
    let part = take (past - from) (drop from bytes) in
    let part_long : length part ≡ past - from = omega (arith, length-take (past - from) (drop from bytes), length-drop from bytes, is_from, is_past) in
    let end : start + (past - from) ≡ min 512 (offset + length bytes - at) = grind (arith, nat_tests, is_start, is_from, is_past) in
    let count : length (content_after_write piece start part) ≡ min 512 (length after - at) = omega (arith, length-spliced piece start part, length-take 512 (drop at content), length-drop at content, length-spliced content offset bytes, part_long, end) in
    same_number_lists (content_after_write piece start part) (take 512 (drop at after)) (omega (arith, count, length-take 512 (drop at after), length-drop at after)) (λ k lt.
    let short : k < 512 = omega (arith, lt, count) in
    rw (spliced_at piece start part k, get_or-take 512 (drop at content) k 0 short, get_or-drop at content k 0, part_long, get_or-take 512 (drop at after) k 0 short, get_or-drop at after k 0, spliced_at content offset bytes (at + k))
    (let place : offset ≤ at + k → at + k < offset + length bytes → from + (k - start) ≡ at + k - offset = λ le here. omega (arith, is_start, is_from, le, here, short) in
    grind (arith, nat_tests, is_start, is_from, is_past, short, place, get_or-take (past - from) (drop from bytes) (k - start) 0, get_or-drop from bytes (k - start) 0)))
