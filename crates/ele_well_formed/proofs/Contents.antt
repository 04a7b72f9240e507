-- Contents in slots, one cell after another.
use Rattle.ele_well_formed.proofs.Words.{Cell, List, arith, content_of, drop, drop_more, flat_map-cons, get_or, length, length-append, nat_tests, ℕ, ◌+◌, ◌<◌, ◌≡◌}

-- the bytes of the rest of the cells
pub rest_bytes : (cells : List Cell) (i : ℕ) (cell : Cell) → i < length cells → cell ≡ get_or cells i cell → length (content_of (drop i cells)) ≡ length cell.bytes + length (content_of (drop (i + 1) cells))
rest_bytes cells i cell lt is = grind (arith, nat_tests, drop_more, flat_map-cons, length-append)
