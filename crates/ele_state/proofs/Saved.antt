-- The cells of given bytes.
use Rattle.ele_content.proofs.Contents.{content_of-written}
use Rattle.ele_state.proofs.Words.{ap, arith, append-nil, cells_by, content_of, length, ℕ, List, [], ◌∙◌, ◌≡◌}

-- the bytes of the cells are those
pub content_by : (writer : ℕ) (bytes : List ℕ) → content_of (cells_by writer bytes) ≡ bytes
content_by writer bytes = content_of-written writer 0 bytes [] ∙ grind (arith, append-nil)

pub length_by : (writer : ℕ) (bytes : List ℕ) → length (content_of (cells_by writer bytes)) ≡ length bytes
length_by writer bytes = ap length (content_by writer bytes)
