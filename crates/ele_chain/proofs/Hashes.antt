-- Equal lines are of equal hashes.
use Rattle.ele_chain.proofs.Basics.{List, [], Ok, Err, Result, ap, append_cancel_left, append_cancel_right, arith, length, length-append, codes, suc, sym, zero, ℕ, ◌++◌, ◌<◌, ◌∙◌, ◌∷◌, ◌≡◌}
use Rattle.ele_chain.specs.Chain.{hash_line}
use Rattle.hex.proofs.HexLemmas.{decode_of-encode_lower, length-encode_with}
use Rattle.hex.specs.Hex.{IsBytes, decode_of, encode_lower, lower_digits}
use Rattle.hex.specs.declared.error.FromHexError.{FromHexError}
use Rattle.sha2.proofs.Facts256.{length-sha256}
use Rattle.sha2.specs.Sha256.{digest_bytes, final_hash, initial_hash_256, sha256}
use Rattle.std.specs.Int.{byte_at, bytes_high_first, to_be_bytes, w32}
use Rattle.std.specs.Prelude.{slice_index}

bytes_more : (x : ℕ) (xs : List ℕ) → x < 256 → IsBytes xs → IsBytes (x ∷ xs)
bytes_more x xs h hs zero = h
bytes_more x xs h hs (suc i) = hs i

bytes_none : IsBytes []
bytes_none i = omega arith

bytes_then : (xs ys : List ℕ) → IsBytes xs → IsBytes ys → IsBytes (xs ++ ys)
bytes_then [] ys h k = k
bytes_then (x ∷ xs) ys h k = bytes_more x (xs ++ ys) (h 0) (bytes_then xs ys (λ i. h (suc i)) k)

one_byte : (k n : ℕ) → byte_at k n < 256
one_byte zero n = omega arith
one_byte (suc k) n = omega arith

bytes_of_number : (k n : ℕ) → IsBytes (bytes_high_first k n)
bytes_of_number zero n = bytes_none
bytes_of_number (suc k) n = bytes_more (byte_at k n) (bytes_high_first k n) (one_byte k n) (bytes_of_number k n)

bytes_of_digest : (h : List ℕ) (n : ℕ) → IsBytes (digest_bytes h n)
unfolding digest_bytes
bytes_of_digest h zero = bytes_none
bytes_of_digest h (suc n) = bytes_then (digest_bytes h n) (to_be_bytes w32 (slice_index h n)) (bytes_of_digest h n) (bytes_of_number 4 (slice_index h n))

bytes_of_hash : (m : List ℕ) → IsBytes (sha256 m)
unfolding sha256
bytes_of_hash m = bytes_of_digest (final_hash initial_hash_256 m) 8

-- the bytes in a result, or none
abbrev bytes_in : Result (List ℕ) FromHexError → List ℕ
bytes_in (Ok bytes) = bytes
bytes_in (Err fault) = []

same_digits : (m n : List ℕ) → encode_lower (sha256 m) ≡ encode_lower (sha256 n) → sha256 m ≡ sha256 n
same_digits m n e = ap bytes_in (sym (decode_of-encode_lower (sha256 m) (bytes_of_hash m)) ∙ ap decode_of e ∙ decode_of-encode_lower (sha256 n) (bytes_of_hash n))

pub same_hash : (m n : List ℕ) → hash_line m ≡ hash_line n → sha256 m ≡ sha256 n
same_hash m n e =
    same_digits m n (append_cancel_right (encode_lower (sha256 m)) (encode_lower (sha256 n)) (10 ∷ [])
    (append_cancel_left (codes "= ") (encode_lower (sha256 m) ++ 10 ∷ []) (encode_lower (sha256 n) ++ 10 ∷ []) e))

-- a line has 67 bytes
pub line_length : (m : List ℕ) → length (hash_line m) ≡ 67
line_length m =
    let digits = length-encode_with lower_digits (sha256 m) in
    let hash = length-sha256 m in
    let whole = length-append (encode_lower (sha256 m)) (10 ∷ []) in
    omega (arith, digits, hash, whole)
