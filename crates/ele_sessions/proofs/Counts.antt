-- How many handles read a thing, before and after a handle is opened or closed.
use Rattle.ele_sessions.proofs.Basics.{◌≡◌, ℕ, ◌+◌, Bool, cond, nat_lt, List, [], ◌∷◌, ◌++◌, Some, sym, ap, ◌∙◌, append-nil, count_by, sum_by, list_any, find, remove_first, all-any, sum_by-around, sum_by-remove_first, sum_by-same, any-count, arith, nat_tests}
use Rattle.ele_sessions.proofs.Words.{reads_eq, reading, writes, reads_version, is_handle, is_open, is_writer, HandleRow, Reads, Version}
use Rattle.ele_model.specs.declared.rows.Reads.TheVariants.{Draft}

abbrev pub one : Reads → HandleRow → ℕ
one what h = cond (reads_eq h.reads what) 1 0

pub reading-push : (what : Reads) (hs : List HandleRow) (h : HandleRow) → reading what (hs ++ h ∷ []) ≡ reading what hs + one what h
reading-push what hs h = sum_by-around (one what) hs h [] ∙ ap (λ xs. sum_by (one what) xs + one what h) (append-nil hs)

pub reading-left : (what : Reads) (number : ℕ) (hs : List HandleRow) (h : HandleRow) → find (is_handle number) hs ≡ Some h → reading what (remove_first (is_handle number) hs) + one what h ≡ reading what hs
reading-left what number hs h found = sum_by-remove_first (one what) (is_handle number) hs h found

-- who reads the same as a writer writes the file
writes-eq : (file : ℕ) (what : Reads) → reads_eq what (Draft file) ≡ writes file what
writes-eq file what = grind (arith, nat_tests)

reads-eq : (file number : ℕ) (what : Reads) → reads_eq what (Version file number) ≡ reads_version file number what
reads-eq file number what = grind (arith, nat_tests)

module _ (p q : HandleRow → Bool) (same : (h : HandleRow) → p h ≡ q h) where
  count-same : (hs : List HandleRow) → count_by p hs ≡ count_by q hs
  count-same hs = sum_by-same (λ h. cond (p h) 1 0) (λ h. cond (q h) 1 0) hs (all-any (λ h. ◌≡◌ {A = ℕ} (cond (p h) 1 0) (cond (q h) 1 0)) hs (λ h. ap (λ b. cond b 1 0) (same h)))

  any-counted : (hs : List HandleRow) → nat_lt 0 (count_by p hs) ≡ list_any q hs
  any-counted hs = ap (nat_lt 0) (count-same hs) ∙ sym (any-count q hs)

pub any-writer : (file : ℕ) (hs : List HandleRow) → nat_lt 0 (reading (Draft file) hs) ≡ list_any (is_writer file) hs
any-writer file = any-counted (λ h. reads_eq h.reads (Draft file)) (is_writer file) (λ h. writes-eq file h.reads)

pub any-reader : (file number : ℕ) (hs : List HandleRow) → nat_lt 0 (reading (Version file number) hs) ≡ is_open hs file number
any-reader file number = any-counted (λ h. reads_eq h.reads (Version file number)) (λ h. reads_version file number h.reads) (λ h. reads-eq file number h.reads)
