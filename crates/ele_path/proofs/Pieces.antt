-- Words and their pieces.
use Rattle.ele_path.proofs.Basics.{◌≡◌, eqb, ℕ, ◌+◌, ◌<◌, ◌≤◌, leb, true, false, List, [], ◌∷◌, ◌++◌, length, take, drop, get_or, refl, sym, ap, ◌∙◌, arith, Some, None, length-append, All, slice_get, join_with_byte, cons_option, nat_tests, append-nil, take-append-drop, drop_more, All-head, All-tail, All-weaker, All-push, AllPass-from_list_all, slice_split_none, slice_split_at, length-slice_split, join_with_byte-slice_split}
use Rattle.ele_path.proofs.Words.{IsName, is_name_byte, PathFault, IsPath, path_text, pieces_of, piece_fault, piece_faults, piece_faults_from}
use Rattle.ele_path.proofs.NameBytes.{is_name-decides}

-- a name after fewer than 32 others is no fault
name_passes : (n : ℕ) (name : List ℕ) → n < 32 → IsName name → piece_fault n name ≡ None
name_passes n [] h is = absurd (omega (arith, is.some))
name_passes n (byte ∷ bytes) h is =
    let few : leb 32 n ≡ false = grind (arith, nat_tests) in
    rw (few, (is_name-decides (byte ∷ bytes)).1 is) refl

-- names have no fault
pub names_pass : (n : ℕ) (names rest : List (List ℕ)) → n + length names ≤ 32 → All IsName names → piece_faults_from n (names ++ rest) ≡ piece_faults_from (n + length names) rest
names_pass n [] rest h are = ap (λ m. piece_faults_from m rest) (omega arith)
names_pass n (name ∷ names) rest h are = grind (arith, nat_tests, name_passes, All-head, names_pass (n + 1) names rest (omega arith) (All-tail IsName name names are))

plain_unbroken : (byte : ℕ) → is_name_byte byte ≡ true → eqb byte 47 ≡ false
plain_unbroken byte plain = grind (arith, nat_tests)

-- no byte of a name is a slash
pub name_unbroken : (name : List ℕ) → IsName name → All (λ byte. eqb byte 47 ≡ false) name
name_unbroken name is = All-weaker _ _ plain_unbroken name (AllPass-from_list_all _ name is.plain)

-- the text of names is cut into these
pub pieces_of_text : (name : List ℕ) (names : List (List ℕ)) → All IsName (name ∷ names) → pieces_of (name ++ path_text names) ≡ name ∷ names
pieces_of_text name [] are =
    let unbroken = name_unbroken name (All-head IsName name [] are) in
    rw append-nil (slice_split_none _ name unbroken)
pieces_of_text name (next ∷ names) are =
    let unbroken = name_unbroken name (All-head IsName name (next ∷ names) are) in
    let more = pieces_of_text next names (All-tail IsName name (next ∷ names) are) in
    slice_split_at (λ byte. eqb byte 47) name 47 (next ++ path_text names) unbroken refl ∙ ap (λ pieces. name ∷ pieces) more

joined : (piece : List ℕ) (pieces : List (List ℕ)) → path_text (piece ∷ pieces) ≡ 47 ∷ join_with_byte 47 (piece ∷ pieces)
joined piece [] = ap (λ bytes. 47 ∷ bytes) (append-nil piece)
joined piece (next ∷ pieces) = ap (λ bytes. 47 ∷ (piece ++ bytes)) (joined next pieces)

text_of : (pieces : List (List ℕ)) → 0 < length pieces → path_text pieces ≡ 47 ∷ join_with_byte 47 pieces
text_of [] some = absurd (omega arith)
text_of (piece ∷ pieces) some = joined piece pieces

-- the pieces, each with a slash before it
pub text_of_pieces : (text : List ℕ) → path_text (pieces_of text) ≡ 47 ∷ text
text_of_pieces text =
    text_of (pieces_of text) (omega (arith, length-slice_split (λ byte. eqb byte 47) text)) ∙ ap (λ bytes. 47 ∷ bytes) (join_with_byte-slice_split 47 text)

-- after names, the next piece has the first fault, if it has one
pub next_fault : (pieces names : List (List ℕ)) (n : ℕ) (piece : List ℕ) (fault : PathFault) → IsPath names → names ≡ take n pieces → n < length pieces → piece ≡ get_or pieces n piece → piece_fault (length names) piece ≡ Some fault → slice_get (piece_faults pieces) 0 ≡ Some fault
next_fault pieces names n piece fault is front more here bad =
    let rest = drop (n + 1) pieces in
    let cut : pieces ≡ names ++ piece ∷ rest =
    sym (take-append-drop n pieces)
    ∙ ap (λ (xs : List (List ℕ)). xs ++ drop n pieces) (sym front)
    ∙ ap (λ (xs : List (List ℕ)). names ++ xs) (drop_more pieces n piece more ∙ ap (λ x. x ∷ rest) (sym here)) in
    let pass = names_pass 0 names (piece ∷ rest) (omega (arith, is.short)) is.named in
    let count : 0 + length names ≡ length names = omega arith in
    ap (λ xs. slice_get (piece_faults xs) 0) cut ∙ ap (λ faults. slice_get faults 0) (pass ∙ ap (λ m. piece_faults_from m (piece ∷ rest)) count ∙ ap (λ f. cons_option f (piece_faults_from (length names + 1) rest)) bad)

-- one more name after fewer than 32
pub one_more : (names : List (List ℕ)) (name : List ℕ) → IsPath names → length names < 32 → IsName name → IsPath (names ++ name ∷ [])
one_more names name is few more = record { short = omega (arith, length-append names (name ∷ [])); named = All-push IsName names name is.named more }
