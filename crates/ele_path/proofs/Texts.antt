-- The texts of names, and the names of texts.
use Rattle.ele_path.proofs.Basics.{None, codes, position, nat_lt, nat_tests, ◌≡◌, eqb, ℕ, ◌+◌, ◌-◌, ◌<◌, ◌≤◌, true, not, Bool, List, [], ◌∷◌, ◌++◌, length, take, drop, get_or, refl, sym, ap, subst, ◌∙◌, arith, Some, length-append, All, slice_get, nat_eq, append-nil, get_or_append_left, get_or-append_seam, take-append_seam, drop-append_seam, take_more, take_all, flat_map-append, slice_get-get_or, All-head, All-tail, All-take, prefix_len-le-length, position_or_len, position_or_len_is, slice_split_at, length-slice_split, same_from_decides, Decides, dec_lt, one-add, get_or-append-add, drop-append-add, pointwise, bytes_decides, pointwise_decides}
use Rattle.ele_path.proofs.Words.{IsName, IsPath, IsNamesText, IsPathText, IsNameStart, names_of, path_text, path_word, pieces_of}
use Rattle.ele_path.proofs.Pieces.{name_unbroken, pieces_of_text, text_of_pieces, one_more}

abbrev is_slash : ℕ → Bool
is_slash byte = eqb byte 47

-- the names of a text that begins with a slash are the pieces after it
names_behind_slash : (rest : List ℕ) → names_of (47 ∷ rest) ≡ pieces_of rest
names_behind_slash rest = ap (λ pieces. drop 1 pieces) (slice_split_at is_slash [] 47 rest (λ k d lt. absurd (omega arith)) refl)

-- the names of the text of names are these
pub names_of_text : (names : List (List ℕ)) → All IsName names → names_of (path_text names) ≡ names
names_of_text [] are = refl
names_of_text (name ∷ names) are = names_behind_slash (name ++ path_text names) ∙ pieces_of_text name names are

-- a text of names
pub text_is_names : (names : List (List ℕ)) → All IsName names → IsNamesText (path_text names)
text_is_names names are =
    let same = names_of_text names are in
    record { named = subst (λ n. All IsName n) (sym same) are; form = ap path_text (sym same) }

-- the text of a path
pub text_is_path : (names : List (List ℕ)) → IsPath names → IsPathText (path_text names)
text_is_path names is =
    let same = names_of_text names is.named in
    record { is = subst (λ n. IsPath n) (sym same) is; form = ap path_text (sym same) }

slash_follows : (name : List ℕ) (names : List (List ℕ)) → length name < length (name ++ path_text names) → is_slash (get_or (name ++ path_text names) (length name) 0) ≡ true
slash_follows name [] h = absurd (omega (arith, h, length-append name []))
slash_follows name (next ∷ names) h = ap is_slash (get_or-append_seam name 47 (next ++ path_text names) 0)

-- the first slash after a name is where the next name begins, or the end
slash_behind : (name : List ℕ) (names : List (List ℕ)) → IsName name → position_or_len is_slash (name ++ path_text names) ≡ length name
slash_behind name names is =
    position_or_len_is is_slash (name ++ path_text names) (length name) 0 (omega (arith, length-append name (path_text names)))
    (λ k h. ap is_slash (get_or_append_left name (path_text names) 0 k h) ∙ name_unbroken name is k 0 h)
    (slash_follows name names)

-- after its slash, a text of names has a name and a text of the other names
pub record NextName (text rest : List ℕ) : Type 0 where
  pub fits : position_or_len is_slash rest ≤ length rest
  pub is : IsName (take (position_or_len is_slash rest) rest)
  pub left : IsNamesText (drop (position_or_len is_slash rest) rest)
  pub names : names_of text ≡ take (position_or_len is_slash rest) rest ∷ names_of (drop (position_or_len is_slash rest) rest)

next_at : (name : List ℕ) (names : List (List ℕ)) → All IsName (name ∷ names) → NextName (47 ∷ (name ++ path_text names)) (name ++ path_text names)
next_at name names are =
    let rest : List ℕ = name ++ path_text names in
    let is : IsName name = All-head IsName name names are in
    let more : All IsName names = All-tail IsName name names are in
    let place : position_or_len is_slash rest ≡ length name = slash_behind name names is in
    let front : take (position_or_len is_slash rest) rest ≡ name = ap (λ (n : ℕ). take n rest) place ∙ take-append_seam name (path_text names) in
    let back : drop (position_or_len is_slash rest) rest ≡ path_text names = ap (λ (n : ℕ). drop n rest) place ∙ drop-append_seam name (path_text names) in
    record {
      fits = prefix_len-le-length (λ b. not (is_slash b)) rest;
      is = subst (λ n. IsName n) (sym front) is;
      left = subst (λ t. IsNamesText t) (sym back) (text_is_names names more);
      names = names_of_text (name ∷ names) are ∙ ap (λ (n : List ℕ). n ∷ names) (sym front) ∙ ap (λ (ns : List (List ℕ)). take (position_or_len is_slash rest) rest ∷ ns) (sym (ap names_of back ∙ names_of_text names more));
    }

next_in : (names : List (List ℕ)) (text : List ℕ) (slash : ℕ) (rest : List ℕ) → All IsName names → text ≡ path_text names → text ≡ slash ∷ rest → NextName text rest
next_in [] text slash rest are is begins = absurd (cc (is, begins))
next_in (name ∷ names) text slash rest are is begins =
    let tail : name ++ path_text names ≡ rest = ap (λ (t : List ℕ). drop 1 t) (sym is ∙ begins) in
    subst (λ r. NextName text r) tail (subst (λ t. NextName t (name ++ path_text names)) (sym is) (next_at name names are))

pub next_name : (text : List ℕ) (slash : ℕ) (rest : List ℕ) → IsNamesText text → text ≡ slash ∷ rest → NextName text rest
next_name text slash rest h begins = next_in (names_of text) text slash rest h.named h.form begins

-- the text of names and one more
pub text_pushed : (names : List (List ℕ)) (name : List ℕ) → path_text (names ++ name ∷ []) ≡ path_text names ++ 47 ∷ name
text_pushed names name = flat_map-append (λ (name : List ℕ). 47 ∷ name) names (name ∷ []) ∙ ap (λ (t : List ℕ). path_text names ++ 47 ∷ t) (append-nil name)

pub text_more : (names : List (List ℕ)) (i : ℕ) (d : List ℕ) → i < length names → path_text (take (i + 1) names) ≡ path_text (take i names) ++ 47 ∷ get_or names i d
text_more names i d h = ap path_text (take_more names i d h) ∙ text_pushed (take i names) (get_or names i d)

-- the text of a path of fewer than 32 names, and one more name
pub text_joined : (text name : List ℕ) → IsPathText text → length (names_of text) < 32 → IsName name → IsPathText (text ++ 47 ∷ name) × (names_of (text ++ 47 ∷ name) ≡ names_of text ++ name ∷ [])
text_joined text name h few is =
    let names : List (List ℕ) = names_of text in
    let path : IsPath (names ++ name ∷ []) = one_more names name h.is few is in
    let made : path_text (names ++ name ∷ []) ≡ text ++ 47 ∷ name = text_pushed names name ∙ ap (λ (t : List ℕ). t ++ 47 ∷ name) (sym h.form) in
    (subst (λ t. IsPathText t) made (text_is_path (names ++ name ∷ []) path), ap names_of (sym made) ∙ names_of_text (names ++ name ∷ []) path.named)

-- two texts of names are the same exactly if their names are
pub same_names : (a b : List ℕ) → IsNamesText a → IsNamesText b → pointwise nat_eq a b ≡ pointwise (pointwise nat_eq) (names_of a) (names_of b)
same_names a b ha hb =
    let texts : Decides (pointwise nat_eq a b) (a ≡ b) = bytes_decides a b in
    let names : Decides (pointwise (pointwise nat_eq) (names_of a) (names_of b)) (names_of a ≡ names_of b) = pointwise_decides bytes_decides (names_of a) (names_of b) in
    same_from_decides _ _ texts (λ h. ha.form ∙ ap path_text (names.0 h) ∙ sym hb.form, λ h. names.1 (ap names_of h))

-- a path's text is a text of names
pub path_is_names : (text : List ℕ) → IsPathText text → IsNamesText text
path_is_names text h = record { named = h.is.named; form = h.form }

-- how many slashes a text of names has
pub names_counted : (text : List ℕ) → length (pieces_of text) ≡ length (names_of text) + 1
names_counted text = grind (arith, length-slice_split is_slash text)

-- the pieces after the first slash of a word are its names
pub names_behind : (word : List ℕ) → 2 ≤ length word → get_or word 0 0 ≡ 47 → names_of word ≡ pieces_of (take (length word - 1) (drop 1 word))
names_behind [] long slash = absurd (omega arith)
names_behind (first ∷ rest) long slash =
    let whole : take (length (first ∷ rest) - 1) rest ≡ rest = take_all _ rest (omega arith) in
    ap (λ (byte : ℕ). names_of (byte ∷ rest)) slash ∙ names_behind_slash rest ∙ sym (ap pieces_of whole)

word_again : (word : List ℕ) → 2 ≤ length word → get_or word 0 0 ≡ 47 → 47 ∷ take (length word - 1) (drop 1 word) ≡ word
word_again [] long slash = absurd (omega arith)
word_again (first ∷ rest) long slash =
    let whole : take (length (first ∷ rest) - 1) rest ≡ rest = take_all _ rest (omega arith) in
    ap (λ (t : List ℕ). 47 ∷ t) whole ∙ ap (λ (byte : ℕ). byte ∷ rest) (sym slash)

-- a word whose pieces after the first slash are a path is the text of that
pub word_is_path : (word : List ℕ) → 2 ≤ length word → get_or word 0 0 ≡ 47 → IsPath (pieces_of (take (length word - 1) (drop 1 word))) → IsPathText word
word_is_path word long slash is =
    let same = names_behind word long slash in
    record {
      is = subst (λ n. IsPath n) (sym same) is;
      form = sym (ap path_text same ∙ text_of_pieces (take (length word - 1) (drop 1 word)) ∙ word_again word long slash);
    }

-- there is one place where the last of some names begins
start_at : (front last : List ℕ) (start : ℕ) → IsName last → IsNameStart (front ++ 47 ∷ last) start → start ≡ length front + 1
start_at front last start is h =
    let long : length (front ++ 47 ∷ last) ≡ length front + 1 + length last = omega (arith, length-append front (47 ∷ last)) in
    elim (dec_lt (length front) start) [
      | no low ↦
          let seen = h.plain (length front) (omega (arith, low)) (omega (arith, long)) in
          absurd (cc (seen, get_or-append_seam front 47 last 0))
      | yes high ↦ elim (dec_lt (length front + 1) start) [
        | no exact ↦ omega (arith, high, exact)
        | yes past ↦
            let k : ℕ = start - length front - 2 in
            let within : k < length last = omega (arith, past, long, h.bound) in
            let place : start - 1 ≡ length front + (1 + k) = omega (arith, past) in
            let here : get_or last k 0 ≡ 47 = sym (get_or-append-add front (47 ∷ last) (1 + k) 0 ∙ ap (λ (n : ℕ). get_or (47 ∷ last) n 0) (one-add k)) ∙ ap (λ (n : ℕ). get_or (front ++ 47 ∷ last) n 0) (sym place) ∙ h.slash (omega (arith, past)) in
            absurd (cc (name_unbroken last is k 0 within, here))
      ]
    ]

-- the last name of a text, which begins at that place, and the text of the names before it
pub record LastName (text : List ℕ) (start : ℕ) : Type 0 where
  pub is : IsName (drop start text)
  pub last : slice_get (names_of text) (length (names_of text) - 1) ≡ Some (drop start text)
  pub left : IsNamesText (take (start - 1) text)
  pub parents : names_of (take (start - 1) text) ≡ take (length (names_of text) - 1) (names_of text)

last_in : (front : List (List ℕ)) (last : List ℕ) (start : ℕ) → All IsName front → IsName last → IsNameStart (path_text front ++ 47 ∷ last) start → (drop start (path_text front ++ 47 ∷ last) ≡ last) × (take (start - 1) (path_text front ++ 47 ∷ last) ≡ path_text front)
last_in front last start are is h =
    let place = start_at (path_text front) last start is h in
    let before : start - 1 ≡ length (path_text front) = omega (arith, place) in (
      ap (λ (n : ℕ). drop n (path_text front ++ 47 ∷ last)) place ∙ drop-append-add (path_text front) (47 ∷ last) 1,
      ap (λ (n : ℕ). take n (path_text front ++ 47 ∷ last)) before ∙ take-append_seam (path_text front) (47 ∷ last),
    )

names_parted : (names : List (List ℕ)) → 0 < length names → names ≡ take (length names - 1) names ++ get_or names (length names - 1) [] ∷ []
names_parted names some =
    let n : length names - 1 + 1 ≡ length names = omega (arith, some) in
    sym (take_all (length names - 1 + 1) names (omega (arith, n))) ∙ take_more names (length names - 1) [] (omega (arith, some))

text_has_names : (names : List (List ℕ)) (text : List ℕ) → text ≡ path_text names → 0 < length text → 0 < length names
text_has_names [] text is long = absurd (omega (arith, ap (λ (t : List ℕ). length t) is, long))
text_has_names (name ∷ names) text is long = omega arith

pub last_name : (text : List ℕ) (start : ℕ) → IsNamesText text → 0 < length text → IsNameStart text start → LastName text start
last_name text start h long begins =
    let names : List (List ℕ) = names_of text in
    let some : 0 < length names = text_has_names names text h.form long in
    let front : List (List ℕ) = take (length names - 1) names in
    let last : List ℕ = get_or names (length names - 1) [] in
    let is : IsName last = h.named (length names - 1) [] (omega (arith, some)) in
    let are : All IsName front = All-take IsName (length names - 1) names h.named in
    let text_is : text ≡ path_text front ++ 47 ∷ last = h.form ∙ ap path_text (names_parted names some) ∙ text_pushed front last in
    let parts = last_in front last start are is (subst (λ t. IsNameStart t start) text_is begins) in
    let behind : drop start text ≡ last = ap (λ (t : List ℕ). drop start t) text_is ∙ parts.0 in
    let before : take (start - 1) text ≡ path_text front = ap (λ (t : List ℕ). take (start - 1) t) text_is ∙ parts.1 in
    record {
      is = subst (λ n. IsName n) (sym behind) is;
      last = slice_get-get_or names (length names - 1) [] (omega (arith, some)) ∙ ap (λ (n : List ℕ). Some n) (sym behind);
      left = subst (λ t. IsNamesText t) (sym before) (text_is_names front are);
      parents = ap names_of before ∙ names_of_text front are;
    }

-- the text before the last name's slash is that of the names before the last
pub parents_of : (text : List ℕ) (start : ℕ) → IsNamesText text → IsNameStart text start → IsNamesText (take (start - 1) text) × (names_of (take (start - 1) text) ≡ take (length (names_of text) - 1) (names_of text))
parents_of [] start h begins =
    let none : take (start - 1) [] ≡ [] = take_all (start - 1) [] (omega arith) in
    (subst (λ (t : List ℕ). IsNamesText t) (sym none) h, ap names_of none)
parents_of (byte ∷ text) start h begins =
    let last = last_name (byte ∷ text) start h (omega arith) begins in
    (last.left, last.parents)

-- the root's text has no names
pub no_names : (text : List ℕ) → length text ≡ 0 → names_of text ≡ []
no_names [] none = refl
no_names (byte ∷ text) none = absurd (omega (arith, none))

-- the word of a path is its text, and a slash for the root
pub word_of_root : (names : List (List ℕ)) → length (path_text names) ≡ 0 → path_word names ≡ codes "/"
word_of_root [] none = refl
word_of_root (name ∷ names) none = absurd (omega (arith, none))

pub word_of_names : (names : List (List ℕ)) → 0 < length (path_text names) → path_word names ≡ path_text names
word_of_names [] some = absurd (omega (arith, some))
word_of_names (name ∷ names) some = refl

-- a text without a slash is all name
pub no_slash : (text : List ℕ) → position is_slash text ≡ None → length text ≡ position_or_len is_slash text
no_slash text none = grind (arith, nat_tests, position_or_len, prefix_len-le-length, not, nat_lt)
