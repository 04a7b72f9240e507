-- Joined words, and the lines of a list one after another.
use Rattle.ele_output.proofs.Basics.{◌≡◌, ℕ, ◌+◌, ◌<◌, ◌≤◌, List, [], ◌∷◌, ◌++◌, map, length, drop, get_or, sym, ap, ◌∙◌, append-nil, at_drop_all, drop_more, flat_map, join_with_byte}
use Rattle.ele_output.proofs.Known.{HasPut, put_all, put_more}
use Rattle.ele_output.specs.Outlet.{Outlet, Puts}

-- joined words are the first, and the byte between them and a word for each other
pub joined_are : {A : Type 0} (byte : ℕ) (v : A → List ℕ) (first : List ℕ) (xs : List A) → join_with_byte byte (first ∷ map v xs) ≡ first ++ flat_map (λ x. byte ∷ v x) xs
joined_are {A} byte v first [] = sym (append-nil first)
joined_are {A} byte v first (x ∷ xs) = ap (λ (rest : List ℕ). first ++ byte ∷ rest) (joined_are byte v (v x) xs)

-- the next element at a place is the one there
pub here : {A : Type 0} (line : A → List ℕ) (xs : List A) (i : ℕ) (d : A) → i < length xs → flat_map line (drop i xs) ≡ line (get_or xs i d) ++ flat_map line (drop (i + 1) xs)
here {A} line xs i d lt = ap (λ (ys : List A). flat_map line ys) (drop_more xs i d lt)

-- at an item, its line is next
pub lines_here : {A : Type 0} (line : A → List ℕ) (xs : List A) (i : ℕ) (x : A) → i < length xs → x ≡ get_or xs i x → flat_map line (drop i xs) ≡ line x ++ flat_map line (drop (i + 1) xs)
lines_here {A} line xs i x lt is = ap (λ (ys : List A). flat_map line ys) (drop_more xs i x lt) ∙ ap (λ (y : A). line y ++ flat_map line (drop (i + 1) xs)) (sym is)

-- at an item of a list, its line is put
pub list_more : {A : Type 0} {a b c : Outlet} {whole : List ℕ} (line : A → List ℕ) (xs : List A) (i : ℕ) (x : A) → i < length xs → x ≡ get_or xs i x → HasPut a b whole (flat_map line (drop i xs)) → Puts b c (line x) → HasPut a c whole (flat_map line (drop (i + 1) xs))
list_more line xs i x lt is h p = put_more h (lines_here line xs i x lt is) p

-- at the end of a list, all is put
pub list_done : {A : Type 0} {a b : Outlet} {whole : List ℕ} (line : A → List ℕ) (xs : List A) (i : ℕ) → length xs ≤ i → HasPut a b whole (flat_map line (drop i xs)) → Puts a b whole
list_done {A} line xs i le h = put_all h (at_drop_all (λ (ys : List A). flat_map line ys) xs i le)
