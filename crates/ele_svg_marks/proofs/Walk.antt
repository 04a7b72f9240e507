-- What is drawn of the items of a list that are left.
use Rattle.std.proofs.Common.{◌≡◌, ℕ, ◌+◌, ◌<◌, ◌≤◌, List, [], ◌∷◌, ◌++◌, length, drop, get_or, refl, sym, ap, ◌∙◌}
use Rattle.std.proofs.lemmas.List.{at_drop_all, drop_more}
use Rattle.ele_svg_marks.specs.Walk.{walked}

walked_first : {S A : Type 0} (line : S → A → List ℕ) (next : S → A → S) (state : S) (item : A) (items : List A)
    → walked line next state (item ∷ items) ≡ line state item ++ walked line next (next state item) items
unfolding walked
walked_first line next state item items = refl

walked_none : {S A : Type 0} (line : S → A → List ℕ) (next : S → A → S) (state : S) → walked line next state [] ≡ []
unfolding walked
walked_none line next state = refl

-- the next item at a place is the one there
pub walked_here : {S A : Type 0} (line : S → A → List ℕ) (next : S → A → S) (state : S) (xs : List A) (i : ℕ) (d : A) → i < length xs
    → walked line next state (drop i xs) ≡ line state (get_or xs i d) ++ walked line next (next state (get_or xs i d)) (drop (i + 1) xs)
walked_here {S} {A} line next state xs i d lt =
    ap (λ (ys : List A). walked line next state ys) (drop_more xs i d lt) ∙ walked_first line next state (get_or xs i d) (drop (i + 1) xs)

-- at an item, it is next
pub walked_more : {S A : Type 0} (line : S → A → List ℕ) (next : S → A → S) (state : S) (xs : List A) (i : ℕ) (x : A) → i < length xs → x ≡ get_or xs i x
    → walked line next state (drop i xs) ≡ line state x ++ walked line next (next state x) (drop (i + 1) xs)
walked_more {S} {A} line next state xs i x lt is =
    ap (λ (ys : List A). walked line next state ys) (drop_more xs i x lt) ∙ walked_first line next state (get_or xs i x) (drop (i + 1) xs)
    ∙ ap (λ (y : A). line state y ++ walked line next (next state y) (drop (i + 1) xs)) (sym is)

-- at the end of a list, nothing is
pub walked_end : {S A : Type 0} (line : S → A → List ℕ) (next : S → A → S) (state : S) (xs : List A) (i : ℕ) → length xs ≤ i → walked line next state (drop i xs) ≡ []
walked_end {S} {A} line next state xs i le = at_drop_all (λ (ys : List A). walked line next state ys) xs i le ∙ walked_none line next state
