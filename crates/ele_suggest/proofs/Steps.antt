-- Lists that loops make, one turn after another.
use Rattle.std.proofs.Common.{◌≡◌, ℕ, ◌+◌, ◌<◌, List, [], ◌∷◌, ◌++◌, length, take, drop, get_or, sym, ap, subst, ◌∙◌, append_assoc}
use Rattle.std.proofs.lemmas.List.{drop_more, take_more}
use Rattle.std.proofs.lemmas.Slice.Zip.{all_zipped_more}
use Rattle.std.specs.List.{AllZip, flat_map}

-- what a loop that adds a list for each item has added, after one more
pub added_more : {A B : Type 0} (f : A → List B) (xs : List A) (i : ℕ) (x : A) (old new all : List B) → i < length xs → x ≡ get_or xs i x
    → old ++ flat_map f (drop i xs) ≡ all → new ≡ old ++ f x → new ++ flat_map f (drop (i + 1) xs) ≡ all
added_more {A} {B} f xs i x old new all lt is far made =
    let rest = flat_map f (drop (i + 1) xs) in
    ap (λ (ys : List B). ys ++ rest) made
    ∙ append_assoc old (f x) rest
    ∙ ap (λ (y : A). old ++ (f y ++ rest)) is
    ∙ ap (λ (ys : List A). old ++ flat_map f ys) (sym (drop_more xs i x lt))
    ∙ far

-- the same, where the item is the one at that place
pub added_at : {A B : Type 0} (f : A → List B) (xs : List A) (i : ℕ) (d : A) (old new all : List B) → i < length xs
    → old ++ flat_map f (drop i xs) ≡ all → new ≡ old ++ f (get_or xs i d) → new ++ flat_map f (drop (i + 1) xs) ≡ all
added_at {A} {B} f xs i d old new all lt far made =
    let rest = flat_map f (drop (i + 1) xs) in
    ap (λ (ys : List B). ys ++ rest) made
    ∙ append_assoc old (f (get_or xs i d)) rest
    ∙ ap (λ (ys : List A). old ++ flat_map f ys) (sym (drop_more xs i d lt))
    ∙ far

-- one more of two lists side by side
pub zip_more : {A B : Type 0} (R : A → B → Type 0) (xs : List A) (i : ℕ) (x : A) (ys : List B) (y : B) → i < length xs → x ≡ get_or xs i x → AllZip R (take i xs) ys → R x y → AllZip R (take (i + 1) xs) (ys ++ y ∷ [])
zip_more {A} {B} R xs i x ys y lt is far made =
    subst (λ (zs : List A). AllZip R zs (ys ++ y ∷ [])) (sym (take_more xs i x lt ∙ ap (λ (z : A). take i xs ++ z ∷ []) (sym is))) (all_zipped_more R (take i xs) ys x y far made)
