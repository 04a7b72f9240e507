-- What is put of a text, piece after piece, with a list in its middle.
use Rattle.std.proofs.Common.{◌≡◌, ℕ, ◌+◌, ◌<◌, ◌≤◌, List, ◌++◌, length, drop, get_or, refl, ap, ◌∙◌, append_assoc}
use Rattle.std.proofs.lemmas.List.{at_drop_all}
use Rattle.std.specs.List.{flat_map}
use Rattle.ele_output.specs.Outlet.{Outlet, Puts}
use Rattle.ele_output.proofs.Known.{HasPut, put_as, put_first, put_more}
use Rattle.ele_output.proofs.Lists.{here, lines_here}

-- the first piece is put, and the others are left
pub put_start : {a b : Outlet} {x y : List ℕ} → Puts a b x → HasPut a b (x ++ y) y
put_start p = put_first refl p

-- the next piece is put
pub put_next : {a b c : Outlet} {whole x y : List ℕ} → HasPut a b whole (x ++ y) → Puts b c x → HasPut a c whole y
put_next h p = put_more h refl p

-- at an item of a list, its line is put, and the others and what follows them are left
pub list_more_then : {A : Type 0} {a b c : Outlet} {whole : List ℕ} (line : A → List ℕ) (xs : List A) (i : ℕ) (x : A) (after : List ℕ)
    → i < length xs → x ≡ get_or xs i x → HasPut a b whole (flat_map line (drop i xs) ++ after) → Puts b c (line x) → HasPut a c whole (flat_map line (drop (i + 1) xs) ++ after)
list_more_then line xs i x after lt is h p =
    put_more h (ap (λ (text : List ℕ). text ++ after) (lines_here line xs i x lt is) ∙ append_assoc (line x) (flat_map line (drop (i + 1) xs)) after) p

-- at a byte, its text is put, and the others and what follows them are left
pub byte_more_then : {A : Type 0} {a b c : Outlet} {whole : List ℕ} (line : A → List ℕ) (xs : List A) (i : ℕ) (d : A) (after : List ℕ)
    → i < length xs → HasPut a b whole (flat_map line (drop i xs) ++ after) → Puts b c (line (get_or xs i d)) → HasPut a c whole (flat_map line (drop (i + 1) xs) ++ after)
byte_more_then line xs i d after lt h p =
    put_more h (ap (λ (text : List ℕ). text ++ after) (here line xs i d lt) ∙ append_assoc (line (get_or xs i d)) (flat_map line (drop (i + 1) xs)) after) p

-- at the end of a list, what follows it is left
pub list_past : {A : Type 0} {a b : Outlet} {whole : List ℕ} (line : A → List ℕ) (xs : List A) (i : ℕ) (after : List ℕ)
    → length xs ≤ i → HasPut a b whole (flat_map line (drop i xs) ++ after) → HasPut a b whole after
list_past {A} line xs i after le h = put_as h (ap (λ (text : List ℕ). text ++ after) (at_drop_all (λ (ys : List A). flat_map line ys) xs i le))
