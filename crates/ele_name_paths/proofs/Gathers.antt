-- Rows that are gathered one after another from a list.
use Rattle.ele_name_paths.proofs.Basics.{List, [], append_assoc, append-nil, ap, length, drop, refl, sym, subst, ℕ, ◌++◌, ◌∷◌, ◌≡◌, ◌≤◌, ◌<◌, ◌+◌, ◌∙◌, get_or, false, true, drop_more, at_drop_all}
use Rattle.std.proofs.lemmas.List.Elements.{filter-append}
use Rattle.std.specs.List.{AllZip}
use Rattle.std.specs.Prelude.{Bool, filter}

-- ---- lists

pub each_append : {A B : Type 0} (R : A → B → Type 0) (xs ys : List A) (us vs : List B) → AllZip R xs us → AllZip R ys vs → AllZip R (xs ++ ys) (us ++ vs)
each_append R [] ys [] vs h k = k
each_append R [] ys (u ∷ us) vs h k = absurd h
each_append R (x ∷ xs) ys [] vs h k = absurd h
each_append R (x ∷ xs) ys (u ∷ us) vs h k = (h.0, each_append R xs ys us vs h.1 k)

-- whatever rows the other elements have, they go after these
abbrev pub Gathers : {A B : Type 0} → (A → B → Type 0) → List A → List A → List B → Type 0
Gathers {A} {B} R all left rows = (rest : List B) → AllZip R left rest → AllZip R all (rows ++ rest)

pub gathers_none : {A B : Type 0} (R : A → B → Type 0) (all : List A) → Gathers R all all []
gathers_none R all = λ rest h. h

pub gathers_new : {A B : Type 0} (R : A → B → Type 0) (all : List A) (rows : List B) → rows ≡ [] → Gathers R all all rows
gathers_new R all rows none = rw none (gathers_none R all)

pub gathers_more : {A B : Type 0} (R : A → B → Type 0) (all left here next : List A) (rows added more : List B) → left ≡ here ++ next → AllZip R here added → more ≡ rows ++ added → Gathers R all left rows → Gathers R all next more
gathers_more R all left here next rows added more is added_are more_is so =
    λ rest h. rw more_is (rw append_assoc (so (added ++ rest) (rw is (each_append R here next added rest added_are h))))

pub gathers_done : {A B : Type 0} (R : A → B → Type 0) (all left : List A) (rows : List B) → left ≡ [] → Gathers R all left rows → AllZip R all rows
gathers_done {A} {B} R all left rows is so = subst (λ (us : List B). AllZip R all us) (append-nil rows) (so [] (rw is tt))

-- ---- the entries that are left

pub left_more : {A : Type 0} (xs : List A) (i : ℕ) (x : A) → i < length xs → x ≡ get_or xs i x → drop i xs ≡ x ∷ drop (i + 1) xs
left_more {A} xs i x lt is = drop_more xs i x lt ∙ ap (λ (y : A). y ∷ drop (i + 1) xs) (sym is)

pub left_none : {A : Type 0} (xs : List A) (i : ℕ) → length xs ≤ i → drop i xs ≡ []
left_none {A} xs i le = at_drop_all (λ (ys : List A). ys) xs i le

-- ---- handles, one by one

pub each_more : {A B : Type 0} (R : A → B → Type 0) (all : List A) (i : ℕ) (x : A) (rows more : List B) (row : B) → i < length all → x ≡ get_or all i x → R x row → more ≡ rows ++ row ∷ []
    → Gathers R all (drop i all) rows → Gathers R all (drop (i + 1) all) more
each_more R all i x rows more row lt is of more_is so = gathers_more R all (drop i all) (x ∷ []) (drop (i + 1) all) rows (row ∷ []) more (left_more all i x lt is) (of, tt) more_is so

pub each_done : {A B : Type 0} (R : A → B → Type 0) (all : List A) (i : ℕ) (rows : List B) → length all ≤ i → Gathers R all (drop i all) rows → AllZip R all rows
each_done R all i rows le so = gathers_done R all (drop i all) rows (left_none all i le) so

-- ---- elements that pass a test, one by one

pub kept_more : {A B : Type 0} (R : A → B → Type 0) (keep : A → Bool) (all : List A) (xs : List A) (i : ℕ) (x : A) (rows added more : List B) → i < length xs → x ≡ get_or xs i x
    → AllZip R (filter keep (x ∷ [])) added → more ≡ rows ++ added → Gathers R all (filter keep (drop i xs)) rows → Gathers R all (filter keep (drop (i + 1) xs)) more
kept_more {A} R keep all xs i x rows added more lt is of more_is so =
    gathers_more R all (filter keep (drop i xs)) (filter keep (x ∷ [])) (filter keep (drop (i + 1) xs)) rows added more
    (ap (λ (left : List A). filter keep left) (left_more xs i x lt is) ∙ filter-append keep (x ∷ []) (drop (i + 1) xs)) of more_is so

pub kept_done : {A B : Type 0} (R : A → B → Type 0) (keep : A → Bool) (all : List A) (xs : List A) (i : ℕ) (rows : List B) → length xs ≤ i → Gathers R all (filter keep (drop i xs)) rows → AllZip R all rows
kept_done {A} R keep all xs i rows le so = gathers_done R all (filter keep (drop i xs)) rows (ap (λ (left : List A). filter keep left) (left_none xs i le)) so

-- and rows that stood before them
pub record Adds {A B : Type 0} (R : A → B → Type 0) (all left : List A) (first rows : List B) : Type 0 where
  pub added : List B
  pub is : rows ≡ first ++ added
  pub gathers : Gathers R all left added

pub adds_none : {A B : Type 0} (R : A → B → Type 0) (all : List A) (rows : List B) → Adds R all all rows rows
adds_none R all rows = record { added = []; is = sym (append-nil rows); gathers = gathers_none R all }

pub adds_more : {A B : Type 0} (R : A → B → Type 0) (keep : A → Bool) (all : List A) (xs : List A) (i : ℕ) (x : A) (first rows added more : List B) → i < length xs → x ≡ get_or xs i x
    → AllZip R (filter keep (x ∷ [])) added → more ≡ rows ++ added → Adds R all (filter keep (drop i xs)) first rows → Adds R all (filter keep (drop (i + 1) xs)) first more
adds_more R keep all xs i x first rows added more lt is of more_is so = record {
  added = so.added ++ added;
  is = more_is ∙ (rw so.is (append_assoc first so.added added));
  gathers = kept_more R keep all xs i x so.added added (so.added ++ added) lt is of refl so.gathers;
}

pub adds_done : {A B : Type 0} (R : A → B → Type 0) (keep : A → Bool) (all : List A) (xs : List A) (i : ℕ) (first rows : List B) → length xs ≤ i → Adds R all (filter keep (drop i xs)) first rows
    → (added : List B) × AllZip R all added × (rows ≡ first ++ added)
adds_done R keep all xs i first rows le so = (so.added, kept_done R keep all xs i so.added le so.gathers, so.is)

-- ---- one element that may pass

pub keeps_one : {A B : Type 0} (R : A → B → Type 0) (keep : A → Bool) (x : A) (row : B) (rows more : List B) → keep x ≡ true → R x row → more ≡ rows ++ row ∷ []
    → (added : List B) × AllZip R (filter keep (x ∷ [])) added × (more ≡ rows ++ added)
keeps_one R keep x row rows more kept is pushed = (row ∷ [], rw kept (is, tt), pushed)

pub keeps_no : {A B : Type 0} (R : A → B → Type 0) (keep : A → Bool) (x : A) (rows more : List B) → keep x ≡ false → more ≡ rows
    → (added : List B) × AllZip R (filter keep (x ∷ [])) added × (more ≡ rows ++ added)
keeps_no R keep x rows more other same = ([], rw other tt, same ∙ sym (append-nil rows))
