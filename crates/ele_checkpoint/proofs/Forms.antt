-- What the two laws of a form are, and the tools to prove them.
use Rattle.std.proofs.Common.{◌≡◌, ℕ, zero, suc, Bool, true, false, cond, List, [], ◌∷◌, ◌++◌, length, Result, Ok, Err, refl, sym, ap, subst, ◌∙◌, append_assoc}
use Rattle.std.specs.List.{flat_map, AllByRecursion}
use Rattle.std.proofs.lemmas.List.Concat.{flat_map-cons}
use Rattle.ele_checkpoint.specs.declared.fault.Mistake.{Mistake}
use Rattle.ele_checkpoint.specs.Reading.{◌>>=◌}
use Rattle.ele_checkpoint.specs.PartsRead.{items_at}

-- what was read is spelled so, and what is spelled so is read
pub record IsForm {X : Type 0} (text : X → List ℕ) (at : List ℕ → Result (X × List ℕ) Mistake) (Fits : X → Type 0) : Type 0 where
  pub takes : (bytes : List ℕ) (x : X) (rest : List ℕ) → at bytes ≡ Ok (x, rest) → bytes ≡ text x ++ rest
  pub again : (x : X) (rest : List ℕ) → Fits x → at (text x ++ rest) ≡ Ok (x, rest)

-- the value of a step that did not fail
pub bind_ok : {A B : Type 0} (r : Result A Mistake) (f : A → Result B Mistake) (y : B) → (r >>= f) ≡ Ok y → (x : A) × (r ≡ Ok x) × (f x ≡ Ok y)
bind_ok (Ok x) f y e = (x, refl, e)
bind_ok (Err d) f y e = absurd cc

-- the same, for whatever follows from that value and the bytes after it
pub peel : {A B P : Type 0} (r : Result (A × List ℕ) Mistake) (f : A × List ℕ → Result B Mistake) (y : B) → (r >>= f) ≡ Ok y → ((x : A) (rest : List ℕ) → r ≡ Ok (x, rest) → f (x, rest) ≡ Ok y → P) → P
peel (Ok x) f y e then = then x.0 x.1 refl e
peel (Err d) f y e then = absurd cc

-- a test that had to hold, and did
pub test_ok : {A : Type 0} (b : Bool) (d : Mistake) (x y : A) → cond b (Ok x) (Err d) ≡ Ok y → (b ≡ true) × (x ≡ y)
test_ok true d x y e = (refl, cc)
test_ok false d x y e = absurd cc

-- a test that had to fail, and did
pub guard_ok : {A : Type 0} (b : Bool) (d : Mistake) (r : Result A Mistake) (y : A) → cond b (Err d) r ≡ Ok y → (b ≡ false) × (r ≡ Ok y)
guard_ok true d r y e = absurd cc
guard_ok false d r y e = (refl, e)

abbrev done : {A : Type 0} → A → Result A Mistake
done x = Ok x

pub ok_is : {A : Type 0} (x y : A) → done x ≡ done y → x ≡ y
ok_is x y e = cc

-- two parts, one after the other
pub both : (a x b y c : List ℕ) → a ≡ x ++ b → b ≡ y ++ c → a ≡ x ++ y ++ c
both a x b y c p q = p ∙ ap (λ (t : List ℕ). x ++ t) q ∙ sym (append_assoc x y c)

module _ {X : Type 0} {text : X → List ℕ} {at : List ℕ → Result (X × List ℕ) Mistake} {Fits : X → Type 0} (form : IsForm text at Fits) where
  pub items_take : (n : ℕ) (bytes : List ℕ) (xs : List X) (rest : List ℕ) → items_at at n bytes ≡ Ok (xs, rest) → (bytes ≡ flat_map text xs ++ rest) × (length xs ≡ n)
  unfolding items_at
  items_take zero bytes xs rest e =
      subst (λ (y : List X × List ℕ). (bytes ≡ flat_map text y.0 ++ y.1) × (length y.0 ≡ 0)) (ok_is ([], bytes) (xs, rest) e) (refl, refl)
  items_take (suc n) bytes xs rest e =
      let a = bind_ok (at bytes) (λ first. items_at at n first.1 >>= λ others. Ok (first.0 ∷ others.0, others.1)) (xs, rest) e in
      let b = bind_ok (items_at at n a.0.1) (λ others. Ok (a.0.0 ∷ others.0, others.1)) (xs, rest) a.2 in
      let second = items_take n a.0.1 b.0.0 b.0.1 b.1 in
      let all = both bytes (text a.0.0) a.0.1 (flat_map text b.0.0) b.0.1 (form.takes bytes a.0.0 a.0.1 a.1) second.0 in
      subst (λ (y : List X × List ℕ). (bytes ≡ flat_map text y.0 ++ y.1) × (length y.0 ≡ suc n)) (ok_is (a.0.0 ∷ b.0.0, b.0.1) (xs, rest) b.2) (rw flat_map-cons all, ap suc second.1)

  pub items_again : (xs : List X) (rest : List ℕ) → AllByRecursion Fits xs → items_at at (length xs) (flat_map text xs ++ rest) ≡ Ok (xs, rest)
  unfolding items_at
  items_again [] rest fits = refl
  items_again (x ∷ xs) rest fits =
      let regrouped : flat_map text (x ∷ xs) ++ rest ≡ text x ++ (flat_map text xs ++ rest) = ap (λ (t : List ℕ). t ++ rest) (flat_map-cons text x xs) ∙ append_assoc (text x) (flat_map text xs) rest in
      ap (items_at at (suc (length xs))) regrouped ∙ rw (form.again x (flat_map text xs ++ rest) fits.0, items_again xs rest fits.1) refl
