-- What can be decided of numbers and texts.
use Rattle.ele_script.proofs.Basics.{◌≡◌, ℕ, Bool, true, false, List, ◌++◌, length, drop, refl, sym, ap, ◌∙◌, false≢true, bytes_decides, dec_le}
use Rattle.std.specs.Bool.{Decides}
use Rattle.std.specs.Int.{IsInRange}
use Rattle.std.specs.Str.{bytes_eq}
use Rattle.std.proofs.Math.Seq.{drop-append_seam}

pub told : {P : Type 0} (test : Bool) → Decides test P → Dec P
told true decides = yes (decides.0 refl)
told false decides = no (λ is. false≢true (decides.1 is))

pub dec_same : (a b : List ℕ) → Dec (a ≡ b)
dec_same a b = told (bytes_eq a b) (bytes_decides a b)

pub dec_true : (test : Bool) → Dec (test ≡ true)
dec_true true = yes refl
dec_true false = no false≢true

pub dec_in : (low high n : ℕ) → Dec (IsInRange low high n)
dec_in low high n = elim (dec_le low n) [
  | no below ↦ no (λ is. below is.0)
  | yes least ↦ elim (dec_le n high) [
    | no above ↦ no (λ is. above is.1)
    | yes most ↦ yes (least, most)
  ]
]

-- only one text follows a prefix
pub same_behind : (front a b : List ℕ) → front ++ a ≡ front ++ b → a ≡ b
same_behind front a b same =
    sym (drop-append_seam front a) ∙ ap (λ (xs : List ℕ). drop (length front) xs) same ∙ drop-append_seam front b

-- a word begins with a prefix or doesn't
pub dec_behind : (front word : List ℕ) → Dec ((rest : List ℕ) × (word ≡ front ++ rest))
dec_behind front word = elim (dec_same word (front ++ drop (length front) word)) [
  | yes is ↦ yes (drop (length front) word, is)
  | no other ↦ no (λ h. other (h.1 ∙ ap (λ (xs : List ℕ). front ++ xs) (sym (drop-append_seam front h.0) ∙ ap (λ (xs : List ℕ). drop (length front) xs) (sym h.1))))
]
