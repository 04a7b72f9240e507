-- What follows the name of a refusal.
use Rattle.ele_model.proofs.Basics.{◌≡◌, Option, [], ℕ, refl}
use Rattle.ele_model.specs.AnswerText.{refusal_details}
use Rattle.ele_model.specs.declared.refusal.Refusal.{Refusal}
use Rattle.ele_model.specs.declared.refusal.Refusal.TheVariants.{Forgotten, Full}
use Rattle.ele_model.specs.declared.refusal.Which.{Which}

-- nothing, but of two of them
pub none_follow : (why : Refusal) → ((before : Option ℕ) → why ≡ Forgotten before → ⊥) → ((which : Which) → why ≡ Full which → ⊥) → refusal_details why ≡ []
none_follow (Forgotten before) other full = absurd (other before refl)
none_follow (Full which) other full = absurd (full which refl)
none_follow why other full = refl
