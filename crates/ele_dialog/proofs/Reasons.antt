-- Why a line is bad.
use Rattle.std.specs.Prelude.{IfNone, IfSome}
use Rattle.ele_dialog.proofs.Basics.{List, None, Option, Some, [], false, inl, inr, refl, sym, true, ℕ, ◌∙◌, ◌≡◌}
use Rattle.ele_model.specs.declared.reply.Reply.{Reply}
use Rattle.ele_dialog.specs.Places.{places_of}
use Rattle.ele_dialog.specs.declared.places.Places.{Places}
use Rattle.ele_dialog.specs.Answer.{IsMadeFirst, IsReasonText, dialog_options, is_bad}
use Rattle.ele_reasons.specs.declared.reasons.Reason.{Reason}
use Rattle.ele_runs.specs.LineLength.{line_unless_long}
use Rattle.ele_run_options.specs.declared.options.RunOptions.{RunOptions}
use Rattle.ele_runs.specs.WhyBad.{IsBadReason, IsToldReason, IsUntold, why_line}
use Rattle.ele_runs.specs.declared.said.Said.{Said}
use Rattle.ele_runs.specs.declared.said.Said.TheVariants.{Bad}

pub bad_reason : (number : ℕ) (line : List ℕ) (said : Said) (why : Option Reason) → is_bad said ≡ true → IsBadReason dialog_options (line_unless_long line) why → IsReasonText number line said (why_line number why)
bad_reason number line said why bad is = rw bad (why, is, refl)

pub no_reason : (number : ℕ) (line : List ℕ) (said : Said) → is_bad said ≡ false → IsReasonText number line said []
no_reason number line said well = rw well refl

pub no_reason_text : (number : ℕ) (line : List ℕ) (said : Said) (text : List ℕ) → is_bad said ≡ false → IsReasonText number line said text → text ≡ []
no_reason_text number line said text good is = rw good at is

-- an answer with dates is made before it is printed
pub with_places : (said : Said) (last : Option Reply) (places : Places) → places_of said last ≡ Some places → IsMadeFirst said last
with_places said last places is = inl (λ none. let both : ◌≡◌ {A = Option Places} (Some places) None = sym is ∙ none in absurd cc)

-- such an answer is none of a bad line
pub made_good : (said : Said) (last : Option Reply) → IsMadeFirst said last → is_bad said ≡ false
made_good (Bad fault) last (inl places) = absurd (places refl)
made_good (Bad fault) last (inr heading) = absurd (heading refl)
made_good said last made = refl

-- the reason that is found, or none
pub bad_why : (options : RunOptions) (line : Option (List ℕ)) (why : Option Reason) → IfSome why (IsToldReason options line) → IfNone why (IsUntold options line) → IsBadReason options line why
bad_why options line None some none = none
bad_why options line (Some why) some none = some
