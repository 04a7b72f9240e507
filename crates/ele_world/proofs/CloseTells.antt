-- Which closes and which undeletes make a version.
use Rattle.ele_model.proofs.Basics.{nat_tests, arith, ◌≡◌, ℕ, false, List, Some, None, Ok, refl, subst}
use Rattle.ele_model.proofs.Words.{World, EndDraft, ShutHandle, after_change, has_draft, last_target, nameless, next_of, parent_now, plan}
use Rattle.ele_world.proofs.Words.{Close, Target, File, Undelete}
use Rattle.ele_model.specs.declared.reply.Reply.TheVariants as reply
use Rattle.ele_world.specs.CloseTells.{CloseTells, CloseLeaves}
use Rattle.ele_world.specs.UndeleteRevives.{RevivesFile, UndeleteRevives}
use Rattle.ele_model.proofs.Dropped.{dropped_versions}
use Rattle.ele_model.proofs.PlanOutcomes.{in_all}
use Rattle.ele_model.proofs.Readers.{reads_draft}

pub close_tells : CloseTells
close_tells w handle file draft written drafted = grind (arith, nat_tests, drafted, reads_draft w handle file written)

pub close_leaves : CloseLeaves
close_leaves w handle = in_all w (λ answer. answer.0 ≡ reply.Closed None → (answer.1).versions ≡ w.versions) (plan w (Close handle)) (λ refusal told. absurd cc)
    (λ read found. (λ none told. refl, λ file writes. (λ other told. refl, λ last. (λ none told. refl, λ draft drafted. (λ changed told. absurd cc, λ same told. dropped_versions (after_change (after_change w (ShutHandle handle)) (EndDraft file)) file)))))

lost_is : (w : World) (path : List (List ℕ)) (at : ℕ × List ℕ) (lost : Target) (file : ℕ) → parent_now w.names path ≡ Ok at → last_target w.names at.0 at.1 ≡ Ok lost → nameless w lost ≡ Some file → has_draft w file ≡ false → RevivesFile w path (next_of w.files file)
lost_is w path at lost file stands last none drafts =
    let is : lost ≡ File file = grind (arith, nat_tests, none) in
    record { home = at; file = file; stands = stands; lost = grind (arith, nat_tests, last, is); nameless = grind (arith, nat_tests, none, is); undrafted = drafts; numbered = refl }

pub undelete_revives : UndeleteRevives
undelete_revives w path number = in_all w (λ answer. answer.0 ≡ reply.Version number → RevivesFile w path number) (plan w (Undelete path)) (λ refusal told. absurd cc)
    (λ at found free lost last returns. (λ none names told. absurd cc, λ file none drafts names versions told. let same : next_of w.files file ≡ number = cc in subst (RevivesFile w path) same (lost_is w path at lost file found last none drafts)))
