-- After a policy event the file at its path has the policy, every other file has its own, and nothing else has changed.
use Rattle.std.specs.Prelude.{◌≡◌, ℕ, ◌==◌, false, List, map, Some, Ok, find}
use Rattle.ele_policy.specs.declared.policy.Policy.{Policy}
use Rattle.ele_model.specs.declared.event.Event.TheVariants.{SetPolicy}
use Rattle.ele_model.specs.declared.reply.Reply.TheVariants.{Done}
use Rattle.ele_model.specs.Step.{step}
use Rattle.ele_model.specs.Walk.{file_now}
use Rattle.ele_model.specs.WellFormed.{IsWellFormed}
use Rattle.ele_model.specs.World.{World, is_file, policy_of, next_of}

pub record GovernsFile (before : World) (path : List (List ℕ)) (policy : Policy) (after : World) : Type 0 where
  pub file : ℕ
  pub named : file_now before.names path ≡ Ok file
  pub governs : policy_of after.files file ≡ Some policy
  pub next : next_of after.files file ≡ next_of before.files file
  pub others : (other : ℕ) → (other == file) ≡ false → find (is_file other) after.files ≡ find (is_file other) before.files
  pub files : map (λ row. row.id) after.files ≡ map (λ row. row.id) before.files
  pub rest : after ≡ record before { files = after.files }

abbrev pub PolicyGoverns : Type 0
PolicyGoverns =
    (w : World) (path : List (List ℕ)) (policy : Policy) → IsWellFormed w → (step w (SetPolicy path policy)).0 ≡ Done
    → GovernsFile w path policy ((step w (SetPolicy path policy)).1)
