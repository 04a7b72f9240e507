-- After a default event the directory at its path has that default policy, every other directory has its own, and nothing else has changed.
use Rattle.std.specs.Prelude.{◌≡◌, ℕ, ◌==◌, false, List, map, Ok, find}
use Rattle.ele_policy.specs.declared.policy.Policy.{Policy}
use Rattle.ele_model.specs.declared.event.Event.TheVariants.{SetDefault}
use Rattle.ele_model.specs.declared.reply.Reply.TheVariants.{Done}
use Rattle.ele_model.specs.Step.{step}
use Rattle.ele_model.specs.Walk.{directory_now}
use Rattle.ele_model.specs.WellFormed.{IsWellFormed}
use Rattle.ele_model.specs.World.{World, is_directory, default_of}

pub record GovernsDirectory (before : World) (path : List (List ℕ)) (policy : Policy) (after : World) : Type 0 where
  pub directory : ℕ
  pub named : directory_now before.names path ≡ Ok directory
  pub governs : default_of after.directories directory ≡ policy
  pub others : (other : ℕ) → (other == directory) ≡ false → find (is_directory other) after.directories ≡ find (is_directory other) before.directories
  pub directories : map (λ row. row.id) after.directories ≡ map (λ row. row.id) before.directories
  pub rest : after ≡ record before { directories = after.directories }

abbrev pub DefaultGoverns : Type 0
DefaultGoverns =
    (w : World) (path : List (List ℕ)) (policy : Policy) → IsWellFormed w → (step w (SetDefault path policy)).0 ≡ Done
    → GovernsDirectory w path policy ((step w (SetDefault path policy)).1)
