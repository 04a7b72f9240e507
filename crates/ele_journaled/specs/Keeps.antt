-- Which files keep a world with its journal.
use Rattle.std.specs.Prelude.{◌≡◌, ℕ, ◌≤◌, true, List, [], ◌∷◌, length, Option, Some, IfSome}
use Rattle.std.specs.List.{list_all}
use Rattle.ele_model.specs.declared.event.Event.{Event}
use Rattle.ele_model.specs.Run.{run_of}
use Rattle.ele_model.specs.Start.{IsStart}
use Rattle.ele_model.specs.World.{World}
use Rattle.ele_journal.specs.Changes.{AreChanges, last_check}
use Rattle.ele_journal.specs.Events.{changes}
use Rattle.ele_journal.specs.Journal.{IsBase, first_check, journal}
use Rattle.ele_journaled.specs.JournalState.{JournalState, confirming}
use Rattle.ele_journaled.specs.declared.offer.Offer.{Offer}

-- the world after changes, one after the other
abbrev pub world_after : World → List (List Event) → World
world_after base [] = base
world_after base (change ∷ changes) = world_after (run_of base change) changes

-- the file is the journal of a base that a run may begin in and of changes. It ends with the check of the state, and the changes lead to
-- the world, all but the change under way
pub record Keeps (file : List ℕ) (w : World) (state : JournalState) : Type 0 where
  pub base : World
  pub changes : List (List Event)
  pub begins : IsStart base
  pub text : file ≡ journal base changes
  pub check : state.check ≡ last_check (first_check base) changes
  pub world : w ≡ run_of (world_after base changes) state.change

-- the file keeps them once it is said that the bytes that were given last are on the disk
abbrev pub WillKeep : List ℕ → World → JournalState → Type 0
WillKeep file w state = (offer : Offer) → state.offer ≡ Some offer → Keeps file w (confirming state (Some offer))

-- each file that keeps the world and the state before keeps those after, and each that will keep the one will keep the other
pub record StaysKept (w : World) (before : JournalState) (v : World) (after : JournalState) : Type 0 where
  pub kept : (file : List ℕ) → Keeps file w before → Keeps file v after
  pub offered : (file : List ℕ) → WillKeep file w before → WillKeep file v after

-- what the types and the memory say of a base and of changes
pub record AreGiven (base : World) (changes : List (List Event)) : Type 0 where
  pub a_base : IsBase base
  pub are_changes : AreChanges changes

-- the invariant of the type: the change has no question, and it has the events of the bytes that were given last
pub record IsSound (change : List Event) (offer : Option Offer) : Type 0 where
  pub changing : list_all changes change ≡ true
  pub within : IfSome offer (λ offer. offer.count ≤ length change)
