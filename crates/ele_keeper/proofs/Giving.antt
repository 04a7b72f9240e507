-- The bytes that a journal gives.
use Rattle.std.proofs.Common.{◌≡◌, ℕ, List, [], ◌∷◌, Option, Some, None, is_some, true, false, refl, sym, ap, ◌∙◌}
use Rattle.std.specs.Prelude.{◌≢◌}
use Rattle.ele_keeper.specs.Journals.{IsNotGiven, after_pending, compacted_state, is_offered, pended_state, pending_bytes, pending_text, settled_state}
use Rattle.ele_keeper.specs.Kept.{journaled_state, state_of, with_journal}
use Rattle.ele_keeper.specs.declared.keeper.Keeper.{Keeper}
use Rattle.ele_keeper.specs.declared.keeper.Keeper.TheVariants as keeper
use Rattle.ele_journal.specs.Changes.{change_text}
use Rattle.ele_journaled.specs.JournalState.{Extends, JournalState, extending, forgetting, settling}
use Rattle.ele_model.specs.declared.event.Event.{Event}
use Rattle.ele_runs.specs.Kept.{Kept, Plain, Recorded, Journaled, journal_in}

none_given_by : (before after : JournalState) (change : List Event) → change ≡ [] → after ≡ forgetting before
    → (after ≡ after_pending before change) × ([] ≡ pending_bytes before.check change)
none_given_by before after change none new = rw none (new, refl)

-- no bytes of no event
pub none_given : (before after : JournalState) → Extends before None after → (after ≡ after_pending before before.change) × ([] ≡ pending_bytes before.check before.change)
none_given before after is = none_given_by before after before.change is.0 is.1

some_given_by : (before after : JournalState) (bytes : List ℕ) (change : List Event) → before.change ≡ change → before.change ≢ [] → bytes ≡ change_text before.check before.change → after ≡ extending before
    → (after ≡ after_pending before change) × (bytes ≡ pending_bytes before.check change)
some_given_by before after bytes [] is some text new = absurd (some is)
some_given_by before after bytes (event ∷ events) is some text new = (new, text ∙ ap (change_text before.check) is)

pub some_given : (before after : JournalState) (bytes : List ℕ) → Extends before (Some bytes) after → (after ≡ after_pending before before.change) × (bytes ≡ pending_bytes before.check before.change)
some_given before after bytes is = some_given_by before after bytes before.change refl is.0 is.1 is.2

-- the state of a store without a journal
pub nothing_settled : (it : Keeper) → settled_state (state_of it) ≡ state_of it
nothing_settled (keeper.Plain core last) = refl
nothing_settled (keeper.Recorded past) = refl
