-- A world that gets fresh numbers and keeps its past.
use Rattle.std.specs.Prelude.{◌≡◌, ◌<◌, is_some, true, None}
use Rattle.ele_history.specs.Past.{begun_from, world_of}
use Rattle.ele_keeper.specs.declared.renewal.RenewalError.{RenewalError}
use Rattle.ele_keeper.specs.declared.renewal.RenewalError.TheVariants.{HasJournal, Open, Stop}
use Rattle.ele_model.specs.declared.refusal.Stop.TheVariants.{HistoryFull, NoMemory}
use Rattle.ele_renewal.specs.Renewed.{IsClosed, renewed}
use Rattle.ele_runs.specs.Kept.{Kept, Plain, Recorded, Journaled, has_past, journal_in, world_in}

-- the world is renewed, and a history begins anew in it, with one folded entry. A state with a journal isn't renewed
abbrev pub renewed_state : Kept → Kept
renewed_state (Plain w last) = Plain (renewed w) None
renewed_state (Recorded past) = Recorded (begun_from (renewed (world_of past)) 1)
renewed_state (Journaled kept journal) = Journaled kept journal

-- why it wasn't renewed: it has a journal; it has a handle or a draft; memory was refused; or the limits allow its history no entry
abbrev pub IsNotRenewed : Kept → RenewalError → Type 0
IsNotRenewed state HasJournal = is_some (journal_in state) ≡ true
IsNotRenewed state Open = IsClosed (world_in state) → ⊥
IsNotRenewed state (Stop NoMemory) = Unit {0}
IsNotRenewed state (Stop HistoryFull) = (has_past state ≡ true) × ((world_in state).limits.events < 1)
