-- A store whose world gets fresh numbers and keeps its past.
use Rattle.ele_embed.specs.Embedding.{Embedding}
pub use Rattle.ele_keeper.specs.Renewal.{IsNotRenewed, renewed_state}
use Rattle.ele_runs.specs.declared.said.Said.TheVariants.{Nothing}

-- the last answer has the old numbers, so it is dropped; the text stays
abbrev pub renewed_store : Embedding → Embedding
renewed_store store = record store { state = renewed_state store.state; said = Nothing }
