-- What the last seat gets at the end.
use Rattle.std.specs.Prelude.{◌≡◌, List}
use Rattle.ele_history.specs.Legal.{IsLegal}
use Rattle.ele_history.specs.Past.{Past, world_of}
use Rattle.ele_shared_history.specs.declared.ledger.Call.{Call}
use Rattle.ele_shared_history.specs.Knowledge.{Knowledge}
use Rattle.ele_shared_history.specs.Running.{continued, entries_of, own_of, StartsWith}

-- the history at the start, followed by a shared history that the seat has seen a prefix of; under the seat's numbers it has exactly the
-- seat's own calls
pub record Closes (opening : Past) (k : Knowledge) (history : Past) : Type 0 where
  pub log : List Call
  pub after : history ≡ continued opening (entries_of log)
  pub legal : IsLegal (world_of opening) (entries_of log)
  pub view : StartsWith log k.view
  pub own : own_of k.numbers log ≡ k.own
