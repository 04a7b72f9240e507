-- What a seat knows. No public clause cites this module.
use Rattle.atomic_table.specs.Seated.{TableId}
use Rattle.ele_shared_history.specs.declared.ledger.View.{View}
use Rattle.ele_shared_history.specs.Knowledge.{Knowledge}

abbrev pub knowledge : TableId → View → Knowledge
knowledge name v = record {
  object = record { name = name; opening = v.opening };
  numbers = v.numbers;
  view = v.seen;
  own = v.own;
  known = v.known;
}
