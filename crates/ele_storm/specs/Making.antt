-- What the parts of a worker's rounds make. No public clause cites this module.
use Rattle.std.specs.Prelude.{ℕ, List, [], ◌∷◌}
use Rattle.ele_model.specs.declared.entry.Entry.{Entry}
use Rattle.ele_model.specs.declared.event.Event.{Event}
use Rattle.ele_model.specs.declared.reply.Reply.{Reply}
use Rattle.ele_shared_history.specs.Knowledge.{Knowledge}
use Rattle.ele_shared_history.specs.Running.{entry}
use Rattle.ele_storm.specs.Rounds.{AreOf, AreRounds, round_events}
use Rattle.ele_storm.specs.Work.{AddsCalls}
use Rattle.ele_storm_plan.specs.declared.plan.Task.{Task}

-- the seat has made exactly this event
abbrev pub MakesOne : Event → Knowledge → Knowledge → Type 0
MakesOne event before after = (reply : Reply) × AddsCalls before (entry event reply ∷ []) after

-- the seat has made exactly these events, through the handle that one of them opened
abbrev pub Makes : (ℕ → List Event) → Knowledge → Knowledge → Type 0
Makes events before after = (entries : List Entry) × AddsCalls before entries after × AreOf events entries

-- the seat has made exactly the events of a round
abbrev pub RunsRound : ℕ → Task → ℕ → Knowledge → Knowledge → Type 0
RunsRound writers task round before after = Makes (round_events writers task round) before after

-- the seat has made exactly the events of so many rounds
abbrev pub RunsRounds : ℕ → Task → ℕ → Knowledge → Knowledge → Type 0
RunsRounds writers task rounds before after =
    (entries : List Entry) × AddsCalls before entries after × AreRounds writers task rounds entries
