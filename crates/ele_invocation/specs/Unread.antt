-- Why the matches of a forecast give none. No public clause cites this module.
use Rattle.ele_invocation.specs.declared.reading.Unread.{Unread}
use Rattle.ele_invocation.specs.declared.reading.Unread.TheVariants.{Because, BadRule, NoMemory}

-- nothing is what they ask for, unless memory was refused
abbrev pub NoneAsks : {X : Type 0} → (X → Type 0) → Unread → Type 0
NoneAsks {X} Asks (Because text) = (x : X) → ¬ Asks x
NoneAsks {X} Asks (BadRule fault) = (x : X) → ¬ Asks x
NoneAsks {X} Asks NoMemory = Unit {0}
