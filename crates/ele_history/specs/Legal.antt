-- What a legal history is.
use Rattle.std.specs.Prelude.{◌≡◌, List, [], ◌∷◌}
use Rattle.ele_model.specs.declared.entry.Entry.{Entry}
use Rattle.ele_headline.specs.Headline.{KeepsHeadline}
use Rattle.ele_model.specs.Step.{step}
use Rattle.ele_model.specs.World.{World}

-- from this world on, each entry's reply is that of the step in the world after the entries before it
abbrev pub IsLegal : World → List Entry → Type 0
IsLegal w [] = Unit {0}
IsLegal w (entry ∷ entries) = (entry.reply ≡ (step w entry.event).0) × IsLegal ((step w entry.event).1) entries

-- each of them keeps the headline, in whatever run led to the world before it
abbrev pub KeepHeadline : World → List Entry → Type 0
KeepHeadline w [] = Unit {0}
KeepHeadline w (entry ∷ entries) = KeepsHeadline w entry.event entry.reply ((step w entry.event).1) × KeepHeadline ((step w entry.event).1) entries
