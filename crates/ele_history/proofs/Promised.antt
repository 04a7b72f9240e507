-- The entries of a legal history keep the headline.
use Rattle.std.proofs.Common.{List, [], ◌∷◌, ap}
use Rattle.ele_headline.specs.Headline.{HeadlineHolds}
use Rattle.ele_headline.proofs.Answered.{keeps}
use Rattle.ele_model.specs.declared.entry.Entry.{Entry}
use Rattle.ele_model.specs.declared.reply.Reply.{Reply}
use Rattle.ele_model.specs.Step.{step}
use Rattle.ele_model.specs.World.{World}
use Rattle.ele_history.specs.Legal.{IsLegal, KeepHeadline}

pub keep : HeadlineHolds → (w : World) (entries : List Entry) → IsLegal w entries → KeepHeadline w entries
keep law w [] legal = tt
keep law w (entry ∷ entries) legal =
    let after = (step w entry.event).1 in
    (keeps law w entry.event entry.reply after (ap (λ (reply : Reply). (reply, after)) legal.0), keep law after entries legal.1)
