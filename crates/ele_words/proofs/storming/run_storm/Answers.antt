use Rattle.ele_words.proofs.storming.run_storm.Goals as goal

pub returns-then-watched : goal.returns-then-watched
returns-then-watched g c =
    let ended = c.storm_and_watch-ended in
    rw c.if-watched.true (record {
      most = ended.ensures.most;
      progress = ended.ensures.progress;
      ends = record { ended = ended.result; has_stormed = ended.ensures.stormed; told = c.tell_ended.ensures };
      behind = ended.ensures.behind;
    })
