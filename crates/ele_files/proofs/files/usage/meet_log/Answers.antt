use Rattle.ele_files.proofs.Lemmas.{AllByRecursion, List, LivesIn, LogRow, Meets, log_places, meets_none, meets_then, places_from, shown, subst, sym}
use Rattle.ele_files.proofs.files.usage.meet_log.Goals as goal

pub loop-row-preserved : goal.loop-row-preserved
loop-row-preserved c =
    let s = c.args.store.now in
    record {
      lives = (subst (AllByRecursion (λ (row : LogRow). LivesIn s row.cells)) c.in-Some.ensures.steps c.loop-row.invariant.lives).1;
      met = λ id keys meets.
          let both = meets_then id c.loop-row.met.keys c.meet.new.met.keys keys (places_from id 0 (shown s c.in-Some.row.now.cells)) (log_places s c.next.new.self id) (c.in_ok-meet.ensures id) meets in
          c.loop-row.invariant.met id keys (subst (λ (rows : List LogRow). Meets id c.loop-row.met.keys keys (log_places s rows id)) (sym c.in-Some.ensures.steps) both);
    }

pub returns : goal.returns
returns c = λ id. c.loop-row.invariant.met id c.loop-row.met.keys (subst (λ (rows : List LogRow). Meets id c.loop-row.met.keys c.loop-row.met.keys (log_places c.args.store.now rows id)) (sym c.in-None.ensures.steps.0) (meets_none id c.loop-row.met.keys))
