use Rattle.ele_state.proofs.Words.{placed_of, world_of, not, ap, comes, Rule, rule_in, true, has_key, ◌&&◌, ◌∙◌, ◌≡◌, ◌||◌}
use Rattle.ele_state.proofs.Unlinked.{ended_book, ended_queue, name_there, still_queued}
use Rattle.std.specs.Prelude.{max}
use Rattle.ele_state.proofs.name.end_last_name.Goals as goal

pub head-head-requires : goal.head-head-requires
head-head-requires c = name_there c.args.rows.now c.args.directory c.args.name.now c.args.file c.requires.sound c.requires.stands

pub freed-requires-clause-placed : goal.freed-requires-clause-placed
freed-requires-clause-placed c = placed_of (world_of c.args.rows.now) c.requires.sound.formed

pub returns-in_err-put_changed-clause-tracked : goal.returns-in_err-put_changed-clause-tracked
returns-in_err-put_changed-clause-tracked c =
    let rows = c.args.rows.now in
    let newest : c.max.result ≡ max (rule_in c.head-head.result.policy true).newer 1 = c.max.ensures ∙ ap (λ (rule : Rule). max rule.newer 1) c.rule_in-asked.ensures in
    record {
      queue = still_queued rows c.args.directory c.args.name.now c.args.file c.requires.sound c.requires.stands c.requires.last c.head-head.result.policy c.head-head.ensures.policy c.max.result newest c.put_changed.new.queue
          (λ k. c.in_err-put_changed.ensures.err k ∙ ap (λ b. not b && has_key k rows.queue) (ap (λ changes. comes changes k) c.deref.ensures.value ∙ c.in_ok-changes.ensures k));
      book = c.requires.sound.tracked.book;
      bounds = c.requires.sound.tracked.bounds;
    }

pub returns-clause-tracked : goal.returns-clause-tracked
returns-clause-tracked c =
    let rows = c.args.rows.now in
    let newest : c.max.result ≡ max (rule_in c.head-head.result.policy true).newer 1 = c.max.ensures ∙ ap (λ (rule : Rule). max rule.newer 1) c.rule_in-asked.ensures in
    rw (c.kill_found.ensures, c.end_current.ensures) (record {
      queue = ended_queue rows c.args.directory c.args.name.now c.args.file c.requires.sound c.requires.stands c.requires.last c.head-head.result.policy c.head-head.ensures.policy c.max.result newest c.put_changed.new.queue
          (λ k. c.in_ok-put_changed.ensures.ok k ∙ ap (λ b. b || has_key k rows.queue) (ap (λ changes. comes changes k) c.deref.ensures.value ∙ c.in_ok-changes.ensures k));
      book = ended_book rows.files c.args.file rows.moment rows.book c.requires.sound.tracked.book;
      bounds = c.requires.sound.tracked.bounds;
    })
