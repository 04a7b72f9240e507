use Rattle.ele_state.proofs.Words.{File, IsQueued, Revive, World, ap, Rule, rule_in, true, comes, has_key, is_freed, not, placed_of, refl, shown_of, subst, sym, world_of, ◌&&◌, ◌-◌, ◌∙◌, ◌≡◌, []}
use Rattle.ele_state.proofs.Grown.{roomy}
use Rattle.ele_state.proofs.NewNames.{follows_new}
use Rattle.ele_state.proofs.Revived.{held_ready, held_there, revived_absent, revived_queue, revived_world, revives}
use Rattle.ele_state.proofs.SoundAfter.{settled_by}
use Rattle.ele_state.proofs.State.revive.Goals as goal

pub head-head-requires : goal.head-head-requires
head-head-requires c = held_there c.self.inside.rows c.args.file c.args.number c.self.invariant.sound (rw (← c.self.view_is) at c.requires.held)

pub freed-requires-clause-placed : goal.freed-requires-clause-placed
freed-requires-clause-placed c = placed_of (world_of c.self.inside.rows) c.self.invariant.sound.formed

pub add-requires : goal.add-requires
add-requires c = follows_new c.self.inside.rows c.args.directory c.args.name (File c.args.file) c.self.invariant.sound (rw (← c.self.view_is) at c.requires.free)

pub append-requires-clause-absent : goal.append-requires-clause-absent
append-requires-clause-absent c =
    let may = revives c.self.inside.rows _ c.self.view_is c.args.directory c.args.name c.args.file c.args.number c.requires.home c.requires.free c.requires.names c.requires.versions c.requires.dead c.requires.held in
    rw c.in_ok-add.ensures.ok (revived_absent c.self.inside.rows c.args.directory c.args.name c.args.file c.args.number c.self.invariant.sound may [] c.head-head.result.policy c.head-head.ensures.policy)

pub append-requires-clause-roomy : goal.append-requires-clause-roomy
append-requires-clause-roomy c = roomy c.self.inside.rows c.self.invariant.sound

pub append-requires-clause-ready : goal.append-requires-clause-ready
append-requires-clause-ready c = held_ready c.self.inside.rows c.args.file c.args.number c.self.invariant.sound (rw (← c.self.view_is) at c.requires.held) (rw (← c.self.view_is) at c.requires.undrafted)

pub invariant_of-self-in-Ok : goal.invariant_of-self-in-Ok
invariant_of-self-in-Ok c =
    let rows = c.self.inside.rows in
    let policy = c.head-head.result.policy in
    let may = revives rows _ c.self.view_is c.args.directory c.args.name c.args.file c.args.number c.requires.home c.requires.free c.requires.names c.requires.versions c.requires.dead c.requires.held in
    let newest : c.saturating_sub.result ≡ (rule_in policy true).newer - 1 = c.saturating_sub.ensures ∙ ap (λ (rule : Rule). rule.newer - 1) c.rule_in-asked.ensures in
    let ok = rw c.in_ok-add.ensures.ok at c.in-Ok.ensures.ok in
    settled_by rows (shown_of rows) refl c.self.invariant (Revive c.args.directory c.args.name c.args.file c.args.number) may tt _ (revived_world rows c.args.directory c.args.name c.args.file c.args.number (world_of c.append.new.rows) ok) (record {
      queue = subst (λ (w : World). IsQueued w c.take_back.new.queue) (sym ok)
          (revived_queue rows c.args.directory c.args.name c.args.file c.args.number c.self.invariant.sound may _ policy c.head-head.ensures.policy c.append.new.rows.queue c.take_back.new.queue (rw c.in_ok-add.ensures.ok at c.in-Ok.ensures.come)
          (λ k. c.take_back.ensures k ∙ ap (λ b. not b && has_key k c.append.new.rows.queue) (ap (λ changes. comes changes k) c.deref.ensures.value ∙ c.in_ok-gone.ensures k ∙ ap (λ f. is_freed rows.groups rows.files c.args.file policy rows.moment f k) newest)));
      book = c.append.ensures.book;
      bounds = rw c.append.ensures.limits c.self.invariant.sound.tracked.bounds;
    })
