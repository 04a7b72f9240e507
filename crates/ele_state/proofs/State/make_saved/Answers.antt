use Rattle.ele_state.proofs.Words.{Append, IsTracked, MakeFile, Shown, after_changes, cells_by, [], ◌∷◌, ap, subst, sym, world_of, ◌+◌, ◌∙◌, ◌≡◌, ℕ}
use Rattle.ele_state.proofs.Bounded.{directories_placed}
use Rattle.ele_state.proofs.Grown.{grown_tracked, none_new, ready, roomy}
use Rattle.ele_state.proofs.MadeSaved.{savable_by}
use Rattle.ele_state.proofs.SoundAfter.{unchanged}
use Rattle.ele_state.specs.Source.{Bytes}
use Rattle.ele_model.specs.World.{default_of}
use Rattle.ele_state.proofs.State.make_saved.Goals as goal

pub default_in-requires : goal.default_in-requires
default_in-requires c = rw c.deref.ensures.value (directories_placed c.self.inside.rows c.self.invariant.sound)

pub head-head-requires : goal.head-head-requires
head-head-requires c = (savable_by c.self.inside.rows _ c.self.view_is c.self.invariant c.args.directory c.args.name c.self-2.inside.rows _ c.self-2.view_is c.self-2.invariant c.in_ok-id.id c.in_ok-id.ensures.id c.in_ok-id.ensures.ok).there

pub append-requires-clause-absent : goal.append-requires-clause-absent
append-requires-clause-absent c = none_new c.self-2.inside.rows c.in_ok-id.id c.self-2.invariant.sound (savable_by c.self.inside.rows _ c.self.view_is c.self.invariant c.args.directory c.args.name c.self-2.inside.rows _ c.self-2.view_is c.self-2.invariant c.in_ok-id.id c.in_ok-id.ensures.id c.in_ok-id.ensures.ok).there c.head-head.result.policy c.head-head.ensures.policy

pub append-requires-clause-roomy : goal.append-requires-clause-roomy
append-requires-clause-roomy c = roomy c.self-2.inside.rows c.self-2.invariant.sound

pub append-requires-clause-ready : goal.append-requires-clause-ready
append-requires-clause-ready c = ready c.self-2.inside.rows c.in_ok-id.id (Bytes c.args.bytes.now) c.self-2.invariant.sound ((savable_by c.self.inside.rows _ c.self.view_is c.self.invariant c.args.directory c.args.name c.self-2.inside.rows _ c.self-2.view_is c.self-2.invariant c.in_ok-id.id c.in_ok-id.ensures.id c.in_ok-id.ensures.ok).source c.args.bytes.now c.requires.short)

pub invariant_of-self : goal.invariant_of-self
invariant_of-self c = (savable_by c.self.inside.rows _ c.self.view_is c.self.invariant c.args.directory c.args.name c.self-2.inside.rows _ c.self-2.view_is c.self-2.invariant c.in_ok-id.id c.in_ok-id.ensures.id c.in_ok-id.ensures.ok).settles c.args.bytes.now c.requires.short (rw (← c.self.view_is) at c.requires.versions) c.append.new.rows c.in-Ok.ensures.ok
    (grown_tracked c.self-2.inside.rows c.in_ok-id.id c.self-2.invariant.sound (savable_by c.self.inside.rows _ c.self.view_is c.self.invariant c.args.directory c.args.name c.self-2.inside.rows _ c.self-2.view_is c.self-2.invariant c.in_ok-id.id c.in_ok-id.ensures.id c.in_ok-id.ensures.ok).there c.head-head.result.policy c.head-head.ensures.policy (Bytes c.args.bytes.now) ((savable_by c.self.inside.rows _ c.self.view_is c.self.invariant c.args.directory c.args.name c.self-2.inside.rows _ c.self-2.view_is c.self-2.invariant c.in_ok-id.id c.in_ok-id.ensures.id c.in_ok-id.ensures.ok).source c.args.bytes.now c.requires.short) c.append.new.rows c.append.result c.append.ensures.ok c.append.ensures.err c.append.ensures.come c.append.ensures.same c.append.ensures.book c.append.ensures.limits)

pub returns-in-Ok-clause-number : goal.returns-in-Ok-clause-number
returns-in-Ok-clause-number c = c.in-Ok.ensures.number ∙ (savable_by c.self.inside.rows _ c.self.view_is c.self.invariant c.args.directory c.args.name c.self-2.inside.rows _ c.self-2.view_is c.self-2.invariant c.in_ok-id.id c.in_ok-id.ensures.id c.in_ok-id.ensures.ok).next

pub unmake-requires-clause-bare : goal.unmake-requires-clause-bare
unmake-requires-clause-bare c = (savable_by c.self.inside.rows _ c.self.view_is c.self.invariant c.args.directory c.args.name c.self-2.inside.rows _ c.self-2.view_is c.self-2.invariant c.in_ok-id.id c.in_ok-id.ensures.id c.in_ok-id.ensures.ok).bare c.append.new.rows c.in-Err.ensures.err

pub unmake-requires-clause-within : goal.unmake-requires-clause-within
unmake-requires-clause-within c = rw (c.kind-kind.ensures, c.default_in.ensures, c.deref.ensures.value) ((savable_by c.self.inside.rows _ c.self.view_is c.self.invariant c.args.directory c.args.name c.self-2.inside.rows _ c.self-2.view_is c.self-2.invariant c.in_ok-id.id c.in_ok-id.ensures.id c.in_ok-id.ensures.ok).within c.append.new.rows c.in-Err.ensures.err)

pub returns-in-Ok-clause-ok : goal.returns-in-Ok-clause-ok
returns-in-Ok-clause-ok c =
    let rows = c.self.inside.rows in
    let id_is : c.in_ok-id.id ≡ (world_of rows).made.files + 1 = c.in_ok-id.ensures.id ∙ ap (λ (s : Shown). s.world.made.files + 1) (sym c.self.view_is) in
    let saved = (savable_by c.self.inside.rows _ c.self.view_is c.self.invariant c.args.directory c.args.name c.self-2.inside.rows _ c.self-2.view_is c.self-2.invariant c.in_ok-id.id c.in_ok-id.ensures.id c.in_ok-id.ensures.ok).world c.args.bytes.now c.requires.short c.append.new.rows c.in-Ok.ensures.ok in
    rw (← c.self.view_is) (subst (λ (n : ℕ). world_of c.append.new.rows ≡ after_changes (world_of rows) (MakeFile c.args.directory c.args.name n (default_of rows.directories.items c.args.directory) ∷ Append n rows.moment (cells_by 2 c.args.bytes.now) ∷ [])) id_is saved)

-- a refused file leaves no trace
no_trace : (c : goal.After-unmake) → (world_of c.unmake.new.rows ≡ world_of c.self.inside.rows) × IsTracked c.unmake.new.rows
no_trace c = (savable_by c.self.inside.rows _ c.self.view_is c.self.invariant c.args.directory c.args.name c.self-2.inside.rows _ c.self-2.view_is c.self-2.invariant c.in_ok-id.id c.in_ok-id.ensures.id c.in_ok-id.ensures.ok).back c.append.new.rows c.in-Err.ensures.err c.in-Err.ensures.same c.unmake.new.rows c.unmake.ensures.rows (rw (c.kind-kind.ensures, c.default_in.ensures, c.deref.ensures.value) at c.unmake.ensures.book)

pub invariant_of-self-in-Err : goal.invariant_of-self-in-Err
invariant_of-self-in-Err c = unchanged c.self.inside.rows _ c.self.view_is c.self.invariant c.unmake.new.rows (no_trace c).0 (no_trace c).1

pub returns-in-Err-clause-err : goal.returns-in-Err-clause-err
returns-in-Err-clause-err c = (no_trace c).0 ∙ ap (λ (s : Shown). s.world) c.self.view_is
