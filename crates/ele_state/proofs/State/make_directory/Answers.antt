use Rattle.ele_state.proofs.Words.{MakeDirectory, Directories, Directory, default_is, refl, ◌+◌}
use Rattle.ele_state.proofs.NewNames.{directory_queue, follows_new}
use Rattle.ele_state.proofs.SoundAfter.{named, settled_by}
use Rattle.ele_state.proofs.State.make_directory.Goals as goal

pub add-requires : goal.add-requires
add-requires c = follows_new c.self.inside.rows c.args.directory c.args.name (Directory (c.self.inside.rows.made.directories + 1)) c.self.invariant.sound (rw (← c.self.view_is) at c.requires.free)

pub invariant_of-self-2 : goal.invariant_of-self-2
invariant_of-self-2 c = settled_by c.self.inside.rows _ c.self.view_is c.self.invariant (MakeDirectory c.args.directory c.args.name (c.self.inside.rows.made.directories + 1) c.default_in-default.result)
    (record {
      next = rw (← c.self.view_is) refl;
      directories = c.requires.directories;
      named = named _ c.args.directory c.args.name c.requires.home c.requires.free c.requires.names;
      valid = rw (c.default_in-default.ensures, c.deref.ensures.value) (default_is c.self.inside.rows.directories.items c.args.directory (c.self.invariant.sound.formed.holds Directories).policies);
    }) tt _ (rw (c.in_ok-add.ensures.ok, c.push_reserved.ensures.items, c.in_ok-reserve.ensures.items) refl) (record { queue = rw c.in_ok-add.ensures.ok (directory_queue c.self.inside.rows c.args.directory c.args.name (c.self.inside.rows.made.directories + 1) c.self.invariant.sound); book = c.self.invariant.sound.tracked.book; bounds = c.self.invariant.sound.tracked.bounds })
