use Rattle.ele_state.proofs.Words.{◌≡◌, arith, nat_tests, ◌+◌, refl, File, Directories, MakeFile, default_is, world_of}
use Rattle.ele_state.proofs.Booked.{made_book}
use Rattle.ele_state.proofs.Made.{made_queue}
use Rattle.ele_state.proofs.NewNames.{follows_new, name_goes}
use Rattle.ele_state.proofs.SoundAfter.{named, settled_by}
use Rattle.ele_state.proofs.State.make_file.Goals as goal

pub add-requires : goal.add-requires
add-requires c = follows_new c.self.inside.rows c.args.directory c.args.name (File (c.self.inside.rows.made.files + 1)) c.self.invariant.sound (rw (← c.self.view_is) at c.requires.free)

-- the name goes again
names_back : (c : goal.After-drop_file) → c.drop_file.new.self ≡ c.self.inside.rows.names
names_back c = grind (arith, nat_tests, name_goes (world_of c.self.inside.rows) c.args.directory c.args.name c.self.invariant.sound.formed)

pub returns-in-Err-clause-err : goal.returns-in-Err-clause-err
returns-in-Err-clause-err c = rw (← c.self.view_is, names_back c, c.in-Err.ensures.err) refl

pub invariant_of-self-in-Err : goal.invariant_of-self-in-Err
invariant_of-self-in-Err c =
    let back : c.drop_file.new.self ≡ c.self.inside.rows.names = grind (arith, nat_tests, name_goes (world_of c.self.inside.rows) c.args.directory c.args.name c.self.invariant.sound.formed) in
    rw (back, c.in-Err.ensures.err) c.self.invariant

pub returns-clause-ok : goal.returns-clause-ok
returns-clause-ok c = rw (← c.self.view_is) (grind (arith, nat_tests, c.in_default.ensures.ok (world_of c.self.inside.rows) c.args.directory c.args.name refl))

pub invariant_of-self-2 : goal.invariant_of-self-2
invariant_of-self-2 c =
    let rows = c.self.inside.rows in
    let added = c.in_default.ensures.ok (world_of rows) c.args.directory c.args.name refl in
    let given = default_is rows.directories.items c.args.directory (c.self.invariant.sound.formed.holds Directories).policies in
    settled_by c.self.inside.rows _ c.self.view_is c.self.invariant (MakeFile c.args.directory c.args.name (rows.made.files + 1) c.default_in-policy.result)
    (record { next = rw (← c.self.view_is) refl; files = c.requires.files; named = named _ c.args.directory c.args.name c.requires.home c.requires.free c.requires.names; room = c.requires.versions; valid = rw (c.default_in-policy.ensures, c.deref.ensures.value) given })
    tt _ (rw (added, c.in_ok-add.ensures.ok) refl) (record {
      queue = rw (added, c.in_ok-add.ensures.ok) (made_queue rows c.args.directory c.args.name c.default_in-policy.result c.self.invariant.sound);
      book = made_book rows c.args.directory c.args.name c.default_in-policy.result c.add-2.new.self c.add-3.new.self c.self.invariant.sound added (rw c.kind.ensures at c.add-3.ensures.each);
      bounds = c.self.invariant.sound.tracked.bounds;
    })
