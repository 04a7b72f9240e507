use Rattle.ele_files.proofs.Words.{◌∙◌}
use Rattle.ele_files.proofs.Sharing.{slots_fill}
use Rattle.ele_files.proofs.files.new_map.new_map.Goals as goal

pub of_slots-requires-clause-whole : goal.of_slots-requires-clause-whole
of_slots-requires-clause-whole c =
    rw (c.in_ok-slots.ensures, c.size_of.ensures, c.requires.laws.cells c.args.store.now c.args.placed.now 0 c.args.cells.now c.requires.same)
    (slots_fill _ c.args.cells.now ∙ c.requires.content.slots)
