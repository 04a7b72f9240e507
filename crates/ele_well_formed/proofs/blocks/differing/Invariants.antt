use Rattle.ele_well_formed.proofs.KnownBytes.{AreKnown}
use Rattle.ele_well_formed.proofs.Words.{AllLater, take}
use Rattle.ele_well_formed.specs.Sharing.{AreShared, contents}
use Rattle.ele_well_formed.proofs.blocks.differing.Given as goal

abbrev pub invariant-loop-at : goal.invariant-loop-at
invariant-loop-at l = record {
  known : AreKnown (take l.at (contents l.flat)) l.known;
  shared : AllLater AreShared (take l.at (contents l.flat));
}
