-- No run begins in rows with a fault.
use Rattle.std.specs.Prelude.{IfSome, MatchOption, None, Option, Some}
use Rattle.ele_model.specs.Start.{IsStart}
use Rattle.ele_well_formed.proofs.OneContent.{sharing_of}
use Rattle.ele_well_formed.proofs.Rows.{misplaced_not}
use Rattle.ele_well_formed.proofs.Words.{AllByRecursion, AllLater, DirectoryRow, IsDirectory, IsWrong, List, World, all-at, all-both, all-weaker, arith, false≢true, inl, inr, sym, ℕ, ◌∙◌}
use Rattle.ele_well_formed.specs.Fault.{HasFault, IsEither}
use Rattle.ele_well_formed.specs.Sharing.{AreShared, contents}
use Rattle.ele_well_formed.specs.declared.fault.FlatFault.{FlatFault}
use Rattle.ele_well_formed.specs.declared.fault.FlatFault.TheVariants as fault

module _ {X : Type 0} where
  wrong_not : (Fits : X → Type 0) (rows : List X) (at : ℕ) → IsWrong Fits rows at → AllByRecursion Fits rows → ⊥
  wrong_not Fits rows at shown all = shown.wrong (all-at Fits rows at shown.row shown.there all)

  either_not : (Fits : X → Type 0) (Stand : X → X → Type 0) (rows : List X) (at : ℕ) → IsEither Fits Stand rows at → AllByRecursion Fits rows → AllLater Stand rows → ⊥
  either_not Fits Stand rows at (inl shown) all later = wrong_not Fits rows at shown all
  either_not Fits Stand rows at (inr shown) all later = misplaced_not Stand rows at shown later

pub no_start : (w : World) (found : FlatFault) → HasFault w found → IsStart w → ⊥
no_start w fault.Counts has start = has start.formed.counted
no_start w fault.Root has start = false≢true (sym has.wrong ∙ start.formed.directories.rooted)
no_start w (fault.Directories at) has start =
    let are = start.formed.directories in
    either_not (IsDirectory w.made.directories) _ w.directories at has.wrong (all-weaker (λ (row : DirectoryRow). _ × _) (IsDirectory w.made.directories) w.directories (λ row h. record { given = h.0; policy = h.1 }) (all-both _ _ w.directories are.given are.policies)) are.placed
no_start w fault.DirectoryCount has start = let few = start.formed.directories.few in let wrong = has.wrong in omega (arith, few, wrong)
no_start w (fault.Files at) has start = either_not _ _ w.files at has.wrong start.formed.files.each start.formed.files.placed
no_start w (fault.Names at) has start = either_not _ _ w.names at has.wrong start.formed.names.each start.formed.names.lives
no_start w (fault.Homes at) has start = wrong_not _ w.names at has.wrong start.formed.homes.each
no_start w (fault.Nameless at) has start = wrong_not _ w.directories at has.wrong start.formed.homes.named
no_start w (fault.Tree at) has start = misplaced_not _ w.names at has.wrong start.formed.tree
no_start w (fault.RootName at) has start = wrong_not _ w.names at has.wrong start.tree.top
no_start w (fault.Cycle at) has start = wrong_not _ w.names at has.wrong start.tree.hang
no_start w (fault.Versions at) has start = either_not _ _ w.versions at has.wrong start.formed.versions.each start.formed.versions.placed
no_start w (fault.Drafts at) has start = either_not _ _ w.drafts at has.wrong start.formed.drafts.each start.formed.drafts.placed
no_start w (fault.Handles at) has start = either_not _ _ w.handles at has.wrong start.formed.handles.each start.formed.handles.placed
no_start w (fault.Readers at) has start = wrong_not _ w.handles at has.wrong start.formed.readers
no_start w (fault.Writers at) has start = wrong_not _ w.drafts at has.wrong start.writers
no_start w (fault.Current at) has start = let shown = has.wrong in shown.wrong (start.formed.current shown.row.id)
no_start w (fault.Ended at) has start = wrong_not _ w.versions at has.wrong start.formed.ended
no_start w (fault.Idle at) has start = wrong_not _ w.files at has.wrong start.idle
no_start w (fault.Groups at) has start = either_not _ _ w.groups at has.wrong start.formed.groups.each start.formed.groups.named
no_start w fault.GroupCount has start = let counted = start.formed.groups.counted in let wrong = has.wrong in omega (arith, counted, wrong)
no_start w (fault.Blocks at) has start = misplaced_not AreShared (contents w) at has.wrong (sharing_of w start.formed.versions.placed start.formed.drafts.placed start.contents)

-- so what is found of rows says that no run begins in them
pub if_some : (w : World) (found : Option FlatFault) → MatchOption found (IsStart w) (HasFault w) → IfSome found (λ _. IsStart w → ⊥)
if_some w None start = tt
if_some w (Some found) has = no_start w found has
