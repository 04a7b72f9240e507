-- A run may begin in a renewed world.
use Rattle.ele_renewal.proofs.Contents.{renewed_contents}
use Rattle.ele_renewal.proofs.Directories.{renewed_directories}
use Rattle.ele_renewal.proofs.Files.{renewed_files}
use Rattle.ele_renewal.proofs.Groups.{renewed_groups}
use Rattle.ele_renewal.proofs.Homes.{renewed_homes, renewed_names, renewed_one_tree, renewed_tree}
use Rattle.ele_renewal.proofs.Lives.{renewed_current, renewed_ended, renewed_idle}
use Rattle.ele_renewal.proofs.Versions.{renewed_versions}
use Rattle.ele_renewal.proofs.Words.{AreCounted, IsWellFormed, World, arith, length, length-map, map, renewed, renewed_counts, renewed_file, renewed_name, renewed_version}
use Rattle.ele_renewal.specs.RenewedIsStart.{RenewedIsStart}

module _ (w : World) (old : IsWellFormed w) where
  counted : AreCounted (renewed_counts w) w.limits (length (map (renewed_file w) w.files)) (length (map (renewed_name w) w.names)) (length (map (renewed_version w) w.versions)) 0
  counted = simp length-map (record {
    files_made = omega (arith, old.counted.files_made, old.counted.file_rows);
    names_made = omega (arith, old.counted.names_made, old.counted.name_rows);
    versions_made = omega (arith, old.counted.versions_made);
    handles_made = omega arith;
    groups_made = omega (arith, old.counted.groups_made, old.groups.counted);
    members_made = omega (arith, old.counted.members_made);
    marks_made = omega (arith, old.counted.marks_made);
    file_rows = omega arith;
    name_rows = omega arith;
    version_rows = omega (arith, old.counted.version_rows);
  })

  formed : IsWellFormed (renewed w)
  formed = record {
    now = old.now;
    bounded = old.bounded;
    counted = counted;
    directories = renewed_directories w w.made.directories w.limits.directories old.directories;
    files = renewed_files w old.versions old.counted.version_rows old.files;
    names = renewed_names w old.names old.homes;
    homes = renewed_homes w old.homes;
    tree = renewed_tree w old.homes old.tree;
    versions = renewed_versions w old.versions;
    drafts = record { each = tt; placed = tt };
    handles = record { each = tt; placed = tt };
    readers = tt;
    current = renewed_current w old.names old.current;
    ended = renewed_ended w old.ended;
    groups = renewed_groups w w.made.groups old.groups;
  }

pub renewed_is_start : RenewedIsStart
renewed_is_start w old closed = record {
  formed = formed w old.formed;
  idle = renewed_idle w closed.drafts old.idle;
  tree = renewed_one_tree w old.formed.directories.rooted old.formed.homes old.tree;
  writers = tt;
  contents = renewed_contents w old.formed.versions old.contents;
}
