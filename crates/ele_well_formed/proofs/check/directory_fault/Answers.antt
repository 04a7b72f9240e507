use Rattle.ele_well_formed.proofs.Words.{AllByRecursion, AllLater, DirectoryRow, IsDirectory, all-weaker, arith, ◌<◌, ◌≤◌}
use Rattle.ele_well_formed.proofs.Rising.{rising_few}
use Rattle.ele_well_formed.proofs.check.directory_fault.Goals as goal

pub returns : goal.returns
returns c =
    let rows = c.args.flat.now.directories in
    let made = c.args.flat.now.made.directories in
    let each : AllByRecursion (IsDirectory made) rows = rw c.as_slice-rows.ensures at c.in_default.ensures.each in
    let placed : AllLater (λ (x y : DirectoryRow). x.id < y.id) rows = rw c.as_slice-rows.ensures at c.in_default.ensures.placed in
    let given : AllByRecursion (λ (row : DirectoryRow). row.id ≤ made) rows = all-weaker (IsDirectory made) (λ row. row.id ≤ made) rows (λ row h. h.given) each in
    record {
      rooted = grind (arith, c.has_root.ensures, c.if-not-has_root.false, c.as_slice-rows.ensures);
      policies = all-weaker (IsDirectory made) _ rows (λ row h. h.policy) each;
      placed = placed;
      given = given;
      counted = rising_few (λ (row : DirectoryRow). row.id) made rows given placed;
      few = grind (arith, c.limit.ensures.value, c.if-flat-limit.false);
    }
