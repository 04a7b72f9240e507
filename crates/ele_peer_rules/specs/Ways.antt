-- As what each tool counts: one row for each.
use Rattle.std.specs.Prelude.{true, false, Option, Some, None}
use Rattle.ele_peer_rules.specs.declared.tool.Tool.{Tool}
use Rattle.ele_peer_rules.specs.declared.tool.Tool.TheVariants.{Restic, OldRestic, Borg, Snapper, Sanoid, Btrbk}
use Rattle.ele_peer_rules.specs.declared.ways.Back.TheVariants.{FromNewest, FromNow}
use Rattle.ele_peer_rules.specs.declared.ways.OldestKept.TheVariants.{Always, ByNumber, Never}
use Rattle.ele_peer_rules.specs.declared.ways.Take.TheVariants.{Newest, First, Named}
use Rattle.ele_peer_rules.specs.declared.ways.Ways.{Ways}

-- `take`: a part takes the newest row of each span, or the first one, or the rows that have its name. `counts_kept`: it also
-- counts rows that a part before keeps. `oldest`: whether it keeps the oldest row of all too while it may keep more. `back`:
-- from when a length of time reaches back. btrbk keeps rows by a schedule instead
abbrev pub ways_of : Tool → Option Ways
ways_of Restic = Some (record { take = Newest; counts_kept = true; oldest = Always; back = FromNewest })
ways_of OldRestic = Some (record { take = Newest; counts_kept = true; oldest = Never; back = FromNewest })
ways_of Borg = Some (record { take = Newest; counts_kept = false; oldest = ByNumber; back = FromNow })
ways_of Snapper = Some (record { take = First; counts_kept = true; oldest = Never; back = FromNow })
ways_of Sanoid = Some (record { take = Named; counts_kept = true; oldest = Never; back = FromNow })
ways_of Btrbk = None
