-- The headings of rows.
use Rattle.std.specs.Prelude.{ℕ, ◌==◌, List, [], ◌∷◌, ◌++◌, codes, Option, Some, Ok, if◌then◌else◌}
use Rattle.ele_model.specs.declared.reply.Reply.{Reply}
use Rattle.ele_model.specs.declared.reply.Reply.TheVariants.{Rows, NameList, RestoreList, DueList, UsageList}
use Rattle.ele_runs.specs.declared.said.Said.{Said}
use Rattle.ele_runs.specs.declared.said.Said.TheVariants.{Replied, Ahead, Gone, Handles, Removals, Changes, Expiring, Story}

-- the heading of the rows of a reply
abbrev pub reply_heading : Option Reply → List ℕ
reply_heading (Some (Rows versions)) = codes "  version opened closed ended length\n"
reply_heading (Some (NameList names)) = codes "  name kind number\n"
reply_heading (Some (RestoreList names)) = codes "  directory name kind number\n"
reply_heading (Some (DueList keys)) = codes "  ripe file version\n"
reply_heading (Some (UsageList usages)) = codes "  policy files versions bytes blocks\n"
reply_heading last = []

-- the heading of the rows of an answer, with the last reply; none of an answer without columns
abbrev pub heading_of : Said → Option Reply → List ℕ
heading_of Replied last = reply_heading last
heading_of (Ahead (Ok keys)) last = codes "  ripe file version\n"
heading_of (Gone rows) last = codes "  removed file version path fate\n"
heading_of (Handles handles) last = codes "  handle file version since path\n"
heading_of (Removals rows) last = codes "  removed file version path until fate\n"
heading_of (Expiring (Ok found)) last = codes "  ripe file version path until\n"
heading_of (Story (Ok story)) last = codes "  version number closed ended length fate\n  name from until path\n"
heading_of (Changes (Ok found)) last = codes "  change kind number version-before version-after path-before path-after\n"
heading_of said last = []

-- nothing if there are no rows
abbrev pub heading_above : List ℕ → List ℕ → List ℕ
heading_above heading [] = []
heading_above heading (byte ∷ bytes) = heading

-- a text with the heading above its rows, which are what is behind the first line feed
abbrev pub headed : List ℕ → List ℕ → List ℕ
headed heading [] = []
headed heading (byte ∷ bytes) =
    if byte == 10 then byte ∷ (heading_above heading bytes ++ bytes) else byte ∷ headed heading bytes
