-- What the types of a world say of its values: each number and each length is within 64 bits, and moments, names, policies and limits are such.
use Rattle.std.specs.Prelude.{ℕ, ◌<◌, ◌≤◌, ◌^◌, List, length, Option, IfSome}
use Rattle.std.specs.List.{AllByRecursion}
use Rattle.ele_moment.specs.Last.{last_moment}
use Rattle.ele_moment.specs.Name.{IsName}
use Rattle.ele_policy.specs.Policy.{IsPolicy}
use Rattle.ele_content.specs.declared.cell.Cell.{Cell}
use Rattle.ele_model.specs.Bounds.{AreBounds}
use Rattle.ele_model.specs.declared.flat.Flat.{Flat}
use Rattle.ele_model.specs.declared.limits.Counts.{Counts}
use Rattle.ele_model.specs.declared.rows.DirectoryRow.{DirectoryRow}
use Rattle.ele_model.specs.declared.rows.FileRow.{FileRow}
use Rattle.ele_model.specs.declared.rows.NameRow.{NameRow}
use Rattle.ele_model.specs.declared.rows.VersionRow.{VersionRow}
use Rattle.ele_model.specs.declared.rows.DraftRow.{DraftRow}
use Rattle.ele_model.specs.declared.rows.HandleRow.{HandleRow}
use Rattle.ele_model.specs.declared.rows.MarkRow.{MarkRow}
use Rattle.ele_model.specs.declared.rows.GroupRow.{GroupRow}
use Rattle.ele_model.specs.declared.rows.Target.{Target}
use Rattle.ele_model.specs.declared.rows.Target.TheVariants as targets
use Rattle.ele_model.specs.declared.rows.Reads.{Reads}
use Rattle.ele_model.specs.declared.rows.Reads.TheVariants as readings

-- a number of 64 bits
abbrev pub IsNumber : ℕ → Type 0
IsNumber n = n < 2 ^ 64

abbrev pub IsMoment : ℕ → Type 0
IsMoment seconds = seconds ≤ last_moment

abbrev pub IsMaybe : Option ℕ → Type 0
IsMaybe moment = IfSome moment IsMoment

-- not too many items, each of that kind
abbrev pub AreItems : {X : Type 0} → (X → Type 0) → List X → Type 0
AreItems Fits items = (length items < 2 ^ 64) × AllByRecursion Fits items

abbrev pub IsTarget : Target → Type 0
IsTarget (targets.File id) = IsNumber id
IsTarget (targets.Directory id) = IsNumber id

abbrev pub IsReads : Reads → Type 0
IsReads (readings.Draft file) = IsNumber file
IsReads (readings.Version file version) = IsNumber file × IsNumber version

pub record IsDirectory (row : DirectoryRow) : Type 0 where
  pub id : IsNumber row.id
  pub default : IsPolicy row.default

pub record IsFile (row : FileRow) : Type 0 where
  pub id : IsNumber row.id
  pub policy : IsPolicy row.policy
  pub next : IsNumber row.next

pub record IsNameRow (row : NameRow) : Type 0 where
  pub directory : IsNumber row.directory
  pub name : IsName row.name
  pub target : IsTarget row.target
  pub birth : IsMoment row.birth
  pub death : IsMaybe row.death

pub record IsHandle (row : HandleRow) : Type 0 where
  pub number : IsNumber row.number
  pub reads : IsReads row.reads

pub record IsMark (row : MarkRow) : Type 0 where
  pub at : IsMoment row.at
  pub until : IsMaybe row.until

pub record IsGroup (row : GroupRow) : Type 0 where
  pub name : IsName row.name
  pub members : AreItems IsNumber row.members
  pub marks : AreItems IsMark row.marks

pub record IsCell (c : Cell) : Type 0 where
  pub writer : IsNumber c.writer
  pub bytes : length c.bytes < 2 ^ 64

pub record IsVersion (row : VersionRow) : Type 0 where
  pub file : IsNumber row.file
  pub number : IsNumber row.number
  pub opened : IsMoment row.opened
  pub closed : IsMoment row.closed
  pub ended : IsMaybe row.ended
  pub cells : AreItems IsCell row.cells

pub record IsDraft (row : DraftRow) : Type 0 where
  pub file : IsNumber row.file
  pub opened : IsMoment row.opened
  pub cells : AreItems IsCell row.cells

pub record AreCounts (made : Counts) : Type 0 where
  pub files : IsNumber made.files
  pub directories : IsNumber made.directories
  pub names : IsNumber made.names
  pub versions : IsNumber made.versions
  pub handles : IsNumber made.handles
  pub groups : IsNumber made.groups
  pub members : IsNumber made.members
  pub marks : IsNumber made.marks

pub record IsFlat (flat : Flat) : Type 0 where
  pub now : IsMoment flat.now
  pub directories : AreItems IsDirectory flat.directories
  pub files : AreItems IsFile flat.files
  pub names : AreItems IsNameRow flat.names
  pub versions : AreItems IsVersion flat.versions
  pub drafts : AreItems IsDraft flat.drafts
  pub handles : AreItems IsHandle flat.handles
  pub groups : AreItems IsGroup flat.groups
  pub made : AreCounts flat.made
  pub limits : AreBounds flat.limits
