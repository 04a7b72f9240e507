-- How the bytes of a checkpoint are read, part by part. Only the calls that read parts cite this module.
use Rattle.std.specs.Prelude.{ℕ, zero, suc, ◌+◌, ◌-◌, ◌*◌, ◌==◌, nat_lt, List, [], ◌∷◌, length, Result, Ok, Err, if◌then◌else◌, ◌++◌, nat_le, Bool, true, false, not, ◌&&◌, take, drop, codes, Option, Some, None, nat_eq, ◌≡◌, slice_get}
use Rattle.ele_checkpoint.specs.declared.fault.Flaw.TheVariants.{Short, Padded, TooLarge}
use Rattle.ele_checkpoint.specs.declared.fault.Mistake.{Mistake}
use Rattle.ele_checkpoint.specs.Reading.{◌>>=◌, mistake}
use Rattle.ele_checkpoint.specs.Number.{number_text}
use Rattle.std.specs.List.{list_all}
use Rattle.std.specs.Cmp.Lexicographic.{pointwise}
use Rattle.ele_moment.specs.Last.{last_moment}
use Rattle.ele_moment.specs.Name.{is_name_byte}
use Rattle.ele_policy.specs.Ladder.{Rung, climbs, ground}
use Rattle.ele_policy.specs.declared.policy.Policy.{Policy}
use Rattle.ele_policy.specs.declared.policy.Policy.TheVariants as policies
use Rattle.ele_model.specs.declared.rows.Target.{Target}
use Rattle.ele_model.specs.declared.rows.Target.TheVariants as targets
use Rattle.ele_model.specs.declared.rows.Reads.{Reads}
use Rattle.ele_model.specs.declared.rows.Reads.TheVariants as readings
use Rattle.ele_checkpoint.specs.declared.fault.Flaw.TheVariants as flaws
use Rattle.ele_model.specs.declared.rows.DirectoryRow.{DirectoryRow}
use Rattle.ele_model.specs.declared.rows.FileRow.{FileRow}
use Rattle.ele_model.specs.declared.rows.NameRow.{NameRow}
use Rattle.ele_model.specs.declared.rows.HandleRow.{HandleRow}
use Rattle.ele_model.specs.declared.rows.MarkRow.{MarkRow}
use Rattle.ele_model.specs.declared.rows.GroupRow.{GroupRow}
use Rattle.std.specs.Bool.{MatchBool}
use Rattle.ele_content.specs.declared.cell.Cell.{Cell}
use Rattle.ele_checkpoint.specs.Cells.{cell_text, is_kept}
use Rattle.ele_model.specs.declared.rows.VersionRow.{VersionRow}
use Rattle.ele_model.specs.declared.rows.DraftRow.{DraftRow}
use Rattle.ele_checkpoint.specs.Contents.{base_after, base_of}
use Rattle.ele_model.specs.declared.flat.Flat.{Flat}
use Rattle.ele_model.specs.declared.limits.Counts.{Counts}
use Rattle.ele_model.specs.Bounds.{Bounds, largest_bounds}
use Rattle.ele_checkpoint.specs.declared.fault.ReadError.{ReadError}
use Rattle.ele_checkpoint.specs.declared.fault.ReadError.TheVariants as errors
use Rattle.ele_checkpoint.specs.declared.fault.Stop.{Stop}
use Rattle.ele_checkpoint.specs.declared.fault.Stop.TheVariants as stop

-- the least number that needs more bytes than that
abbrev pub top : ℕ → ℕ
top zero = 128
top (suc more) = 128 * top more

-- a first byte and the number that the bytes after it stand for, with what follows. The case of a byte above 255 never occurs
unfoldable pub joined : ℕ → List ℕ → ℕ × List ℕ → Result (ℕ × List ℕ) Mistake
joined byte bytes high =
    if nat_lt 255 byte then Err (mistake (length bytes) TooLarge)
    else if high.0 == 0 then Err (mistake (length bytes) Padded)
    else if nat_lt 144115188075855871 high.0 then Err (mistake (length bytes) TooLarge)
    else Ok (byte - 128 + 128 * high.0, high.1)

unfoldable pub digits_at : ℕ → List ℕ → Result (ℕ × List ℕ) Mistake
digits_at zero [] = Err (mistake 0 Short)
digits_at zero (byte ∷ rest) = if nat_lt byte 128 then Ok (byte, rest) else Err (mistake (length (byte ∷ rest)) TooLarge)
digits_at (suc more) [] = Err (mistake 0 Short)
digits_at (suc more) (byte ∷ rest) = if nat_lt byte 128 then Ok (byte, rest) else (digits_at more rest >>= λ high. joined byte (byte ∷ rest) high)

-- a number and the bytes after it
unfoldable pub number_at : List ℕ → Result (ℕ × List ℕ) Mistake
number_at bytes = digits_at 9 bytes

-- so many items, one after the other
unfoldable pub items_at : {X : Type 0} → (List ℕ → Result (X × List ℕ) Mistake) → ℕ → List ℕ → Result (List X × List ℕ) Mistake
items_at at zero bytes = Ok ([], bytes)
items_at at (suc count) bytes = do
  first ← at bytes
  others ← items_at at count first.1
  Ok (first.0 ∷ others.0, others.1)

unfoldable pub list_at : {X : Type 0} → (List ℕ → Result (X × List ℕ) Mistake) → List ℕ → Result (List X × List ℕ) Mistake
list_at at bytes = do
  count ← number_at bytes
  items_at at count.0 count.1

unfoldable pub string_at : List ℕ → Result (List ℕ × List ℕ) Mistake
string_at bytes = do
  count ← number_at bytes
  if nat_lt (length count.1) count.0 then Err (mistake (length count.1) flaws.Short) else Ok (take count.0 count.1, drop count.0 count.1)

unfoldable pub truth_at : List ℕ → Result (Bool × List ℕ) Mistake
truth_at [] = Err (mistake 0 flaws.Short)
truth_at (zero ∷ rest) = Ok (false, rest)
truth_at (suc zero ∷ rest) = Ok (true, rest)
truth_at (suc (suc byte) ∷ rest) = Err (mistake (suc (length rest)) flaws.Choice)

-- a moment is its seconds
unfoldable pub moment_at : List ℕ → Result (ℕ × List ℕ) Mistake
moment_at bytes = do
  seconds ← number_at bytes
  if nat_le seconds.0 last_moment then Ok (seconds.0, seconds.1) else Err (mistake (length bytes) flaws.Moment)

unfoldable pub maybe_at : List ℕ → Result (Option ℕ × List ℕ) Mistake
maybe_at [] = Err (mistake 0 flaws.Short)
maybe_at (zero ∷ rest) = Ok (None, rest)
maybe_at (suc zero ∷ rest) = do
  seconds ← moment_at rest
  Ok (Some seconds.0, seconds.1)
maybe_at (suc (suc byte) ∷ rest) = Err (mistake (suc (length rest)) flaws.Choice)

-- whether bytes are a name: 1 to 64 bytes that a name may have, and neither `.` nor `..`
abbrev pub is_name : List ℕ → Bool
is_name bytes = nat_lt 0 (length bytes) && nat_le (length bytes) 64 && list_all is_name_byte bytes && not (pointwise nat_eq bytes (codes ".")) && not (pointwise nat_eq bytes (codes ".."))

unfoldable pub name_at : List ℕ → Result (List ℕ × List ℕ) Mistake
name_at bytes = do
  name ← string_at bytes
  if is_name name.0 then Ok (name.0, name.1) else Err (mistake (length bytes) flaws.Name)

unfoldable pub rung_at : List ℕ → Result (Rung × List ℕ) Mistake
rung_at bytes = do
  age ← number_at bytes
  width ← number_at age.1
  Ok ((age.0, width.0), width.1)

-- whether the numbers are an interval and a floor
abbrev pub is_safe : ℕ → ℕ → Bool
is_safe interval floor = nat_le 1 interval && nat_le interval last_moment && nat_le floor 16

unfoldable pub safe_at : List ℕ → Result (Policy × List ℕ) Mistake
safe_at bytes = do
  interval ← number_at bytes
  floor ← number_at interval.1
  if is_safe interval.0 floor.0 then Ok (policies.Safe interval.0 floor.0, floor.1) else Err (mistake (length bytes) flaws.Policy)

-- whether the pairs are a ladder
abbrev pub is_ladder : List Rung → Bool
is_ladder rungs = nat_lt 0 (length rungs) && nat_le (length rungs) 8 && climbs ground rungs

unfoldable pub ladder_at : List ℕ → Result (Policy × List ℕ) Mistake
ladder_at bytes = do
  rungs ← list_at rung_at bytes
  if is_ladder rungs.0 then Ok (policies.Landmarks rungs.0, rungs.1) else Err (mistake (length bytes) flaws.Policy)

unfoldable pub policy_at : List ℕ → Result (Policy × List ℕ) Mistake
policy_at [] = Err (mistake 0 flaws.Short)
policy_at (zero ∷ rest) = Ok (policies.One, rest)
policy_at (suc zero ∷ rest) = Ok (policies.All, rest)
policy_at (suc (suc zero) ∷ rest) = safe_at rest
policy_at (suc (suc (suc zero)) ∷ rest) = ladder_at rest
policy_at (suc (suc (suc (suc byte))) ∷ rest) = Err (mistake (suc (length rest)) flaws.Choice)

unfoldable pub target_at : List ℕ → Result (Target × List ℕ) Mistake
target_at [] = Err (mistake 0 flaws.Short)
target_at (zero ∷ rest) = do
  id ← number_at rest
  Ok (targets.File id.0, id.1)
target_at (suc zero ∷ rest) = do
  id ← number_at rest
  Ok (targets.Directory id.0, id.1)
target_at (suc (suc byte) ∷ rest) = Err (mistake (suc (length rest)) flaws.Choice)

unfoldable pub reads_at : List ℕ → Result (Reads × List ℕ) Mistake
reads_at [] = Err (mistake 0 flaws.Short)
reads_at (zero ∷ rest) = do
  file ← number_at rest
  Ok (readings.Draft file.0, file.1)
reads_at (suc zero ∷ rest) = do
  file ← number_at rest
  version ← number_at file.1
  Ok (readings.Version file.0 version.0, version.1)
reads_at (suc (suc byte) ∷ rest) = Err (mistake (suc (length rest)) flaws.Choice)

unfoldable pub directory_at : List ℕ → Result (DirectoryRow × List ℕ) Mistake
directory_at bytes = do
  id ← number_at bytes
  default ← policy_at id.1
  Ok (record { id = id.0; default = default.0 }, default.1)

unfoldable pub file_at : List ℕ → Result (FileRow × List ℕ) Mistake
file_at bytes = do
  id ← number_at bytes
  rule ← policy_at id.1
  next ← number_at rule.1
  Ok (record { id = id.0; policy = rule.0; next = next.0 }, next.1)

unfoldable pub name_row_at : List ℕ → Result (NameRow × List ℕ) Mistake
name_row_at bytes = do
  parent ← number_at bytes
  word ← name_at parent.1
  meant ← target_at word.1
  birth ← moment_at meant.1
  death ← maybe_at birth.1
  Ok (record { directory = parent.0; name = word.0; target = meant.0; birth = birth.0; death = death.0 }, death.1)

unfoldable pub handle_at : List ℕ → Result (HandleRow × List ℕ) Mistake
handle_at bytes = do
  own ← number_at bytes
  read ← reads_at own.1
  Ok (record { number = own.0; reads = read.0 }, read.1)

unfoldable pub mark_at : List ℕ → Result (MarkRow × List ℕ) Mistake
mark_at bytes = do
  moment ← moment_at bytes
  until ← maybe_at moment.1
  Ok (record { at = moment.0; until = until.0 }, until.1)

unfoldable pub group_at : List ℕ → Result (GroupRow × List ℕ) Mistake
group_at bytes = do
  word ← name_at bytes
  members ← list_at number_at word.1
  marks ← list_at mark_at members.1
  Ok (record { name = word.0; members = members.0; marks = marks.0 }, marks.1)

unfoldable pub cell_at : List ℕ → Result (Cell × List ℕ) Mistake
cell_at bytes = do
  writer ← number_at bytes
  held ← string_at writer.1
  Ok (record { writer = writer.0; bytes = held.0 }, held.1)

-- a cell is counted if it is kept, and else follows the number of those kept before it
abbrev pub IsPut : Option Cell → Cell → ℕ → List ℕ → ℕ → List ℕ → Type 0
IsPut before c kept old next new = MatchBool (is_kept before c) ((next ≡ kept + 1) × (new ≡ old)) ((next ≡ 0) × (new ≡ old ++ (number_text kept ++ cell_text c)))

-- the cell of a slot, and how many are kept after it
unfoldable pub slot_at : Option Cell → ℕ → List ℕ → Result ((Cell × ℕ) × List ℕ) Mistake
slot_at None (suc kept) bytes = Err (mistake (length bytes) flaws.Kept)
slot_at (Some earlier) (suc kept) bytes = Ok ((earlier, kept), bytes)
slot_at before zero bytes = do
  told ← cell_at bytes
  kept ← number_at told.1
  if is_kept before told.0 then Err (mistake (length bytes) flaws.Repeated) else Ok ((told.0, kept.0), kept.1)

-- so many cells from the slot on, of which some are kept first
unfoldable pub slots_at : List Cell → ℕ → ℕ → ℕ → List ℕ → Result (List Cell × List ℕ) Mistake
slots_at base zero slot kept bytes = if kept == 0 then Ok ([], bytes) else Err (mistake (length bytes) flaws.Kept)
slots_at base (suc count) slot kept bytes = do
  first ← slot_at (slice_get base slot) kept bytes
  others ← slots_at base count (slot + 1) (first.0).1 first.1
  Ok ((first.0).0 ∷ others.0, others.1)

unfoldable pub content_at : List Cell → List ℕ → Result (List Cell × List ℕ) Mistake
content_at base bytes = do
  count ← number_at bytes
  kept ← number_at count.1
  slots_at base count.0 0 kept.0 kept.1

unfoldable pub version_at : Option VersionRow → List ℕ → Result (VersionRow × List ℕ) Mistake
version_at before bytes = do
  file ← number_at bytes
  own ← number_at file.1
  opened ← moment_at own.1
  closed ← moment_at opened.1
  ended ← maybe_at closed.1
  cells ← content_at (base_after before file.0) ended.1
  Ok (record { file = file.0; number = own.0; opened = opened.0; closed = closed.0; ended = ended.0; cells = cells.0 }, cells.1)

unfoldable pub each_version_at : Option VersionRow → ℕ → List ℕ → Result (List VersionRow × List ℕ) Mistake
each_version_at before zero bytes = Ok ([], bytes)
each_version_at before (suc count) bytes = do
  first ← version_at before bytes
  others ← each_version_at (Some first.0) count first.1
  Ok (first.0 ∷ others.0, others.1)

unfoldable pub versions_at : List ℕ → Result (List VersionRow × List ℕ) Mistake
versions_at bytes = do
  count ← number_at bytes
  each_version_at None count.0 count.1

unfoldable pub draft_at : List VersionRow → List ℕ → Result (DraftRow × List ℕ) Mistake
draft_at rows bytes = do
  file ← number_at bytes
  opened ← moment_at file.1
  changed ← truth_at opened.1
  cells ← content_at (base_of rows file.0) changed.1
  Ok (record { file = file.0; opened = opened.0; cells = cells.0; changed = changed.0 }, cells.1)

unfoldable pub drafts_at : List VersionRow → List ℕ → Result (List DraftRow × List ℕ) Mistake
drafts_at rows bytes = list_at (draft_at rows) bytes

unfoldable pub three_at : List ℕ → Result ((ℕ × ℕ × ℕ) × List ℕ) Mistake
three_at bytes = do
  a ← number_at bytes
  b ← number_at a.1
  c ← number_at b.1
  Ok ((a.0, b.0, c.0), c.1)

unfoldable pub counts_at : List ℕ → Result (Counts × List ℕ) Mistake
counts_at bytes = do
  a ← three_at bytes
  b ← three_at a.1
  members ← number_at b.1
  marks ← number_at members.1
  Ok (record { files = (a.0).0; directories = (a.0).1; names = (a.0).2; versions = (b.0).0; handles = (b.0).1; groups = (b.0).2; members = members.0; marks = marks.0 }, marks.1)

-- whether no limit is above its largest
abbrev pub are_bounds : Bounds → Bool
are_bounds b =
    nat_le b.events largest_bounds.events && nat_le b.files largest_bounds.files && nat_le b.directories largest_bounds.directories
    && nat_le b.names largest_bounds.names && nat_le b.versions largest_bounds.versions && nat_le b.handles largest_bounds.handles
    && nat_le b.groups largest_bounds.groups && nat_le b.members largest_bounds.members && nat_le b.marks largest_bounds.marks

-- nine numbers as limits
abbrev pub bounds_from : ℕ × ℕ × ℕ → ℕ × ℕ × ℕ → ℕ × ℕ × ℕ → Bounds
bounds_from a b c = record { events = a.0; files = a.1; directories = a.2; names = b.0; versions = b.1; handles = b.2; groups = c.0; members = c.1; marks = c.2 }

unfoldable pub limits_at : List ℕ → Result (Bounds × List ℕ) Mistake
limits_at bytes = do
  a ← three_at bytes
  b ← three_at a.1
  c ← three_at b.1
  if are_bounds (bounds_from a.0 b.0 c.0) then Ok (bounds_from a.0 b.0 c.0, c.1) else Err (mistake (length bytes) flaws.Limits)

-- a world and the bytes after it
unfoldable pub whole_at : List ℕ → Result (Flat × List ℕ) Mistake
whole_at bytes = do
  moment ← moment_at bytes
  directories ← list_at directory_at moment.1
  files ← list_at file_at directories.1
  names ← list_at name_row_at files.1
  held ← versions_at names.1
  open_drafts ← drafts_at held.0 held.1
  handles ← list_at handle_at open_drafts.1
  groups ← list_at group_at handles.1
  made ← counts_at groups.1
  most ← limits_at made.1
  Ok (record { now = moment.0; directories = directories.0; files = files.0; names = names.0; versions = held.0; drafts = open_drafts.0; handles = handles.0; groups = groups.0; made = made.0; limits = most.0 }, most.1)

-- a world and nothing after it
unfoldable pub all_at : List ℕ → Result Flat Mistake
all_at bytes = do
  found ← whole_at bytes
  if length found.1 == 0 then Ok found.0 else Err (mistake (length found.1) flaws.Trailing)

-- the same inside
abbrev pub IsGiven : Flat → Result Flat Stop → Type 0
IsGiven flat (Ok read) = read ≡ flat
IsGiven flat (Err stop.Memory) = Unit {0}
IsGiven flat (Err (stop.At mistake)) = ⊥

-- memory was refused where it was refused inside
abbrev pub IsTold : Stop → ReadError → Type 0
IsTold stop.Memory errors.NoMemory = Unit {0}
IsTold stop.Memory (errors.Fault fault) = ⊥
IsTold (stop.At mistake) errors.NoMemory = ⊥
IsTold (stop.At mistake) (errors.Fault fault) = Unit {0}
