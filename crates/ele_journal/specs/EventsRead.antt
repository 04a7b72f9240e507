-- How the bytes of events are read, part by part. No public clause cites this module.
use Rattle.std.specs.Prelude.{ℕ, zero, suc, ◌==◌, nat_lt, nat_le, List, [], ◌∷◌, length, Result, Ok, Err, if◌then◌else◌}
use Rattle.ele_path.specs.declared.tagged.Tag.{Tag}
use Rattle.ele_path.specs.declared.tagged.Tag.TheVariants as tags
use Rattle.ele_policy.specs.declared.policy.Policy.{Policy}
use Rattle.ele_model.specs.declared.event.Event.{Event}
use Rattle.ele_model.specs.declared.event.Event.TheVariants as events
use Rattle.ele_checkpoint.specs.declared.fault.Flaw.TheVariants as flaws
use Rattle.ele_checkpoint.specs.declared.fault.Mistake.{Mistake}
use Rattle.ele_checkpoint.specs.Reading.{◌>>=◌, mistake}
use Rattle.ele_checkpoint.specs.PartsRead.{list_at, number_at, moment_at, maybe_at, name_at, policy_at, string_at}

-- a path has at most 32 names
unfoldable pub names_at : List ℕ → Result (List (List ℕ) × List ℕ) Mistake
names_at bytes = do
  names ← list_at name_at bytes
  if nat_le (length names.0) 32 then Ok (names.0, names.1) else Err (mistake (length bytes) flaws.TooLarge)

unfoldable pub tag_at : List ℕ → Result (Tag × List ℕ) Mistake
tag_at [] = Err (mistake 0 flaws.Short)
tag_at (zero ∷ rest) = Ok (tags.Now, rest)
tag_at (suc zero ∷ rest) = do
  seconds ← moment_at rest
  Ok (tags.At seconds.0, seconds.1)
tag_at (suc (suc zero) ∷ rest) = do
  version ← number_at rest
  Ok (tags.Number version.0, version.1)
tag_at (suc (suc (suc byte)) ∷ rest) = Err (mistake (suc (length rest)) flaws.Choice)

-- the event of a kind from 0 to 5
abbrev pub of_path : ℕ → List (List ℕ) → Event
of_path zero path = events.MakeDir path
of_path (suc zero) path = events.RemoveDir path
of_path (suc (suc zero)) path = events.Create path
of_path (suc (suc (suc zero))) path = events.Unlink path
of_path (suc (suc (suc (suc zero)))) path = events.Undelete path
of_path (suc (suc (suc (suc (suc kind))))) path = events.OpenWrite path

unfoldable pub path_event_at : ℕ → List ℕ → Result (Event × List ℕ) Mistake
path_event_at kind bytes = do
  path ← names_at bytes
  Ok (of_path kind path.0, path.1)

-- 6 or 7
unfoldable pub paths_event_at : ℕ → List ℕ → Result (Event × List ℕ) Mistake
paths_event_at kind bytes = do
  path ← names_at bytes
  other ← names_at path.1
  Ok (if kind == 6 then events.Link path.0 other.0 else events.Rename path.0 other.0, other.1)

-- from 8 to 10
unfoldable pub number_event_at : ℕ → List ℕ → Result (Event × List ℕ) Mistake
number_event_at kind bytes = do
  n ← number_at bytes
  Ok (if kind == 8 then events.Tick n.0 else if kind == 9 then events.Close n.0 else events.Abandon n.0, n.1)

unfoldable pub clock_at : List ℕ → Result (Event × List ℕ) Mistake
clock_at bytes = do
  moment ← moment_at bytes
  Ok (events.Clock moment.0, moment.1)

unfoldable pub truncate_at : List ℕ → Result (Event × List ℕ) Mistake
truncate_at bytes = do
  handle ← number_at bytes
  size ← number_at handle.1
  Ok (events.Truncate handle.0 size.0, size.1)

unfoldable pub write_at : List ℕ → Result (Event × List ℕ) Mistake
write_at bytes = do
  handle ← number_at bytes
  offset ← number_at handle.1
  text ← string_at offset.1
  Ok (events.Write handle.0 offset.0 text.0, text.1)

unfoldable pub save_at : List ℕ → Result (Event × List ℕ) Mistake
save_at bytes = do
  path ← names_at bytes
  text ← string_at path.1
  Ok (events.Save path.0 text.0, text.1)

unfoldable pub revert_at : List ℕ → Result (Event × List ℕ) Mistake
revert_at bytes = do
  path ← names_at bytes
  version ← number_at path.1
  Ok (events.Revert path.0 version.0, version.1)

unfoldable pub restore_at : List ℕ → Result (Event × List ℕ) Mistake
restore_at bytes = do
  path ← names_at bytes
  moment ← moment_at path.1
  Ok (events.Restore path.0 moment.0, moment.1)

-- 17 or 18
unfoldable pub policy_event_at : ℕ → List ℕ → Result (Event × List ℕ) Mistake
policy_event_at kind bytes = do
  path ← names_at bytes
  rule ← policy_at path.1
  Ok (if kind == 17 then events.SetPolicy path.0 rule.0 else events.SetDefault path.0 rule.0, rule.1)

unfoldable pub open_read_at : List ℕ → Result (Event × List ℕ) Mistake
open_read_at bytes = do
  path ← names_at bytes
  tag ← tag_at path.1
  Ok (events.OpenRead (record { path = path.0; tag = tag.0 }), tag.1)

-- 20 or 21
unfoldable pub group_event_at : ℕ → List ℕ → Result (Event × List ℕ) Mistake
group_event_at kind bytes = do
  name ← name_at bytes
  Ok (if kind == 20 then events.GroupMake name.0 else events.GroupDrop name.0, name.1)

-- 22 or 23
unfoldable pub member_event_at : ℕ → List ℕ → Result (Event × List ℕ) Mistake
member_event_at kind bytes = do
  name ← name_at bytes
  path ← names_at name.1
  Ok (if kind == 22 then events.GroupAdd name.0 path.0 else events.GroupRemove name.0 path.0, path.1)

unfoldable pub mark_at : List ℕ → Result (Event × List ℕ) Mistake
mark_at bytes = do
  name ← name_at bytes
  moment ← moment_at name.1
  until ← maybe_at moment.1
  Ok (events.Mark name.0 moment.0 until.0, until.1)

unfoldable pub unmark_at : List ℕ → Result (Event × List ℕ) Mistake
unmark_at bytes = do
  name ← name_at bytes
  moment ← moment_at name.1
  Ok (events.Unmark name.0 moment.0, moment.1)

unfoldable pub note_at : List ℕ → Result (Event × List ℕ) Mistake
note_at bytes = do
  text ← string_at bytes
  Ok (events.Note text.0, text.1)

-- kinds of files and sessions, from 11 on
unfoldable pub session_event_at : ℕ → List ℕ → Result (Event × List ℕ) Mistake
session_event_at kind bytes =
    if kind == 11 then clock_at bytes
    else if kind == 12 then truncate_at bytes
    else if kind == 13 then write_at bytes
    else if kind == 14 then save_at bytes
    else if kind == 15 then revert_at bytes
    else restore_at bytes

-- the kinds from 17 on
unfoldable pub rule_event_at : ℕ → List ℕ → Result (Event × List ℕ) Mistake
rule_event_at kind bytes =
    if nat_lt kind 19 then policy_event_at kind bytes
    else if kind == 19 then open_read_at bytes
    else if nat_lt kind 22 then group_event_at kind bytes
    else if nat_lt kind 24 then member_event_at kind bytes
    else if kind == 24 then mark_at bytes
    else if kind == 25 then unmark_at bytes
    else if kind == 26 then Ok (events.CleanOne, bytes)
    else if kind == 27 then note_at bytes
    else Err (mistake (length bytes) flaws.Choice)

-- an event and the bytes after it
unfoldable pub event_at : List ℕ → Result (Event × List ℕ) Mistake
event_at [] = Err (mistake 0 flaws.Short)
event_at (kind ∷ bytes) =
    if nat_lt kind 6 then path_event_at kind bytes
    else if nat_lt kind 8 then paths_event_at kind bytes
    else if nat_lt kind 11 then number_event_at kind bytes
    else if nat_lt kind 17 then session_event_at kind bytes
    else rule_event_at kind bytes

-- one or more events, and nothing after them
unfoldable pub events_at : List ℕ → Result (List Event) Mistake
events_at bytes = do
  found ← list_at event_at bytes
  if length found.1 == 0 then (if length found.0 == 0 then Err (mistake 0 flaws.Short) else Ok found.0) else Err (mistake (length found.1) flaws.Trailing)
