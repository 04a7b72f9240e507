-- The place of a new name. No public clause cites this module.
use Rattle.std.specs.Prelude.{ℕ, List, is_some, Result, Ok, Err, if◌then◌else◌}
use Rattle.ele_model.specs.declared.refusal.Refusal.{Refusal}
use Rattle.ele_model.specs.declared.refusal.Refusal.TheVariants.{Exists}
use Rattle.ele_model.specs.declared.rows.NameRow.{NameRow}
use Rattle.ele_model.specs.Walk.{live_target, parent_now}

abbrev pub if_free : List NameRow → Result (ℕ × List ℕ) Refusal → Result (ℕ × List ℕ) Refusal
if_free names (Err refusal) = Err refusal
if_free names (Ok at) = if is_some (live_target names at.0 at.1) then Err Exists else Ok at

-- the directory and the name at the end of the path, if no such name is live
abbrev pub free_place : List NameRow → List (List ℕ) → Result (ℕ × List ℕ) Refusal
free_place names path = if_free names (parent_now names path)
