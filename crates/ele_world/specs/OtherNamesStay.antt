-- A name that an event doesn't name means the same after it.
use Rattle.std.specs.Prelude.{◌≡◌, ℕ, ◌==◌, ◌&&◌, ◌||◌, Bool, false, List, Result, Ok, Err}
use Rattle.std.specs.Str.{bytes_eq}
use Rattle.ele_model.specs.declared.event.Event.{Event}
use Rattle.ele_model.specs.declared.event.Event.TheVariants.{MakeDir, RemoveDir, Create, Link, Unlink, Rename, Undelete, Save, Restore}
use Rattle.ele_model.specs.declared.refusal.Refusal.{Refusal}
use Rattle.ele_model.specs.Step.{step}
use Rattle.ele_model.specs.Walk.{live_target, parent_now}
use Rattle.ele_model.specs.World.{World}

-- the look-up found that name in that directory
abbrev pub is_home : ℕ → List ℕ → Result (ℕ × List ℕ) Refusal → Bool
is_home directory name (Ok at) = (at.0 == directory) && bytes_eq at.1 name
is_home directory name (Err refusal) = false

-- the event makes or ends names, and one of its paths ends with that name in that directory
abbrev pub is_named_by : World → Event → ℕ → List ℕ → Bool
is_named_by w (MakeDir path) directory name = is_home directory name (parent_now w.names path)
is_named_by w (RemoveDir path) directory name = is_home directory name (parent_now w.names path)
is_named_by w (Create path) directory name = is_home directory name (parent_now w.names path)
is_named_by w (Link from to) directory name = is_home directory name (parent_now w.names to)
is_named_by w (Unlink path) directory name = is_home directory name (parent_now w.names path)
is_named_by w (Rename from to) directory name = is_home directory name (parent_now w.names from) || is_home directory name (parent_now w.names to)
is_named_by w (Undelete path) directory name = is_home directory name (parent_now w.names path)
is_named_by w (Save path bytes) directory name = is_home directory name (parent_now w.names path)
is_named_by w (Restore path moment) directory name = is_home directory name (parent_now w.names path)
is_named_by w event directory name = false

abbrev pub OtherNamesStay : Type 0
OtherNamesStay =
    (w : World) (event : Event) (directory : ℕ) (name : List ℕ) → is_named_by w event directory name ≡ false
    → live_target ((step w event).1).names directory name ≡ live_target w.names directory name
