-- A handle writes each draft, so that some close can end it.
use Rattle.std.specs.Prelude.{◌≡◌, true}
use Rattle.std.specs.List.{AllByRecursion, list_any}
use Rattle.ele_model.specs.World.{World, is_writer}

abbrev pub HaveWriters : World → Type 0
HaveWriters w = AllByRecursion (λ draft. list_any (is_writer draft.file) w.handles ≡ true) w.drafts
