-- The versions that will be due at a moment, each with the name of its file.
use Rattle.std.specs.Prelude.{◌≡◌, ℕ, List, Result, Ok, Err}
use Rattle.std.specs.List.{AllZip}
use Rattle.ele_due.specs.declared.key.Key.{Key}
use Rattle.ele_model.specs.declared.refusal.Refusal.{Refusal}
use Rattle.ele_model.specs.declared.rows.NameRow.{NameRow}
use Rattle.ele_model.specs.declared.rows.Target.TheVariants.{File}
use Rattle.ele_model.specs.Why.{IsAhead}
use Rattle.ele_model.specs.World.{World}
use Rattle.ele_removals.specs.Removals.{IsNameIf, known_name}
use Rattle.ele_removals.specs.declared.expiry.Expiries.{Expiries}
use Rattle.ele_removals.specs.declared.expiry.Expiry.{Expiry}

-- the key, with the name that leads to its file among these names or, if none does, the last one that did
pub record IsExpiry (names : List NameRow) (key : Key) (row : Expiry) : Type 0 where
  pub version : row.key ≡ key
  pub name : IsNameIf names (known_name names (File key.file)) row.name

-- what `ahead` answers for the moment, each key with the name that its file has now
abbrev pub IsExpiring : World → ℕ → Result Expiries Refusal → Type 0
IsExpiring w moment (Ok found) = (keys : List Key) × IsAhead w moment (Ok keys) × AllZip (IsExpiry w.names) keys found.rows.items
IsExpiring w moment (Err refusal) = IsAhead w moment (Err refusal)
