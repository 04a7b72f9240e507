-- Why the version that a tagged path means is held or due, and which versions will be due.
use Rattle.std.specs.Prelude.{◌≡◌, ℕ, ◌<◌, ◌≤◌, List, Result, Ok, Err}
use Rattle.ele_due.specs.declared.key.Key.{Key}
use Rattle.ele_path.specs.declared.tagged.TaggedPath.{TaggedPath}
use Rattle.ele_model.specs.declared.fate.Fate.{Fate}
use Rattle.ele_model.specs.declared.refusal.Refusal.{Refusal}
use Rattle.ele_model.specs.declared.refusal.Refusal.TheVariants.{NotAhead}
use Rattle.ele_model.specs.declared.rows.VersionRow.{VersionRow}
use Rattle.ele_model.specs.Change.{Time, after_change}
use Rattle.ele_model.specs.Fate.{HasFate}
use Rattle.ele_model.specs.Scan.{scan}
use Rattle.ele_model.specs.Tagged.{version_at}
use Rattle.ele_model.specs.World.{World}

-- the tagged path means a version, and that version has this fate
pub record MeansFate (w : World) (tagged : TaggedPath) (fate : Fate) : Type 0 where
  pub row : VersionRow
  pub means : version_at w tagged ≡ Ok row
  pub has : HasFate w row.file row.number fate

-- the fate of the version that the tagged path means, or why it means none
abbrev pub IsWhy : World → TaggedPath → Result Fate Refusal → Type 0
IsWhy w tagged (Ok fate) = MeansFate w tagged fate
IsWhy w tagged (Err refusal) = version_at w tagged ≡ Err refusal

-- the scan of the world at the moment, if only the clock moves until then; a moment before now is refused
abbrev pub IsAhead : World → ℕ → Result (List Key) Refusal → Type 0
IsAhead w moment (Ok keys) = (w.now ≤ moment) × (keys ≡ scan (after_change w (Time moment)))
IsAhead w moment (Err refusal) = (moment < w.now) × (refusal ≡ NotAhead)
