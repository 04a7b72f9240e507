-- The mark that held the version that a path and its tag mean.
use Rattle.std.specs.Prelude.{◌≡◌, Option, Some, None}
use Rattle.std.specs.Option.{option_and_then}
use Rattle.std.specs.Result.{result_ok}
use Rattle.ele_holds.specs.Hold.{hold_of}
use Rattle.ele_holds.specs.declared.hold.Hold.{Hold}
use Rattle.ele_model.specs.Tagged.{version_at}
use Rattle.ele_model.specs.World.{World}
use Rattle.ele_model.specs.Why.{MeansFate}
use Rattle.ele_model.specs.declared.fate.Fate.{Fate}
use Rattle.ele_model.specs.declared.fate.Fate.TheVariants.{Due}
use Rattle.ele_path.specs.declared.tagged.TaggedPath.{TaggedPath}

-- of a version that is due: the mark that held it after its policy had let it go, if there is one
abbrev pub hold_at : World → TaggedPath → Fate → Option Hold
hold_at w tagged (Due since cause) = option_and_then (λ row. hold_of w row since) (result_ok (version_at w tagged))
hold_at w tagged fate = None

-- the version is due
abbrev pub IsDue : Fate → Type 0
IsDue (Due since cause) = Unit {0}
IsDue fate = ⊥

-- the path and its tag mean a version that is due
pub record MeansDue (w : World) (tagged : TaggedPath) : Type 0 where
  pub fate : Fate
  pub means : MeansFate w tagged fate
  pub due : IsDue fate

-- they mean a version with this fate, which this mark held
pub record MeansHeld (w : World) (tagged : TaggedPath) (fate : Fate) (hold : Hold) : Type 0 where
  pub means : MeansFate w tagged fate
  pub held : hold_at w tagged fate ≡ Some hold
