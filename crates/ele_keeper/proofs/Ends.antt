-- A version that became due at a moment at which no mark ended: no mark held it.
use Rattle.std.proofs.Common.{◌≡◌, ℕ, Bool, true, false, List, [], ◌∷◌, Option, Some, None, refl, arith, find}
use Rattle.std.proofs.lemmas.Bool.Decides.{nat_tests}
use Rattle.std.specs.List.{list_any}
use Rattle.std.specs.Option.{option_and_then}
use Rattle.std.specs.Prelude.{if◌then◌else◌}
use Rattle.std.specs.Result.{result_ok}
use Rattle.ele_audit.specs.Held.{hold_at}
use Rattle.ele_keeper.specs.Ends.{any_ends, ends_at, may_be_held}
use Rattle.ele_holds.specs.Hold.{has_last, hold_of, hold_until, is_last, lets_go_before}
use Rattle.ele_model.specs.Tagged.{version_at}
use Rattle.ele_model.specs.World.{World}
use Rattle.ele_model.specs.declared.fate.Fate.{Fate}
use Rattle.ele_model.specs.declared.fate.Fate.TheVariants.{Due}
use Rattle.ele_model.specs.declared.rows.GroupRow.{GroupRow}
use Rattle.ele_model.specs.declared.rows.MarkRow.{MarkRow}
use Rattle.ele_model.specs.declared.rows.VersionRow.{VersionRow}
use Rattle.ele_path.specs.declared.tagged.TaggedPath.{TaggedPath}

none_last : (row : VersionRow) (at : ℕ) (marks : List MarkRow) → list_any (ends_at at) marks ≡ false → list_any (is_last row at) marks ≡ false
none_last row at [] none = refl
none_last row at (mark ∷ marks) none = grind (arith, nat_tests, none_last row at marks, none)

no_group : (row : VersionRow) (at : ℕ) (groups : List GroupRow) → any_ends groups at ≡ false → find (has_last row at) groups ≡ None
no_group row at [] none = refl
no_group row at (group ∷ groups) none = grind (arith, nat_tests, none_last row at group.marks, no_group row at groups, none)

no_mark : (row : VersionRow) (at : ℕ) (groups : List GroupRow) → any_ends groups at ≡ false → hold_until groups row at ≡ None
no_mark row at groups none = rw (no_group row at groups none) refl

none_held : (w : World) (row : VersionRow) (at : ℕ) → any_ends w.groups at ≡ false → hold_of w row at ≡ None
none_held w row at none = by (lets_go_before w row at) where
  by : (before : Bool) → (if before then hold_until w.groups row at else None) ≡ None
  by true = no_mark row at w.groups none
  by false = refl

none_of : (w : World) (at : ℕ) (found : Option VersionRow) → any_ends w.groups at ≡ false → option_and_then (λ row. hold_of w row at) found ≡ None
none_of w at None none = refl
none_of w at (Some row) none = none_held w row at none

pub not_held : (w : World) (tagged : TaggedPath) (fate : Fate) → may_be_held w.groups fate ≡ false → hold_at w tagged fate ≡ None
not_held w tagged (Due since cause) none = none_of w since (result_ok (version_at w tagged)) none
not_held w tagged fate none = refl
