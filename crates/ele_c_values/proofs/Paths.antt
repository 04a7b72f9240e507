-- Bytes that begin with no slash.
use Rattle.std.proofs.Common.{◌≡◌, ℕ, List, [], ◌∷◌, false, refl}
use Rattle.std.specs.Prelude.{Some}
use Rattle.std.specs.Option.{option_map}
use Rattle.ele_c_values.specs.Asks.{IsPathFault}
use Rattle.ele_printer.specs.declared.fault.LineFault.TheVariants.{BadPath}
use Rattle.ele_script.specs.PathWord.{begins_path}

-- they are no path
pub no_slash : (bytes : List ℕ) → begins_path bytes ≡ false → IsPathFault bytes BadPath
no_slash [] plain = refl
no_slash (byte ∷ []) plain = rw plain refl
no_slash (byte ∷ next ∷ bytes) plain = rw plain refl
