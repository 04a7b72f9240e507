-- A worked list: versions that closed on 1970-01-01 at 10:00 and 20:00 in UTC and on the next day at 10:00, which is the moment.
-- No public clause cites this module.
use Rattle.std.specs.Prelude.{◌≡◌, true, false, List, [], ◌∷◌}
use Rattle.std.proofs.Common.{refl}
use Rattle.ele_suggest.specs.Asked.{bytes_of, keeps_span}
use Rattle.ele_suggest.specs.declared.grain.Grain.TheVariants.{Each, Day, Month}
use Rattle.ele_suggest.specs.declared.version.Version.{Version}

abbrev pub worked_versions : List Version
worked_versions =
    record { number = 1; closed = 36000; local = 36000; month = 0; bytes = 5 }
    ∷ record { number = 2; closed = 72000; local = 72000; month = 0; bytes = 7 }
    ∷ record { number = 3; closed = 122400; local = 122400; month = 0; bytes = 2 } ∷ []

-- the last two are one of each day of a week
pub days_are_kept : keeps_span 122400 worked_versions (2 ∷ 3 ∷ []) (record { age = 604800; grain = Day }) ≡ true
days_are_kept = refl

-- the first two have none of the second day
pub a_day_is_missing : keeps_span 122400 worked_versions (1 ∷ 2 ∷ []) (record { age = 604800; grain = Day }) ≡ false
a_day_is_missing = refl

-- any one is that of the month
pub month_is_kept : keeps_span 122400 worked_versions (1 ∷ []) (record { age = 604800; grain = Month }) ≡ true
month_is_kept = refl

-- the first one is a day old, so each version of a day is all three
pub first_is_missing : keeps_span 122400 worked_versions (2 ∷ 3 ∷ []) (record { age = 86400; grain = Each }) ≡ false
first_is_missing = refl

-- and each one that isn't a day old is two of them
pub two_are_kept : keeps_span 122400 worked_versions (2 ∷ 3 ∷ []) (record { age = 86399; grain = Each }) ≡ true
two_are_kept = refl

pub nine_bytes : bytes_of worked_versions (2 ∷ 3 ∷ []) ≡ 9
nine_bytes = refl
