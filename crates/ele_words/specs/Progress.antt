-- What a watched storm reports while it runs, and how the program ends after it.
use Rattle.std.specs.Prelude.{ℕ, ◌≤◌, Bool, true, false, List, [], ◌∷◌, ◌++◌, length, codes, decimal, Option, Result, Ok, Err}
use Rattle.std.specs.Io.KnownBytes.{Keeps}
use Rattle.ele_output.specs.Front.{AppendsFront}
use Rattle.ele_output.specs.Outlet.{Outlet}
use Rattle.ele_output.specs.Line.{line_text}
use Rattle.ele_storm_plan.specs.declared.fault.AuditFault.{AuditFault}
use Rattle.ele_storm_plan.specs.declared.plan.StormPlan.{StormPlan}
use Rattle.ele_words.specs.Storms.{HasStormed, StormEnds}

-- the line with the number of events that were answered by then
abbrev pub progress_line : ℕ → List ℕ
progress_line count = line_text (codes "storm" ∷ decimal count ∷ codes "events" ∷ codes "answered" ∷ [])

abbrev pub progress_text : List ℕ → List ℕ
progress_text [] = []
progress_text (count ∷ counts) = progress_line count ++ progress_text counts

-- the counts rise from one number to another
abbrev pub Rise : ℕ → List ℕ → ℕ → Type 0
Rise from [] upto = from ≤ upto
Rise from (count ∷ counts) upto = (from ≤ count) × Rise count counts upto

-- lines of rising counts, none above this one, were written, or a prefix of them
pub record ShowsProgress (before after : Option (List ℕ)) (most : ℕ) : Type 0 where
  pub counts : List ℕ
  pub rise : Rise 0 counts most
  pub written : AppendsFront before after (progress_text counts)

-- the history of an audited storm has at least this many events
abbrev pub StandBehind : ℕ → (plan : StormPlan) (ended : Result (ℕ × Bool) AuditFault) → HasStormed plan ended → Type 0
StandBehind most plan (Ok told) stormed = most ≤ length stormed.0.entries
StandBehind most plan (Err fault) stormed = Unit {0}

-- a watched storm ends as any other, after lines of counts that its history reaches were shown
pub record WatchedEnds (plan : StormPlan) (old new shown seen : Option (List ℕ)) (before after : Outlet) (status : ℕ) : Type 0 where
  pub most : ℕ
  pub progress : ShowsProgress shown seen most
  pub ends : StormEnds plan old new before after status
  pub behind : StandBehind most plan ends.ended ends.has_stormed

-- a storm that isn't watched shows no progress
abbrev pub EndsWatched : Bool → StormPlan → Option (List ℕ) → Option (List ℕ) → Option (List ℕ) → Option (List ℕ) → Outlet → Outlet → ℕ → Type 0
EndsWatched true plan old new shown seen before after status = WatchedEnds plan old new shown seen before after status
EndsWatched false plan old new shown seen before after status = Keeps shown seen × StormEnds plan old new before after status
