-- Counts by key.
use Rattle.std.specs.Prelude.{ℕ, Bool}
use Rattle.std.specs.Option.{unwrap_or}
use Rattle.std.specs.HashMap.{get, spare}
use Rattle.ele_rows.specs.declared.tally.Tally.{Tally}

-- how often the key was counted
abbrev pub counted : {K : Type 0} → (K → K → Bool) → Tally K → K → ℕ
counted eq t k = unwrap_or (get eq t.counts k) 0

-- how many new keys can be counted without more memory
abbrev pub room : {K : Type 0} → Tally K → ℕ
room t = spare t.counts
