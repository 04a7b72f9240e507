-- Where the last name of a text begins. No public clause cites this module.
use Rattle.std.specs.Prelude.{◌≡◌, ℕ, ◌-◌, ◌<◌, ◌≤◌, ◌==◌, false, List, length, slice_index}

-- no byte from there on is a slash (47), and a slash is before it
pub record IsNameStart (text : List ℕ) (start : ℕ) : Type 0 where
  pub bound : start ≤ length text
  pub plain : (place : ℕ) → start ≤ place → place < length text → (slice_index text place == 47) ≡ false
  pub slash : 0 < start → slice_index text (start - 1) ≡ 47
