-- Stores without a history, and the text of a line.
use Rattle.std.proofs.Common.{◌≡◌, ℕ, List, false, None, refl}
use Rattle.ele_embed.specs.Hears.{Hears}
use Rattle.ele_embed.specs.Text.{IsRunBlock, IsTold}
use Rattle.ele_runs.specs.Kept.{Kept, Plain, Recorded, Journaled, has_past, past_in}
use Rattle.ele_runs.specs.declared.said.Said.{Said}

-- a store without a history has no past
pub no_past : (kept : Kept) → has_past kept ≡ false → past_in kept ≡ None
no_past (Plain w last) none = refl
no_past (Recorded past) none = absurd cc
no_past (Journaled kept journal) none = no_past kept none

-- the text of a line is the block that a run writes
pub run_block : (before after : Kept) (line : List ℕ) (said : Said) (text : List ℕ) → Hears before line said after → IsTold after said text → IsRunBlock before line after text
run_block (Recorded before) (Recorded after) line said text hears told = (said, hears.may, told)
run_block before after line said text hears told = tt
