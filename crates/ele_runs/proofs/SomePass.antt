-- Each pass has an end.
use Rattle.ele_runs.proofs.Basics.{◌≡◌, ℕ, zero, suc, ◌+◌, ◌<◌, Option, Some, None, refl, sym, ap, arith}
use Rattle.ele_runs.proofs.Within.{is_full, recorded_within}
use Rattle.ele_runs.proofs.Words.{HasRoom, HistoryFull, MayPass, Past, Removes, Reply, answered, count_of, recorded, world_of}
use Rattle.std.proofs.Math.Decide.{dec_lt}
use Rattle.ele_due.specs.declared.key.Key.{Key}
use Rattle.ele_model.specs.Scan.{first_due}
use Rattle.ele_model.specs.declared.event.Event.TheVariants.{CleanOne}
use Rattle.ele_model.specs.declared.pass.PassEnd.{PassEnd}
use Rattle.ele_model.specs.declared.pass.PassEnd.TheVariants.{Finished, Budget, Stopped}
use Rattle.ele_model.proofs.Cleans.{clean_of}
use Rattle.ele_runs.specs.Said.{IsForMemory}
use Rattle.ele_runs.specs.declared.said.Said.TheVariants.{Passed}
use Rattle.ele_runs.specs.SomeAnswer.{IsWithin}

-- an end of a pass that is no stop for memory, with no more entries than may be
pub record HasEnd (before : Past) (budget : ℕ) : Type 0 where
  pub end : PassEnd
  pub after : Past
  pub may : MayPass before budget end after
  pub unstopped : ¬ IsForMemory (Passed end)
  pub within : IsWithin after

-- the reply to a clean event, by what is due
abbrev clean_reply : Past → Option Key → Reply × Past
clean_reply s due = ((clean_of (world_of s) due).0, recorded s CleanOne)

clean_told : (s : Past) (due : Option Key) → first_due (world_of s) ≡ due → clean_reply s due ≡ answered s CleanOne
clean_told s due is = ap (clean_reply s) (sym is)

-- a pass that has removed so many goes on or ends
goes_on : (removed budget : ℕ) (before s : Past) → removed < budget → Removes before removed s → HasRoom s → ((t : Past) → Removes before (suc removed) t → IsWithin t → HasEnd before budget)
    → (due : Option Key) → first_due (world_of s) ≡ due → HasEnd before budget
goes_on removed budget before s below removes room more None none = record {
  end = Finished removed;
  after = recorded s CleanOne;
  may = (below, (s, removes, (room, clean_told s None none)));
  unstopped = λ h. h;
  within = recorded_within s CleanOne room;
}
goes_on removed budget before s below removes room more (Some key) due =
    more (recorded s CleanOne) (s, removes, (key, (room, clean_told s (Some key) due))) (recorded_within s CleanOne room)

-- so many more may be removed
ends_by : (left removed budget : ℕ) (before s : Past) → removed + left ≡ budget → Removes before removed s → IsWithin s → HasEnd before budget
ends_by zero removed budget before s count removes within =
    record { end = Budget removed; after = s; may = (omega (arith, count), removes); unstopped = λ h. h; within = within }
ends_by (suc left) removed budget before s count removes within = elim (dec_lt (count_of s) s.base.limits.events) [
  | no full ↦ record {
    end = Stopped HistoryFull removed;
    after = s;
    may = (omega (arith, count), (s, removes, (is_full s within full, refl)));
    unstopped = λ h. h;
    within = within;
  }
  | yes room ↦
      goes_on removed budget before s (omega (arith, count)) removes room (λ t removed_more within. ends_by left (suc removed) budget before t (omega (arith, count)) removed_more within) (first_due (world_of s)) refl
]

pub some_pass : (before : Past) (budget : ℕ) → IsWithin before → HasEnd before budget
some_pass before budget within = ends_by budget 0 budget before before (omega arith) refl within
