-- What was printed into an empty buffer.
use Rattle.std.proofs.Common.{◌≡◌, ℕ, ◌<◌, ◌≤◌, List, [], length, true, false, sym, ◌∙◌}
use Rattle.std.proofs.Math.Nat.{lt_of_not-le}
use Rattle.ele_output.proofs.Known.{puts_short}
use Rattle.ele_output.specs.Outlet.{Outlet, Puts, room}

-- the writer failed, so that not all has room in the buffer
pub failed_long : {a b : Outlet} {text : List ℕ} → Puts a b text → a.held ≡ [] → a.has_failed ≡ false → b.has_failed ≡ true → room < length text
failed_long {a} {b} {text} p none well failed =
    lt_of_not-le (λ (fits : length text ≤ room). let never : true ≡ false = sym failed ∙ (puts_short p well (rw none fits)).1 in absurd cc)
