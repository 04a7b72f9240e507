-- The queue follows a change of the world.
use Rattle.ele_state.proofs.Words.{◌≡◌, ℕ, ◌==◌, false, ◌&&◌, List, arith, nat_tests, IsQueued, IsRekeyed, Key, ripe_at, World}

module _ (w v : World) (queue after : List Key) (queued : IsQueued w queue) where
  -- one version's key was added, removed or changed
  pub entry_follows : (file number : ℕ) → ((f n : ℕ) → ((f == file) && (n == number)) ≡ false → ripe_at v f n ≡ ripe_at w f n) → IsRekeyed file number (ripe_at w file number) (ripe_at v file number) queue after → IsQueued v after
  entry_follows file number same edited k = grind (arith, nat_tests, same k.file k.number, queued k, edited k)
