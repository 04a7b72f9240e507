-- The owners that a store counts for all the maps that live in it, and how one call changes them.
use Rattle.std.specs.Prelude.{◌≡◌, ℕ, ◌+◌, ◌<◌, ◌^◌, List, [], ◌∷◌, if◌then◌else◌}
use Rattle.ele_blocks.specs.Hands.{Hands}
use Rattle.ele_blocks.specs.Shared.{times, owners}
use Rattle.ele_blocks.specs.Store.{Store, owners_at}
use Rattle.ele_blocks.specs.Layout.{Layout}
use Rattle.ele_blocks.specs.LivesIn.{is_whole, backing}

-- the sum over a list
abbrev pub tally : {X : Type 0} → (X → ℕ) → List X → ℕ
tally f [] = 0
tally f (x ∷ xs) = f x + tally f xs

-- how often the maps name the leaf
abbrev pub named : ℕ → List Layout → ℕ
named leaf ms = tally (λ m. times leaf m.leaves) ms

-- how many of the maps lack bytes or slots or are too long
abbrev pub broken : Store → List Layout → ℕ
broken s ms = tally (λ m. if is_whole s m then 0 else 1) ms

-- exactly these maps live in the store: each leaf has as many owners as these maps name it, each block as many as slots of leaves name it,
-- and each map is whole
pub record Owes (s : Store) (ms : List Layout) : Type 0 where
  pub counted : (leaf : ℕ) → owners s.leaves leaf ≡ named leaf ms
  pub backed : (id : ℕ) → owners_at s id ≡ backing s.leaves id
  pub whole : broken s ms ≡ 0

-- the second maps have replaced the first, and are whole; a leaf that has another owner beside the first maps shows the same bytes
pub record Moves (s t : Store) (was now : List Layout) : Type 0 where
  pub hands : Hands s t (λ leaf. named leaf was) (λ leaf. named leaf now)
  pub whole : broken t now ≡ 0

-- each leaf has few enough owners to count another map
pub record IsUncrowded (s : Store) : Type 0 where
  pub few : (leaf : ℕ) → owners s.leaves leaf < 2 ^ 62
