-- The last hash of a chain determines its rows.
use Rattle.std.specs.Prelude.{◌≡◌, ◌≢◌, ◌⊎◌, ℕ, List, [], ◌∷◌}
use Rattle.std.specs.List.{Contains}
use Rattle.sha2.specs.Sha256.{sha256}
use Rattle.ele_chain.specs.Chain.{hashed, last_hash}

-- two different texts have one SHA-256, and a hash of each chain is of one of them
pub record Collide (rows others : List (List ℕ)) : Type 0 where
  pub one : List ℕ
  pub other : List ℕ
  pub one_hashed : Contains (hashed [] rows) one
  pub other_hashed : Contains (hashed [] others) other
  pub differ : one ≢ other
  pub same : sha256 one ≡ sha256 other

-- the chain has rows, and its first one doesn't begin with `=` (61)
abbrev pub BeginsWell : List (List ℕ) → Type 0
BeginsWell [] = ⊥
BeginsWell ([] ∷ rows) = ⊥
BeginsWell ((b ∷ bs) ∷ rows) = b ≢ 61

-- chains with one last hash have the same rows, unless two hashes collide
abbrev pub OneChain : Type 0
OneChain = (rows others : List (List ℕ)) → BeginsWell rows → BeginsWell others → last_hash [] rows ≡ last_hash [] others → (rows ≡ others) ⊎ Collide rows others
