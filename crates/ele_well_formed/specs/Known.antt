-- The bytes that are known at places, while contents are gone over. No public clause cites this module.
use Rattle.std.specs.Prelude.{◌≡◌, ℕ, List, Option, Some, cond, ◌⊎◌}
use Rattle.std.specs.BTreeMap.{BTreeMap, get}
use Rattle.std.specs.Borrow.{Bor}
use Rattle.std.specs.Option.{option_map}
use Rattle.std.specs.Ordering.{nat_cmp, ordering_then}
use Rattle.std.specs.declared.cmp.Ordering.{Ordering}
use Rattle.ele_content.specs.Place.{Place, is_place}
use Rattle.ele_well_formed.specs.Sharing.{Content, HasBytes}

-- by file, then by slot, then by writer
abbrev pub place_cmp : ℕ × ℕ × ℕ → ℕ × ℕ × ℕ → Ordering
place_cmp a b = ordering_then (ordering_then (nat_cmp a.0 b.0) (nat_cmp a.1 b.1)) (nat_cmp a.2 b.2)

abbrev pub Bytes : Type 0
Bytes = BTreeMap (ℕ × ℕ × ℕ) (Bor (List ℕ))

-- the bytes at the place, if some are known
abbrev pub known_at : Bytes → Place → Option (List ℕ)
known_at known place = option_map (λ bytes. bytes.now) (get place_cmp known (place.file, place.slot, place.writer))

-- what was known still is, and so are the bytes of the content; nothing else is
pub record Puts (old new : Bytes) (content : Content) : Type 0 where
  pub kept : (place : Place) (bytes : List ℕ) → known_at old place ≡ Some bytes → known_at new place ≡ Some bytes
  pub put : (place : Place) (bytes : List ℕ) → HasBytes place bytes content → known_at new place ≡ Some bytes
  pub only : (place : Place) (bytes : List ℕ) → known_at new place ≡ Some bytes → (known_at old place ≡ Some bytes) ⊎ HasBytes place bytes content

-- the content has other bytes at a place than are known
pub record Differs (known : Bytes) (content : Content) : Type 0 where
  pub place : Place
  pub bytes : List ℕ
  pub other : List ℕ
  pub there : known_at known place ≡ Some bytes
  pub has : HasBytes place other content
  pub differ : bytes ≡ other → ⊥

-- the bytes are known at the place, where no others were; all else is as it was
pub record PutsCell (old new : Bytes) (place : Place) (bytes : List ℕ) : Type 0 where
  pub at_each : (q : Place) → known_at new q ≡ cond (is_place place q) (Some bytes) (known_at old q)
  pub same : (other : List ℕ) → known_at old place ≡ Some other → other ≡ bytes

-- other bytes are known at the place
pub record DiffersAt (known : Bytes) (place : Place) (bytes : List ℕ) : Type 0 where
  pub other : List ℕ
  pub there : known_at known place ≡ Some other
  pub differ : other ≡ bytes → ⊥
