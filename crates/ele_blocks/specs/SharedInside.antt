-- The invariant of the fields of a store of shared values. No public clause cites this module.
use Rattle.std.specs.Prelude.{ℕ, nat_le, List, [], ◌∷◌, length, Option, if◌then◌else◌}
use Rattle.std.specs.Option.{option_map}
use Rattle.slab.specs.Slab.{Slab}
use Rattle.ele_blocks.specs.Shared.{Owned}
use Rattle.ele_blocks.specs.Shared.{Counted}
use Rattle.ele_blocks.specs.declared.shared.Shared.TheInside.{Inside}

module _ {X : Type 0} where
  -- a value with its count of owners
  abbrev pub with_count : ℕ → X → Counted X
  with_count count value = record { value = value; owners = count }

  -- each value with the count at its place
  abbrev pub counted : List (Option X) → List ℕ → List (Option (Counted X))
  counted [] counts = []
  counted (value ∷ values) [] = option_map (with_count 0) value ∷ counted values []
  counted (value ∷ values) (count ∷ counts) = option_map (with_count count) value ∷ counted values counts

  -- the capacity, if the list of counts has it too
  abbrev pub counted_with : Slab X → List ℕ → Slab (Counted X)
  counted_with values counts = record {
    slots = counted values.slots counts;
    vacant_key = values.vacant_key;
    capacity = if nat_le values.capacity (length counts) then values.capacity else 0;
  }

  abbrev pub counted_slab : Inside X → Slab (Counted X)
  counted_slab s = counted_with s.values s.owners.items

  abbrev pub AreOwned : Inside X → Type 0
  AreOwned s = Owned (counted s.values.slots s.owners.items)
