-- A chunk. No public clause cites this module.
use Rattle.std.specs.Prelude.{◌≡◌, ℕ, List, Vec, map, vec_capacity}
use Rattle.std.specs.declared.alloc.Global.{Global}
use Rattle.std.specs.Option.{ForSome}
use Rattle.ele_lists.specs.Ends.{last_of}
use Rattle.ele_rows.specs.declared.head.Head.{Head}

-- the rows, and for how many rows there is memory
pub record Piece (X : Type 0) : Type 0 where
  pub items : List X
  pub capacity : ℕ

abbrev pub piece_of : {X : Type 0} → Vec X Global → Piece X
piece_of rows = record { items = rows.items; capacity = vec_capacity rows }

-- each row's head is at its place, the last one also stands alone, and heads have as much memory as rows
pub record IsHeaded {X : Type 0} (head : X → Head) (end : Head) (column : Vec Head Global) (held : Vec X Global) : Type 0 where
  pub heads : column.items ≡ map head held.items
  pub last : ForSome (last_of column.items) (λ found. found ≡ end)
  pub room : vec_capacity column ≡ vec_capacity held
