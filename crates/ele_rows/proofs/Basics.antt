-- The words of rows that proofs here use, in one place.
pub use Rattle.ele_rows.specs.Piece.{IsHeaded, Piece}
pub use Rattle.ele_rows.specs.Chunks.{AreFilled, IsLastBehind, IsPlaceOf, IsSeam, Sinks, before_place, behind_place, ends_before, flat, last_room, room_of, rows_at}
pub use Rattle.ele_rows.specs.Index.{IsLastOf, entry_cmp, has}
pub use Rattle.ele_rows.specs.Serial.{value_at}
pub use Rattle.ele_rows.specs.declared.head.Head.{Head}
pub use Rattle.ele_rows.specs.declared.index.Index.{Index}
