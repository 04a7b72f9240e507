-- The answers of `Names` as contracts see them.
use Rattle.std.specs.Prelude.{ℕ, List}
use Rattle.ele_model.specs.declared.rows.Target.{Target}
pub use Rattle.ele_model.specs.Restorable.{name_cmp}

-- a name's target, as an entry by directory and name
abbrev pub by_name : ℕ × List ℕ × Target → (ℕ × List ℕ) × Target
by_name item = ((item.0, item.1), item.2)
