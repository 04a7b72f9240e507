-- The store of a handle.
use Rattle.std.specs.Prelude.{if◌then◌else◌, Option, Some, None}
use Rattle.ele_c.specs.declared.handle.Elephant.{Elephant}
use Rattle.ele_embed.specs.Embedding.{Embedding}

abbrev pub stored : Elephant → Option Embedding
stored elephant = if elephant.is_full then Some elephant.held else None
