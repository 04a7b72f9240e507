-- The files that are made so far, and the next one, which gets its rows. No public clause cites this module.
use Rattle.std.specs.Prelude.{List, [], ◌∷◌, ◌++◌}
use Rattle.ele_blocks.specs.declared.placed.PlacedBlocks.{PlacedBlocks}
use Rattle.ele_blocks.specs.Placed.{Finds}
use Rattle.ele_blocks.specs.PlaceLaws.{PlaceLaws}
use Rattle.ele_blocks.specs.Stock.{names_in}
use Rattle.ele_blocks.specs.Store.{Store}
use Rattle.ele_files.specs.Adding.{Growing}
use Rattle.ele_files.specs.Held.{Held}
use Rattle.ele_files.specs.Inside.{Keeps, file_row, held_in, stock_of}
use Rattle.ele_files.specs.declared.file.File.{File}
use Rattle.ele_files.specs.declared.files.made.MadeFiles.TheInside.{Inside as MadeInside}
use Rattle.ele_files.specs.declared.files.next_file.NextFile.TheInside.{Inside as NextInside}
use Rattle.ele_sessions.specs.Sessions.{AllSessions, Draft}

-- drafts that no handle writes yet
abbrev pub unopened : List Draft → AllSessions
unopened drafts = record { drafts = drafts; handles = []; opened = 0 }

abbrev pub made_of : MadeInside → Held
made_of i = held_in i.store i.files.items (unopened i.drafts)

abbrev pub IsMadeKept : MadeInside → Type 0
IsMadeKept i = Keeps i.store i.files.items (unopened i.drafts)

-- the next file is the last one, and the blocks of its places are found
pub record Grows (s : Store) (placed : PlacedBlocks) (files : List File) (file : File) (drafts : List Draft) : Type 0 where
  pub laws : PlaceLaws
  pub keeps : Keeps s (files ++ file ∷ []) (unopened drafts)
  pub finds : Finds placed file.id (names_in s (stock_of (files ++ file ∷ []) drafts))

abbrev pub growing_of : NextInside → Growing
growing_of i = record { held = held_in i.store (i.files.items ++ i.file ∷ []) (unopened i.drafts); file = file_row i.file }

abbrev pub IsGrowing : NextInside → Type 0
IsGrowing i = Grows i.store i.placed i.files.items i.file i.drafts
