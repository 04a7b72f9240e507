-- A world and its renewed one, by hand. Of the first file versions 2 and 5 are held. Its first slot was written by version 1, which isn't,
-- and the third by version 4, which isn't either. Of the second file version 4 is held, and the last one, 5, isn't.
use Rattle.std.specs.Prelude.{[], ◌∷◌, None, Some, replicate}
use Rattle.ele_policy.specs.declared.policy.Policy.TheVariants.{All}
use Rattle.ele_model.specs.Bounds.{largest_bounds}
use Rattle.ele_model.specs.World.{World}
use Rattle.ele_model.specs.declared.rows.Target.TheVariants.{File, Directory}

abbrev pub aged : World
aged = record {
  now = 100;
  directories = record { id = 0; default = All } ∷ record { id = 7; default = All } ∷ [];
  files = record { id = 3; policy = All; next = 6 } ∷ record { id = 5; policy = All; next = 6 } ∷ [];
  names = record { directory = 0; name = 97 ∷ []; target = Directory 7; birth = 1; death = None } ∷ record { directory = 7; name = 98 ∷ []; target = File 3; birth = 2; death = None } ∷ record { directory = 7; name = 99 ∷ []; target = File 5; birth = 3; death = Some 50 } ∷ [];
  versions = record { file = 3; number = 2; opened = 4; closed = 5; ended = Some 9; cells = record { writer = 1; bytes = replicate 512 1 } ∷ record { writer = 2; bytes = 2 ∷ [] } ∷ [] }
      ∷ record { file = 3; number = 5; opened = 8; closed = 9; ended = None; cells = record { writer = 1; bytes = replicate 512 1 } ∷ record { writer = 5; bytes = replicate 512 3 } ∷ record { writer = 4; bytes = 3 ∷ [] } ∷ [] }
      ∷ record { file = 5; number = 4; opened = 10; closed = 11; ended = Some 40; cells = [] } ∷ [];
  drafts = [];
  handles = [];
  groups = record { name = 103 ∷ []; members = 5 ∷ 3 ∷ []; marks = record { at = 20; until = None } ∷ [] } ∷ [];
  made = record { files = 9; directories = 12; names = 40; versions = 30; handles = 17; groups = 6; members = 20; marks = 8 };
  limits = largest_bounds;
}

abbrev pub fresh : World
fresh = record {
  now = 100;
  directories = record { id = 0; default = All } ∷ record { id = 1; default = All } ∷ [];
  files = record { id = 1; policy = All; next = 3 } ∷ record { id = 2; policy = All; next = 3 } ∷ [];
  names = record { directory = 0; name = 97 ∷ []; target = Directory 1; birth = 1; death = None } ∷ record { directory = 1; name = 98 ∷ []; target = File 1; birth = 2; death = None } ∷ record { directory = 1; name = 99 ∷ []; target = File 2; birth = 3; death = Some 50 } ∷ [];
  versions = record { file = 1; number = 1; opened = 4; closed = 5; ended = Some 9; cells = record { writer = 1; bytes = replicate 512 1 } ∷ record { writer = 1; bytes = 2 ∷ [] } ∷ [] }
      ∷ record { file = 1; number = 2; opened = 8; closed = 9; ended = None; cells = record { writer = 1; bytes = replicate 512 1 } ∷ record { writer = 2; bytes = replicate 512 3 } ∷ record { writer = 2; bytes = 3 ∷ [] } ∷ [] }
      ∷ record { file = 2; number = 1; opened = 10; closed = 11; ended = Some 40; cells = [] } ∷ [];
  drafts = [];
  handles = [];
  groups = record { name = 103 ∷ []; members = 2 ∷ 1 ∷ []; marks = record { at = 20; until = None } ∷ [] } ∷ [];
  made = record { files = 2; directories = 1; names = 3; versions = 4; handles = 0; groups = 1; members = 2; marks = 1 };
  limits = largest_bounds;
}
