-- Sums of usages, as the book of the state computes them. A reader of the core doesn't need them.
use Rattle.std.specs.Prelude.{◌+◌, ◌≤◌}
use Rattle.ele_usage.specs.declared.usage.Usage.{Usage}

-- no file
abbrev pub nothing : Usage
nothing = record { files = 0; versions = 0; bytes = 0; blocks = 0 }

-- both together
abbrev pub plus : Usage → Usage → Usage
plus a b = record {
  files = a.files + b.files;
  versions = a.versions + b.versions;
  bytes = a.bytes + b.bytes;
  blocks = a.blocks + b.blocks;
}

-- the whole has at least the part
pub record IsWithin (part whole : Usage) : Type 0 where
  pub files : part.files ≤ whole.files
  pub versions : part.versions ≤ whole.versions
  pub bytes : part.bytes ≤ whole.bytes
  pub blocks : part.blocks ≤ whole.blocks
