-- What the files of each kind of policy use.
use Rattle.std.specs.Prelude.{ℕ, ◌+◌, Bool, false, List, [], ◌∷◌, ◌++◌, length, map, filter, sum}
use Rattle.std.specs.List.{flat_map}
use Rattle.std.specs.Option.{option_map_or}
use Rattle.ele_policy.specs.declared.policy.Kind.{Kind}
use Rattle.ele_policy.specs.declared.policy.Kind.TheVariants as kind
use Rattle.ele_policy.specs.Policy.{kind_of, is_kind}
use Rattle.ele_usage.specs.declared.usage.Usage.{Usage}
use Rattle.ele_content.specs.declared.cell.Cell.{Cell}
use Rattle.ele_content.specs.Content.{content_of}
use Rattle.ele_content.specs.Place.{Place, is_place, different}
use Rattle.ele_model.specs.declared.rows.FileRow.{FileRow}
use Rattle.ele_model.specs.declared.rows.VersionRow.{VersionRow}
use Rattle.ele_model.specs.declared.rows.DraftRow.{DraftRow}
use Rattle.ele_model.specs.World.{World, policy_of}

-- the file's policy is of that kind
abbrev pub is_of : Kind → FileRow → Bool
is_of k row = is_kind k (kind_of row.policy)

abbrev pub is_file_of : List FileRow → Kind → ℕ → Bool
is_file_of files k id = option_map_or (λ policy. is_kind k (kind_of policy)) (policy_of files id) false

-- each slot of a file with the version that wrote it; the first of the cells is this slot
abbrev pub places_from : ℕ → ℕ → List Cell → List Place
places_from file slot [] = []
places_from file slot (cell ∷ cells) = record { file = file; slot = slot; writer = cell.writer } ∷ places_from file (slot + 1) cells

-- the slots of all versions and drafts
abbrev pub places : List VersionRow → List DraftRow → List Place
places versions drafts =
    flat_map (λ row. places_from row.file 0 row.cells) versions ++ flat_map (λ row. places_from row.file 0 row.cells) drafts

-- how many bytes the versions have; each version counts as a whole
abbrev pub bytes_in : List VersionRow → ℕ
bytes_in versions = sum (map (λ row. length (content_of row.cells)) versions)

-- the files of the kind, their versions, the bytes of these, and how many different blocks they and the drafts have. A slot that several
-- have from one writer is one block
unfoldable pub usage_of : World → Kind → Usage
usage_of w k =
    let versions = filter (λ row. is_file_of w.files k row.file) w.versions in
    let drafts = filter (λ row. is_file_of w.files k row.file) w.drafts in
    record {
      files = length (filter (is_of k) w.files);
      versions = length versions;
      bytes = bytes_in versions;
      blocks = different is_place (places versions drafts);
    }

-- for each kind
abbrev pub usages : World → List Usage
usages w = usage_of w kind.One ∷ usage_of w kind.All ∷ usage_of w kind.Safe ∷ usage_of w kind.Landmarks ∷ []
