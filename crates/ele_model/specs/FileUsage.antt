-- The usage that a change of policy moves from one kind to another. No public clause that a reader of the core needs cites this module:
-- `ele_files` uses it.
use Rattle.std.specs.Prelude.{ℕ, ◌==◌, List, length, filter}
use Rattle.ele_usage.specs.declared.usage.Usage.{Usage}
use Rattle.ele_content.specs.Place.{is_place, different}
use Rattle.ele_model.specs.declared.rows.VersionRow.{VersionRow}
use Rattle.ele_model.specs.declared.rows.DraftRow.{DraftRow}
use Rattle.ele_model.specs.Usage.{bytes_in, places}

-- what one file uses
abbrev pub file_usage : List VersionRow → List DraftRow → ℕ → Usage
file_usage versions drafts file =
    let own = filter (λ row. row.file == file) versions in
    let draft = filter (λ row. row.file == file) drafts in
    record { files = 1; versions = length own; bytes = bytes_in own; blocks = different is_place (places own draft) }
