-- What all versions and drafts use, and changes of one file's versions and drafts. No public clause cites this module.
use Rattle.std.specs.Prelude.{◌≡◌, ℕ, ◌==◌, not, length, filter, if◌then◌else◌}
use Rattle.ele_content.specs.Place.{is_place, different}
use Rattle.ele_policy.specs.declared.policy.Kind.{Kind}
use Rattle.ele_usage.specs.declared.usage.Usage.{Usage}
use Rattle.ele_usage.specs.Adding.{nothing}
use Rattle.ele_model.specs.Usage.{is_of, is_file_of, places, bytes_in}
use Rattle.ele_model.specs.World.{World}

-- the versions of all files, their bytes, and how many different blocks they and the drafts have
abbrev pub whole : World → Usage
whole w = record {
  files = 0;
  versions = length w.versions;
  bytes = bytes_in w.versions;
  blocks = different is_place (places w.versions w.drafts);
}

-- what a file of that kind has of it in a world, by its kind in the first world
abbrev pub part : World → ℕ → Kind → World → Usage
part first file k w = if is_file_of first.files k file then whole w else nothing

-- each file has a policy of the same kind in both worlds, and other files have the same versions and drafts
pub record ChangesOnly (file : ℕ) (w v : World) : Type 0 where
  pub kinds : (k : Kind) (id : ℕ) → is_file_of v.files k id ≡ is_file_of w.files k id
  pub files : (k : Kind) → length (filter (is_of k) v.files) ≡ length (filter (is_of k) w.files)
  pub versions : filter (λ row. not (row.file == file)) v.versions ≡ filter (λ row. not (row.file == file)) w.versions
  pub drafts : filter (λ row. not (row.file == file)) v.drafts ≡ filter (λ row. not (row.file == file)) w.drafts
