-- The version that a question or a revert means, by its info.
use Rattle.ele_model.proofs.Basics.{◌≡◌, ℕ, Result, Ok, Err, true, refl, Some, find, any-found, found_passes}
use Rattle.ele_model.proofs.Meant.{is_meant, made_of, numbered_found}
use Rattle.ele_path.specs.declared.tagged.Tag.{Tag}
use Rattle.ele_path.specs.declared.tagged.Tag.TheVariants as tag
use Rattle.ele_model.specs.Tagged.{version_meant}
use Rattle.ele_model.specs.Told.{file_stat, info_of}
use Rattle.ele_model.specs.World.{World, is_held, is_version, policy_for}
use Rattle.ele_model.specs.declared.refusal.Refusal.{Refusal}
use Rattle.ele_model.specs.declared.reply.Reply.TheVariants.{FileStat}
use Rattle.ele_model.specs.declared.rows.VersionInfo.{VersionInfo}
use Rattle.ele_model.specs.declared.rows.VersionRow.{VersionRow}
use Rattle.std.specs.Result.{result_map_both}

pub stat_is : (w : World) (t : Tag) (file : ℕ) (info : VersionInfo) → Ok info ≡ result_map_both info_of (λ (refusal : Refusal). refusal) (version_meant w.files w.versions file t) → file_stat w (version_meant w.files w.versions file t) ≡ Ok (FileStat (record { file = file; info = info; policy = policy_for w.files file }))
stat_is w t file info told = by (version_meant w.files w.versions file t) refl told where
  by : (r : Result VersionRow Refusal) → version_meant w.files w.versions file t ≡ r → Ok info ≡ result_map_both info_of (λ (refusal : Refusal). refusal) r → file_stat w r ≡ Ok (FileStat (record { file = file; info = info; policy = policy_for w.files file }))
  by (Ok row) meant h = let own = (is_meant w.files w.versions file t row meant).own in cc
  by (Err refusal) meant h = absurd cc

-- the file's row of that number is found by it, so a read returns its cells
pub numbered : (w : World) (file number : ℕ) (row : VersionRow) → version_meant w.files w.versions file (tag.Number number) ≡ Ok row → find (is_version file number) w.versions ≡ Some row
numbered w file number row meant = numbered_found w.versions file number row (made_of w.files w.versions file number row meant)

-- and it is held
pub numbered_held : (w : World) (file number : ℕ) (row : VersionRow) → version_meant w.files w.versions file (tag.Number number) ≡ Ok row → is_held w file number ≡ true
numbered_held w file number row meant = let found = numbered w file number row meant in any-found (is_version file number) (is_version file number) w.versions row found (found_passes (is_version file number) w.versions row found)
