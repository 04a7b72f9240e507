-- A world without some versions, and without the files that have nothing else.
use Rattle.std.specs.Prelude.{◌≡◌, ℕ, ◌<◌, Bool, true, false, not, filter}
use Rattle.ele_model.specs.declared.rows.Target.{Target}
use Rattle.ele_model.specs.declared.rows.Target.TheVariants.{File, Directory}
use Rattle.ele_world.specs.AnyDueLeave.{without_versions}
use Rattle.ele_model.specs.World.{World, next_of, is_live, is_held, has_draft}

abbrev pub is_dropped : (ℕ → Bool) → Target → Bool
is_dropped dropped (File file) = dropped file
is_dropped dropped (Directory directory) = false

-- the world without those versions, those files and the names of those files
abbrev pub less : (ℕ → ℕ → Bool) → (ℕ → Bool) → World → World
less gone dropped w = record (without_versions gone w) {
  files = filter (λ row. not (dropped row.id)) w.files;
  names = filter (λ row. not (is_dropped dropped row.target)) w.names;
}

-- the file is there, has no live name and no draft, and each of its held versions is among the removed ones
pub record IsEmptied (gone : ℕ → ℕ → Bool) (w : World) (file : ℕ) : Type 0 where
  pub there : 0 < next_of w.files file
  pub nameless : is_live w file ≡ false
  pub undrafted : has_draft w file ≡ false
  pub unheld : (number : ℕ) → is_held w file number ≡ true → gone file number ≡ true
