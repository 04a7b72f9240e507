-- The story of a file, from its parts.
use Rattle.ele_audit.proofs.Basics.{List, refl, ℕ, ◌≡◌, Option, Some, None}
use Rattle.std.specs.Prelude.{Ok, Err, filter}
use Rattle.std.specs.List.{AllZip}
use Rattle.ele_audit.specs.Seen.{IsSeen}
use Rattle.ele_audit.specs.Story.{AreNames, AreVersions, IsStory, WasRemoved, file_told, is_removal_from, seen_in, seen_last}
use Rattle.ele_audit.specs.declared.seen.Seen.{Seen}
use Rattle.ele_audit.specs.declared.story_row.Story.{Story}
use Rattle.ele_audit.specs.declared.story_row.VersionStory.{VersionStory}
use Rattle.ele_due.specs.declared.key.Key.{Key}
use Rattle.ele_model.specs.declared.refusal.Refusal.{Refusal}
use Rattle.ele_model.specs.World.{World}

-- what was seen in a world
pub seen_ok : (path : List (List ℕ)) (w : World) (file : ℕ) (seen : Seen) → file_told w.names path ≡ Ok file → seen.file ≡ file → AreNames w.names file seen.names.items
    → IsSeen (seen_in path w) (Some seen)
seen_ok path w file seen found is names = rw found (record { file = is; names = names })

pub seen_err : (path : List (List ℕ)) (w : World) (why : Refusal) → file_told w.names path ≡ Err why → IsSeen (seen_in path w) None
seen_err path w why none = rw none tt

-- the removed and the held versions of a file
abbrev pub HaveVersions : List (World × Key) → World → ℕ → List VersionStory → Type 0
HaveVersions removals w file versions =
    (removed : List VersionStory) × AllZip (WasRemoved file) (filter (is_removal_from file) removals) removed × AreVersions w file removed versions

-- the path names the file now
pub tells_now : (removals : List (World × Key)) (w : World) (path : List (List ℕ)) (file : ℕ) (story : Story) → file_told w.names path ≡ Ok file → story.file ≡ file
    → HaveVersions removals w file story.versions.items → AreNames w.names file story.names.items → IsStory removals w path (Ok story)
tells_now removals w path file story found is versions names = record {
  seen = w;
  file = rw (found, is) refl;
  is = record { removed = versions.0; were = rw is versions.1; versions = rw is versions.2; names = rw is names };
}

-- or it named the file before a removal
pub tells_before : (removals : List (World × Key)) (w : World) (path : List (List ℕ)) (why : Refusal) (seen : Seen) (story : Story) → file_told w.names path ≡ Err why
    → IsSeen (seen_last path removals) (Some seen) → story.file ≡ seen.file → HaveVersions removals w seen.file story.versions.items → story.names.items ≡ seen.names.items
    → IsStory removals w path (Ok story)
tells_before removals w path why seen story none before is versions names = by (seen_last path removals) refl before where
  by : (there : Option (World × ℕ)) → seen_last path removals ≡ there → IsSeen there (Some seen) → IsStory removals w path (Ok story)
  by None at found = absurd found
  by (Some there) at found = record {
    seen = there.0;
    file = rw (none, at, is, found.file) refl;
    is = record { removed = versions.0; were = rw is versions.1; versions = rw is versions.2; names = rw (names, is, found.file) found.names };
  }

-- or it never named one
pub tells_none : (removals : List (World × Key)) (w : World) (path : List (List ℕ)) (why : Refusal) → file_told w.names path ≡ Err why → IsSeen (seen_last path removals) None
    → IsStory removals w path (Err why)
tells_none removals w path why none before = by (seen_last path removals) refl before where
  by : (there : Option (World × ℕ)) → seen_last path removals ≡ there → IsSeen there None → IsStory removals w path (Err why)
  by None at found = (rw (none, at) refl, none)
  by (Some there) at found = absurd found
