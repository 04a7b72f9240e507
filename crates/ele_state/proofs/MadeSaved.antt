-- A file that was just made gets its second version, or if memory is refused, leaves no trace.
use Rattle.ele_model.proofs.Allowed.{saved_is}
use Rattle.ele_model.proofs.Created.{created, made_is, made_next, undrafted_yet}
use Rattle.ele_model.specs.May.{MayMakeVersion}
use Rattle.ele_state.proofs.Words.{Append, HasParts, Held, IsSettled, IsSource, IsTracked, Key, Kind, List, MakeFile, Policy, Rows, World, after_change, after_changes, ap, appending, arith, cells_by, has_draft, has_key, kind_of, length, longest_content, next_of, only_at, plus, refl, shown_of, subst, sums_of, sym, true, versions_made, with_version, without, world_of, ℕ, [], ◌+◌, ◌<◌, ◌≤◌, ◌∙◌, ◌∷◌, ◌≡◌}
use Rattle.ele_files.specs.Held.{is_bare}
use Rattle.ele_usage.specs.Adding.{IsWithin}
use Rattle.ele_state.specs.Source.{Bytes}
use Rattle.ele_state.specs.Tracked.{new_file}
use Rattle.ele_state.proofs.SoundAfter.{settled_by}
use Rattle.ele_state.specs.Shown.{Shown}
use Rattle.ele_model.specs.World.{default_of}
use Rattle.ele_state.proofs.Unmade.{back_tracked, back_world, made_bare, made_within, unmade}

module _ (w : World) (directory : ℕ) (name : List ℕ) (policy : Policy) (k : HasParts w) (rows : Rows) (settled : IsSettled rows) (is : world_of rows ≡ after_change w (MakeFile directory name (w.made.files + 1) policy)) where
  abbrev id : ℕ
  id = w.made.files + 1

  is_created : world_of rows ≡ created w directory name id policy
  is_created = is ∙ made_is w directory name policy k

  pub its_next : next_of rows.files.files id ≡ 2
  its_next = ap (λ (v : World). next_of v.files id) is ∙ made_next w directory name policy k

  pub its_there : 0 < next_of rows.files.files id
  its_there = omega (arith, its_next)

  -- ---- it gets the version

  module _ (bytes : List ℕ) (short : length bytes ≤ longest_content) where
    pub its_source : IsSource rows.files id (Bytes bytes)
    its_source = record { there = its_there; undrafted = ap (λ (v : World). has_draft v id) is ∙ undrafted_yet w k; short = short }

    pub saved_world : (now : Rows) → world_of now ≡ after_changes (world_of rows) (appending rows.files rows.moment id (Bytes bytes)) → world_of now ≡ after_changes w (MakeFile directory name id policy ∷ Append id w.now (cells_by 2 bytes) ∷ [])
    saved_world now after =
        after
        ∙ ap (λ (v : World). with_version v id v.now (cells_by (next_of v.files id) bytes)) is
        ∙ ap (λ (n : ℕ). with_version (after_change w (MakeFile directory name id policy)) id w.now (cells_by n bytes)) (made_next w directory name policy k)

    room : versions_made w + 1 < w.limits.versions → MayMakeVersion (world_of rows)
    room more = subst MayMakeVersion (sym is) (omega (arith, more))

    pub saved_settles : versions_made w + 1 < w.limits.versions → (now : Rows) → world_of now ≡ after_changes (world_of rows) (appending rows.files rows.moment id (Bytes bytes)) → IsTracked now → IsSettled now
    saved_settles more now after tracked = settled_by rows (shown_of rows) refl settled (Append id rows.moment (cells_by (next_of rows.files.files id) bytes)) (saved_is (world_of rows) id bytes its_there short (room more)) tt now after tracked

  -- ---- it is removed again, after the keys of the version were refused or taken back

  module _ (two : Rows) (refused : two ≡ record rows { queue = two.queue }) where
    same_files : two.files ≡ rows.files
    same_files = ap (λ (r : Rows). r.files) refused

    pub two_bare : is_bare (without two.files id 1) id ≡ true
    two_bare = subst (λ (h : Held). is_bare (without h id 1) id ≡ true) (sym same_files) (made_bare w directory name policy k rows settled.sound.tracked is_created)

    pub two_within : IsWithin new_file (sums_of two.book (kind_of policy))
    two_within = subst (λ (r : Rows). IsWithin new_file (sums_of r.book (kind_of policy))) (sym refused) (made_within w directory name policy k rows settled.sound.tracked is_created)

    module _ (same : (j : Key) → has_key j two.queue ≡ has_key j rows.queue) (three : Rows) (gone : three ≡ unmade two id two.queue three.book) (taken : (kind : Kind) → plus (sums_of three.book kind) (only_at (kind_of policy) new_file kind) ≡ sums_of two.book kind) where
      gone_of : three ≡ unmade rows id two.queue three.book
      gone_of = gone ∙ ap (λ (r : Rows). unmade r id two.queue three.book) refused

      taken_of : (kind : Kind) → plus (sums_of three.book kind) (only_at (kind_of policy) new_file kind) ≡ sums_of rows.book kind
      taken_of kind = taken kind ∙ ap (λ (r : Rows). sums_of r.book kind) refused

      pub no_trace : world_of three ≡ w
      no_trace = ap world_of gone_of ∙ back_world w directory name policy k rows settled.sound.tracked is_created two.queue same three.book taken_of

      pub tracked_again : IsTracked three
      tracked_again = subst IsTracked (sym gone_of) (back_tracked w directory name policy k rows settled.sound.tracked is_created two.queue same three.book taken_of)

-- all of it, for the file's number by whatever name
pub record IsSavable (w : World) (directory : ℕ) (name : List ℕ) (policy : Policy) (rows : Rows) (id : ℕ) : Type 0 where
  pub there : 0 < next_of rows.files.files id
  pub next : next_of rows.files.files id ≡ 2
  pub source : (bytes : List ℕ) → length bytes ≤ longest_content → IsSource rows.files id (Bytes bytes)
  pub world : (bytes : List ℕ) → length bytes ≤ longest_content → (now : Rows) → world_of now ≡ after_changes (world_of rows) (appending rows.files rows.moment id (Bytes bytes)) → world_of now ≡ after_changes w (MakeFile directory name id policy ∷ Append id w.now (cells_by 2 bytes) ∷ [])
  pub settles : (bytes : List ℕ) → length bytes ≤ longest_content → versions_made w + 1 < w.limits.versions → (now : Rows) → world_of now ≡ after_changes (world_of rows) (appending rows.files rows.moment id (Bytes bytes)) → IsTracked now → IsSettled now
  pub bare : (two : Rows) → two ≡ record rows { queue = two.queue } → is_bare (without two.files id 1) id ≡ true
  pub within : (two : Rows) → two ≡ record rows { queue = two.queue } → IsWithin new_file (sums_of two.book (kind_of policy))
  pub back : (two : Rows) → two ≡ record rows { queue = two.queue } → ((j : Key) → has_key j two.queue ≡ has_key j rows.queue) → (three : Rows) → three ≡ unmade two id two.queue three.book → ((kind : Kind) → plus (sums_of three.book kind) (only_at (kind_of policy) new_file kind) ≡ sums_of two.book kind) → (world_of three ≡ w) × IsTracked three

pub savable : (w : World) (directory : ℕ) (name : List ℕ) (policy : Policy) → HasParts w → (rows : Rows) → IsSettled rows → (id : ℕ) → id ≡ w.made.files + 1 → world_of rows ≡ after_change w (MakeFile directory name id policy) → IsSavable w directory name policy rows id
savable w directory name policy k rows settled file same is =
    let made = subst (λ (n : ℕ). world_of rows ≡ after_change w (MakeFile directory name n policy)) same is in
    subst (IsSavable w directory name policy rows) (sym same) (record {
      there = its_there w directory name policy k rows settled made;
      next = its_next w directory name policy k rows settled made;
      source = its_source w directory name policy k rows settled made;
      world = saved_world w directory name policy k rows settled made;
      settles = saved_settles w directory name policy k rows settled made;
      bare = two_bare w directory name policy k rows settled made;
      within = two_within w directory name policy k rows settled made;
      back = λ two refused same_keys three gone taken. (no_trace w directory name policy k rows settled made two refused same_keys three gone taken, tracked_again w directory name policy k rows settled made two refused same_keys three gone taken);
    })

-- after the call that made the file
pub savable_by : (rows : Rows) (shown : Shown) (is : shown_of rows ≡ shown) (settled : IsSettled rows) (directory : ℕ) (name : List ℕ) (now : Rows) (then : Shown) (seen : shown_of now ≡ then) (made : IsSettled now) (id : ℕ) → id ≡ shown.world.made.files + 1 → then.world ≡ after_change shown.world (MakeFile directory name id (default_of shown.world.directories directory)) → IsSavable (world_of rows) directory name (default_of (world_of rows).directories directory) now id
savable_by rows shown is settled directory name now then seen made id same after =
    let was = subst (λ (s : Shown). then.world ≡ after_change s.world (MakeFile directory name id (default_of s.world.directories directory))) (sym is) after in
    savable (world_of rows) directory name _ settled.sound.formed now made id (same ∙ ap (λ (s : Shown). s.world.made.files + 1) (sym is)) (ap (λ (s : Shown). s.world) seen ∙ was)
