-- Changes of the clock, of directories and of names, in a world and in one that lags behind it.
use Rattle.ele_model.proofs.Basics.{◌≡◌, ◌==◌, ◌≤◌, ◌-◌, ℕ, Bool, true, false, cond, not, ◌&&◌, List, [], ◌∷◌, ◌++◌, refl, ap, sym, ◌∙◌, arith, nat_tests, filter, list_any}
use Rattle.ele_model.proofs.Basics.{all-weaker, list_any-append, list_any-update_fails, list_any-update_first, false≢true, update_first}
use Rattle.ele_model.proofs.Words.{AddName, Change, EndFileName, EndName, SetDirectoryDefault, HasParts, MakeDirectory, MoveName, Policy, Time, World, after_change, born_row, dies, ended_at, is_live, is_live_name, is_live_name_of, is_target_file, is_version, next_of, ripe_at, with_end}
use Rattle.ele_world.proofs.Words.{NameRow, Target, Directory, File}
use Rattle.ele_world.specs.Less.{less, is_dropped}
use Rattle.ele_world.proofs.AnyDueLeave.{remains}
use Rattle.ele_world.proofs.ChangesLag.{Behind, KeepsBehind, change_on, due_moment, live_there, names_live, unripe_there}
use Rattle.ele_world.proofs.CleanLags.{parts_same}
use Rattle.ele_model.proofs.Currents.{has_current}
use Rattle.ele_world.proofs.Filters.{filter-push, update_first-filter, update_first-stay}
use Rattle.ele_world.proofs.LagsKeeps.{stays_name, live_same, next_same}
use Rattle.ele_world.proofs.LiveNames.{StaysLive}
use Rattle.ele_model.proofs.NameMoments.{kept_moments, moments_kept, moments_stay, no_moment}
use Rattle.ele_model.proofs.Neighbours.{in_order_of}

module _ (gone : ℕ → ℕ → Bool) (dropped : ℕ → Bool) (u v : World) (b : Behind gone dropped u v) where
  abbrev behind : World
  behind = less gone dropped v

  -- ---- the clock, and a directory's policy

  pub time_both : (to : ℕ) → v.now ≤ to → HasParts (after_change v (Time to)) → Behind gone dropped (after_change u (Time to)) (after_change v (Time to))
  time_both to le formed = change_on gone dropped u v b (Time to) refl formed (record {
    time = le;
    ripe = λ file number named. moments_stay v (after_change v (Time to)) (in_order_of v b.formed) refl refl refl refl file number refl;
    emptied = λ file is e. record { there = e.there; nameless = e.nameless; undrafted = e.undrafted; unheld = e.unheld };
    groups = refl;
  })

  -- if files, versions, drafts, handles, groups and the clock stay, and no file becomes live
  keeps_names : (after : World) → after.now ≡ v.now → after.files ≡ v.files → after.versions ≡ v.versions → after.drafts ≡ v.drafts → after.handles ≡ v.handles → after.groups ≡ v.groups
      → ((file : ℕ) → is_live v file ≡ false → is_live after file ≡ false) → KeepsBehind gone dropped v after
  keeps_names after now files versions drafts handles groups nameless = record {
    time = omega (arith, now);
    ripe = λ file number named. moments_kept v after (in_order_of v b.formed) files versions handles groups file number (nameless file) (due_moment gone dropped u v b file number named);
    emptied = λ file is e. record { there = rw files e.there; nameless = nameless file e.nameless; undrafted = rw drafts e.undrafted; unheld = λ number held. e.unheld number (rw versions at held) };
    groups = groups;
  }

  pub govern_both : (directory : ℕ) (policy : Policy) → HasParts (after_change v (SetDirectoryDefault directory policy)) → Behind gone dropped (after_change u (SetDirectoryDefault directory policy)) (after_change v (SetDirectoryDefault directory policy))
  govern_both directory policy formed = change_on gone dropped u v b (SetDirectoryDefault directory policy) refl formed (keeps_names (after_change v (SetDirectoryDefault directory policy)) refl refl refl refl refl refl (λ file none. none))

  -- ---- the names that are left after a name more, and after the end of one

  abbrev kept_names : List NameRow → List NameRow
  kept_names names = filter (stays_name dropped) names

  name_more : (names : List NameRow) (directory : ℕ) (name : List ℕ) (target : Target) → is_dropped dropped target ≡ false → kept_names names ++ born_row directory name target v.now ∷ [] ≡ kept_names (names ++ born_row directory name target v.now ∷ [])
  name_more names directory name target stays = filter-push (stays_name dropped) names (born_row directory name target v.now) (ap not stays)

  name_end : (directory : ℕ) (name : List ℕ) → update_first (is_live_name directory name) (dies v.now) (kept_names v.names) ≡ kept_names (update_first (is_live_name directory name) (dies v.now) v.names)
  name_end directory name = update_first-stay (stays_name dropped) (is_live_name directory name) (dies v.now) v.names (λ row. refl)
      (all-weaker (StaysLive (stays_name dropped)) (λ row. is_live_name directory name row ≡ true → stays_name dropped row ≡ true) v.names (λ row stays is. stays (grind (arith, nat_tests, is))) (names_live gone dropped u v b))

  -- no file becomes live
  nameless_more : (names : List NameRow) (directory : ℕ) (name : List ℕ) (target : Target) (file : ℕ) → is_target_file file target ≡ false → list_any (is_live_name_of file) names ≡ false → list_any (is_live_name_of file) (names ++ born_row directory name target v.now ∷ []) ≡ false
  nameless_more names directory name target file other none = list_any-append (is_live_name_of file) names (born_row directory name target v.now ∷ []) ∙ grind (arith, nat_tests, none, other)

  -- a name of a live file means no nameless one
  other_file : (target : Target) (file : ℕ) → ((f : ℕ) → target ≡ File f → is_live v f ≡ true) → is_live v file ≡ false → is_target_file file target ≡ false
  other_file (Directory id) file live none = refl
  other_file (File f) file live none = grind (arith, nat_tests, live f refl, none, false≢true)

  nameless_end : (directory : ℕ) (name : List ℕ) (file : ℕ) → list_any (is_live_name_of file) v.names ≡ false → list_any (is_live_name_of file) (update_first (is_live_name directory name) (dies v.now) v.names) ≡ false
  nameless_end directory name file none =
      let more = list_any-update_fails (is_live_name directory name) (is_live_name_of file) (dies v.now) v.names (λ row. grind (arith, nat_tests)) in
      grind (arith, nat_tests, more, none, false≢true)

  -- ---- names are added, removed and moved

  pub directory_both : (directory : ℕ) (name : List ℕ) (id : ℕ) (policy : Policy) → let c = MakeDirectory directory name id policy in HasParts (after_change v c) → Behind gone dropped (after_change u c) (after_change v c)
  directory_both directory name id policy formed =
      let c = MakeDirectory directory name id policy in
      change_on gone dropped u v b c
      (ap (λ (names : List NameRow). let w : World = record (after_change behind c) { names = names } in w) (name_more v.names directory name (Directory id) refl)) formed
      (keeps_names (after_change v c) refl refl refl refl refl refl (λ file none. nameless_more v.names directory name (Directory id) file refl none))

  pub end_both : (directory : ℕ) (name : List ℕ) → let c = EndName directory name in HasParts (after_change v c) → Behind gone dropped (after_change u c) (after_change v c)
  end_both directory name formed =
      let c = EndName directory name in
      change_on gone dropped u v b c
      (ap (λ (names : List NameRow). let w : World = record (after_change behind c) { names = names } in w) (name_end directory name)) formed
      (keeps_names (after_change v c) refl refl refl refl refl refl (λ file none. nameless_end directory name file none))

  pub add_both : (directory : ℕ) (name : List ℕ) (target : Target) → is_dropped dropped target ≡ false → ((f : ℕ) → target ≡ File f → is_live v f ≡ true) → let c = AddName directory name target in HasParts (after_change v c) → Behind gone dropped (after_change u c) (after_change v c)
  add_both directory name target stays live formed =
      let c = AddName directory name target in
      change_on gone dropped u v b c
      (ap (λ (names : List NameRow). let w : World = record (after_change behind c) { names = names } in w) (name_more v.names directory name target stays)) formed
      (keeps_names (after_change v c) refl refl refl refl refl refl (λ file none. nameless_more v.names directory name target file (other_file target file live none) none))

  pub move_both : (from : ℕ) (old : List ℕ) (to : ℕ) (new : List ℕ) (target : Target) → is_dropped dropped target ≡ false → ((f : ℕ) → target ≡ File f → is_live v f ≡ true) → let c = MoveName from old to new target in HasParts (after_change v c) → Behind gone dropped (after_change u c) (after_change v c)
  move_both from old to new target stays live formed =
      let c = MoveName from old to new target in
      let names = update_first (is_live_name from old) (dies v.now) v.names in
      change_on gone dropped u v b c
      (ap (λ (names : List NameRow). let w : World = record (after_change behind c) { names = names } in w) (ap (λ (rows : List NameRow). rows ++ born_row to new target v.now ∷ []) (name_end from old) ∙ name_more names to new target stays)) formed
      (keeps_names (after_change v c) refl refl refl refl refl refl (λ file none. nameless_more names to new target file (other_file target file live none) (nameless_end from old file none)))

  -- ---- a file's name ends

  module _ (directory : ℕ) (name : List ℕ) (file : ℕ) (live : is_live v file ≡ true) where
    abbrev c : Change
    c = EndFileName directory name file

    abbrev ended_names : List NameRow
    ended_names = update_first (is_live_name directory name) (dies v.now) v.names

    there : dropped file ≡ false
    there = live_there gone dropped u v b file live

    versions_end : (number : ℕ) → update_first (is_version file number) (ended_at v.now) (filter (remains gone) v.versions) ≡ filter (remains gone) (update_first (is_version file number) (ended_at v.now) v.versions)
    versions_end number = update_first-filter (remains gone) (is_version file number) (not (gone file number)) (ended_at v.now) v.versions (λ row. refl) (λ row is. grind (arith, nat_tests, is))

    same_versions : (after_change behind c).versions ≡ filter (remains gone) (after_change v c).versions
    same_versions = rw (name_end directory name, live_same dropped file there ended_names, next_same dropped file there v.files, versions_end (next_of v.files file - 1)) (either (list_any (is_live_name_of file) ended_names)) where
      either : (l : Bool) → cond l (filter (remains gone) v.versions) (filter (remains gone) (with_end v file)) ≡ filter (remains gone) (cond l v.versions (with_end v file))
      either true = refl
      either false = refl

    ripe_stays : (f n : ℕ) → gone f n ≡ true → ripe_at (after_change v c) f n ≡ ripe_at v f n
    ripe_stays f n named = by ((f == file) && (n == next_of v.files file - 1)) refl where
      by : (l : Bool) → ((f == file) && (n == next_of v.files file - 1)) ≡ l → ripe_at (after_change v c) f n ≡ ripe_at v f n
      by false e = kept_moments v directory name file b.formed f n e (due_moment gone dropped u v b f n named)
      by true e = absurd (
          let unripe = unripe_there gone dropped u v b file (next_of v.files file - 1) (no_moment v directory name file (has_current v file b.formed live)) in
          let own : f ≡ file = grind (arith, nat_tests, e) in
          let last : n ≡ next_of v.files file - 1 = grind (arith, nat_tests, e) in
          false≢true (sym unripe ∙ (rw (own, last) at named)))

    held_stays : (f n : ℕ) → list_any (is_version f n) (after_change v c).versions ≡ list_any (is_version f n) v.versions
    held_stays f n = by (list_any (is_live_name_of file) ended_names) where
      by : (l : Bool) → list_any (is_version f n) (cond l v.versions (with_end v file)) ≡ list_any (is_version f n) v.versions
      by true = refl
      by false = list_any-update_first (is_version file (next_of v.files file - 1)) (is_version f n) (ended_at v.now) v.versions (λ row is. refl)

    pub end_file_both : HasParts (after_change v c) → Behind gone dropped (after_change u c) (after_change v c)
    end_file_both formed = change_on gone dropped u v b c (parts_same v behind.files behind.files _ _ _ _ refl (name_end directory name) same_versions) formed (record {
      time = omega arith;
      ripe = ripe_stays;
      emptied = λ f is e. record { there = e.there; nameless = nameless_end directory name f e.nameless; undrafted = e.undrafted; unheld = λ number held. e.unheld number (sym (held_stays f number) ∙ held) };
      groups = refl;
    })
