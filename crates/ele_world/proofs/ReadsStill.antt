-- What a path reads at a moment before now is read there after an event too, or nothing is.
use Rattle.ele_model.proofs.Basics.{rules, nat_tests, arith, ◌≡◌, ◌⊎◌, inl, inr, ℕ, ◌-◌, ◌<◌, ◌≤◌, true, false, Bool, cond, option_map_or, List, [], ◌∷◌, Option, Some, None, Result, Ok, Err, refl, ap, sym, ◌∙◌, find, AllByRecursion, AllLater, all-found, all-insert_before, all-remove_first, all-update_first, all-weaker, found_passes, false≢true, nat_lt}
use Rattle.ele_model.proofs.Words.{World, IsEvent, Cell, HasParts, ArePlaced, Versions, EndDraft, ShutHandle, Take, after_change, content_of, ended_at, had_closed, had_life, is_held, is_live, is_version, is_version_after, last_number, next_of, next_version, plan, root, step, target_at, version_living, with_end, with_version, file_at, TaggedPath, version_at, version_found, held_or_forgotten}
use Rattle.ele_world.proofs.Words.{Event, Close, Abandon, CleanOne, Read, NameRow, Refusal, Target, File, Directory, VersionRow, NoEntry, Forgotten}
use Rattle.ele_model.specs.declared.reply.Reply.TheVariants.{Bytes, Refused}
use Rattle.ele_model.specs.Change.{ended_if_nameless}
use Rattle.ele_world.specs.PastStays.{StoodAsBefore}
use Rattle.ele_world.specs.ReadsPast.{read_at}
use Rattle.ele_model.specs.WalkAt.{walk_covering}
use Rattle.ele_lists.proofs.Cuts.{any-found as first_passing}
use Rattle.ele_path.specs.declared.tagged.Tag.TheVariants as tag
use Rattle.ele_headline.specs.HeldStays.{StaysSame}
use Rattle.ele_world.specs.LifeStays.{LivesAsBefore}
use Rattle.ele_model.specs.Plan.{found_outcome}
use Rattle.ele_model.specs.declared.reply.Reply.{Reply}
use Rattle.ele_model.proofs.Dropped.{dropped_versions}
use Rattle.ele_world.proofs.LifeStays.{life_stays}
use Rattle.ele_world.proofs.Numbered.{all_held}
use Rattle.ele_model.proofs.PlanOutcomes.{AfterAll, in_all}
use Rattle.ele_world.proofs.Past.{past_stays}
use Rattle.ele_model.proofs.Rising.{numbers_rise}
use Rattle.ele_headline.proofs.HeldStays.{held_stays}
use Rattle.ele_model.proofs.StepKeeps.{step_keeps}
use Rattle.ele_model.proofs.Versions.{IsFound, all_found}

-- ---- a version that is added closes then

module _ (w : World) (k : HasParts w) where
  abbrev IsOldOrNew : VersionRow → Type 0
  IsOldOrNew row = (is_held w row.file row.number ≡ true) ⊎ (row.closed ≡ w.now)

  abbrev AreOldOrNew : List VersionRow → Type 0
  AreOldOrNew rows = AllByRecursion IsOldOrNew rows

  old : AreOldOrNew w.versions
  old = all-weaker (λ row. is_held w row.file row.number ≡ true) IsOldOrNew w.versions (λ row held. inl held) (all_held w k)

  ends : (u : World) (file : ℕ) → AreOldOrNew u.versions → AreOldOrNew (with_end u file)
  ends u file = all-update_first (is_version file (next_of u.files file - 1)) IsOldOrNew IsOldOrNew (ended_at u.now) u.versions (λ row so. so) (λ row so. so)

  nameless : (u : World) (file : ℕ) → AreOldOrNew u.versions → AreOldOrNew (ended_if_nameless u file).versions
  nameless u file so = by (is_live u file) where
    by : (b : Bool) → AreOldOrNew (cond b u.versions (with_end u file))
    by true = so
    by false = ends u file so

  grown : (u : World) (file opened : ℕ) (cells : List Cell) → u.now ≡ w.now → AreOldOrNew u.versions → AreOldOrNew (with_version u file opened cells).versions
  grown u file opened cells now so = all-insert_before (is_version_after file (next_of u.files file)) IsOldOrNew (next_version u file opened cells) (with_end u file) (inr now) (ends u file so)

  comes : (event : Event) → AfterAll w (λ answer. AreOldOrNew (answer.1).versions) (plan w event)
  comes (Close handle) = λ read found. (
    λ none. old,
    λ file writes. (
      λ other. old,
      λ last. (
        λ none. old,
        λ draft drafted. (
          λ edited. grown (after_change (after_change w (ShutHandle handle)) (EndDraft file)) file draft.opened draft.cells refl old,
          λ fresh. rw (dropped_versions (after_change (after_change w (ShutHandle handle)) (EndDraft file)) file) old,
        ),
      ),
    ),
  )
  comes (Abandon handle) = λ file writes. (λ other. old, λ last. rw (dropped_versions (after_change (after_change w (ShutHandle handle)) (EndDraft file)) file) old)
  comes CleanOne = (λ none. old, λ key first. rw (dropped_versions (after_change w (Take key.file key.number)) key.file) (all-remove_first (is_version key.file key.number) IsOldOrNew w.versions old))
  comes (Read source) = grind (arith, nat_tests, old)
  comes event = search (rules, old, nameless, grown)

  all_come : (event : Event) → AreOldOrNew ((step w event).1).versions
  all_come event = in_all w (λ answer. AreOldOrNew (answer.1).versions) (plan w event) (λ refusal. old) (comes event)

-- ---- one lived

abbrev Only : ℕ → ℕ → VersionRow → VersionRow → Type 0
Only file moment row other = had_life file moment other ≡ true → other ≡ row

not_both : (file moment : ℕ) (x other : VersionRow) → ArePlaced x other → had_life file moment x ≡ true → had_life file moment other ≡ true → ⊥
not_both file moment x other after is lives =
    let same : x.file ≡ other.file = grind (arith, nat_tests, is, lives) in
    let end = after.ended same in
    grind (arith, nat_tests, is, lives, end.1, end.2)

one_more : (file moment : ℕ) (x : VersionRow) (xs : List VersionRow) (row : VersionRow) (b : Bool) → had_life file moment x ≡ b → AllByRecursion (ArePlaced x) xs → cond b (Some x) (find (had_life file moment) xs) ≡ Some row → (find (had_life file moment) xs ≡ Some row → AllByRecursion (Only file moment row) xs) → AllByRecursion (Only file moment row) (x ∷ xs)
one_more file moment x xs row true is placed found rest = (λ lives. cc, all-weaker (ArePlaced x) (Only file moment row) xs (λ other after lives. absurd (not_both file moment x other after is lives)) placed)
one_more file moment x xs row false is placed found rest = (λ lives. absurd (false≢true (sym is ∙ lives)), rest found)

only_one : (file moment : ℕ) (rows : List VersionRow) (row : VersionRow) → AllLater ArePlaced rows → find (had_life file moment) rows ≡ Some row → AllByRecursion (Only file moment row) rows
only_one file moment [] row placed found = tt
only_one file moment (x ∷ xs) row placed found = one_more file moment x xs row (had_life file moment x) refl placed.0 found (only_one file moment xs row placed.1)

-- ---- the path leads where it led

module _ (w v : World) (moment : ℕ) (stays : (d : ℕ) (n : List ℕ) → StoodAsBefore w v moment d n) where
  abbrev LeadsStill : Target → List (List ℕ) → Type 0
  LeadsStill from names = (walk_covering v.names moment from names ≡ walk_covering w.names moment from names) ⊎ (walk_covering v.names moment from names ≡ Err NoEntry)

  abbrev on_by : List NameRow → List (List ℕ) → Option Target → Result Target Refusal
  on_by rows names found = option_map_or (λ target. walk_covering rows moment target names) found (Err NoEntry)

  by_target : (names : List (List ℕ)) (found : Option Target) → ((target : Target) → LeadsStill target names) → (on_by v.names names found ≡ on_by w.names names found) ⊎ (on_by v.names names found ≡ Err NoEntry)
  by_target names None go = inl refl
  by_target names (Some target) go = go target

  by_name : (d : ℕ) (n : List ℕ) (names : List (List ℕ)) → StoodAsBefore w v moment d n → ((target : Target) → LeadsStill target names) → LeadsStill (Directory d) (n ∷ names)
  by_name d n names (inl same) go = rw same (by_target names (target_at w.names moment d n) go)
  by_name d n names (inr went) go = inr (rw went.nothing refl)

  leads_still : (from : Target) (names : List (List ℕ)) → LeadsStill from names
  leads_still from [] = inl refl
  leads_still (File file) (n ∷ names) = inl refl
  leads_still (Directory d) (n ∷ names) = by_name d n names (stays d n) (λ target. leads_still target names)

-- ---- what is read

abbrev answer_of : Result VersionRow Refusal → Reply
answer_of (Ok row) = Bytes (content_of row.cells)
answer_of (Err refusal) = Refused refusal

module _ (w : World) (event : Event) (path : List (List ℕ)) (moment : ℕ) (bytes : List ℕ) (k : HasParts w) (lawful : IsEvent event) (past : moment < w.now) where
  abbrev v : World
  v = (step w event).1

  abbrev t : TaggedPath
  t = record { path = path; tag = tag.At moment }

  answers : (u : World) → read_at u path moment ≡ answer_of (version_at u t)
  answers u = by (version_at u t) where
    by : (r : Result VersionRow Refusal) → (found_outcome u r (λ row. (Bytes (content_of row.cells), u))).0 ≡ answer_of r
    by (Ok row) = refl
    by (Err refusal) = refl

  abbrev Told : Reply → Type 0
  Told after = (after ≡ Bytes bytes) ⊎ (((before : Option ℕ) × (after ≡ Refused (Forgotten before))) ⊎ (after ≡ Refused NoEntry))

  -- of the file that was led to
  module _ (file : ℕ) (row : VersionRow) (lived : find (had_life file moment) w.versions ≡ Some row) where
    k' : HasParts v
    k' = step_keeps w event lawful k

    was : (x : VersionRow) → find (had_life file moment) v.versions ≡ Some x → is_held w x.file x.number ≡ true → x.cells ≡ row.cells
    was x found held =
        let first = first_passing (is_version x.file x.number) w.versions held in
        let own = found_passes (is_version x.file x.number) w.versions first.0 first.1 in
        let lives = found_passes (had_life file moment) v.versions x found in
        let files : first.0.file ≡ x.file = grind (arith, nat_tests, own) in
        let numbers : first.0.number ≡ x.number = grind (arith, nat_tests, own) in
        let there : find (is_version first.0.file first.0.number) v.versions ≡ Some x = rw (files, numbers) (all-found (had_life file moment) (IsFound v.versions) v.versions x found (all_found v.versions (k'.holds Versions).placed)) in
        let same = all-found (is_version x.file x.number) (StaysSame w event) w.versions first.0 first.1 (held_stays w event k) x there in
        let alike = all-found (is_version x.file x.number) (LivesAsBefore w event) w.versions first.0 first.1 (life_stays w event k) x moment there past in
        let one = all-found (is_version x.file x.number) (Only file moment row) w.versions first.0 first.1 (only_one file moment w.versions row (k.holds Versions).placed lived) (grind (arith, nat_tests, lives, files, alike)) in
        same.cells ∙ ap (λ (r : VersionRow). r.cells) one

    is_still : (x : VersionRow) → find (had_life file moment) v.versions ≡ Some x → IsOldOrNew w k x → x.cells ≡ row.cells
    is_still x found (inl held) = was x found held
    is_still x found (inr new) = let lives = found_passes (had_life file moment) v.versions x found in absurd (grind (arith, nat_tests, lives, new))

    told : (found : Option VersionRow) → find (had_life file moment) v.versions ≡ found → content_of row.cells ≡ bytes → Told (answer_of (held_or_forgotten found (last_number (had_closed file moment) v.versions)))
    told None e same = inr (inl (last_number (had_closed file moment) v.versions, refl))
    told (Some x) e same = inl (ap Bytes (ap content_of (is_still x e (all-found (had_life file moment) (IsOldOrNew w k) v.versions x e (all_come w k event))) ∙ same))

  later : w.now ≤ v.now
  later = (numbers_rise w event k).now

  at_moment : (u : World) → w.now ≤ u.now → version_at u t ≡ version_found u (file_at (walk_covering u.names moment (Directory root) path)) (tag.At moment)
  at_moment u on = let not_future : nat_lt u.now moment ≡ false = grind (arith, nat_tests) in rw not_future refl

  by_walk : (led : Result Target Refusal) → answer_of (version_found w (file_at led) (tag.At moment)) ≡ Bytes bytes → (walk_covering v.names moment (Directory root) path ≡ led) ⊎ (walk_covering v.names moment (Directory root) path ≡ Err NoEntry) → Told (answer_of (version_found v (file_at (walk_covering v.names moment (Directory root) path)) (tag.At moment)))
  by_walk (Ok (File file)) was (inl same) = rw same (of (find (had_life file moment) w.versions) refl was) where
    of : (found : Option VersionRow) → find (had_life file moment) w.versions ≡ found → answer_of (held_or_forgotten found (last_number (had_closed file moment) w.versions)) ≡ Bytes bytes → Told (answer_of (version_living v.versions file moment))
    of None e was = absurd cc
    of (Some row) e was = told file row e (find (had_life file moment) v.versions) refl (let same : content_of row.cells ≡ bytes = cc in same)
  by_walk (Ok (Directory directory)) was (inl same) = absurd cc
  by_walk (Err refusal) was (inl same) = absurd cc
  by_walk led was (inr none) = rw none (inr (inr refl))

  pub reads_past : read_at w path moment ≡ Bytes bytes → Told (read_at v path moment)
  reads_past was =
      rw (answers v, at_moment v later)
      (by_walk (walk_covering w.names moment (Directory root) path) (sym (answers w ∙ ap answer_of (at_moment w (omega arith))) ∙ was) (leads_still w v moment (λ d n. past_stays w event moment d n k past) (Directory root) path))
