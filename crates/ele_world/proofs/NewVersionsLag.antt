-- A new file and a file's next version, in a world and in one that lags behind it.
use Rattle.ele_model.proofs.Basics.{◌≡◌, ◌==◌, ◌<◌, ◌-◌, ◌+◌, ℕ, Bool, true, false, cond, not, ◌||◌, List, [], ◌∷◌, None, Some, Option, refl, ap, sym, subst, ◌∙◌, arith, nat_tests, filter, list_any, nat_le, option_map_or, unwrap_or, option_and_then, update_first, AllLater}
use Rattle.ele_model.proofs.Basics.{later-weaker, list_any-append, list_any-insert_before, list_any-update_first, false≢true, all-weaker, all-not_found, find, found_passes, not_found}
use Rattle.ele_model.proofs.Words.{cover_of, ripe_past, Append, Cell, Change, Files, IsLawful, HasParts, MakeFile, Policy, Versions, World, after_change, ended_at, is_file, is_live_name_of, is_open, is_version, is_version_after, Rule, case_moment, case_of, newer_held, ripe_case, rule_of, next_of, next_version, numbered_on, ripe_at, with_end, with_version, ArePlaced}
use Rattle.ele_world.proofs.Words.{Cover, Always, Free, Until, VersionRow}
use Rattle.ele_model.specs.Due.{ripe_of}
use Rattle.ele_world.specs.Less.{less}
use Rattle.ele_world.proofs.AnyDueLeave.{remains}
use Rattle.ele_model.proofs.AppendMoments.{MayGrow, gaining_is, gaining_was, has_newer, may_grow, next_before, others_after, touches}
use Rattle.ele_world.proofs.ChangesLag.{Behind, KeepsBehind, apart_from, change_on, new_there, unripe_there}
use Rattle.ele_world.proofs.CleanLags.{parts_same}
use Rattle.ele_model.proofs.Created.{created, made_is, new_file, new_name, first_version, versions_before}
use Rattle.ele_model.proofs.Files.{next_of-given, next_of-numbered_le, next_of-push}
use Rattle.ele_world.proofs.Filters.{filter-push, insert_before-filter, update_first-filter}
use Rattle.ele_model.proofs.KeptVersions.{behind_too, ended_versions}
use Rattle.ele_world.proofs.LagsKeeps.{stays_name, stays_file, live_same, next_same}
use Rattle.ele_model.proofs.MadeMoments.{moment_stays}
use Rattle.ele_model.proofs.Elements.{any_none}
use Rattle.ele_model.proofs.Neighbours.{AreInOrder, in_force, in_order_of, least_newer, unmet_moment}
use Rattle.ele_model.proofs.RipeAt.{is_due_is, ripe_at_is}

-- a version that is due with no newer one beside it is so from the same moment on beside one
case_keeps : (policy : Policy) (closed ended nearest at : ℕ) (enough : Bool) → IsLawful policy → (o : Option ℕ) → ripe_case (case_of policy closed None enough) ended ≡ o → option_map_or (λ m. nat_le m at) o false ≡ true → ripe_case (case_of policy closed (Some nearest) true) ended ≡ o
case_keeps policy closed ended nearest at enough is None e due = absurd (false≢true due)
case_keeps policy closed ended nearest at enough is (Some m) e due = is.ripe_keeps (case_of policy closed None enough) ended m nearest e

past_due : (c : Cover) (o : Option ℕ) (now : ℕ) → option_map_or (λ m. nat_le m now) (option_and_then (ripe_past c) o) false ≡ true → option_map_or (λ m. nat_le m now) o false ≡ true
past_due c None now due = absurd (false≢true due)
past_due Free (Some m) now due = due
past_due Always (Some m) now due = absurd (false≢true due)
past_due (Until end) (Some m) now due = grind (arith, nat_tests, due)

beside_one : (read : Bool) (cover : ℕ → Option ℕ → Cover) (policy : Policy) (enough : Bool) (closed now : ℕ) (ended : Option ℕ) → IsLawful policy
    → option_map_or (λ m. nat_le m now) (cond read None (option_and_then (case_moment cover (case_of policy closed None enough)) ended)) false ≡ true
    → cond read None (case_moment cover (case_of policy closed (Some now) true) (unwrap_or ended now)) ≡ cond read None (option_and_then (case_moment cover (case_of policy closed None enough)) ended)
beside_one true cover policy enough closed now ended given due = absurd (false≢true due)
beside_one false cover policy enough closed now None given due = absurd (false≢true due)
beside_one false cover policy enough closed now (Some ended) given due =
    let alone = ripe_case (case_of policy closed None enough) ended in
    ap (option_and_then (ripe_past (cover closed (Some ended)))) (case_keeps policy closed ended now now enough given alone refl (past_due (cover closed (Some ended)) alone now due))

module _ (gone : ℕ → ℕ → Bool) (dropped : ℕ → Bool) (u v : World) (b : Behind gone dropped u v) where
  abbrev behind : World
  behind = less gone dropped v

  -- ---- a new file

  module _ (directory : ℕ) (name : List ℕ) (policy : Policy) (formed : HasParts behind) where
    abbrev id : ℕ
    id = v.made.files + 1

    abbrev c : Change
    c = MakeFile directory name (v.made.files + 1) policy

    unmade : next_of v.files id ≡ 0
    unmade = grind (arith, nat_tests, next_of-given v.made.files v.made.versions v.files id (b.formed.holds Files).each)

    pub fresh : dropped id ≡ false
    fresh = new_there gone dropped u v b id unmade

    -- no version of it is held
    unheld_yet : (number : ℕ) → gone id number ≡ false
    unheld_yet number = unripe_there gone dropped u v b id number (ripe_at_is v id number ∙ ap (option_and_then (ripe_of v)) (not_found (is_version id number) v.versions
        (all-weaker (λ (row : VersionRow). row.file < v.made.files + 1) (λ row. is_version id number row ≡ false) v.versions (λ row less. grind (arith, nat_tests, less)) (versions_before v b.formed))))

    made_same : created behind directory name id policy ≡ less gone dropped (created v directory name id policy)
    made_same =
        let w : World = created v directory name id policy in
        parts_same w _ _ _ _ _ _ (filter-push (stays_file dropped) v.files (new_file id policy) (ap not fresh)) (filter-push (stays_name dropped) v.names (new_name v directory name id) (ap not fresh)) (filter-push (remains gone) v.versions (first_version v id) (ap not (unheld_yet 1)))

    pub make_both : HasParts (after_change v c) → Behind gone dropped (after_change u c) (after_change v c)
    make_both then =
        let is = made_is v directory name policy b.formed in
        change_on gone dropped u v b c (made_is behind directory name policy formed ∙ made_same ∙ ap (less gone dropped) (sym is)) then (subst (KeepsBehind gone dropped v) (sym is) (record {
          time = omega arith;
          ripe = λ f n named. moment_stays v directory name policy b.formed f n;
          emptied = λ f dead e. let other = apart_from gone dropped u v b id f fresh dead in record {
            there = rw (next_of-push v.files (new_file id policy) f e.there) e.there;
            nameless = list_any-append (is_live_name_of f) v.names (new_name v directory name id ∷ []) ∙ grind (arith, nat_tests, e.nameless, other);
            undrafted = e.undrafted;
            unheld = λ number held. e.unheld number (grind (arith, nat_tests, list_any-append (is_version f number) v.versions (first_version v id ∷ []), held, other));
          };
          groups = refl;
        }))

  -- ---- a file's next version

  module _ (file opened : ℕ) (cells : List Cell) (there : 0 < next_of v.files file) (stays : dropped file ≡ false) where
    abbrev next : ℕ
    next = next_of v.files file

    abbrev appended : World
    appended = with_version v file opened cells

    may : MayGrow v file
    may = may_grow v file b.formed there

    -- what is in the list is left out as before it was added
    files_on : update_first (is_file file) numbered_on behind.files ≡ filter (stays_file dropped) (update_first (is_file file) numbered_on v.files)
    files_on = update_first-filter (stays_file dropped) (is_file file) true numbered_on v.files (λ row. refl) (λ row is. grind (arith, nat_tests, is, stays))

    ended_on : (number : ℕ) → update_first (is_version file number) (ended_at v.now) behind.versions ≡ filter (remains gone) (update_first (is_version file number) (ended_at v.now) v.versions)
    ended_on number = update_first-filter (remains gone) (is_version file number) (not (gone file number)) (ended_at v.now) v.versions (λ row. refl) (λ row is. grind (arith, nat_tests, is))

    next_stays : gone file next ≡ false
    next_stays = unripe_there gone dropped u v b file next (next_before v file opened cells may)

    rising : AllLater (λ x z. is_version_after file next x ≡ true → is_version_after file next z ≡ true) (with_end v file)
    rising = later-weaker ArePlaced (λ x z. is_version_after file next x ≡ true → is_version_after file next z ≡ true) (with_end v file) (λ x z placed is. behind_too file next x z is placed) (ended_versions v file (b.formed.holds Versions)).placed

    versions_on : (with_version behind file opened cells).versions ≡ filter (remains gone) appended.versions
    versions_on = rw (next_same dropped file stays v.files, live_same dropped file stays v.names, ended_on (next - 1)) (insert_before-filter (remains gone) (is_version_after file next) (next_version v file opened cells) (with_end v file) (ap not next_stays) rising)

    appended_same : with_version behind file opened cells ≡ less gone dropped appended
    appended_same = parts_same appended _ _ behind.names behind.names _ _ files_on refl versions_on

    -- ---- what was due stays due

    -- the one that has another one beside it now
    gaining_stays : (row : VersionRow) → find (is_version file row.number) v.versions ≡ Some row → newer_held v.versions file row.number ≡ least_newer v file - 1 → gone file row.number ≡ true → ripe_at appended file row.number ≡ ripe_at v file row.number
    gaining_stays row found least named = by (rule_of v file) refl where
      ordered : AreInOrder v.files v.versions
      ordered = in_order_of v b.formed

      is_ripe : option_map_or (λ m. nat_le m v.now) (ripe_at v file row.number) false ≡ true
      is_ripe = sym (is_due_is v file row.number b.formed) ∙ b.due file row.number named

      by : (r : Option Rule) → rule_of v file ≡ r → ripe_at appended file row.number ≡ ripe_at v file row.number
      by None unruled = absurd (false≢true (sym (ap (λ (o : Option ℕ). option_map_or (λ m. nat_le m v.now) o false) (unmet_moment v file row.number ordered (rw unruled refl))) ∙ is_ripe))
      by (Some rule) ruled =
          let few : newer_held v.versions file row.number ≡ rule.newer - 1 = rw ruled at least in
          let was = gaining_was v file opened cells may row found rule ruled few in
          gaining_is v file opened cells may row found rule ruled few
          ∙ beside_one (is_open v.handles file row.number) (cover_of v.groups file) rule.policy (nat_le rule.newer (rule.newer - 1)) row.closed v.now row.ended (in_force v file rule ordered ruled).lawful (rw was at is_ripe)
          ∙ sym was

    ripe_own : (n : ℕ) → gone file n ≡ true → (o : Option VersionRow) → find (is_version file n) v.versions ≡ o → ((n == next) || has_newer v.versions file (least_newer v file - 1) n) ≡ true → ripe_at appended file n ≡ ripe_at v file n
    ripe_own n named o found so = by (n == next) refl o found where
      by : (l : Bool) → (n == next) ≡ l → (o : Option VersionRow) → find (is_version file n) v.versions ≡ o → ripe_at appended file n ≡ ripe_at v file n
      by true is o found = let same : n ≡ next = grind (arith, nat_tests, is) in absurd (false≢true (sym next_stays ∙ rw same at named))
      by false is None found =
          let none = any_none (is_version file n) v.versions (all-not_found (is_version file n) v.versions found) in
          absurd (false≢true (grind (arith, nat_tests, so, is, none)))
      by false is (Some row) found =
          let number : row.number ≡ n = grind (arith, nat_tests, found_passes (is_version file n) v.versions row found) in
          rw (← number) (gaining_stays row (subst (λ k. find (is_version file k) v.versions ≡ Some row) (sym number) found) (grind (arith, nat_tests, so, is, number)) (rw number named))

    ripe_stays : (f n : ℕ) → gone f n ≡ true → ripe_at appended f n ≡ ripe_at v f n
    ripe_stays f n named = by (touches v file f n) refl where
      by : (l : Bool) → touches v file f n ≡ l → ripe_at appended f n ≡ ripe_at v f n
      by false fails = others_after v file opened cells may f n fails
      by true so =
          let own : f ≡ file = grind (arith, nat_tests, so) in
          rw own (ripe_own n (rw own at named) (find (is_version file n) v.versions) refl (grind (arith, nat_tests, so)))

    held_before : (f n : ℕ) → dropped f ≡ true → list_any (is_version f n) appended.versions ≡ true → list_any (is_version f n) v.versions ≡ true
    held_before f n dead held =
        let other = apart_from gone dropped u v b file f stays dead in
        let inserted = list_any-insert_before (is_version_after file next) (is_version f n) (next_version v file opened cells) (with_end v file) in
        let ended = list_any-update_first (is_version file (next - 1)) (is_version f n) (ended_at v.now) v.versions (λ row is. refl) in
        grind (arith, nat_tests, other, inserted, ended, held)

    pub append_both : let c = Append file opened cells in HasParts (after_change v c) → Behind gone dropped (after_change u c) (after_change v c)
    append_both formed = change_on gone dropped u v b (Append file opened cells) appended_same formed (record {
      time = omega arith;
      ripe = ripe_stays;
      emptied = λ f dead e. record { there = omega (arith, e.there, next_of-numbered_le v.files file f); nameless = e.nameless; undrafted = e.undrafted; unheld = λ n held. e.unheld n (held_before f n dead held) };
      groups = refl;
    })
