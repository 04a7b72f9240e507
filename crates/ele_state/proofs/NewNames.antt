-- Names that are added, moved and ended.
use Rattle.ele_state.proofs.Words.{Directory, MayHaveMore, any-found, Bool, Policy, Rule, least_newer, option_map, option_map_or, rule_in, found_passes, is_live_name_of, list_any, list_any-append, or-false, policy_of, AllByRecursion, AreApart, File, FileRow, Files, IsNameRow, IsQueued, IsSound, IsThere, HasParts, List, NameRow, Names, Ok, Rows, Some, Target, World, [], all-both, all-weaker, ap, apart_from_new, append-nil, arith, bytes_eq-Decides, dies, false, false≢true, filter, filter-all, filter-append, in_order_of, is_live_name, is_moment, is_some, is_target_file, last_names, live_target, moments_stay, nat_tests, next_of, not, parent_now, refl, sym, true, update_first, walk_now, world_of, ℕ, ◌++◌, ◌+◌, ◌∙◌, ◌∷◌, ◌≡◌}
use Rattle.ele_state.proofs.Changes.{any_is}
use Rattle.ele_lists.proofs.Cuts.{update_first-front}
use Rattle.ele_names.specs.Rows.{Follows, born_row}
use Rattle.ele_model.proofs.Basics.{list_any-update_found}
use Rattle.ele_model.proofs.Files.{next_of-given}

-- the names there were are over
pub follows_new : (rows : Rows) (directory : ℕ) (name : List ℕ) (target : Target) → IsSound rows → is_some (live_target rows.names directory name) ≡ false → AllByRecursion (λ row. Follows row (born_row directory name target rows.moment)) rows.names
follows_new rows directory name target sound free =
    let named = born_row directory name target rows.moment in
    all-weaker (λ row. AreApart row named × IsNameRow rows.files.files rows.moment row) (λ row. Follows row named) rows.names
    (λ row h. record { apart = h.0; born = λ d n. h.1.born })
    (all-both _ _ rows.names (apart_from_new (world_of rows) directory name named sound.formed free refl refl refl) (sound.formed.holds Names).each)

-- none is of a file that isn't there
pub other_target : (files : List FileRow) (file : ℕ) (target : Target) → next_of files file ≡ 0 → IsThere files target → not (is_target_file file target) ≡ true
other_target files file x2 none there = grind (arith, nat_tests)

pub unnamed : (w : World) (file : ℕ) → HasParts w → next_of w.files file ≡ 0 → filter (λ row. not (is_target_file file row.target)) w.names ≡ w.names
unnamed w file k none = filter-all (λ row. not (is_target_file file row.target)) w.names (all-weaker (IsNameRow w.files w.now) (λ row. not (is_target_file file row.target) ≡ true) w.names (λ row h. other_target w.files file row.target none h.there) (k.holds Names).each)

-- nor was one of the new file, so its name alone goes
pub name_goes : (w : World) (directory : ℕ) (name : List ℕ) → HasParts w → filter (λ row. not (is_target_file (w.made.files + 1) row.target)) (w.names ++ born_row directory name (File (w.made.files + 1)) w.now ∷ []) ≡ w.names
name_goes w directory name formed = grind (arith, nat_tests, filter-append, append-nil, unnamed w (w.made.files + 1) formed, next_of-given, formed.holds Files)

-- ---- names that move, or go

-- the last name of a path means what the path leads to
pub placed_stands : (rows : List NameRow) (path : List (List ℕ)) (directory : ℕ) (name : List ℕ) (target : Target) → parent_now rows path ≡ Ok (directory, name) → walk_now rows path ≡ Ok target → live_target rows directory name ≡ Some target
placed_stands rows path directory name target = last_names rows path (directory, name) target

-- the queue stays right whatever the names are, while the rule of each file asks for as many newer versions
pub queue_stays : (rows : Rows) (names : List NameRow) → IsSound rows → ((file : ℕ) → least_newer (record (world_of rows) { names = names }) file ≡ least_newer (world_of rows) file) → IsQueued (record (world_of rows) { names = names }) rows.queue
queue_stays rows names sound asked k = sound.tracked.queue k ∙ ap (is_moment k.ripe) (sym (moments_stay (world_of rows) (record (world_of rows) { names = names }) (in_order_of (world_of rows) sound.formed) refl refl refl refl k.file k.number (asked k.file)))

abbrev pub SameLive : List NameRow → List NameRow → Type 0
SameLive before after = (file : ℕ) → list_any (is_live_name_of file) after ≡ list_any (is_live_name_of file) before

pub names_queue : (rows : Rows) (names : List NameRow) → IsSound rows → SameLive rows.names names → IsQueued (record (world_of rows) { names = names }) rows.queue
names_queue rows names sound same = queue_stays rows names sound (λ file. ap (λ (live : Bool). option_map_or (λ (rule : Rule). rule.newer) (option_map (λ (policy : Policy). rule_in policy live) (policy_of rows.files.files file)) 0) (same file))

-- a name more of a directory leaves each file as live
directory_live : (w : World) (directory : ℕ) (name : List ℕ) (id : ℕ) → SameLive w.names (w.names ++ born_row directory name (Directory id) w.now ∷ [])
directory_live w directory name id file = list_any-append (is_live_name_of file) w.names (born_row directory name (Directory id) w.now ∷ []) ∙ or-false (list_any (is_live_name_of file) w.names)

-- so does one of a live file
more_live : (w : World) (directory : ℕ) (name : List ℕ) (target : Target) → MayHaveMore w target → SameLive w.names (w.names ++ born_row directory name target w.now ∷ [])
more_live w directory name (Directory id) more file = directory_live w directory name id file
more_live w directory name (File other) more file = grind (arith, nat_tests, list_any-append (is_live_name_of file) w.names, or-false, more)

-- so does the death of a directory's name
directory_dies : (w : World) (directory : ℕ) (name : List ℕ) (id : ℕ) → live_target w.names directory name ≡ Some (Directory id) → SameLive w.names (update_first (is_live_name directory name) (dies w.now) w.names)
directory_dies w directory name id stands file = list_any-update_found (is_live_name directory name) (is_live_name_of file) (dies w.now) w.names (λ row found. grind (arith, nat_tests, stands, found))

-- and the keys stay with all of these
pub more_queue : (rows : Rows) (directory : ℕ) (name : List ℕ) (target : Target) → IsSound rows → MayHaveMore (world_of rows) target → IsQueued (record (world_of rows) { names = rows.names ++ born_row directory name target rows.moment ∷ [] }) rows.queue
more_queue rows directory name target sound more = names_queue rows (rows.names ++ born_row directory name target rows.moment ∷ []) sound (more_live (world_of rows) directory name target more)

pub directory_queue : (rows : Rows) (directory : ℕ) (name : List ℕ) (id : ℕ) → IsSound rows → IsQueued (record (world_of rows) { names = rows.names ++ born_row directory name (Directory id) rows.moment ∷ [] }) rows.queue
directory_queue rows directory name id sound = names_queue rows (rows.names ++ born_row directory name (Directory id) rows.moment ∷ []) sound (directory_live (world_of rows) directory name id)

pub dies_queue : (rows : Rows) (directory : ℕ) (name : List ℕ) (id : ℕ) → IsSound rows → live_target rows.names directory name ≡ Some (Directory id) → IsQueued (record (world_of rows) { names = update_first (is_live_name directory name) (dies rows.moment) rows.names }) rows.queue
dies_queue rows directory name id sound stands = names_queue rows (update_first (is_live_name directory name) (dies rows.moment) rows.names) sound (directory_dies (world_of rows) directory name id stands)

module _ (rows : List NameRow) (from : ℕ) (old : List ℕ) (to : ℕ) (new : List ℕ) (target : Target) (now : ℕ) (stands : live_target rows from old ≡ Some target) (free : is_some (live_target rows to new) ≡ false) where
  abbrev named : NameRow
  named = born_row to new target now

  -- a name that wasn't live isn't the one that was
  other_name : is_live_name from old named ≡ false
  other_name = grind (arith, nat_tests, bytes_eq-Decides new old, false≢true)

  -- so it may be added before that one dies
  pub dies_before : update_first (is_live_name from old) (dies now) (rows ++ named ∷ []) ≡ update_first (is_live_name from old) (dies now) rows ++ named ∷ []
  dies_before = update_first-front (is_live_name from old) (dies now) rows (named ∷ []) (other_name, tt)

  -- and it leaves each file as live
  died : (file : ℕ) → is_target_file file target ≡ false → list_any (is_live_name_of file) (update_first (is_live_name from old) (dies now) rows) ≡ list_any (is_live_name_of file) rows
  died file other = list_any-update_found (is_live_name from old) (is_live_name_of file) (dies now) rows (λ row found. grind (arith, nat_tests, stands, found, other))

  live_then : (file : ℕ) → is_target_file file target ≡ true → list_any (is_live_name_of file) rows ≡ true
  live_then file own = grind (arith, nat_tests, any_is (is_live_name from old) rows, stands, any-found (is_live_name from old) (is_live_name_of file) rows, found_passes (is_live_name from old) rows, own)

  moves_live : SameLive rows (update_first (is_live_name from old) (dies now) (rows ++ named ∷ []))
  moves_live file = grind (arith, nat_tests, dies_before, list_any-append (is_live_name_of file) (update_first (is_live_name from old) (dies now) rows), live_then file, died file, or-false)

pub moved_queue : (rows : Rows) (from : ℕ) (old : List ℕ) (to : ℕ) (new : List ℕ) (target : Target) → IsSound rows → live_target rows.names from old ≡ Some target → is_some (live_target rows.names to new) ≡ false
    → IsQueued (record (world_of rows) { names = update_first (is_live_name from old) (dies rows.moment) (rows.names ++ born_row to new target rows.moment ∷ []) }) rows.queue
moved_queue rows from old to new target sound stands free = names_queue rows (update_first (is_live_name from old) (dies rows.moment) (rows.names ++ born_row to new target rows.moment ∷ [])) sound (moves_live rows.names from old to new target rows.moment stands free)
