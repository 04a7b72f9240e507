-- Which keys the versions have, once a handle was opened or closed.
use Rattle.ele_state.proofs.Words.{◌≡◌, ◌<◌, ◌∷◌, [], sym, subst, list_any, Change, HasNoIdle, HasParts, IsSettled, IsTracked, StartDraft, change_keeps, change_settles, changed_at, has_draft, is_draft, next_of, shown_of, versions_made, ℕ, ◌+◌, Bool, true, false, cond, ◌&&◌, ◌==◌, List, Option, None, Ok, refl, ◌∙◌, arith, nat_tests, world_of, IsSound, IsQueued, IsRekeyed, Rows, Key, has_key, opened_by, with_rows, OpenHandle, ShutHandle, after_change, cover_of, ripe_at, free_moment, AreInOrder, in_order_of, World, is_open, reads_by, Draft, Version, opened_others, opened_own, read_moment, shut_others, shut_own, has_row, any-found}
use Rattle.ele_state.proofs.Questions.{ripe_told}
use Rattle.ele_state.proofs.Following.{entry_follows}
use Rattle.ele_state.proofs.SoundAfter.{settled_by}
use Rattle.ele_model.proofs.Basics.{list_any-insert_before}

-- a handle that writes touches no key
pub opened_queue : (rows : Rows) (file : ℕ) → IsSound rows → IsQueued (with_rows (world_of rows) (opened_by rows.files file rows.moment)) rows.queue
opened_queue rows file sound k = grind (arith, nat_tests, opened_others (world_of rows) (rows.files.opened + 1) (Draft file) (in_order_of (world_of rows) sound.formed) k.file k.number refl, sound.tracked.queue k)

-- and leaves all settled, with the draft that it begins if there is none
module _ (rows : Rows) (settled : IsSettled rows) (file : ℕ) (there : 0 < next_of rows.files.files file) (handles : rows.files.opened < rows.limits.handles) (versions : has_draft (world_of rows) file ≡ false → versions_made (world_of rows) < rows.limits.versions) where
  abbrev first : World
  first = world_of rows

  abbrev start : Change
  start = StartDraft file

  abbrev opens : Change
  opens = OpenHandle (rows.files.opened + 1) (Draft file)

  begun : list_any (is_draft file) (after_change first start).drafts ≡ true
  begun = grind (arith, nat_tests, list_any-insert_before)

  pub opened_settles : (now : Rows) → world_of now ≡ with_rows first (opened_by rows.files file rows.moment) → IsTracked now → IsSettled now
  opened_settles now after tracked = by (has_draft first file) refl after where
    by : (b : Bool) → has_draft first file ≡ b → world_of now ≡ with_rows first (changed_at rows.files rows.moment (cond b (opens ∷ []) (start ∷ opens ∷ []))) → IsSettled now
    by true drafted is = settled_by rows (shown_of rows) refl settled opens (record { next = refl; room = handles; drafted = drafted; held = tt }) tt now is tracked
    by false none is =
        let formed = change_keeps first start (record { there = there; none = none; room = versions none }) settled.sound.formed in
        record {
          sound = record { formed = subst HasParts (sym is) (change_keeps (after_change first start) opens (record { next = refl; room = handles; drafted = begun; held = tt }) formed); tracked = tracked };
          none_idle = subst HasNoIdle (sym is) (change_settles (after_change first start) opens tt formed (change_settles first start tt settled.sound.formed settled.none_idle));
        }

-- ---- a version that a handle reads, or read

module _ (w : World) (file number : ℕ) (queue : List Key) (queued : IsQueued w queue) (free : Option ℕ) (told : ripe_at w file number ≡ cond (is_open w.handles file number) None free) where
  abbrev its : Key → Bool
  its k = (k.file == file) && (k.number == number)

  -- so to take its free moment's key is to take the key that it has
  pub taken_key : (after : List Key) → IsRekeyed file number free None queue after → IsRekeyed file number (ripe_at w file number) None queue after
  taken_key after edited k = grind (arith, nat_tests)

  -- and to put it and take it again is nothing
  pub put_back : is_open w.handles file number ≡ true → (between after : List Key) → IsRekeyed file number None free queue between → IsRekeyed file number free None between after → (k : Key) → has_key k after ≡ has_key k queue
  put_back is_read between after came went k = grind (arith, nat_tests)

-- a handle that reads takes the key
pub read_queue : (rows : Rows) (handle file number : ℕ) (after : List Key) → IsSound rows → IsRekeyed file number (free_moment (world_of rows) (cover_of rows.groups file) file number) None rows.queue after
    → IsQueued (after_change (world_of rows) (OpenHandle handle (Version file number))) after
read_queue rows handle file number after sound edited =
    let w = world_of rows in
    let ordered = in_order_of w sound.formed in
    grind (arith, nat_tests, entry_follows, sound.tracked.queue, taken_key, ripe_told rows file number sound.formed, opened_own w handle (Version file number) ordered file number, opened_others w handle (Version file number) ordered)

-- the close of a handle that read gives it back, unless another reads on
module _ (rows : Rows) (handle file number : ℕ) (reads : reads_by rows.files.handles handle ≡ Ok (Version file number)) (sound : IsSound rows) where
  queued : IsQueued (world_of rows) rows.queue
  queued = sound.tracked.queue

  ordered : AreInOrder rows.files.files rows.files.versions
  ordered = in_order_of (world_of rows) sound.formed

  abbrev w : World
  w = world_of rows

  abbrev v : World
  v = after_change w (ShutHandle handle)

  abbrev free : Option ℕ
  free = free_moment w (cover_of w.groups file) file number

  told : ripe_at w file number ≡ cond (is_open w.handles file number) None free
  told = ripe_told rows file number sound.formed

  is_read : is_open w.handles file number ≡ true
  is_read = grind (arith, nat_tests, has_row w handle (Version file number) reads, any-found)

  others : (f n : ℕ) → ((f == file) && (n == number)) ≡ false → ripe_at v f n ≡ ripe_at w f n
  others f n apart = shut_others w handle (Version file number) reads ordered f n (grind (arith, nat_tests))

  before : ripe_at w file number ≡ None
  before = told ∙ rw is_read refl

  -- the last one has closed
  pub unread_queue : (after : List Key) → is_open v.handles file number ≡ false → IsRekeyed file number None free rows.queue after → IsQueued v after
  unread_queue after unread came = grind (arith, nat_tests, shut_own w handle file number ordered, ordered, entry_follows, others, before)

  -- another reads on
  pub read_on_queue : (between after : List Key) → is_open v.handles file number ≡ true → IsRekeyed file number None free rows.queue between → IsRekeyed file number free None between after → IsQueued v after
  read_on_queue between after still came went = grind (arith, nat_tests, read_moment v file number ordered still, entry_follows, others, before, put_back w file number rows.queue queued free told is_read between after came went)
