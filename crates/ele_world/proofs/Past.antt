-- What name rows say of a moment before now stays so after an event, but for those of a file that goes.
use Rattle.ele_model.proofs.Basics.{nat_tests, arith, ◌≡◌, ℕ, ◌<◌, Bool, true, false, List, [], ◌∷◌, ◌++◌, ◌&&◌, Option, Some, None, refl, ap, sym, ◌∙◌, ◌⊎◌, inl, inr, find, filter, option_map, AllByRecursion, AllLater, update_first, remove_first, list_any, find-append, not_found, all-not_found, all-filter, all-weaker, bytes_eq-Decides}
use Rattle.ele_model.proofs.Words.{World, HasParts, Files, Names, AreApart, DropIdle, EndDraft, ShutHandle, Take, after_change, without_file, is_file, is_live_name, is_live_name_of, is_named, covers, target_at, dies, plan, step}
use Rattle.ele_world.proofs.Words.{Event, Close, Abandon, CleanOne, Read, NameRow, FileRow, Target, File}
use Rattle.ele_world.specs.PastStays.{StoodAsBefore}
use Rattle.ele_model.proofs.Dropped.{IsIdle, dropped, stays_named}
use Rattle.ele_model.proofs.PlanOutcomes.{AfterAll, in_all}

-- what sees no change of what passes sees the same found
pub found_still : {X Y : Type 0} (p t : X → Bool) (see : X → Y) (f : X → X) (xs : List X) → ((x : X) → p x ≡ true → (t (f x) ≡ t x) × (see (f x) ≡ see x)) → option_map see (find t (update_first p f xs)) ≡ option_map see (find t xs)
found_still p t see f [] same = refl
found_still p t see f (x ∷ xs) same = grind (arith, nat_tests, found_still p t see f xs same)

-- the row of a file that goes is no more
pub file_gone : (files : List FileRow) (file : ℕ) → AllLater (λ earlier later. earlier.id < later.id) files → find (is_file file) (remove_first (is_file file) files) ≡ None
file_gone [] file placed = refl
file_gone (x ∷ xs) file placed = grind (arith, nat_tests, not_found, all-weaker, file_gone xs file placed.1)

none_among : {X : Type 0} (p q : X → Bool) (xs : List X) → list_any p xs ≡ false → list_any p (filter q xs) ≡ false
none_among p q [] none = refl
none_among p q (x ∷ xs) none = grind (arith, none_among p q xs)

-- ---- name rows

module _ (moment d : ℕ) (n : List ℕ) where
  abbrev stood : NameRow → Bool
  stood row = is_named d n row && covers moment row

  -- a name that is born later
  born : (rows : List NameRow) (row : NameRow) → moment < row.birth → target_at (rows ++ row ∷ []) moment d n ≡ target_at rows moment d n
  born rows row later = grind (arith, nat_tests, find-append)

  -- one that dies later
  died : (now at : ℕ) (name : List ℕ) (rows : List NameRow) → moment < now → target_at (update_first (is_live_name at name) (dies now) rows) moment d n ≡ target_at rows moment d n
  died now at name rows before = found_still (is_live_name at name) stood (λ row. row.target) (dies now) rows (λ row passes. grind (arith, nat_tests))

  -- those of a file that go
  alone : (row : NameRow) (rows : List NameRow) → stood row ≡ true → AllByRecursion (AreApart row) rows → find stood rows ≡ None
  alone row rows is apart = grind (arith, nat_tests, not_found, all-weaker, bytes_eq-Decides)

  none_left : (file : ℕ) (rows : List NameRow) → find stood rows ≡ None → find stood (filter (stays_named file) rows) ≡ None
  none_left file rows none = not_found stood (filter (stays_named file) rows) (all-filter (λ row. stood row ≡ false) (stays_named file) rows (all-not_found stood rows none))

  gone : (file : ℕ) (rows : List NameRow) → AllLater AreApart rows → (target_at (filter (stays_named file) rows) moment d n ≡ target_at rows moment d n) ⊎ ((target_at rows moment d n ≡ Some (File file)) × (target_at (filter (stays_named file) rows) moment d n ≡ None))
  gone file [] apart = inl refl
  gone file (row ∷ rows) apart = grind (arith, nat_tests, gone file rows apart.1, alone row rows, none_left file rows)

-- ---- each event

module _ (w : World) (moment d : ℕ) (n : List ℕ) (k : HasParts w) (before : moment < w.now) where
  abbrev Stood : World → Type 0
  Stood v = StoodAsBefore w v moment d n

  abbrev at : List NameRow → Option Target
  at rows = target_at rows moment d n

  goes : (u : World) (file : ℕ) → u.names ≡ w.names → u.files ≡ w.files → IsIdle u file → (at (filter (stays_named file) u.names) ≡ at u.names) ⊎ ((at u.names ≡ Some (File file)) × (at (filter (stays_named file) u.names) ≡ None)) → Stood (without_file u file)
  goes u file names files idle (inl same) = inl (same ∙ ap at names)
  goes u file names files idle (inr stands) =
      let unnamed = none_among (is_live_name_of file) (stays_named file) u.names idle.nameless in
      inr (record {
        file = file;
        stood = ap at (sym names) ∙ stands.0;
        nameless = ap (list_any (is_live_name_of file)) (sym names) ∙ idle.nameless;
        idle = rw (unnamed, idle.unheld, idle.undrafted) refl;
        gone = rw files (file_gone w.files file (k.holds Files).placed);
        nothing = stands.1;
      })

  drops : (u : World) (file : ℕ) → u.names ≡ w.names → u.files ≡ w.files → Stood (after_change u (DropIdle file))
  drops u file names files = dropped Stood u file (λ idle. goes u file names files idle (gone moment d n file u.names (rw names (k.holds Names).lives))) (λ busy. inl (ap at names))

  past : (event : Event) → AfterAll w (λ answer. Stood (answer.1)) (plan w event)
  past (Close handle) = λ read found. (λ none. inl refl, λ file writes. (λ other. inl refl, λ last. (λ none. inl refl, λ draft drafted. (λ changed. inl refl, λ same. drops (after_change (after_change w (ShutHandle handle)) (EndDraft file)) file refl refl))))
  past (Abandon handle) = λ file writes. (λ other. inl refl, λ last. drops (after_change (after_change w (ShutHandle handle)) (EndDraft file)) file refl refl)
  past CleanOne = (λ none. inl refl, λ key first. drops (after_change w (Take key.file key.number)) key.file refl refl)
  past (Read source) = grind (arith, nat_tests)
  past event = grind (arith, nat_tests, born moment d n, died moment d n)

pub past_stays : (w : World) (event : Event) (moment directory : ℕ) (name : List ℕ) → HasParts w → moment < w.now → StoodAsBefore w ((step w event).1) moment directory name
past_stays w event moment d n k before = in_all w (λ answer. StoodAsBefore w (answer.1) moment d n) (plan w event) (λ refusal. inl refl) (past w moment d n k before event)
