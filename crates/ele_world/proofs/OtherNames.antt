-- The names that an event doesn't name keep their meaning.
use Rattle.ele_model.proofs.Basics.{nat_tests, arith, ◌≡◌, ℕ, false, List, [], ◌∷◌, ◌++◌, refl, ap, ◌∙◌, filter, AllByRecursion, all-none, find-append}
use Rattle.ele_model.proofs.Words.{World, DropIdle, EndDraft, ShutHandle, Take, after_change, is_live_name, is_live_name_of, live_target, plan}
use Rattle.ele_world.proofs.Words.{Event, Close, Abandon, CleanOne, Read, NameRow}
use Rattle.ele_world.specs.OtherNamesStay.{is_named_by, OtherNamesStay}
use Rattle.ele_model.proofs.Dropped.{dropped, stays_named}
use Rattle.ele_world.proofs.NameEnds.{other_stays}
use Rattle.ele_model.proofs.PlanOutcomes.{AfterAll, in_all}

-- a name that is born elsewhere
born : (rows : List NameRow) (row : NameRow) (d : ℕ) (n : List ℕ) → is_live_name d n row ≡ false → live_target (rows ++ row ∷ []) d n ≡ live_target rows d n
born rows row d n other = grind (arith, nat_tests, find-append)

-- the names of a file that go are dead
gone : (file d : ℕ) (n : List ℕ) (rows : List NameRow) → AllByRecursion (λ row. is_live_name_of file row ≡ false) rows → live_target (filter (stays_named file) rows) d n ≡ live_target rows d n
gone file d n [] dead = refl
gone file d n (row ∷ rows) dead = grind (arith, nat_tests, gone file d n rows dead.1)

module _ (w : World) (d : ℕ) (n : List ℕ) where
  abbrev Stands : World → Type 0
  Stands v = live_target v.names d n ≡ live_target w.names d n

  drops : (u : World) (file : ℕ) → u.names ≡ w.names → Stands (after_change u (DropIdle file))
  drops u file names = dropped Stands u file (λ idle. gone file d n u.names (all-none (is_live_name_of file) u.names idle.nameless) ∙ ap (λ rows. live_target rows d n) names) (λ busy. ap (λ rows. live_target rows d n) names)

  others : (event : Event) → is_named_by w event d n ≡ false → AfterAll w (λ answer. Stands (answer.1)) (plan w event)
  others (Close handle) other = λ read found. (λ none. refl, λ file writes. (λ shared. refl, λ last. (λ none. refl, λ draft drafted. (λ changed. refl, λ same. drops (after_change (after_change w (ShutHandle handle)) (EndDraft file)) file refl))))
  others (Abandon handle) other = λ file writes. (λ shared. refl, λ last. drops (after_change (after_change w (ShutHandle handle)) (EndDraft file)) file refl)
  others CleanOne other = (λ none. refl, λ key first. drops (after_change w (Take key.file key.number)) key.file refl)
  others (Read source) other = grind (arith, nat_tests)
  others event other = grind (arith, nat_tests, born, other_stays)

pub other_names_stay : OtherNamesStay
other_names_stay w event d n other = in_all w (λ answer. live_target (answer.1).names d n ≡ live_target w.names d n) (plan w event) (λ refusal. refl) (others w d n event other)
