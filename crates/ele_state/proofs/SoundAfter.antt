-- What a change leaves is settled again, once the queue and the book have followed it.
use Rattle.ele_state.proofs.Words.{◌≡◌, ◌<◌, ℕ, false, is_some, List, Option, Result, Ok, Err, IfOk, OnOk, OnErr, subst, sym, ap, Change, Closed, Event, HasNoIdle, HasParts, IsEvent, IsHome, IsSettled, IsTracked, LeavesRows, May, MayName, NoMemory, Reply, Rows, Shown, World, after_change, change_keeps, change_settles, live_target, no_idle_stays, shown_of, step, step_keeps, world_of}

-- a name may be made if nothing refuses it
pub named : (w : World) (directory : ℕ) (name : List ℕ) → IsHome w directory → is_some (live_target w.names directory name) ≡ false → w.made.names < w.limits.names → MayName w directory name
named w directory name home free room = record { room = room; free = free; home = home.there; reached = home.reached }

module _ (rows : Rows) (shown : Shown) (is : shown_of rows ≡ shown) (settled : IsSettled rows) where
  abbrev w : World
  w = world_of rows

  settles : (v : World) → HasParts v → HasNoIdle v → (now : Rows) → world_of now ≡ v → IsTracked now → IsSettled now
  settles v formed idle now after tracked = record { sound = record { formed = subst HasParts (sym after) formed; tracked = tracked }; none_idle = subst HasNoIdle (sym after) idle }

  -- by a change that may be made, and takes no version and no draft
  pub settled_by : (change : Change) → May shown.world change → LeavesRows change → (now : Rows) → world_of now ≡ after_change w change → IsTracked now → IsSettled now
  settled_by change may leaves = settles _ (change_keeps w change (subst (λ (s : Shown). May s.world change) (sym is) may) settled.sound.formed) (change_settles w change leaves settled.sound.formed settled.none_idle)

  -- by all that an event changes
  pub stepped : (event : Event) → IsEvent event → (now : Rows) → world_of now ≡ (step w event).1 → IsTracked now → IsSettled now
  stepped event is_event = settles _ (step_keeps w event is_event settled.sound.formed) (no_idle_stays w event settled.sound.formed settled.none_idle)

  -- if memory was refused
  pub unchanged : (now : Rows) → world_of now ≡ w → IsTracked now → IsSettled now
  unchanged = settles w settled.sound.formed settled.none_idle

  -- either way
  pub settled_or : {X : Type 0} (result : Result X NoMemory) (change : Change) → May shown.world change → LeavesRows change → (now : Rows) → OnOk result (world_of now ≡ after_change w change) → OnErr result (world_of now ≡ w) → IsTracked now → IsSettled now
  settled_or (Ok x) change may leaves now ok err tracked = settled_by change may leaves now ok tracked
  settled_or (Err refused) change may leaves now ok err tracked = unchanged now err tracked

  pub stepped_or : (result : Result (Option ℕ) NoMemory) (event : Event) → IsEvent event → (now : Rows) → IfOk result (λ number. (Closed number, world_of now) ≡ step w event) → OnErr result (world_of now ≡ w) → IsTracked now → IsSettled now
  stepped_or (Ok number) event is_event now ok err tracked = stepped event is_event now (ap (λ (answer : Reply × World). answer.1) ok) tracked
  stepped_or (Err refused) event is_event now ok err tracked = unchanged now err tracked
