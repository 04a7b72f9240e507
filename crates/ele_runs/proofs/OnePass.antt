-- From one state a pass has one end, unless want of memory stops it.
use Rattle.ele_runs.proofs.Basics.{◌≡◌, ◌⊎◌, ℕ, zero, suc, ◌+◌, ◌<◌, ◌≤◌, Ok, inl, inr, refl, sym, ap, subst, ◌∙◌, arith}
use Rattle.ele_runs.proofs.Words.{HistoryFull, MayPass, MayReply, Past, Removes, RemovesOne, Reply, count_of, world_of}
use Rattle.ele_history.specs.PassIsOfWorld.{PassIsOfWorld, PassOfWorld}
use Rattle.ele_model.specs.declared.event.Event.{Event}
use Rattle.ele_model.specs.declared.event.Event.TheVariants.{CleanOne}
use Rattle.ele_model.specs.declared.reply.Reply.TheVariants.{Nothing}
use Rattle.ele_model.specs.declared.pass.PassEnd.{PassEnd}
use Rattle.ele_model.specs.declared.pass.PassEnd.TheVariants.{Finished, Budget, Stopped}
use Rattle.ele_model.specs.declared.refusal.Stop.TheVariants.{NoMemory}
use Rattle.ele_model.specs.Pass.{IsCleaned, IsPass}
use Rattle.ele_model.specs.World.{World}
use Rattle.ele_runs.specs.Said.{IsForMemory}
use Rattle.ele_runs.specs.declared.said.Said.TheVariants.{Passed}

-- the same reply leaves one state
one_told : (before : Past) (event : Event) (r : Reply) (x y : Past) → MayReply before event (Ok r) x → MayReply before event (Ok r) y → x ≡ y
one_told before event r x y a b = ap (λ (told : Reply × Past). told.1) (a.1 ∙ sym b.1)

same_removed : (before x y : Past) → RemovesOne before x → RemovesOne before y → x ≡ y
same_removed before x y a b = ap (λ (told : Reply × Past). told.1) (a.1.1 ∙ sym b.1.1)

one_removes : (s t u : Past) (n : ℕ) → Removes s n t → Removes s n u → t ≡ u
one_removes s t u zero a b = a ∙ sym b
one_removes s t u (suc n) a b =
    let same = one_removes s a.0 b.0 n a.1 b.1 in
    same_removed b.0 t u (subst (λ (m : Past). RemovesOne m t) same a.2) b.2

-- a pass that found nothing due is at least as long as any other
not_behind : (w : World) (r s : ℕ) (u v : World) → IsPass w r u → IsCleaned w s v → r < s → ⊥
not_behind w r s u v pass cleaned lt = grind (arith, cleaned.each r lt, pass.last, pass.cleaned.after_is)

one_finish : (w : World) (r s : ℕ) (u v : World) → IsPass w r u → IsPass w s v → r ≡ s
one_finish w r s u v a b = omega (arith, not_behind w r s u v a b.cleaned, not_behind w s r v u b a.cleaned)

-- the limit of entries
abbrev most_entries : Past → ℕ
most_entries past = past.base.limits.events

-- one end of a pass leaves one state
one_left : (before : Past) (budget : ℕ) (e : PassEnd) (x y : Past) → MayPass before budget e x → MayPass before budget e y → ¬ IsForMemory (Passed e) → x ≡ y
one_left before budget (Finished r) x y a b p =
    let same = one_removes before a.1.0 b.1.0 r a.1.1 b.1.1 in
    one_told b.1.0 CleanOne Nothing x y (subst (λ (m : Past). MayReply m CleanOne (Ok Nothing) x) same a.1.2) b.1.2
one_left before budget (Budget r) x y a b p = one_removes before x y r a.1 b.1
one_left before budget (Stopped HistoryFull r) x y a b p = a.1.2.1 ∙ one_removes before a.1.0 b.1.0 r a.1.1 b.1.1 ∙ sym b.1.2.1
one_left before budget (Stopped NoMemory r) x y a b p = absurd (p tt)

module _ (passes : PassIsOfWorld) where
  -- clean events that each removed a version are a pass that used up its budget
  so_many : (before x : Past) (n : ℕ) → Removes before n x → PassOfWorld before (Budget n) x
  so_many before x n removes = passes before x n (Budget n) (refl, removes)

  limit_is : (before x : Past) (n : ℕ) → Removes before n x → most_entries x ≡ most_entries before
  limit_is before x n removes = ap (λ (w : World). w.limits.events) (so_many before x n removes).base

  -- if a pass finished, one entry more was within the limit
  room_behind : (before x : Past) (budget n : ℕ) → MayPass before budget (Finished n) x → count_of before + n < most_entries before
  room_behind before x budget n a =
      omega (arith, a.1.2.0, (so_many before a.1.0 n a.1.1).count, limit_is before a.1.0 n a.1.1)

  -- if it was stopped, none was
  full_behind : (before x : Past) (budget n : ℕ) → MayPass before budget (Stopped HistoryFull n) x → count_of before + n ≡ most_entries before
  full_behind before x budget n a =
      omega (arith, a.1.2.0, (so_many before a.1.0 n a.1.1).count, limit_is before a.1.0 n a.1.1)

  -- each removal was within the limit
  room_for : (before x : Past) (n : ℕ) → Removes before n x → n < 1 ⊎ (count_of before + n ≤ most_entries before)
  room_for before x zero a = inl (omega arith)
  room_for before x (suc n) a = inr (omega (arith, a.2.1.0, (so_many before a.0 n a.1).count, limit_is before a.0 n a.1))

  finished_world : (before x : Past) (budget n : ℕ) → MayPass before budget (Finished n) x → IsPass (world_of before) n (world_of x)
  finished_world before x budget n a = (passes before x budget (Finished n) a).world

  end_or_full : (before x y : Past) (budget r s : ℕ) → MayPass before budget (Finished r) x → MayPass before budget (Stopped HistoryFull s) y → ⊥
  end_or_full before x y budget r s a b =
      not_behind (world_of before) r s (world_of x) (world_of b.1.0) (finished_world before x budget r a) (so_many before b.1.0 s b.1.1).world
      (omega (arith, room_behind before x budget r a, full_behind before y budget s b))

  end_or_spent : (before x y : Past) (budget r s : ℕ) → MayPass before budget (Finished r) x → MayPass before budget (Budget s) y → ⊥
  end_or_spent before x y budget r s a b =
      not_behind (world_of before) r s (world_of x) (world_of y) (finished_world before x budget r a) (so_many before y s b.1).world (omega (arith, a.0, b.0))

  spent_or_full : (before x y : Past) (budget r s : ℕ) → MayPass before budget (Budget r) x → MayPass before budget (Stopped HistoryFull s) y → ⊥
  spent_or_full before x y budget r s a b = elim (room_for before x r a.1) [
    | inl none ↦ omega (arith, none, b.0, a.0)
    | inr room ↦ omega (arith, room, b.0, a.0, full_behind before y budget s b)
  ]

  one_end : (before : Past) (budget : ℕ) (e f : PassEnd) (x y : Past) → MayPass before budget e x → MayPass before budget f y → ¬ IsForMemory (Passed e) → ¬ IsForMemory (Passed f) → e ≡ f
  one_end before budget (Finished r) (Finished s) x y a b p q =
      ap Finished (one_finish (world_of before) r s (world_of x) (world_of y) (finished_world before x budget r a) (finished_world before y budget s b))
  one_end before budget (Finished r) (Budget s) x y a b p q = absurd (end_or_spent before x y budget r s a b)
  one_end before budget (Finished r) (Stopped HistoryFull s) x y a b p q = absurd (end_or_full before x y budget r s a b)
  one_end before budget (Budget r) (Finished s) x y a b p q = absurd (end_or_spent before y x budget s r b a)
  one_end before budget (Budget r) (Budget s) x y a b p q = ap Budget (a.0 ∙ sym b.0)
  one_end before budget (Budget r) (Stopped HistoryFull s) x y a b p q = absurd (spent_or_full before x y budget r s a b)
  one_end before budget (Stopped HistoryFull r) (Finished s) x y a b p q = absurd (end_or_full before y x budget s r b a)
  one_end before budget (Stopped HistoryFull r) (Budget s) x y a b p q = absurd (spent_or_full before y x budget s r b a)
  one_end before budget (Stopped HistoryFull r) (Stopped HistoryFull s) x y a b p q =
      ap (Stopped HistoryFull) (omega (arith, full_behind before x budget r a, full_behind before y budget s b))
  one_end before budget (Stopped NoMemory r) f x y a b p q = absurd (p tt)
  one_end before budget e (Stopped NoMemory s) x y a b p q = absurd (q tt)

  pub one_pass : (before : Past) (budget : ℕ) (e f : PassEnd) (x y : Past) → MayPass before budget e x → MayPass before budget f y
      → ¬ IsForMemory (Passed e) → ¬ IsForMemory (Passed f) → (Passed e ≡ Passed f) × (x ≡ y)
  one_pass before budget e f x y a b p q =
      let same = one_end before budget e f x y a b p q in
      (ap Passed same, one_left before budget f x y (subst (λ (end : PassEnd). MayPass before budget end x) same a) b q)
