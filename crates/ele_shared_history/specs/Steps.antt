-- What a seat learns from each kind of step. No public clause cites this module.
use Rattle.std.specs.Prelude.{◌≡◌, ℕ, ◌/◌, ◌==◌, Bool, true, false, cond, List, [], ◌∷◌, Some}
use Rattle.atomic_table.specs.Table.{Me, Step}
use Rattle.atomic_table.specs.Seated.{TableId}
use Rattle.atomic_table.specs.declared.shared.Seat.{Seat}
use Rattle.ele_model.specs.declared.entry.Entry.{Entry}
use Rattle.ele_model.specs.declared.event.Event.{Event}
use Rattle.ele_model.specs.declared.refusal.Stop.{Stop}
use Rattle.ele_model.specs.declared.reply.Reply.{Reply}
use Rattle.ele_history.specs.Legal.{IsLegal}
use Rattle.ele_history.specs.Past.{reply_to, world_of}
use Rattle.ele_history.specs.Reply.{MayStop}
use Rattle.ele_shared_history.specs.declared.ledger.Call.{Call}
use Rattle.ele_shared_history.specs.declared.ledger.View.{View}
use Rattle.ele_shared_history.specs.Rule.{Kind, events_after, first_of, history_after, looking, newcomer, published, registered, united}
use Rattle.ele_shared_history.specs.Running.{continued, entries_of, entry, has, own_of, StartsWith}

-- what a seat learns with the history until now
pub record IsNews (v : View) (log : List Call) : Type 0 where
  pub seen : StartsWith log v.seen
  pub told : StartsWith log v.told
  pub own : own_of v.numbers log ≡ v.own
  pub legal : IsLegal (world_of v.opening) (entries_of log)

-- a seat found this word, and has seen the history until now
abbrev pub SeesAll : Me Kind View → ℕ → Me Kind View → Type 0
SeesAll m word n =
    (log : List Call) × IsNews m.0 log × (word / 2 ≡ events_after m.0.opening log)
    × (n ≡ (looking m.0.holds m.0 log, m.1))

-- and has taken the turn, with the history after all that is seen, or not
abbrev pub MayTake : Bool → Me Kind View → Me Kind View → Type 0
MayTake took m n =
    (log : List Call) × IsNews m.0 log
    × (n ≡ cond took (looking true m.0 log, (0, Some (history_after m.0.opening log)) ∷ m.1) (looking m.0.holds m.0 log, m.1))

abbrev pub Looks : Step Kind → Me Kind View → ℕ → Me Kind View → Type 0
Looks s m found n = SeesAll m found n

-- the seat takes the turn if the word is as expected
abbrev pub Takes : Step Kind → Me Kind View → ℕ → Me Kind View → Type 0
Takes s m found n = MayTake (found == s.first) m n

-- a seat with the turn that stores the history with one more entry has made this call
abbrev pub Publishes : Step Kind → Me Kind View → ℕ → Me Kind View → Type 0
Publishes s m found n =
    (e : Entry) → m.1 ≡ (0, Some (continued (history_after m.0.opening m.0.seen) (e ∷ []))) ∷ []
    → n ≡ (published m.0 e, [])

abbrev pub GivesBack : Step Kind → Me Kind View → ℕ → Me Kind View → Type 0
GivesBack s m found n = n ≡ (looking false m.0 m.0.seen, [])

-- the new seat gets a number under which no call was made
abbrev pub Registers : Step Kind → Me Kind View → ℕ → Me Kind View → Type 0
Registers s m found n =
    (k : ℕ) × (has m.0.known k ≡ false) × (own_of (k ∷ []) m.0.seen ≡ []) × (n ≡ (registered m.0 k, m.1))

-- of the two that were joined last, all calls are in the history until now, under numbers that are apart
abbrev pub Meets : Step Kind → Me Kind View → ℕ → Me Kind View → Type 0
Meets s m found n =
    (log : List Call) × IsNews m.0 log
    × (own_of m.0.left.numbers log ≡ m.0.left.own) × (own_of m.0.right.numbers log ≡ m.0.right.own)
    × ((k : ℕ) → has m.0.left.numbers k ≡ true → has m.0.right.numbers k ≡ false)
    × (n ≡ (looking m.0.holds m.0 log, m.1))

-- the place is at this table, which has one word and one slot, and was joined to no other
abbrev pub IsOf : TableId → Seat Kind View → Type 0
IsOf name place = (place.table_id ≡ name) × (name.words ≡ 1) × (name.slots ≡ 1) × (place.me.0.spent ≡ false)

-- the place is the same one, with another view perhaps
abbrev pub IsSame : Seat Kind View → Seat Kind View → Type 0
IsSame before after = (after.table_id ≡ before.table_id) × (after.id ≡ before.id)

-- the seat has a number of its own and the turn, with the history after all that it has seen
abbrev pub HasTurn : Me Kind View → Type 0
HasTurn m =
    (m.0.holds ≡ true) × (has m.0.numbers (first_of m.0.numbers) ≡ true)
    × (m.1 ≡ (0, Some (history_after m.0.opening m.0.seen)) ∷ [])

-- a seat between calls
pub record IsIdle (m : Me Kind View) : Type 0 where
  pub empty : m.1 ≡ []
  pub told : m.0.told ≡ []
  pub holds : m.0.holds ≡ false
  pub fresh : m.0.fresh ≡ false
  pub live : m.0.spent ≡ false
  pub numbered : has m.0.numbers (first_of m.0.numbers) ≡ true
  pub own : own_of m.0.numbers m.0.seen ≡ m.0.own
  pub legal : IsLegal (world_of m.0.opening) (entries_of m.0.seen)

-- a seat with the turn has published the event and this reply, which is the step's
abbrev pub HasPublished : Me Kind View → Event → Reply → Me Kind View → Type 0
HasPublished m event reply n =
    (n ≡ (published m.0 (entry event reply), []))
    × (reply ≡ reply_to (history_after m.0.opening m.0.seen) event)

-- a seat with the turn has given it back, since this stopped the history
abbrev pub HasGivenBack : Me Kind View → Stop → Me Kind View → Type 0
HasGivenBack m stop n =
    (n ≡ (looking false m.0 m.0.seen, []))
    × MayStop (history_after m.0.opening m.0.seen) stop (history_after m.0.opening m.0.seen)

-- a seat has seen the history until now, and has the turn
abbrev pub TakesTurn : Me Kind View → Me Kind View → Type 0
TakesTurn m n =
    (log : List Call) × IsNews m.0 log
    × (n ≡ (looking true m.0 log, (0, Some (history_after m.0.opening log)) ∷ []))

-- a seat has seen the history until now, and doesn't have the turn
abbrev pub StaysIdle : Me Kind View → Me Kind View → Type 0
StaysIdle m n = (log : List Call) × IsNews m.0 log × (n ≡ (looking false m.0 log, []))

-- a seat has published the event after the history until now, with the step's reply
abbrev pub RunsEvent : Me Kind View → Event → Reply → Me Kind View → Type 0
RunsEvent m event reply n =
    (log : List Call) × IsNews m.0 log
    × (n ≡ (published (looking true m.0 log) (entry event reply), []))
    × (reply ≡ reply_to (history_after m.0.opening log) event)

-- a new seat has seen what this one has, and got a number under which no call was made
abbrev pub IsForked : View → Me Kind View → Type 0
IsForked v n =
    (k : ℕ) × (has v.known k ≡ false) × (own_of (k ∷ []) v.seen ≡ []) × (n ≡ (registered (newcomer v) k, []))

-- a seat has the numbers of both, and has seen the history until now, with all calls under them
abbrev pub Unites : View → View → Me Kind View → Type 0
Unites v w n =
    (log : List Call) × IsNews (united v w) log
    × (own_of v.numbers log ≡ v.own) × (own_of w.numbers log ≡ w.own)
    × ((k : ℕ) → has v.numbers k ≡ true → has w.numbers k ≡ false)
    × (n ≡ (looking v.holds (united v w) log, []))
