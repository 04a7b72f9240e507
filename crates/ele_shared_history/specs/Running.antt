-- The shared history: who made which entry after the history at the start, in one order.
use Rattle.std.specs.Prelude.{◌≡◌, ◌⊎◌, ℕ, Bool, false, ◌==◌, ◌||◌, cond, List, [], ◌∷◌, ◌++◌}
use Rattle.ele_model.specs.declared.entry.Entry.{Entry}
use Rattle.ele_model.specs.declared.event.Event.{Event}
use Rattle.ele_model.specs.declared.reply.Reply.{Reply}
use Rattle.ele_history.specs.Past.{Past}
use Rattle.ele_shared_history.specs.declared.ledger.Call.{Call}

abbrev pub entry : Event → Reply → Entry
entry event reply = record { event = event; reply = reply }

abbrev pub call : ℕ → Entry → Call
call by entry = record { by = by; entry = entry }

-- the shared history without its numbers
abbrev pub entries_of : List Call → List Entry
entries_of [] = []
entries_of (call ∷ calls) = call.entry ∷ entries_of calls

-- the history with these entries after the others
abbrev pub continued : Past → List Entry → Past
continued past entries = record past { entries = past.entries ++ entries }

-- whether this number is among these
abbrev pub has : List ℕ → ℕ → Bool
has [] n = false
has (m ∷ ms) n = (m == n) || has ms n

-- the calls made under these numbers
abbrev pub own_of : List ℕ → List Call → List Call
own_of ns [] = []
own_of ns (call ∷ calls) = cond (has ns call.by) (call ∷ own_of ns calls) (own_of ns calls)

-- the first begins with the second
abbrev pub StartsWith : {A : Type 0} → List A → List A → Type 0
StartsWith {A} xs ys = (rest : List A) × (xs ≡ ys ++ rest)

-- one of them begins with the other
abbrev pub AgreeBy : {A : Type 0} → List A → List A → Type 0
AgreeBy xs ys = StartsWith xs ys ⊎ StartsWith ys xs
