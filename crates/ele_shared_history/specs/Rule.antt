-- The rule: the word and the slot are those of one shared history, and each seat has seen a prefix of it. No public clause cites this
-- module.
use Rattle.std.specs.Prelude.{◌≡◌, ℕ, ◌+◌, ◌*◌, ◌<◌, ◌≤◌, Bool, true, false, nat_lt, cond, ◌⊎◌, List, [], ◌∷◌, ◌++◌, length, Option, Some}
use mathlib.Core.Option.{some, none}
use lib.ListN.{get_elem?}
use Rattle.atomic_table.specs.Table.{State}
use Rattle.ele_model.specs.Bounds.{largest_bounds}
use Rattle.ele_model.specs.declared.entry.Entry.{Entry}
use Rattle.ele_history.specs.Legal.{IsLegal}
use Rattle.ele_history.specs.Past.{Past, count_of, fresh, world_of}
use Rattle.ele_shared_history.specs.declared.ledger.Call.{Call}
use Rattle.ele_shared_history.specs.declared.ledger.Part.{Part}
use Rattle.ele_shared_history.specs.declared.ledger.View.{View}
use Rattle.ele_shared_history.specs.Running.{call, continued, entries_of, has, own_of, StartsWith}

-- what the slot holds
abbrev pub Kind : Type 0
Kind = Option Past

-- the history after these calls
abbrev pub history_after : Past → List Call → Past
history_after opening log = continued opening (entries_of log)

-- how many events are published after these calls
abbrev pub events_after : Past → List Call → ℕ
events_after opening log = count_of opening + length log

abbrev pub part : List ℕ → List Call → Part
part numbers calls = record { numbers = numbers; own = calls }

abbrev pub no_part : Part
no_part = part [] []

-- some of these numbers, and all calls under them
pub record PartFits (log : List Call) (numbers : List ℕ) (p : Part) : Type 0 where
  pub own : own_of p.numbers log ≡ p.own
  pub within : (n : ℕ) → has p.numbers n ≡ true → has numbers n ≡ true

-- what a seat knows fits the shared history: so many seats were made, and each number has one of them as its owner
pub record Fits (origin : Past) (made : ℕ) (owner : ℕ → ℕ) (log : List Call) (id : ℕ) (v : View) : Type 0 where
  pub opening : v.opening ≡ origin
  pub seen : StartsWith log v.seen
  pub told : StartsWith log v.told
  pub own : own_of v.numbers log ≡ v.own
  pub own_seen : own_of v.numbers v.seen ≡ v.own
  pub left : PartFits log v.numbers v.left
  pub right : PartFits log v.numbers v.right
  pub apart : (n : ℕ) → has v.left.numbers n ≡ true → has v.right.numbers n ≡ false
  pub numbers : (n : ℕ) → has v.numbers n ≡ true → (owner n ≡ id) × (n < made)
  pub known : (n : ℕ) → has v.known n ≡ true → n < made
  pub fresh : v.fresh ≡ true
      → (owner id ≡ id) × (own_of (id ∷ []) log ≡ []) × (has v.known id ≡ false) × (v.numbers ≡ [])

-- the word is even, the slot has the history, and no seat has the turn
pub record Free (origin : Past) (log : List Call) (s : State Kind View) : Type 0 where
  pub word : s.words ≡ 2 * events_after origin log ∷ []
  pub home : s.homes ≡ some (Some (history_after origin log)) ∷ []
  pub none_holds : (id : ℕ) (v : View) → get_elem? s.views id ≡ some v → v.holds ≡ false

-- the word is odd, the slot is empty, and the one seat that has the turn has seen all
pub record Taken (origin : Past) (log : List Call) (s : State Kind View) : Type 0 where
  pub holder : ℕ
  pub word : s.words ≡ (2 * events_after origin log + 1) ∷ []
  pub home : s.homes ≡ none ∷ []
  pub one_holds : (id : ℕ) (v : View) → get_elem? s.views id ≡ some v → v.holds ≡ true
      → (id ≡ holder) × (v.seen ≡ log)

-- there is one legal shared history after the history at the start
pub record Kept (origin : Past) (s : State Kind View) : Type 0 where
  pub log : List Call
  pub owner : ℕ → ℕ
  pub legal : IsLegal (world_of origin) (entries_of log)
  pub each : (id : ℕ) (v : View) → get_elem? s.views id ≡ some v → v.spent ≡ false
      → Fits origin (length s.views) owner log id v
  pub later : (n : ℕ) → length s.views ≤ n → (owner n ≡ n) × (own_of (n ∷ []) log ≡ [])
  pub turn : Free origin log s ⊎ Taken origin log s

abbrev pub first_view : Past → View
first_view opening = record {
  opening = opening;
  seen = [];
  told = [];
  numbers = 0 ∷ [];
  own = [];
  known = 0 ∷ [];
  fresh = false;
  holds = false;
  spent = false;
  left = no_part;
  right = no_part;
}

-- the view of a seat that has seen this history, and has the turn or not
abbrev pub looking : Bool → View → List Call → View
looking holds v log = record v { seen = log; told = []; holds = holds; left = no_part; right = no_part }

abbrev pub first_of : List ℕ → ℕ
first_of [] = 0
first_of (n ∷ ns) = n

-- the seat's own call
abbrev pub own_call : View → Entry → Call
own_call v entry = call (first_of v.numbers) entry

-- the view with this entry published under the seat's first number, and the turn given back
abbrev pub published : View → Entry → View
published v entry = record v {
  seen = v.seen ++ own_call v entry ∷ [];
  told = [];
  own = v.own ++ own_call v entry ∷ [];
  holds = false;
  left = no_part;
  right = no_part;
}

-- the view of a new seat without a number, which has seen what the old one has
abbrev pub newcomer : View → View
newcomer v = record v {
  told = [];
  numbers = [];
  own = [];
  fresh = true;
  holds = false;
  spent = false;
  left = no_part;
  right = no_part;
}

-- the view of the new seat, with its number
abbrev pub registered : View → ℕ → View
registered v number = record v {
  told = [];
  numbers = number ∷ [];
  own = [];
  known = number ∷ v.known;
  fresh = false;
  holds = false;
  spent = false;
  left = no_part;
  right = no_part;
}

-- the longer of two prefixes of one history
abbrev pub longer : List Call → List Call → List Call
longer xs ys = cond (nat_lt (length xs) (length ys)) ys xs

abbrev pub shorter : List Call → List Call → List Call
shorter xs ys = cond (nat_lt (length xs) (length ys)) xs ys

-- the view of a seat that has seen what both have, with the numbers of both
abbrev pub united : View → View → View
united v w = record {
  opening = v.opening;
  seen = longer v.seen w.seen;
  told = shorter v.seen w.seen;
  numbers = v.numbers ++ w.numbers;
  own = own_of (v.numbers ++ w.numbers) (longer v.seen w.seen);
  known = v.known ++ w.known;
  fresh = false;
  holds = v.holds;
  spent = false;
  left = part v.numbers v.own;
  right = part w.numbers w.own;
}

-- the view of a seat that was joined to another: the rule excepts it
abbrev pub spent_view : View
spent_view = record (first_view (fresh largest_bounds)) { numbers = []; known = []; spent = true }
