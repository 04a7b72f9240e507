-- What a seat holds while it has the turn.
use Rattle.std.proofs.Common.{◌≡◌, ℕ, ◌+◌, ◌-◌, ◌%◌, ◌^◌, ◌<◌, false, List, arith, length-append, [], ◌∷◌, sym, ap, ◌∙◌, subst, Some, None, Ok}
use mathlib.Core.Option.{none}
use Rattle.atomic_table.specs.Table.{Me, step, Allows, rest}
use Rattle.ele_model.specs.declared.entry.Entry.{Entry}
use Rattle.ele_model.specs.declared.event.Event.{Event}
use Rattle.ele_model.specs.declared.reply.Reply.{Reply}
use Rattle.ele_model.specs.declared.refusal.Stop.{Stop}
use Rattle.ele_model.specs.declared.refusal.Stop.TheVariants.{NoMemory, HistoryFull}
use Rattle.ele_model.specs.Bounds.{AreBounds}
use Rattle.ele_history.specs.Past.{Past, HasRoom, count_of, reply_to}
use Rattle.ele_history.specs.Reply.{MayReply, MayStop}
use Rattle.ele_shared_history.specs.declared.ledger.Call.{Call}
use Rattle.ele_shared_history.specs.declared.ledger.View.{View}
use Rattle.ele_shared_history.specs.Running.{continued, entries_of, entry}
use Rattle.ele_shared_history.proofs.Histories.{length-entries_of}
use Rattle.ele_shared_history.specs.Rule.{Kind, events_after, history_after, Kept}
use Rattle.ele_shared_history.specs.Steps.{GivesBack, HasPublished, HasTurn, Publishes}
use Rattle.ele_shared_history.proofs.Keeps.{publishes, gives_back}

abbrev kind_in : List (ℕ × Kind) → Kind
kind_in [] = None
kind_in (x ∷ xs) = x.1

-- what an answer leaves, apart
pub record Answers (before : Past) (event : Event) (reply : Reply) (after : Past) : Type 0 where
  pub told : reply ≡ reply_to before event
  pub grown : after ≡ continued before (entry event reply ∷ [])

pub answers : (before after : Past) (event : Event) (reply : Reply) → MayReply before event (Ok reply) after → Answers before event reply after
answers before after event reply may =
    let told : reply ≡ reply_to before event = ap (λ (said : Reply × Past). said.0) may.1 in
    record {
      told = told;
      grown = ap (λ (said : Reply × Past). said.1) may.1 ∙ ap (λ (r : Reply). continued before (entry event r ∷ [])) (sym told);
    }

-- a stop leaves the history
pub stays : (before after : Past) (stop : Stop) → MayStop before stop after → after ≡ before
stays before after NoMemory may = may.1
stays before after HistoryFull may = may.1

-- the events of a history below its limit
pub few : (h o : Past) (log : List Call) → h ≡ history_after o log → HasRoom h → AreBounds h.base.limits → events_after o log < 2 ^ 62
few h o log e room bounds =
    let n : count_of h ≡ count_of (history_after o log) = ap count_of e in
    omega (arith, bounds.events, length-append o.entries (entries_of log), length-entries_of log)

-- the history is taken out and another put in
pub handed : (m a b : Me Kind View) (y : Kind) (v0 v1 : Past) → HasTurn m → m.1 ≡ (0, y) ∷ rest m.1 → a ≡ (m.0, (0, None) ∷ rest m.1) → b ≡ (a.0, (0, Some v1) ∷ rest a.1) → y ≡ Some v0
    → (v0 ≡ history_after m.0.opening m.0.seen) × (◌≡◌ {A = Me Kind View} b (m.0, (0, Some v1) ∷ []))
handed m a b y v0 v1 turn out first second is =
    let same : (0, y) ∷ rest m.1 ≡ (0, Some (history_after m.0.opening m.0.seen)) ∷ [] = sym out ∙ turn.2 in
    let empty : rest m.1 ≡ [] = ap rest turn.2 in
    let there : y ≡ Some (history_after m.0.opening m.0.seen) = ap kind_in same in (
      cc,
      second ∙ ap (λ (x : Me Kind View). (x.0, (0, Some v1) ∷ rest x.1)) first ∙ ap (λ (r : List (ℕ × Kind)). (m.0, (0, Some v1) ∷ r)) empty,
    )

pub publishes_here : (o : Past) (id : ℕ) (m b : Me Kind View) (v1 : Past) (e : Entry) → m.0.spent ≡ false → HasTurn m → ◌≡◌ {A = Me Kind View} b (m.0, (0, Some v1) ∷ []) → v1 ≡ continued (history_after m.0.opening m.0.seen) (e ∷ [])
    → e.reply ≡ reply_to (history_after m.0.opening m.0.seen) e.event → events_after m.0.opening m.0.seen < 2 ^ 62
    → Allows (Kept o) 1 id b 0 (λ n. (n + 1) % 2 ^ 64) (Publishes (step 1 0 1 0 none) b)
publishes_here o id m b v1 e live turn is grown right few =
    subst (λ (x : Me Kind View). Allows (Kept o) 1 id x 0 (λ n. (n + 1) % 2 ^ 64) (Publishes (step 1 0 1 0 none) x)) (sym is)
    (publishes o id m.0 ((0, Some v1) ∷ []) e live turn.0 turn.1 (ap (λ (h : Past). (0, Some h) ∷ []) grown) right few)

pub gives_back_here : (o : Past) (id : ℕ) (m b : Me Kind View) (v1 : Past) → m.0.spent ≡ false → HasTurn m → ◌≡◌ {A = Me Kind View} b (m.0, (0, Some v1) ∷ []) → v1 ≡ history_after m.0.opening m.0.seen
    → Allows (Kept o) 1 id b 0 (λ n. (n + (2 ^ 64 - 1)) % 2 ^ 64) (GivesBack (step 1 0 1 0 none) b)
gives_back_here o id m b v1 live turn is same =
    subst (λ (x : Me Kind View). Allows (Kept o) 1 id x 0 (λ n. (n + (2 ^ 64 - 1)) % 2 ^ 64) (GivesBack (step 1 0 1 0 none) x)) (sym is)
    (gives_back o id m.0 ((0, Some v1) ∷ []) live turn.0 (ap (λ (h : Past). (0, Some h) ∷ []) same))

-- what was published is the event with the history's reply
pub ran : (m b n : Me Kind View) (v0 v1 : Past) (e : Event) (r : Reply) → v0 ≡ history_after m.0.opening m.0.seen → ◌≡◌ {A = Me Kind View} b (m.0, (0, Some v1) ∷ []) → Answers v0 e r v1 → Publishes (step 1 0 1 0 none) b 0 n
    → HasPublished m e r n
ran m b n v0 v1 e r same is a p =
    let q : Publishes (step 1 0 1 0 none) (m.0, (0, Some v1) ∷ []) 0 n = subst (λ (x : Me Kind View). Publishes (step 1 0 1 0 none) x 0 n) is p in (
      q (entry e r) (ap (λ (h : Past). (0, Some h) ∷ []) (a.grown ∙ ap (λ (z : Past). continued z (entry e r ∷ [])) same)),
      a.told ∙ ap (λ (z : Past). reply_to z e) same,
    )
