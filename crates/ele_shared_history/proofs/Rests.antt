-- A seat between calls.
use Rattle.std.proofs.Common.{◌≡◌, ◌+◌, Bool, true, false, MatchBool, Some, List, [], ◌∷◌, ◌++◌, length, refl, sym, ap, ◌∙◌, subst, arith, length-append, Result, Ok, Err, IfOk, IfErr}
use Rattle.atomic_table.specs.Table.{Me}
use Rattle.atomic_table.specs.Seated.{TableId}
use Rattle.ele_model.specs.declared.event.Event.{Event}
use Rattle.ele_model.specs.declared.reply.Reply.{Reply}
use Rattle.ele_history.specs.Past.{Past, count_of}
use Rattle.ele_shared_history.specs.declared.ledger.Call.{Call}
use Rattle.ele_shared_history.specs.declared.ledger.View.{View}
use Rattle.ele_shared_history.specs.Running.{entries_of, entry}
use Rattle.ele_shared_history.specs.Rule.{Kind, history_after, first_of, looking, own_call}
use Rattle.ele_shared_history.specs.Steps.{IsIdle, IsNews, RunsEvent, StaysIdle, TakesTurn}
use Rattle.ele_shared_history.specs.Calling.{Called}
use Rattle.ele_shared_history.specs.Knowledge.{IsTrue, Knowledge, Looked}
use Rattle.ele_shared_history.specs.Told.{knowledge}
use Rattle.ele_shared_history.proofs.Histories.{legal_more, length-entries_of, own_of-mine, starts_trans}

pub count_behind : (o : Past) (log : List Call) → count_of (history_after o log) ≡ count_of o + length log
count_behind o log = omega (arith, length-append o.entries (entries_of log), length-entries_of log)

pub idle_looked : (m n : Me Kind View) → IsIdle m → StaysIdle m n → IsIdle n
idle_looked m n i (log, news, is) = subst IsIdle (sym is) record { empty = refl; told = refl; holds = refl; fresh = i.fresh; live = i.live; numbered = i.numbered; own = news.own; legal = news.legal }

pub idle_ran : (m n : Me Kind View) (e : Event) (r : Reply) → IsIdle m → RunsEvent m e r n → IsIdle n
idle_ran m n e r i (log, news, is, right) =
    subst IsIdle (sym is) record {
      empty = refl;
      told = refl;
      holds = refl;
      fresh = i.fresh;
      live = i.live;
      numbered = i.numbered;
      own = own_of-mine m.0.numbers log (own_call m.0 (entry e r)) i.numbered ∙ ap (λ (z : List Call). z ++ own_call m.0 (entry e r) ∷ []) news.own;
      legal = legal_more m.0.opening log (own_call m.0 (entry e r)) news.legal right;
    }

-- a look after another one
news_again : (v w : View) (log more : List Call) → IsNews v log → w ≡ looking false v log → IsNews w more → IsNews v more
news_again v w log more first is second =
    let news : IsNews (looking false v log) more = subst (λ (x : View). IsNews x more) is second in
    record { seen = starts_trans more log v.seen news.seen first.seen; told = starts_trans more log v.told news.seen first.told; own = news.own; legal = news.legal }

pub seizes_again : (taken : Bool) (m n k : Me Kind View) → StaysIdle m n → MatchBool taken (TakesTurn n k) (StaysIdle n k) → MatchBool taken (TakesTurn m k) (StaysIdle m k)
seizes_again true m n k (log, first, is) (more, second, then) = (
  more,
  news_again m.0 n.0 log more first (ap (λ (x : Me Kind View). x.0) is) second,
  then ∙ ap (λ (x : Me Kind View). (looking true x.0 more, (0, Some (history_after x.0.opening more)) ∷ [])) is,
)
seizes_again false m n k (log, first, is) (more, second, then) =
    (more, news_again m.0 n.0 log more first (ap (λ (x : Me Kind View). x.0) is) second, then ∙ ap (λ (x : Me Kind View). (looking false x.0 more, [])) is)

pub idle_after : {S : Type 0} (m n : Me Kind View) (e : Event) (F : S → Type 0) (res : Result Reply S) → IsIdle m → IfOk res (λ r. RunsEvent m e r n) → IfErr res (λ s. StaysIdle m n × F s) → IsIdle n
idle_after m n e F (Ok r) i done stop = idle_ran m n e r i done
idle_after m n e F (Err s) i done stop = idle_looked m n i stop.0

pub called : (z y : TableId) (m n : Me Kind View) (e : Event) (r : Reply) → y ≡ z → IsIdle m → RunsEvent m e r n → Called (knowledge z m.0) e r (knowledge y n.0)
called z y m n e r same i (log, news, is, right) =
    subst (λ (k : Knowledge). Called (knowledge z m.0) e r k) (ap (λ (x : Me Kind View). knowledge y x.0) (sym is)) record {
      by = first_of m.0.numbers;
      between = news.seen.0;
      one_of = i.numbered;
      view = ap (λ (l : List Call). l ++ own_call m.0 (entry e r) ∷ []) news.seen.1;
      own = refl;
      object = ap (λ (t : TableId). record { name = t; opening = m.0.opening }) same;
      numbers = refl;
      known = refl;
    }

pub looked : (z y : TableId) (m n : Me Kind View) → y ≡ z → StaysIdle m n → Looked (knowledge z m.0) (knowledge y n.0)
looked z y m n same (log, news, is) =
    subst (λ (k : Knowledge). Looked (knowledge z m.0) k) (ap (λ (x : Me Kind View). knowledge y x.0) (sym is)) record {
      object = ap (λ (t : TableId). record { name = t; opening = m.0.opening }) same;
      numbers = refl;
      known = refl;
      own = refl;
      view = news.seen;
    }

pub truth : (z : TableId) (m : Me Kind View) → IsIdle m → IsTrue (knowledge z m.0)
truth z m i = record { legal = i.legal; own = i.own }
