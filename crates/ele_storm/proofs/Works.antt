-- What calls in a row leave a seat.
use Rattle.std.proofs.Common.{◌≡◌, ℕ, List, [], ◌∷◌, ◌++◌, refl, ap, ◌∙◌, append_assoc, Result, Ok, Err}
use Rattle.ele_shared_history.specs.Knowledge.{Knowledge}
use Rattle.ele_shared_history.specs.Running.{entry, StartsWith}
use Rattle.ele_model.specs.declared.entry.Entry.{Entry}
use Rattle.ele_model.specs.declared.reply.Reply.{Reply}
use Rattle.std.proofs.Common.{◌+◌, add-one}
use Rattle.std.specs.Int.{to_be_bytes, w64}
use Rattle.ele_path.specs.declared.tagged.Tag.TheVariants.{Now, Number}
use Rattle.ele_path.specs.declared.tagged.TaggedPath.{TaggedPath}
use Rattle.ele_model.specs.declared.event.Event.TheVariants.{Tick, OpenWrite, Write, Close, Stat, Read, CleanOne, Create, SetDefault}
use Rattle.ele_model.specs.declared.event.Event.{Event}
use Rattle.ele_policy.specs.declared.policy.Policy.{Policy}
use Rattle.ele_storm.specs.Storm.{creates, storm_policy}
use Rattle.std.proofs.lemmas.List.{map-append}
use Rattle.ele_model.specs.declared.event.Source.TheVariants.{Tagged}
use Rattle.std.specs.Prelude.{OnOk}
use Rattle.ele_storm_plan.specs.declared.fault.StormFault.{StormFault}
use Rattle.ele_storm_plan.specs.declared.plan.Task.{Task}
use Rattle.ele_storm_plan.specs.declared.plan.Task.TheVariants.{Cleaner}
use Rattle.ele_storm.specs.Rounds.{file_of, handle_in, looks, tagged, writes}
use Rattle.ele_storm.specs.Making.{Makes, MakesOne, RunsRound, RunsRounds}
use Rattle.ele_storm.specs.Work.{AddsCalls, SeesMore}
use Rattle.ele_shared_history.proofs.Histories.{entries_of-append}

pub starts_trans : {A : Type 0} (a b c : List A) → StartsWith a b → StartsWith b c → StartsWith a c
starts_trans a b c p q = (q.0 ++ p.0, p.1 ∙ ap (λ l. l ++ p.0) q.1 ∙ append_assoc c q.0 p.0)

pub goes_further : (a b c : Knowledge) → SeesMore a b → SeesMore b c → SeesMore a c
goes_further a b c p q = record {
  object = q.object ∙ p.object;
  numbers = q.numbers ∙ p.numbers;
  view = starts_trans c.view b.view a.view q.view p.view;
  own = starts_trans c.own b.own a.own q.own p.own;
}

pub adds_more : (a b c : Knowledge) (xs ys : List Entry) → AddsCalls a xs b → AddsCalls b ys c → AddsCalls a (xs ++ ys) c
adds_more a b c xs ys (ps, p, pe) (qs, q, qe) = (
  ps ++ qs,
  q ∙ ap (λ l. l ++ qs) p ∙ append_assoc a.own ps qs,
  rw (entries_of-append ps qs, pe, qe) refl,
)

pub written : (a b c d e : Knowledge) (writer round handle : ℕ) (path : List (List ℕ)) (bytes : List ℕ) (opened : Reply) → path ≡ file_of writer → bytes ≡ to_be_bytes w64 round → handle ≡ handle_in opened
    → MakesOne (Tick 1) a b → AddsCalls b (entry (OpenWrite path) opened ∷ []) c → MakesOne (Write handle 0 bytes) c d → MakesOne (Close handle) d e → Makes (writes writer round) a e
written a b c d e writer round handle path bytes opened is_path is_bytes is_handle (r, ticks) opens (s, lays) (t, closes) = (
  entry (Tick 1) r ∷ entry (OpenWrite path) opened ∷ entry (Write handle 0 bytes) s ∷ entry (Close handle) t ∷ [],
  adds_more a d e (entry (Tick 1) r ∷ entry (OpenWrite path) opened ∷ entry (Write handle 0 bytes) s ∷ []) (entry (Close handle) t ∷ [])
      (adds_more a c d (entry (Tick 1) r ∷ entry (OpenWrite path) opened ∷ []) (entry (Write handle 0 bytes) s ∷ []) (adds_more a b c (entry (Tick 1) r ∷ []) (entry (OpenWrite path) opened ∷ []) ticks opens) lays) closes,
  rw (is_path, is_bytes, is_handle) refl,
)

pub looked_at : (a b c : Knowledge) (writer : ℕ) (file first : TaggedPath) → file ≡ tagged (file_of writer) Now → first ≡ tagged (file_of writer) (Number 1) → MakesOne (Stat file) a b → MakesOne (Read (Tagged first)) b c → Makes (looks writer) a c
looked_at a b c writer file first is_file is_first (r, asks) (s, reads) = (
  entry (Stat file) r ∷ entry (Read (Tagged first)) s ∷ [],
  adds_more a b c (entry (Stat file) r ∷ []) (entry (Read (Tagged first)) s ∷ []) asks reads,
  rw (is_file, is_first) refl,
)

pub cleaned : (writers round : ℕ) (a b : Knowledge) (x : Result (Unit {0}) StormFault) → OnOk x (MakesOne CleanOne a b) → OnOk x (RunsRound writers Cleaner round a b)
cleaned writers round a b (Ok _) (r, cleans) = (entry CleanOne r ∷ [], cleans, refl)
cleaned writers round a b (Err e) _ = tt

pub rounds_more : (writers : ℕ) (task : Task) (round : ℕ) (a b c : Knowledge) → RunsRounds writers task round a b → RunsRound writers task round b c → RunsRounds writers task (round + 1) a c
rounds_more writers task round a b c (xs, adds, rounds) (ys, more, last) =
    (xs ++ ys, adds_more a b c xs ys adds more, rw add-one (xs, ys, refl, rounds, last))

-- the event with which a storm begins, and then the making of a file
pub first_made : (path : List (List ℕ)) (policy : Policy) (a b : Knowledge) → path ≡ [] → policy ≡ storm_policy → MakesOne (SetDefault path policy) a b → Makes (λ handle. SetDefault [] storm_policy ∷ creates 0) a b
first_made path policy a b is_root is_policy (r, makes) = (entry (SetDefault path policy) r ∷ [], makes, rw (is_root, is_policy) refl)

pub created : (writer : ℕ) (path : List (List ℕ)) (a b c : Knowledge) → path ≡ file_of (writer + 1) → Makes (λ handle. SetDefault [] storm_policy ∷ creates writer) a b → MakesOne (Create path) b c
    → Makes (λ handle. SetDefault [] storm_policy ∷ creates (writer + 1)) a c
created writer path a b c is_file (xs, adds, are) (r, makes) = (
  xs ++ entry (Create path) r ∷ [],
  adds_more a b c xs (entry (Create path) r ∷ []) adds makes,
  rw add-one (map-append (λ (e : Entry). e.event) xs (entry (Create path) r ∷ []) ∙ ap (λ (events : List Event). events ++ Create path ∷ []) are ∙ ap (λ (p : List (List ℕ)). (SetDefault [] storm_policy ∷ creates writer) ++ Create p ∷ []) (is_file ∙ ap file_of (add-one writer))),
)
