-- Running histories that grow, and the calls under some numbers.
use Rattle.std.proofs.Common.{◌≡◌, ◌==◌, ◌||◌, ◌≤◌, ℕ, zero, suc, ◌<◌, Bool, true, false, cond, List, [], ◌∷◌, ◌++◌, length, refl, sym, ap, ◌∙◌, arith, append-nil, append_assoc}
use mathlib.Core.Option.{some, some-ne-none}
use lib.ListN.{get_elem?}
use Rattle.std.proofs.lemmas.List.{map-append}
use Rattle.std.proofs.Math.Bool.{or_assoc}
use Rattle.ele_model.specs.declared.entry.Entry.{Entry}
use Rattle.ele_model.specs.Run.{run_of}
use Rattle.ele_model.specs.Step.{step}
use Rattle.ele_model.specs.World.{World}
use Rattle.ele_history.specs.Legal.{IsLegal}
use Rattle.ele_history.specs.Past.{Past, events_of, reply_to, world_of}
use Rattle.ele_history.proofs.Growth.{legal-append}
use Rattle.ele_model.proofs.Reached.{run_of-append}
use Rattle.ele_shared_history.specs.declared.ledger.Call.{Call}
use Rattle.ele_shared_history.specs.Running.{continued, entries_of, has, own_of, StartsWith}

world_of-continued : (past : Past) (entries : List Entry) → world_of (continued past entries) ≡ run_of (world_of past) (events_of entries)
world_of-continued past entries =
    ap (run_of past.base) (map-append (λ (entry : Entry). entry.event) past.entries entries) ∙ run_of-append past.base (events_of past.entries) (events_of entries)

pub entries_of-append : (xs ys : List Call) → entries_of (xs ++ ys) ≡ entries_of xs ++ entries_of ys
entries_of-append [] ys = refl
entries_of-append (x ∷ xs) ys = ap (λ (z : List Entry). x.entry ∷ z) (entries_of-append xs ys)

pub length-entries_of : (xs : List Call) → length (entries_of xs) ≡ length xs
length-entries_of [] = refl
length-entries_of (x ∷ xs) = omega (arith, length-entries_of xs)

-- the numbers of one list or the other
pub has-append : (a b : List ℕ) (n : ℕ) → has (a ++ b) n ≡ (has a n || has b n)
has-append [] b n = refl
has-append (m ∷ ms) b n = ap (λ (z : Bool). (m == n) || z) (has-append ms b n) ∙ sym (or_assoc (m == n) (has ms n) (has b n))

short_cond : (p : Bool) (call : Call) (xs ys : List Call) → length ys ≤ length xs → length (cond p (call ∷ ys) ys) ≤ length (call ∷ xs)
short_cond true call xs ys short = omega arith
short_cond false call xs ys short = omega arith

-- the calls under some numbers are some of all
pub own_is_short : (ns : List ℕ) (calls : List Call) → length (own_of ns calls) ≤ length calls
own_is_short ns [] = omega arith
own_is_short ns (call ∷ calls) = short_cond (has ns call.by) call calls (own_of ns calls) (own_is_short ns calls)

-- one call more, with the step's own reply
pub legal_more : (opening : Past) (log : List Call) (call : Call) → IsLegal (world_of opening) (entries_of log) → call.entry.reply ≡ reply_to (continued opening (entries_of log)) call.entry.event → IsLegal (world_of opening) (entries_of (log ++ call ∷ []))
legal_more opening log call legal told =
    rw entries_of-append (legal-append (world_of opening) (entries_of log) call.entry legal (told ∙ ap (λ (w : World). (step w call.entry.event).0) (world_of-continued opening (entries_of log))))

cond_append : (b : Bool) (x : Call) (xs ys : List Call) → cond b (x ∷ (xs ++ ys)) (xs ++ ys) ≡ cond b (x ∷ xs) xs ++ ys
cond_append true x xs ys = refl
cond_append false x xs ys = refl

pub own_of-append : (ns : List ℕ) (xs ys : List Call) → own_of ns (xs ++ ys) ≡ own_of ns xs ++ own_of ns ys
own_of-append ns [] ys = refl
own_of-append ns (x ∷ xs) ys = ap (λ (z : List Call). cond (has ns x.by) (x ∷ z) z) (own_of-append ns xs ys) ∙ cond_append (has ns x.by) x (own_of ns xs) (own_of ns ys)

pub own_of-mine : (ns : List ℕ) (xs : List Call) (t : Call) → has ns t.by ≡ true → own_of ns (xs ++ t ∷ []) ≡ own_of ns xs ++ t ∷ []
own_of-mine ns xs t h = own_of-append ns xs (t ∷ []) ∙ ap (λ (b : Bool). own_of ns xs ++ cond b (t ∷ []) []) h

pub own_of-other : (ns : List ℕ) (xs : List Call) (t : Call) → has ns t.by ≡ false → own_of ns (xs ++ t ∷ []) ≡ own_of ns xs
own_of-other ns xs t h = own_of-append ns xs (t ∷ []) ∙ ap (λ (b : Bool). own_of ns xs ++ cond b (t ∷ []) []) h ∙ append-nil (own_of ns xs)

pub starts_whole : {A : Type 0} (xs : List A) → StartsWith xs xs
starts_whole xs = ([], sym (append-nil xs))

pub starts_more : {A : Type 0} (xs ys zs : List A) → StartsWith xs ys → StartsWith (xs ++ zs) ys
starts_more xs ys zs h = (h.0 ++ zs, ap (λ w. w ++ zs) h.1 ∙ append_assoc ys h.0 zs)

unfoldable pub starts_trans : (a b c : List Call) → StartsWith a b → StartsWith b c → StartsWith a c
starts_trans a b c p q = (q.0 ++ p.0, p.1 ∙ ap (λ (l : List Call). l ++ p.0) q.1 ∙ append_assoc c q.0 p.0)

pub at_bound : {A : Type 0} (l : List A) (i : ℕ) (a : A) → get_elem? l i ≡ some a → i < length l
at_bound [] i a e = absurd (some-ne-none a (sym e))
at_bound (x ∷ xs) zero a e = omega arith
at_bound (x ∷ xs) (suc i) a e = omega (arith, at_bound xs i a e)
