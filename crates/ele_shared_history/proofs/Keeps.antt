-- Each step keeps the rule.
use Rattle.std.proofs.Common.{◌≡◌, ◌≢◌, ℕ, ◌+◌, ◌-◌, ◌*◌, ◌/◌, ◌%◌, ◌^◌, ◌<◌, Bool, true, false, ◌==◌, cond, inl, inr, ⊎_elim, List, [], ◌∷◌, ◌++◌, length, get_or, set, refl, sym, ap, ◌∙◌, subst, arith, append_assoc, length-append, length-set, Some, None}
use Rattle.std.proofs.lemmas.Bool.{cases_Bool}
use Rattle.std.proofs.lemmas.Bool.Decides.{nat_tests}
use mathlib.Core.Option.{some, none}
use lib.ListN.{get_elem?}
use prog.Atomic.{either}
use Rattle.atomic_table.specs.Table.{State, Me, Act, keeps, takes, gives, Valid, stepped, carried_after, step, Allows, put_back, rest}
use Rattle.atomic_table.proofs.Lists.{at_set}
use Rattle.ele_model.specs.declared.entry.Entry.{Entry}
use Rattle.ele_history.specs.Legal.{IsLegal}
use Rattle.ele_history.specs.Past.{Past, reply_to, world_of}
use Rattle.ele_shared_history.specs.declared.ledger.Call.{Call}
use Rattle.ele_shared_history.specs.declared.ledger.Part.{Part}
use Rattle.ele_shared_history.specs.declared.ledger.View.{View}
use Rattle.ele_shared_history.specs.Running.{continued, entries_of, has, own_of}
use Rattle.ele_shared_history.specs.Rule.{Kind, history_after, events_after, no_part, PartFits, Fits, Free, Taken, Kept, looking, first_of, own_call, published}
use Rattle.ele_shared_history.specs.Steps.{IsNews, Looks, Takes, Publishes, GivesBack}
use Rattle.ele_shared_history.proofs.Histories.{entries_of-append, legal_more, own_of-mine, own_of-other, starts_whole, starts_more, at_bound}

-- a word that is written as it was
same_word : (ws : List ℕ) (x : ℕ) → ws ≡ x ∷ [] → set ws 0 (get_or ws 0 0) ≡ ws
same_word ws x e = let P : List ℕ → Type 0 = λ ws. set ws 0 (get_or ws 0 0) ≡ ws in subst P (sym e) refl

-- what holds of each seat and of one seat's new view holds of each seat afterwards
pub each_set : (F : ℕ → View → Type 0) (vs : List View) (id : ℕ) (w : View) → ((j : ℕ) (u : View) → get_elem? vs j ≡ some u → F j u) → F id w
    → (j : ℕ) (u : View) → get_elem? (set vs id w) j ≡ some u → F j u
each_set F vs id w each new j u at = ⊎_elim (λ t. subst (λ k. F k u) (sym t.0) (subst (λ z. F id z) t.1 new)) (λ t. each j u t.1) (at_set vs id j w u at)

-- the same if what is true of the others has changed
pub each_new : (F G : ℕ → View → Type 0) (vs : List View) (id : ℕ) (w : View) → ((j : ℕ) (u : View) → get_elem? vs j ≡ some u → F j u) → ((j : ℕ) (u : View) → j ≢ id → F j u → G j u) → G id w
    → (j : ℕ) (u : View) → get_elem? (set vs id w) j ≡ some u → G j u
each_new F G vs id w each over new j u at = ⊎_elim (λ t. subst (λ k. G k u) (sym t.0) (subst (λ z. G id z) t.1 new)) (λ t. over j u t.0 (each j u t.1)) (at_set vs id j w u at)

pub own_of-none : (xs : List Call) → own_of [] xs ≡ []
own_of-none [] = refl
own_of-none (x ∷ xs) = own_of-none xs

pub no_part_fits : (log : List Call) (ns : List ℕ) → PartFits log ns no_part
no_part_fits log ns = record { own = own_of-none log; within = λ n h. absurd (cc) }

module _ (o : Past) where
  looking_fits : (n : ℕ) (owner : ℕ → ℕ) (log : List Call) (id : ℕ) (v : View) (b : Bool) → Fits o n owner log id v → Fits o n owner log id (looking b v log)
  looking_fits n owner log id v b f = record { opening = f.opening; seen = starts_whole log; told = (log, refl); own = f.own; own_seen = f.own; left = no_part_fits log v.numbers; right = no_part_fits log v.numbers; apart = λ n h. absurd (cc); numbers = f.numbers; known = f.known; fresh = f.fresh }

  pub news : (n : ℕ) (owner : ℕ → ℕ) (log : List Call) (id : ℕ) (v : View) → IsLegal (world_of o) (entries_of log) → Fits o n owner log id v → IsNews v log
  news n owner log id v legal f = record { seen = f.seen; told = f.told; own = f.own; legal = let P : Past → Type 0 = λ h. IsLegal (world_of h) (entries_of log) in subst P (sym f.opening) legal }

  -- a seat sees the history so far, and the word stays
  pub sees : (s : State Kind View) (k : Kept o s) (id : ℕ) (v : View) (c : List (ℕ × Kind)) → get_elem? s.views id ≡ some v → v.spent ≡ false
      → Kept o (stepped s 0 (get_or s.words 0 0) id c (looking v.holds v k.log) keeps)
  sees s k id v c at live =
      let w = looking v.holds v k.log in
      let fits : Fits o (length s.views) k.owner k.log id w = looking_fits (length s.views) k.owner k.log id v v.holds (k.each id v at live) in
      record {
        log = k.log;
        owner = k.owner;
        legal = k.legal;
        each = rw length-set (each_set (λ j u. u.spent ≡ false → Fits o (length s.views) k.owner k.log j u) s.views id w k.each (λ _. fits));
        later = rw length-set k.later;
        turn = ⊎_elim
            (λ (f : Free o k.log s). inl record {
              word = same_word s.words _ f.word ∙ f.word;
              home = f.home;
              none_holds = each_set (λ _ u. u.holds ≡ false) s.views id w f.none_holds (f.none_holds id v at);
            })
            (λ (t : Taken o k.log s). inr record {
              holder = t.holder;
              word = same_word s.words _ t.word ∙ t.word;
              home = t.home;
              one_holds = each_set (λ j u. u.holds ≡ true → (j ≡ t.holder) × (u.seen ≡ k.log)) s.views id w t.one_holds (λ h. ((t.one_holds id v at h).0, refl));
            })
            k.turn;
      }

  word_half : (s : State Kind View) (k : Kept o s) → get_or s.words 0 0 / 2 ≡ events_after o k.log
  word_half s k = ⊎_elim
      (λ (f : Free o k.log s). let e : get_or s.words 0 0 ≡ 2 * events_after o k.log = ap (λ (ws : List ℕ). get_or ws 0 0) f.word in omega arith)
      (λ (t : Taken o k.log s). let e : get_or s.words 0 0 ≡ 2 * events_after o k.log + 1 = ap (λ (ws : List ℕ). get_or ws 0 0) t.word in omega arith)
      k.turn

  pub looks : (id : ℕ) (m : Me Kind View) → m.0.spent ≡ false → Allows (Kept o) 1 id m 0 (λ n. n) (Looks (step 1 0 0 0 none) m)
  looks id m live s k slots at small =
      let f = k.each id m.0 at live in (
        looking m.0.holds m.0 k.log,
        keeps,
        tt,
        sees s k id m.0 m.1 at live,
        (k.log, news (length s.views) k.owner k.log id m.0 k.legal f, rw f.opening (word_half s k), refl),
      )

  -- the turn is taken at an even word
  taken : (s : State Kind View) (k : Kept o s) (id : ℕ) (v : View) (c : List (ℕ × Kind)) (old : ℕ) → get_elem? s.views id ≡ some v → v.spent ≡ false → Free o k.log s → get_or s.words 0 0 ≡ old
      → Kept o (stepped s 0 (old + 1) id c (looking true v k.log) (takes 0 (Some (history_after o k.log))))
  taken s k id v c old at live free found =
      let w = looking true v k.log in
      let fits : Fits o (length s.views) k.owner k.log id w = looking_fits (length s.views) k.owner k.log id v true (k.each id v at live) in
      let e : get_or s.words 0 0 ≡ 2 * events_after o k.log = ap (λ (ws : List ℕ). get_or ws 0 0) free.word in
      record {
        log = k.log;
        owner = k.owner;
        legal = k.legal;
        each = rw length-set (each_set (λ j u. u.spent ≡ false → Fits o (length s.views) k.owner k.log j u) s.views id w k.each (λ _. fits));
        later = rw length-set k.later;
        turn = inr record {
          holder = id;
          word = ap (λ (ws : List ℕ). set ws 0 (old + 1)) free.word ∙ ap (λ (n : ℕ). (n + 1) ∷ []) (sym found ∙ e);
          home = ap (λ (hs : List (mathlib.Core.Option.Option Kind)). set hs 0 none) free.home;
          one_holds = each_set (λ j u. u.holds ≡ true → (j ≡ id) × (u.seen ≡ k.log)) s.views id w (λ j u there h. absurd (cc (free.none_holds j u there))) (λ h. (refl, refl));
        };
      }

  free_if_even : (s : State Kind View) (k : Kept o s) (old : ℕ) → get_or s.words 0 0 ≡ old → old % 2 ≡ 0 → Free o k.log s
  free_if_even s k old found even = ⊎_elim (λ (f : Free o k.log s). f)
      (λ (t : Taken o k.log s). let e : get_or s.words 0 0 ≡ 2 * events_after o k.log + 1 = ap (λ (ws : List ℕ). get_or ws 0 0) t.word in absurd (omega arith)) k.turn

  takes_by : (id : ℕ) (m : Me Kind View) (old : ℕ) → old % 2 ≡ 0 → m.0.spent ≡ false → (s : State Kind View) → Kept o s → get_elem? s.views id ≡ some m.0 → (b : Bool) → (get_or s.words 0 0 == old) ≡ b
      → (w : View) × (a : Act Kind) × Valid s.homes m.1 a × Kept o (stepped s 0 (either b (old + 1) (get_or s.words 0 0)) id m.1 w a)
      × ((log : List Call) × IsNews m.0 log × (◌≡◌ {A = Me Kind View} (w, carried_after m.1 a) (cond b (looking true m.0 log, (0, Some (history_after m.0.opening log)) ∷ m.1) (looking m.0.holds m.0 log, m.1))))
  takes_by id m old even live s k at true is =
      let f = k.each id m.0 at live in
      let found : get_or s.words 0 0 ≡ old = grind (arith, nat_tests) in
      let free = free_if_even s k old found even in (
        looking true m.0 k.log,
        takes 0 (Some (history_after o k.log)),
        ap (λ (hs : List (mathlib.Core.Option.Option Kind)). get_elem? hs 0) free.home,
        taken s k id m.0 m.1 old at live free found,
        (k.log, news (length s.views) k.owner k.log id m.0 k.legal f, rw f.opening refl),
      )
  takes_by id m old even live s k at false is =
      let f = k.each id m.0 at live in (
        looking m.0.holds m.0 k.log,
        keeps,
        tt,
        sees s k id m.0 m.1 at live,
        (k.log, news (length s.views) k.owner k.log id m.0 k.legal f, refl),
      )

  pub tries : (id : ℕ) (m : Me Kind View) (old : ℕ) → old % 2 ≡ 0 → m.0.spent ≡ false → Allows (Kept o) 1 id m 0 (λ n. either (n == old) (old + 1) n) (Takes (step 1 0 old (old + 1) none) m)
  tries id m old even live s k slots at small = takes_by id m old even live s k at (get_or s.words 0 0 == old) refl

  taken_if_holds : (s : State Kind View) (k : Kept o s) (id : ℕ) (v : View) → get_elem? s.views id ≡ some v → v.holds ≡ true → Taken o k.log s
  taken_if_holds s k id v at h = ⊎_elim (λ (f : Free o k.log s). absurd (cc (f.none_holds id v at))) (λ (t : Taken o k.log s). t) k.turn

  -- the history with one entry more is that after one call more
  history_more : (log : List Call) (t : Call) → continued (history_after o log) (t.entry ∷ []) ≡ history_after o (log ++ t ∷ [])
  history_more log t = ap (λ (es : List Entry). record o { entries = es })
      (append_assoc o.entries (entries_of log) (t.entry ∷ []) ∙ ap (λ (z : List Entry). o.entries ++ z) (sym (entries_of-append log (t ∷ []))))

  part_stays : (log : List Call) (owner : ℕ → ℕ) (t : Call) (id j : ℕ) (u : View) (n : ℕ) → Fits o n owner log j u → owner t.by ≡ id → j ≢ id → (p : Part) → PartFits log u.numbers p → PartFits (log ++ t ∷ []) u.numbers p
  part_stays log owner t id j u n f mine other p fits = record {
    own = ⊎_elim (λ (h : has p.numbers t.by ≡ true). absurd (other (sym (f.numbers t.by (fits.within t.by h)).0 ∙ mine))) (λ h. own_of-other p.numbers log t h ∙ fits.own) (cases_Bool (has p.numbers t.by));
    within = fits.within;
  }

  -- another seat's knowledge stays when this one makes a call
  others_fit : (n : ℕ) (owner : ℕ → ℕ) (log : List Call) (id : ℕ) (t : Call) → owner t.by ≡ id → (j : ℕ) (u : View) → j ≢ id → Fits o n owner log j u → Fits o n owner (log ++ t ∷ []) j u
  others_fit n owner log id t mine j u other f = record {
    opening = f.opening;
    seen = starts_more log u.seen (t ∷ []) f.seen;
    told = starts_more log u.told (t ∷ []) f.told;
    own = ⊎_elim (λ (h : has u.numbers t.by ≡ true). absurd (other (sym (f.numbers t.by h).0 ∙ mine))) (λ h. own_of-other u.numbers log t h ∙ f.own) (cases_Bool (has u.numbers t.by));
    own_seen = f.own_seen;
    left = part_stays log owner t id j u n f mine other u.left f.left;
    right = part_stays log owner t id j u n f mine other u.right f.right;
    apart = f.apart;
    numbers = f.numbers;
    known = f.known;
    fresh = λ h. let g = f.fresh h in (
      g.0,
      ⊎_elim (λ (h : has (j ∷ []) t.by ≡ true). let e : j ≡ t.by = grind (arith, nat_tests) in absurd (other (sym g.0 ∙ ap owner e ∙ mine))) (λ h. own_of-other (j ∷ []) log t h ∙ g.1) (cases_Bool (has (j ∷ []) t.by)),
      g.2,
      g.3,
    );
  }

  published_fits : (n : ℕ) (owner : ℕ → ℕ) (log : List Call) (id : ℕ) (v : View) (e : Entry) → v.seen ≡ log → has v.numbers (first_of v.numbers) ≡ true → Fits o n owner log id v
      → Fits o n owner (log ++ own_call v e ∷ []) id (published v e)
  published_fits n owner log id v e all mine f = record {
    opening = f.opening;
    seen = rw all (starts_whole (log ++ own_call v e ∷ []));
    told = (log ++ own_call v e ∷ [], refl);
    own = own_of-mine v.numbers log (own_call v e) mine ∙ ap (λ (z : List Call). z ++ own_call v e ∷ []) f.own;
    own_seen = own_of-mine v.numbers v.seen (own_call v e) mine ∙ ap (λ (z : List Call). z ++ own_call v e ∷ []) f.own_seen;
    left = no_part_fits (log ++ own_call v e ∷ []) v.numbers;
    right = no_part_fits (log ++ own_call v e ∷ []) v.numbers;
    apart = λ n h. absurd (cc);
    numbers = f.numbers;
    known = f.known;
    fresh = λ h. let g = f.fresh h in absurd (let none : has v.numbers (first_of v.numbers) ≡ false = rw g.3 refl in cc);
  }

  -- the entries of the history that a seat holds
  abbrev entries_in : List (ℕ × Kind) → List Entry
  entries_in [] = []
  entries_in (x ∷ xs) = elim x.1 [ Some h ↦ h.entries | None ↦ [] ]

  last_same : (xs : List Entry) (a b : Entry) → xs ++ a ∷ [] ≡ xs ++ b ∷ [] → a ≡ b
  last_same [] a b e = cc
  last_same (x ∷ xs) a b e = last_same xs a b (cc)

  pub publishes : (id : ℕ) (v : View) (c : List (ℕ × Kind)) (e : Entry) → v.spent ≡ false → v.holds ≡ true → has v.numbers (first_of v.numbers) ≡ true
      → c ≡ (0, Some (continued (history_after v.opening v.seen) (e ∷ []))) ∷ [] → e.reply ≡ reply_to (history_after v.opening v.seen) e.event → events_after v.opening v.seen < 2 ^ 62
      → Allows (Kept o) 1 id (v, c) 0 (λ n. (n + 1) % 2 ^ 64) (Publishes (step 1 0 1 0 none) (v, c))
  publishes id v c e live holds mine is right few s k slots at small =
      let f = k.each id v at live in
      let t = taken_if_holds s k id v at holds in
      let all : v.seen ≡ k.log = (t.one_holds id v at holds).1 in
      let my = own_call v e in
      let log : List Call = k.log ++ my ∷ [] in
      let n : ℕ = length s.views in
      let own : k.owner my.by ≡ id = (f.numbers my.by mine).0 in
      let here : id < length s.views = at_bound s.views id v at in
      let right' : e.reply ≡ reply_to (history_after o k.log) e.event = rw (← all, ← f.opening) right in
      let few' : events_after o k.log < 2 ^ 62 = rw (← all, ← f.opening) few in
      let w : get_or s.words 0 0 ≡ 2 * events_after o k.log + 1 = ap (λ (ws : List ℕ). get_or ws 0 0) t.word in
      let next : (get_or s.words 0 0 + 1) % 2 ^ 64 ≡ 2 * events_after o log = omega (arith, length-append k.log (my ∷ [])) in
      let grown : continued (history_after v.opening v.seen) (e ∷ []) ≡ history_after o log = rw (all, f.opening) (history_more k.log my) in (
        published v e,
        gives,
        tt,
        record {
          log = log;
          owner = k.owner;
          legal = legal_more o k.log my k.legal right';
          each = rw length-set (each_new (λ j u. u.spent ≡ false → Fits o n k.owner k.log j u) (λ j u. u.spent ≡ false → Fits o n k.owner log j u) s.views id (published v e) k.each (λ j u other h q. others_fit n k.owner k.log id my own j u other (h q)) (λ _. published_fits n k.owner k.log id v e all mine f));
          later = rw length-set (λ m far. (
            (k.later m far).0,
            ⊎_elim (λ (h : has (m ∷ []) my.by ≡ true). let q : m ≡ my.by = grind (arith, nat_tests) in let z = (k.later m far).0 in let y : m ≡ id = sym z ∙ ap k.owner q ∙ own in absurd (omega arith))
                (λ h. own_of-other (m ∷ []) k.log my h ∙ (k.later m far).1) (cases_Bool (has (m ∷ []) my.by)),
          ));
          turn = inl record {
            word = ap (λ (ws : List ℕ). set ws 0 ((get_or s.words 0 0 + 1) % 2 ^ 64)) t.word ∙ ap (λ (x : ℕ). x ∷ []) next;
            home = ap (λ (x : List (ℕ × Kind)). put_back s.homes x) is ∙ ap (λ (hs : List (mathlib.Core.Option.Option Kind)). set hs 0 (some (Some (continued (history_after v.opening v.seen) (e ∷ []))))) t.home ∙ ap (λ (h : Past). some (Some h) ∷ []) grown;
            none_holds = each_new (λ j u. u.holds ≡ true → (j ≡ t.holder) × (u.seen ≡ k.log)) (λ _ u. u.holds ≡ false) s.views id (published v e) t.one_holds
                (λ j u other h. ⊎_elim (λ (q : u.holds ≡ true). absurd (other ((h q).0 ∙ sym (t.one_holds id v at holds).0))) (λ q. q) (cases_Bool u.holds)) refl;
          };
        },
        λ e' same. let q : e ≡ e' = last_same (entries_in ((0, Some (history_after v.opening v.seen)) ∷ [])) e e' (ap entries_in (sym is ∙ same)) in
            ap (λ (x : List (ℕ × Kind)). (published v e, rest x)) is ∙ ap (λ (z : Entry). (published v z, [])) q,
      )

  pub gives_back : (id : ℕ) (v : View) (c : List (ℕ × Kind)) → v.spent ≡ false → v.holds ≡ true
      → c ≡ (0, Some (history_after v.opening v.seen)) ∷ []
      → Allows (Kept o) 1 id (v, c) 0 (λ n. (n + (2 ^ 64 - 1)) % 2 ^ 64) (GivesBack (step 1 0 1 0 none) (v, c))
  gives_back id v c live holds is s k slots at small =
      let f = k.each id v at live in
      let t = taken_if_holds s k id v at holds in
      let all : v.seen ≡ k.log = (t.one_holds id v at holds).1 in
      let w : get_or s.words 0 0 ≡ 2 * events_after o k.log + 1 = ap (λ (ws : List ℕ). get_or ws 0 0) t.word in
      let next : (get_or s.words 0 0 + (2 ^ 64 - 1)) % 2 ^ 64 ≡ 2 * events_after o k.log = omega arith in
      let same : history_after v.opening v.seen ≡ history_after o k.log = rw (all, f.opening) refl in
      let fits : Fits o (length s.views) k.owner k.log id (looking false v v.seen) = rw all (looking_fits (length s.views) k.owner k.log id v false f) in (
        looking false v v.seen,
        gives,
        tt,
        record {
          log = k.log;
          owner = k.owner;
          legal = k.legal;
          each = rw length-set (each_set (λ j u. u.spent ≡ false → Fits o (length s.views) k.owner k.log j u) s.views id (looking false v v.seen) k.each (λ _. fits));
          later = rw length-set k.later;
          turn = inl record {
            word = ap (λ (ws : List ℕ). set ws 0 ((get_or s.words 0 0 + (2 ^ 64 - 1)) % 2 ^ 64)) t.word ∙ ap (λ (x : ℕ). x ∷ []) next;
            home = ap (λ (x : List (ℕ × Kind)). put_back s.homes x) is ∙ ap (λ (hs : List (mathlib.Core.Option.Option Kind)). set hs 0 (some (Some (history_after v.opening v.seen)))) t.home ∙ ap (λ (h : Past). some (Some h) ∷ []) same;
            none_holds = each_new (λ j u. u.holds ≡ true → (j ≡ t.holder) × (u.seen ≡ k.log)) (λ _ u. u.holds ≡ false) s.views id (looking false v v.seen) t.one_holds
                (λ j u other h. ⊎_elim (λ (q : u.holds ≡ true). absurd (other ((h q).0 ∙ sym (t.one_holds id v at holds).0))) (λ q. q) (cases_Bool u.holds)) refl;
          };
        },
        ap (λ (x : List (ℕ × Kind)). (looking false v v.seen, rest x)) is,
      )
