-- Splitting a seat, giving the new one a number, and joining two.
use Rattle.std.proofs.Common.{◌≡◌, ◌≢◌, ℕ, zero, suc, ◌+◌, ◌<◌, ◌≤◌, Bool, true, false, nat_lt, ◌==◌, cond, ◌⊎◌, inl, inr, ⊎_elim, List, [], ◌∷◌, ◌++◌, length, get_or, set, refl, sym, ap, ◌∙◌, subst, arith, append-nil, length-append, length-set}
use Rattle.std.proofs.lemmas.Bool.{cases_Bool, or_cases, or_left, or_right}
use Rattle.std.proofs.lemmas.Bool.Decides.{nat_tests}
use mathlib.Core.Option.{some, none, some-injective, some-ne-none}
use lib.ListN.{get_elem?}
use Rattle.atomic_table.specs.Table.{State, Me, keeps, step, Allows, Splits, Joins}
use Rattle.atomic_table.proofs.Lists.{at_set, set_again}
use Rattle.ele_shared_history.specs.declared.ledger.Call.{Call}
use Rattle.ele_shared_history.specs.declared.ledger.View.{View}
use Rattle.ele_history.specs.Past.{Past}
use Rattle.ele_shared_history.specs.Running.{has, own_of, StartsWith}
use Rattle.ele_shared_history.specs.Rule.{Kind, Fits, Free, Taken, Kept, looking, newcomer, registered, united, spent_view}
use Rattle.ele_shared_history.specs.Steps.{Meets, Registers}
use Rattle.ele_shared_history.proofs.Histories.{has-append, own_of-append, starts_trans, at_bound}
use Rattle.ele_shared_history.proofs.Keeps.{each_set, own_of-none, no_part_fits, sees, news}

at_end : {A : Type 0} (l : List A) (a b : A) (j : ℕ) → get_elem? (l ++ a ∷ []) j ≡ some b → (get_elem? l j ≡ some b) ⊎ ((j ≡ length l) × (a ≡ b))
at_end [] a b zero e = inr (refl, some-injective a b e)
at_end [] a b (suc j) e = absurd (some-ne-none b (sym e))
at_end (x ∷ xs) a b zero e = inl e
at_end (x ∷ xs) a b (suc j) e = ⊎_elim (λ h. inl h) (λ h. inr (let f = h.0 in omega arith, h.1)) (at_end xs a b j e)

-- a number that is at least the bound isn't among those below it
not_has : (ns : List ℕ) (m : ℕ) → ((n : ℕ) → has ns n ≡ true → n < m) → has ns m ≡ false
not_has ns m below = ⊎_elim (λ (h : has ns m ≡ true). absurd (let b = below m h in omega arith)) (λ h. h) (cases_Bool (has ns m))

module _ (o : Past) where
  -- made rises
  more_made : (n n' : ℕ) (owner : ℕ → ℕ) (log : List Call) (id : ℕ) (v : View) → n ≤ n' → Fits o n owner log id v → Fits o n' owner log id v
  more_made n n' owner log id v le f = record {
    opening = f.opening;
    seen = f.seen;
    told = f.told;
    own = f.own;
    own_seen = f.own_seen;
    left = f.left;
    right = f.right;
    apart = f.apart;
    numbers = λ k h. let g = f.numbers k h in (g.0, (let b = g.1 in omega arith));
    known = λ k h. let b = f.known k h in omega arith;
    fresh = f.fresh;
  }

  pub forks : (id : ℕ) (v : View) → v.spent ≡ false → Splits (Kept o) id v v (newcomer v)
  forks id v live s k at =
      let f = k.each id v at live in
      let n : ℕ = length s.views in
      let same : set s.views id v ++ newcomer v ∷ [] ≡ s.views ++ newcomer v ∷ [] = ap (λ (l : List View). l ++ newcomer v ∷ []) (set_again s.views id v at) in
      let long : length (s.views ++ newcomer v ∷ []) ≡ n + 1 = omega (arith, length-append s.views (newcomer v ∷ [])) in
      let here = k.later n (omega arith) in
      let fits : Fits o (n + 1) k.owner k.log n (newcomer v) = record {
        opening = f.opening;
        seen = f.seen;
        told = (k.log, refl);
        own = own_of-none k.log;
        own_seen = own_of-none v.seen;
        left = no_part_fits k.log [];
        right = no_part_fits k.log [];
        apart = λ m h. absurd (cc);
        numbers = λ m h. absurd (cc);
        known = λ m h. let b = f.known m h in omega arith;
        fresh = λ h. (here.0, here.1, not_has v.known n f.known, refl);
      } in
      let views : List View = s.views ++ newcomer v ∷ [] in
      let each : (j : ℕ) (u : View) → get_elem? views j ≡ some u → u.spent ≡ false → Fits o (n + 1) k.owner k.log j u = λ j u there alive. ⊎_elim
      (λ (t : get_elem? s.views j ≡ some u). more_made n (n + 1) k.owner k.log j u (omega arith) (k.each j u t alive))
      (λ (t : (j ≡ length s.views) × (newcomer v ≡ u)). subst (λ i. Fits o (n + 1) k.owner k.log i u) (sym t.0) (subst (λ z. Fits o (n + 1) k.owner k.log n z) t.1 fits)) (at_end s.views (newcomer v) u j there) in
      let none : (j : ℕ) (u : View) → get_elem? views j ≡ some u → u.holds ≡ true → get_elem? s.views j ≡ some u = λ j u there h. ⊎_elim (λ (t : get_elem? s.views j ≡ some u). t)
      (λ (t : (j ≡ length s.views) × (newcomer v ≡ u)). absurd (let e : u.holds ≡ false = ap (λ (z : View). z.holds) (sym t.1) in cc)) (at_end s.views (newcomer v) u j there) in
      let K : List View → Type 0 = λ vs. Kept o record { words = s.words; homes = s.homes; views = vs } in
      subst K (sym same) record {
        log = k.log;
        owner = k.owner;
        legal = k.legal;
        each = rw long each;
        later = rw long (λ m far. k.later m (omega arith));
        turn = ⊎_elim
            (λ (g : Free o k.log s). inl record {
              word = g.word;
              home = g.home;
              none_holds = λ j u there. ⊎_elim (λ (h : u.holds ≡ true). absurd (let e = g.none_holds j u (none j u there h) in cc)) (λ h. h) (cases_Bool u.holds);
            })
            (λ (t : Taken o k.log s). inr record { holder = t.holder; word = t.word; home = t.home; one_holds = λ j u there h. t.one_holds j u (none j u there h) h })
            k.turn;
      }

  -- one seat's view changes, and nothing else
  rests : (s : State Kind View) (k : Kept o s) (id : ℕ) (v w : View) → get_elem? s.views id ≡ some v → v.holds ≡ false → w.holds ≡ false → Fits o (length s.views) k.owner k.log id w
      → Kept o record { words = s.words; homes = s.homes; views = set s.views id w }
  rests s k id v w at was is fits = record {
    log = k.log;
    owner = k.owner;
    legal = k.legal;
    each = rw length-set (each_set (λ j u. u.spent ≡ false → Fits o (length s.views) k.owner k.log j u) s.views id w k.each (λ _. fits));
    later = rw length-set k.later;
    turn = ⊎_elim
        (λ (g : Free o k.log s). inl record { word = g.word; home = g.home; none_holds = each_set (λ _ u. u.holds ≡ false) s.views id w g.none_holds is })
        (λ (t : Taken o k.log s). inr record {
          holder = t.holder;
          word = t.word;
          home = t.home;
          one_holds = each_set (λ j u. u.holds ≡ true → (j ≡ t.holder) × (u.seen ≡ k.log)) s.views id w t.one_holds (λ h. absurd (cc));
        })
        k.turn;
  }

  word_stays : (s : State Kind View) (k : Kept o s) → set s.words 0 (get_or s.words 0 0) ≡ s.words
  word_stays s k =
      let P : List ℕ → Type 0 = λ ws. set ws 0 (get_or ws 0 0) ≡ ws in
      ⊎_elim (λ (g : Free o k.log s). subst P (sym g.word) refl) (λ (t : Taken o k.log s). subst P (sym t.word) refl) k.turn

  none_left : (xs ys : List Call) → xs ++ ys ≡ [] → xs ≡ []
  none_left [] ys e = refl
  none_left (x ∷ xs) ys e = absurd (cc)

  pub registers : (id : ℕ) (m : Me Kind View) → m.0.fresh ≡ true → m.0.spent ≡ false → m.0.holds ≡ false → Allows (Kept o) 1 id m 0 (λ n. n) (Registers (step 1 0 0 0 none) m)
  registers id m new live idle s k slots at small =
      let v = m.0 in
      let f = k.each id v at live in
      let g = f.fresh new in
      let here : id < length s.views = at_bound s.views id v at in
      let seen : own_of (id ∷ []) v.seen ≡ [] = none_left (own_of (id ∷ []) v.seen) (own_of (id ∷ []) f.seen.0) (sym (own_of-append (id ∷ []) v.seen f.seen.0) ∙ ap (λ (l : List Call). own_of (id ∷ []) l) (sym f.seen.1) ∙ g.1) in
      let fits : Fits o (length s.views) k.owner k.log id (registered v id) = record {
        opening = f.opening;
        seen = f.seen;
        told = (k.log, refl);
        own = g.1;
        own_seen = seen;
        left = no_part_fits k.log (id ∷ []);
        right = no_part_fits k.log (id ∷ []);
        apart = λ m h. absurd (cc);
        numbers = λ n h. let e : id ≡ n = grind (arith, nat_tests) in (subst (λ x. k.owner x ≡ id) e g.0, omega arith);
        known = λ n h. ⊎_elim (λ (q : (id == n) ≡ true). let e : id ≡ n = grind (arith, nat_tests) in omega arith) (λ q. f.known n (rw q at h)) (cases_Bool (id == n));
        fresh = λ h. absurd (cc);
      } in
      let K : List ℕ → Type 0 = λ ws. Kept o record { words = ws; homes = s.homes; views = set s.views id (registered v id) } in (
        registered v id,
        keeps,
        tt,
        subst K (sym (word_stays s k)) (rests s k id v (registered v id) at idle refl fits),
        (id, g.2, seen, refl),
      )

  pub meets : (id : ℕ) (m : Me Kind View) → m.0.spent ≡ false → Allows (Kept o) 1 id m 0 (λ n. n) (Meets (step 1 0 0 0 none) m)
  meets id m live s k slots at small =
      let f = k.each id m.0 at live in (
        looking m.0.holds m.0 k.log,
        keeps,
        tt,
        sees o s k id m.0 m.1 at live,
        (k.log, news o (length s.views) k.owner k.log id m.0 k.legal f, f.left.own, f.right.own, f.apart, refl),
      )

begins : (xs ys r q : List Call) → xs ++ r ≡ ys ++ q → length xs ≤ length ys → StartsWith ys xs
begins [] ys r q e le = (ys, refl)
begins (x ∷ xs) [] r q e le = absurd (omega arith)
begins (x ∷ xs) (y ∷ ys) r q e le =
    let b = begins xs ys r q (cc) (omega arith) in
    let same : y ≡ x = cc in (b.0, ap (λ (l : List Call). y ∷ l) b.1 ∙ ap (λ (z : Call). z ∷ (xs ++ b.0)) same)

-- of two beginnings of one list the shorter begins the longer
begins_of : (log xs ys : List Call) → StartsWith log xs → StartsWith log ys → length xs ≤ length ys → StartsWith ys xs
begins_of log xs ys p q le = begins xs ys p.0 q.0 (sym p.1 ∙ q.1) le

nothing_more : (xs ys : List Call) → xs ++ ys ≡ xs → ys ≡ []
nothing_more [] ys e = e
nothing_more (x ∷ xs) ys e = nothing_more xs ys (cc)

empty_left : (xs ys : List Call) → xs ++ ys ≡ [] → xs ≡ []
empty_left [] ys e = refl
empty_left (x ∷ xs) ys e = absurd (cc)

-- a list whose first entry isn't owned, and whose rest isn't
not_own : (a : List ℕ) (t : Call) (ts : List Call) → own_of a (t ∷ ts) ≡ [] → (has a t.by ≡ false) × (own_of a ts ≡ [])
not_own a t ts e = ⊎_elim (λ (h : has a t.by ≡ true). absurd (let p : t ∷ own_of a ts ≡ [] = rw h at e in cc)) (λ (h : has a t.by ≡ false). (h, rw h at e)) (cases_Bool (has a t.by))

own_of-two : (a b : List ℕ) (xs : List Call) → own_of a xs ≡ [] → own_of b xs ≡ [] → own_of (a ++ b) xs ≡ []
own_of-two a b [] p q = refl
own_of-two a b (t ∷ ts) p q =
    let na = not_own a t ts p in
    let nb = not_own b t ts q in
    rw (has-append a b t.by, na.0, nb.0) (own_of-two a b ts na.1 nb.1)

-- what no number of both owns after a prefix
own_of-longer : (a b : List ℕ) (log xs : List Call) → StartsWith log xs → own_of a log ≡ own_of a xs → own_of b log ≡ own_of b xs → own_of (a ++ b) log ≡ own_of (a ++ b) xs
own_of-longer a b log xs (r, e) p q =
    let pa = nothing_more (own_of a xs) (own_of a r) (sym (own_of-append a xs r) ∙ ap (own_of a) (sym e) ∙ p) in
    let pb = nothing_more (own_of b xs) (own_of b r) (sym (own_of-append b xs r) ∙ ap (own_of b) (sym e) ∙ q) in
    ap (own_of (a ++ b)) e ∙ own_of-append (a ++ b) xs r ∙ ap (λ (l : List Call). own_of (a ++ b) xs ++ l) (own_of-two a b r pa pb) ∙ append-nil (own_of (a ++ b) xs)

-- what a beginning owns whole, a longer one does too
own_of-between : (a : List ℕ) (log ys xs : List Call) → StartsWith log ys → StartsWith ys xs → own_of a log ≡ own_of a xs → own_of a log ≡ own_of a ys
unfolding starts_trans
own_of-between a log ys xs p q e =
    let whole : own_of a xs ++ own_of a (q.0 ++ p.0) ≡ own_of a xs = sym (own_of-append a xs (q.0 ++ p.0)) ∙ ap (own_of a) (sym (starts_trans log ys xs p q).1) ∙ e in
    let none : own_of a q.0 ++ own_of a p.0 ≡ [] = sym (own_of-append a q.0 p.0) ∙ nothing_more (own_of a xs) (own_of a (q.0 ++ p.0)) whole in
    let first : own_of a q.0 ≡ [] = empty_left (own_of a q.0) (own_of a p.0) none in
    e ∙ sym (append-nil (own_of a xs)) ∙ ap (λ (l : List Call). own_of a xs ++ l) (sym first) ∙ sym (own_of-append a xs q.0) ∙ ap (own_of a) (sym q.1)

-- the longer of two beginnings, and the shorter
longer_starts : (log xs ys : List Call) (b : Bool) → StartsWith log xs → StartsWith log ys → StartsWith log (cond b ys xs)
longer_starts log xs ys true p q = q
longer_starts log xs ys false p q = p

own_longer : (a c : List ℕ) (log xs ys : List Call) (b : Bool) → (nat_lt (length xs) (length ys)) ≡ b → StartsWith log xs → StartsWith log ys → own_of a log ≡ own_of a xs → own_of c log ≡ own_of c ys
    → own_of (a ++ c) log ≡ own_of (a ++ c) (cond b ys xs)
own_longer a c log xs ys true is p q e d = own_of-longer a c log ys q (own_of-between a log ys xs q (begins_of log xs ys p q (grind (arith, nat_tests))) e) d
own_longer a c log xs ys false is p q e d = own_of-longer a c log xs p e (own_of-between c log xs ys p (begins_of log ys xs q p (grind (arith, nat_tests))) d)

module _ (o : Past) where
  -- the owner of each number once the seat id has those of w
  abbrev taken_over : (ℕ → ℕ) → ℕ → View → ℕ → ℕ
  taken_over owner id w n = cond (has w.numbers n) id (owner n)

  not_theirs : (owner : ℕ → ℕ) (n id j other : ℕ) (w : View) → ((has w.numbers n ≡ true) → owner n ≡ other) → owner n ≡ j → j ≢ other → taken_over owner id w n ≡ owner n
  not_theirs owner n id j other w fits is apart = ⊎_elim (λ (h : has w.numbers n ≡ true). absurd (apart (sym is ∙ fits h))) (λ h. rw h refl) (cases_Bool (has w.numbers n))

  bystander : (n : ℕ) (owner : ℕ → ℕ) (log : List Call) (id other j : ℕ) (w u : View) → Fits o n owner log other w → j ≢ other → Fits o n owner log j u → Fits o n (taken_over owner id w) log j u
  bystander n owner log id other j w u fw apart f = record {
    opening = f.opening;
    seen = f.seen;
    told = f.told;
    own = f.own;
    own_seen = f.own_seen;
    left = f.left;
    right = f.right;
    apart = f.apart;
    numbers = λ m h. let g = f.numbers m h in (not_theirs owner m id j other w (λ q. (fw.numbers m q).0) g.0 apart ∙ g.0, g.1);
    known = f.known;
    fresh = λ h. let g = f.fresh h in (not_theirs owner j id j other w (λ q. (fw.numbers j q).0) g.0 apart ∙ g.0, g.1, g.2, g.3);
  }

  united_fits : (n : ℕ) (owner : ℕ → ℕ) (log : List Call) (id other : ℕ) (v w : View) → ¬ (other ≡ id) → Fits o n owner log id v → Fits o n owner log other w → Fits o n (taken_over owner id w) log id (united v w)
  united_fits n owner log id other v w differ f g = record {
    opening = f.opening;
    seen = longer_starts log v.seen w.seen (nat_lt (length v.seen) (length w.seen)) f.seen g.seen;
    told = longer_starts log w.seen v.seen (nat_lt (length v.seen) (length w.seen)) g.seen f.seen;
    own = own_longer v.numbers w.numbers log v.seen w.seen (nat_lt (length v.seen) (length w.seen)) refl f.seen g.seen (f.own ∙ sym f.own_seen) (g.own ∙ sym g.own_seen);
    own_seen = refl;
    left = record { own = f.own; within = λ m h. has-append v.numbers w.numbers m ∙ or_left (has v.numbers m) (has w.numbers m) h };
    apart = λ m h. ⊎_elim (λ (q : has w.numbers m ≡ true). absurd (differ (sym (g.numbers m q).0 ∙ (f.numbers m h).0))) (λ (q : has w.numbers m ≡ false). q) (cases_Bool (has w.numbers m));
    right = record { own = g.own; within = λ m h. has-append v.numbers w.numbers m ∙ or_right (has v.numbers m) (has w.numbers m) h };
    numbers = λ m h. ⊎_elim
        (λ (t : has w.numbers m ≡ true). (rw t refl, (g.numbers m t).1))
        (λ (t : has w.numbers m ≡ false). let mine : has v.numbers m ≡ true = ⊎_elim (λ (q : has v.numbers m ≡ true). q) (λ (q : has w.numbers m ≡ true). absurd (cc)) (or_cases (has v.numbers m) (has w.numbers m) (sym (has-append v.numbers w.numbers m) ∙ h)) in
        (rw t (f.numbers m mine).0, (f.numbers m mine).1))
        (cases_Bool (has w.numbers m));
    known = λ m h. ⊎_elim (λ (q : has v.known m ≡ true). f.known m q) (λ (q : has w.known m ≡ true). g.known m q) (or_cases (has v.known m) (has w.known m) (sym (has-append v.known w.known m) ∙ h));
    fresh = λ h. absurd (cc);
  }

  pub unites : (id other : ℕ) (v w : View) → v.spent ≡ false → w.spent ≡ false → v.holds ≡ false → w.holds ≡ false → Joins (Kept o) id v other w (united v w) spent_view
  unites id other v w live alive idle rest s k at apart there =
      let n : ℕ = length s.views in
      let u = united v w in
      let at' : get_elem? s.views other ≡ some w = ⊎_elim (λ (t : (other ≡ id) × (u ≡ w)). absurd (apart t.0)) (λ (t : (other ≢ id) × (get_elem? s.views other ≡ some w)). t.1) (at_set s.views id other u w there) in
      let f = k.each id v at live in
      let g = k.each other w at' alive in
      let new = taken_over k.owner id w in
      let both = united_fits n k.owner k.log id other v w apart f g in
      let views : List View = set (set s.views id u) other spent_view in
      let long : length views ≡ n = length-set (set s.views id u) other spent_view ∙ length-set s.views id u in
      let find : (j : ℕ) (z : View) → get_elem? views j ≡ some z → ((j ≡ other) × (spent_view ≡ z)) ⊎ (((j ≡ id) × (u ≡ z)) ⊎ ((j ≢ other) × (j ≢ id) × (get_elem? s.views j ≡ some z))) = λ j z q. ⊎_elim
      (λ (t : (j ≡ other) × (spent_view ≡ z)). inl t)
      (λ (t : (j ≢ other) × (get_elem? (set s.views id u) j ≡ some z)). inr (⊎_elim (λ (r : (j ≡ id) × (u ≡ z)). inl r) (λ (r : (j ≢ id) × (get_elem? s.views j ≡ some z)). inr (t.0, r.0, r.1)) (at_set s.views id j u z t.1)))
      (at_set (set s.views id u) other j spent_view z q) in
      record {
        log = k.log;
        owner = new;
        legal = k.legal;
        each = rw long (λ j z q lives. ⊎_elim
            (λ (t : (j ≡ other) × (spent_view ≡ z)). absurd (let e : z.spent ≡ true = ap (λ (x : View). x.spent) (sym t.1) in cc))
            (λ r. ⊎_elim
            (λ (t : (j ≡ id) × (u ≡ z)). subst (λ i. Fits o n new k.log i z) (sym t.0) (subst (λ x. Fits o n new k.log id x) t.1 both))
            (λ (t : (j ≢ other) × (j ≢ id) × (get_elem? s.views j ≡ some z)). bystander n k.owner k.log id other j w z g t.0 (k.each j z t.2 lives)) r)
            (find j z q));
        later = rw long (λ m far. let l = k.later m far in (
          ⊎_elim (λ (h : has w.numbers m ≡ true). absurd (let b = (g.numbers m h).1 in omega arith)) (λ h. rw h l.0) (cases_Bool (has w.numbers m)),
          l.1,
        ));
        turn = ⊎_elim
            (λ (h : Free o k.log s). inl record {
              word = h.word;
              home = h.home;
              none_holds = λ j z q. ⊎_elim
                  (λ (t : (j ≡ other) × (spent_view ≡ z)). ap (λ (x : View). x.holds) (sym t.1))
                  (λ r. ⊎_elim (λ (t : (j ≡ id) × (u ≡ z)). ap (λ (x : View). x.holds) (sym t.1) ∙ idle) (λ (t : (j ≢ other) × (j ≢ id) × (get_elem? s.views j ≡ some z)). h.none_holds j z t.2) r)
                  (find j z q);
            })
            (λ (h : Taken o k.log s). inr record {
              holder = h.holder;
              word = h.word;
              home = h.home;
              one_holds = λ j z q has_it. ⊎_elim
                  (λ (t : (j ≡ other) × (spent_view ≡ z)). absurd (let e : z.holds ≡ false = ap (λ (x : View). x.holds) (sym t.1) in cc))
                  (λ r. ⊎_elim (λ (t : (j ≡ id) × (u ≡ z)). absurd (let e : z.holds ≡ false = ap (λ (x : View). x.holds) (sym t.1) ∙ idle in cc)) (λ (t : (j ≢ other) × (j ≢ id) × (get_elem? s.views j ≡ some z)). h.one_holds j z t.2 has_it) r)
                  (find j z q);
            })
            k.turn;
      }
