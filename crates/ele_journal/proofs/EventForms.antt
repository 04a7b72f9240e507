-- An event is read as it was written, and no other bytes stand for it.
use Rattle.std.proofs.Common.{◌≡◌, ℕ, zero, suc, ◌<◌, ◌≤◌, Bool, true, false, cond, eqb, ltb, leb, List, [], ◌∷◌, ◌++◌, length, Result, Ok, Err, refl, sym, ap, subst, ◌∙◌, append_assoc, arith, inl, inr, ◌⊎◌}
use Rattle.std.specs.List.{list_all}
use Rattle.std.proofs.lemmas.Bool.{cases_lt, le-leb, le-ltb, ne_eqb}
use Rattle.std.proofs.lemmas.List.Elements.{recursion_from_All}
use Rattle.ele_moment.specs.Name.{IsName}
use Rattle.ele_path.specs.Path.{IsPath}
use Rattle.ele_path.specs.declared.tagged.Tag.{Tag}
use Rattle.ele_path.specs.declared.tagged.Tag.TheVariants as tags
use Rattle.ele_policy.specs.declared.policy.Policy.{Policy}
use Rattle.ele_model.specs.declared.event.Event.{Event}
use Rattle.ele_model.specs.declared.event.Event.TheVariants as events
use Rattle.ele_checkpoint.specs.declared.fault.Flaw.TheVariants as flaws
use Rattle.ele_checkpoint.specs.declared.fault.Mistake.{Mistake}
use Rattle.ele_checkpoint.specs.Fits.{IsNumber, IsMoment, IsMaybe, AreItems}
use Rattle.ele_checkpoint.specs.Number.{number_text}
use Rattle.ele_checkpoint.specs.Lists.{list_text}
use Rattle.ele_checkpoint.specs.Values.{string_text, maybe_text, policy_text}
use Rattle.ele_checkpoint.specs.PartsRead.{items_at, list_at, number_at, moment_at, maybe_at, name_at, policy_at, string_at}
use Rattle.ele_checkpoint.specs.Reading.{◌>>=◌, mistake}
use Rattle.ele_checkpoint.proofs.Forms.{IsForm, bind_ok, test_ok, ok_is, both}
use Rattle.ele_checkpoint.proofs.Grouped.{grouped2, grouped3}
use Rattle.ele_checkpoint.proofs.Numbers.{number_form}
use Rattle.ele_checkpoint.proofs.Lists.{list_form}
use Rattle.ele_checkpoint.proofs.Values.{string_form, moment_form, maybe_form, name_form}
use Rattle.ele_checkpoint.proofs.Policies.{policy_form}
use Rattle.ele_journal.specs.Events.{names_text, tag_text, changes, event_text, IsTag, IsText, IsEvent}
use Rattle.ele_journal.specs.EventsRead.{names_at, tag_at, of_path, path_event_at, paths_event_at, number_event_at, clock_at, truncate_at, write_at, save_at, revert_at, restore_at, policy_event_at, open_read_at, group_event_at, member_event_at, note_at, mark_at, unmark_at, session_event_at, rule_event_at, event_at}

-- ---- paths and tags

names_takes : (bytes : List ℕ) (x : List (List ℕ)) (rest : List ℕ) → names_at bytes ≡ Ok (x, rest) → bytes ≡ names_text x ++ rest
unfolding names_at
names_takes bytes x rest e =
    let s = bind_ok (list_at name_at bytes) (λ names. cond (leb (length names.0) 32) (Ok (names.0, names.1)) (Err (mistake (length bytes) flaws.TooLarge))) (x, rest) e in
    let g = test_ok (leb (length s.0.0) 32) (mistake (length bytes) flaws.TooLarge) (s.0.0, s.0.1) (x, rest) s.2 in
    subst (λ (y : List (List ℕ) × List ℕ). bytes ≡ names_text y.0 ++ y.1) g.1 ((list_form name_form).takes bytes s.0.0 s.0.1 s.1)

names_again : (x : List (List ℕ)) (rest : List ℕ) → IsPath x → names_at (names_text x ++ rest) ≡ Ok (x, rest)
unfolding names_at
names_again x rest fits =
    let short = fits.short in
    let are : AreItems IsName x = (omega arith, recursion_from_All IsName x fits.named) in
    rw ((list_form name_form).again x rest are, le-leb (length x) 32 short) refl

pub names_form : IsForm names_text names_at IsPath
names_form = record { takes = names_takes; again = names_again }

tag_takes : (bytes : List ℕ) (x : Tag) (rest : List ℕ) → tag_at bytes ≡ Ok (x, rest) → bytes ≡ tag_text x ++ rest
unfolding tag_at
tag_takes [] x rest e = absurd cc
tag_takes (zero ∷ bytes) x rest e = subst (λ (y : Tag × List ℕ). 0 ∷ bytes ≡ tag_text y.0 ++ y.1) (ok_is (tags.Now, bytes) (x, rest) e) refl
tag_takes (suc zero ∷ bytes) x rest e =
    let s = bind_ok (moment_at bytes) (λ seconds. Ok (tags.At seconds.0, seconds.1)) (x, rest) e in
    subst (λ (y : Tag × List ℕ). 1 ∷ bytes ≡ tag_text y.0 ++ y.1) (ok_is (tags.At s.0.0, s.0.1) (x, rest) s.2) (ap (λ (t : List ℕ). 1 ∷ t) (moment_form.takes bytes s.0.0 s.0.1 s.1))
tag_takes (suc (suc zero) ∷ bytes) x rest e =
    let s = bind_ok (number_at bytes) (λ version. Ok (tags.Number version.0, version.1)) (x, rest) e in
    subst (λ (y : Tag × List ℕ). 2 ∷ bytes ≡ tag_text y.0 ++ y.1) (ok_is (tags.Number s.0.0, s.0.1) (x, rest) s.2) (ap (λ (t : List ℕ). 2 ∷ t) (number_form.takes bytes s.0.0 s.0.1 s.1))
tag_takes (suc (suc (suc byte)) ∷ bytes) x rest e = absurd cc

tag_again : (x : Tag) (rest : List ℕ) → IsTag x → tag_at (tag_text x ++ rest) ≡ Ok (x, rest)
unfolding tag_at
tag_again tags.Now rest fits = refl
tag_again (tags.At seconds) rest fits = rw (moment_form.again seconds rest fits) refl
tag_again (tags.Number version) rest fits = rw (number_form.again version rest fits) refl

tag_form : IsForm tag_text tag_at IsTag
tag_form = record { takes = tag_takes; again = tag_again }

-- ---- events of one, two and three values after the number of their kind

abbrev Text : Type 0 → Type 0
Text A = A → List ℕ

abbrev At : Type 0 → Type 0
At A = List ℕ → Result (A × List ℕ) Mistake

record IsTaken (kind : ℕ) (bytes : List ℕ) (x : Event) (rest : List ℕ) : Type 0 where
  pub text : kind ∷ bytes ≡ event_text x ++ rest
  pub changing : changes x ≡ true

abbrev made : Event → List ℕ → Result (Event × List ℕ) Mistake
made x rest = Ok (x, rest)

take_one : {A : Type 0} {ta : Text A} {aa : At A} {FA : A → Type 0} (fa : IsForm ta aa FA) (make : A → Event) (kind : ℕ)
    → ((a : A) → event_text (make a) ≡ kind ∷ ta a)
    → ((a : A) → changes (make a) ≡ true)
    → (bytes : List ℕ) (x : Event) (rest : List ℕ) → (aa bytes >>= λ a. made (make a.0) a.1) ≡ Ok (x, rest) → IsTaken kind bytes x rest
take_one {A} {ta} {aa} {FA} fa make kind is may bytes x rest e =
    let s = bind_ok (aa bytes) (λ a. made (make a.0) a.1) (x, rest) e in
    let whole : kind ∷ bytes ≡ event_text (make s.0.0) ++ s.0.1 = ap (λ (t : List ℕ). kind ∷ t) (fa.takes bytes s.0.0 s.0.1 s.1) ∙ ap (λ (t : List ℕ). t ++ s.0.1) (sym (is s.0.0)) in
    subst (λ (y : Event × List ℕ). IsTaken kind bytes y.0 y.1) (ok_is (make s.0.0, s.0.1) (x, rest) s.2) (record { text = whole; changing = may s.0.0 })

again_one : {A : Type 0} {ta : Text A} {aa : At A} {FA : A → Type 0} (fa : IsForm ta aa FA) (make : A → Event) (a : A) (rest : List ℕ) → FA a
    → (aa (ta a ++ rest) >>= λ a. made (make a.0) a.1) ≡ Ok (make a, rest)
again_one {A} {ta} {aa} {FA} fa make a rest fits = rw (fa.again a rest fits) refl

take_two : {A B : Type 0} {ta : Text A} {aa : At A} {FA : A → Type 0} {tb : Text B} {ab : At B} {FB : B → Type 0} (fa : IsForm ta aa FA) (fb : IsForm tb ab FB) (make : A → B → Event) (kind : ℕ)
    → ((a : A) (b : B) → event_text (make a b) ≡ kind ∷ (ta a ++ tb b))
    → ((a : A) (b : B) → changes (make a b) ≡ true)
    → (bytes : List ℕ) (x : Event) (rest : List ℕ) → (aa bytes >>= λ a. ab a.1 >>= λ b. made (make a.0 b.0) b.1) ≡ Ok (x, rest) → IsTaken kind bytes x rest
take_two {A} {B} {ta} {aa} {FA} {tb} {ab} {FB} fa fb make kind is may bytes x rest e =
    let s = bind_ok (aa bytes) (λ a. ab a.1 >>= λ b. made (make a.0 b.0) b.1) (x, rest) e in
    let t = bind_ok (ab s.0.1) (λ b. made (make s.0.0 b.0) b.1) (x, rest) s.2 in
    let all = both bytes (ta s.0.0) s.0.1 (tb t.0.0) t.0.1 (fa.takes bytes s.0.0 s.0.1 s.1) (fb.takes s.0.1 t.0.0 t.0.1 t.1) in
    let whole : kind ∷ bytes ≡ event_text (make s.0.0 t.0.0) ++ t.0.1 = ap (λ (t : List ℕ). kind ∷ t) all ∙ ap (λ (u : List ℕ). u ++ t.0.1) (sym (is s.0.0 t.0.0)) in
    subst (λ (y : Event × List ℕ). IsTaken kind bytes y.0 y.1) (ok_is (make s.0.0 t.0.0, t.0.1) (x, rest) t.2) (record { text = whole; changing = may s.0.0 t.0.0 })

again_two : {A B : Type 0} {ta : Text A} {aa : At A} {FA : A → Type 0} {tb : Text B} {ab : At B} {FB : B → Type 0} (fa : IsForm ta aa FA) (fb : IsForm tb ab FB) (make : A → B → Event) (a : A) (b : B) (rest : List ℕ)
    → FA a → FB b → (aa (ta a ++ tb b ++ rest) >>= λ a. ab a.1 >>= λ b. made (make a.0 b.0) b.1) ≡ Ok (make a b, rest)
again_two {A} {B} {ta} {aa} {FA} {tb} {ab} {FB} fa fb make a b rest fits fits' =
    let grouped = grouped2 (ta a) (tb b) rest in
    ap (λ (t : List ℕ). aa t >>= λ a. ab a.1 >>= λ b. made (make a.0 b.0) b.1) grouped ∙ rw (fa.again a (tb b ++ rest) fits, fb.again b rest fits') refl

take_three : {A B C : Type 0} {ta : Text A} {aa : At A} {FA : A → Type 0} {tb : Text B} {ab : At B} {FB : B → Type 0} {tc : Text C} {ac : At C} {FC : C → Type 0}
    (fa : IsForm ta aa FA) (fb : IsForm tb ab FB) (fc : IsForm tc ac FC) (make : A → B → C → Event) (kind : ℕ)
    → ((a : A) (b : B) (c : C) → event_text (make a b c) ≡ kind ∷ (ta a ++ tb b ++ tc c))
    → ((a : A) (b : B) (c : C) → changes (make a b c) ≡ true)
    → (bytes : List ℕ) (x : Event) (rest : List ℕ) → (aa bytes >>= λ a. ab a.1 >>= λ b. ac b.1 >>= λ c. made (make a.0 b.0 c.0) c.1) ≡ Ok (x, rest) → IsTaken kind bytes x rest
take_three {A} {B} {C} {ta} {aa} {FA} {tb} {ab} {FB} {tc} {ac} {FC} fa fb fc make kind is may bytes x rest e =
    let s = bind_ok (aa bytes) (λ a. ab a.1 >>= λ b. ac b.1 >>= λ c. made (make a.0 b.0 c.0) c.1) (x, rest) e in
    let t = bind_ok (ab s.0.1) (λ b. ac b.1 >>= λ c. made (make s.0.0 b.0 c.0) c.1) (x, rest) s.2 in
    let u = bind_ok (ac t.0.1) (λ c. made (make s.0.0 t.0.0 c.0) c.1) (x, rest) t.2 in
    let all = both bytes (ta s.0.0) s.0.1 (tb t.0.0) t.0.1 (fa.takes bytes s.0.0 s.0.1 s.1) (fb.takes s.0.1 t.0.0 t.0.1 t.1) in
    let more = both bytes (ta s.0.0 ++ tb t.0.0) t.0.1 (tc u.0.0) u.0.1 all (fc.takes t.0.1 u.0.0 u.0.1 u.1) in
    let whole : kind ∷ bytes ≡ event_text (make s.0.0 t.0.0 u.0.0) ++ u.0.1 = ap (λ (t : List ℕ). kind ∷ t) more ∙ ap (λ (v : List ℕ). v ++ u.0.1) (sym (is s.0.0 t.0.0 u.0.0)) in
    subst (λ (y : Event × List ℕ). IsTaken kind bytes y.0 y.1) (ok_is (make s.0.0 t.0.0 u.0.0, u.0.1) (x, rest) u.2) (record { text = whole; changing = may s.0.0 t.0.0 u.0.0 })

again_three : {A B C : Type 0} {ta : Text A} {aa : At A} {FA : A → Type 0} {tb : Text B} {ab : At B} {FB : B → Type 0} {tc : Text C} {ac : At C} {FC : C → Type 0}
    (fa : IsForm ta aa FA) (fb : IsForm tb ab FB) (fc : IsForm tc ac FC) (make : A → B → C → Event) (a : A) (b : B) (c : C) (rest : List ℕ)
    → FA a → FB b → FC c → (aa (ta a ++ tb b ++ tc c ++ rest) >>= λ a. ab a.1 >>= λ b. ac b.1 >>= λ c. made (make a.0 b.0 c.0) c.1) ≡ Ok (make a b c, rest)
again_three {A} {B} {C} {ta} {aa} {FA} {tb} {ab} {FB} {tc} {ac} {FC} fa fb fc make a b c rest fits fits' fits'' =
    let grouped = grouped3 (ta a) (tb b) (tc c) rest in
    ap (λ (t : List ℕ). aa t >>= λ a. ab a.1 >>= λ b. ac b.1 >>= λ c. made (make a.0 b.0 c.0) c.1) grouped ∙ rw (fa.again a (tb b ++ (tc c ++ rest)) fits, fb.again b (tc c ++ rest) fits', fc.again c rest fits'') refl

-- ---- every kind

-- what is read with this kind before it is spelled so, and may change a world
abbrev Takes : ℕ → Type 0
Takes kind = (bytes : List ℕ) (x : Event) (rest : List ℕ) → event_at (kind ∷ bytes) ≡ Ok (x, rest) → IsTaken kind bytes x rest

one_more : (n : ℕ) → Takes n → ((k : ℕ) → k < n → Takes k) → (k : ℕ) → k < suc n → Takes k
one_more n is before k lt =
    elim (cases_lt k n) [
      | inl less ↦ before k less
      | inr most ↦ let e : k ≡ n = omega arith in subst Takes (sym e) is
    ]

take_0 : Takes 0
unfolding event_at path_event_at
take_0 = take_one names_form (λ path. events.MakeDir path) 0 (λ path. refl) (λ path. refl)

take_1 : Takes 1
unfolding event_at path_event_at
take_1 = take_one names_form (λ path. events.RemoveDir path) 1 (λ path. refl) (λ path. refl)

take_2 : Takes 2
unfolding event_at path_event_at
take_2 = take_one names_form (λ path. events.Create path) 2 (λ path. refl) (λ path. refl)

take_3 : Takes 3
unfolding event_at path_event_at
take_3 = take_one names_form (λ path. events.Unlink path) 3 (λ path. refl) (λ path. refl)

take_4 : Takes 4
unfolding event_at path_event_at
take_4 = take_one names_form (λ path. events.Undelete path) 4 (λ path. refl) (λ path. refl)

take_5 : Takes 5
unfolding event_at path_event_at
take_5 = take_one names_form (λ path. events.OpenWrite path) 5 (λ path. refl) (λ path. refl)

take_6 : Takes 6
unfolding event_at paths_event_at
take_6 = take_two names_form names_form (λ path other. events.Link path other) 6 (λ path other. refl) (λ path other. refl)

take_7 : Takes 7
unfolding event_at paths_event_at
take_7 = take_two names_form names_form (λ path other. events.Rename path other) 7 (λ path other. refl) (λ path other. refl)

take_8 : Takes 8
unfolding event_at number_event_at
take_8 = take_one number_form (λ seconds. events.Tick seconds) 8 (λ seconds. refl) (λ seconds. refl)

take_9 : Takes 9
unfolding event_at number_event_at
take_9 = take_one number_form (λ handle. events.Close handle) 9 (λ handle. refl) (λ handle. refl)

take_10 : Takes 10
unfolding event_at number_event_at
take_10 = take_one number_form (λ handle. events.Abandon handle) 10 (λ handle. refl) (λ handle. refl)

take_11 : Takes 11
unfolding event_at session_event_at clock_at
take_11 = take_one moment_form (λ moment. events.Clock moment) 11 (λ moment. refl) (λ moment. refl)

take_12 : Takes 12
unfolding event_at session_event_at truncate_at
take_12 = take_two number_form number_form (λ handle size. events.Truncate handle size) 12 (λ handle size. refl) (λ handle size. refl)

take_13 : Takes 13
unfolding event_at session_event_at write_at
take_13 = take_three number_form number_form string_form (λ handle offset text. events.Write handle offset text) 13 (λ handle offset text. refl) (λ handle offset text. refl)

take_14 : Takes 14
unfolding event_at session_event_at save_at
take_14 = take_two names_form string_form (λ path text. events.Save path text) 14 (λ path text. refl) (λ path text. refl)

take_15 : Takes 15
unfolding event_at session_event_at revert_at
take_15 = take_two names_form number_form (λ path version. events.Revert path version) 15 (λ path version. refl) (λ path version. refl)

take_16 : Takes 16
unfolding event_at session_event_at restore_at
take_16 = take_two names_form moment_form (λ path moment. events.Restore path moment) 16 (λ path moment. refl) (λ path moment. refl)

take_17 : Takes 17
unfolding event_at rule_event_at policy_event_at
take_17 = take_two names_form policy_form (λ path policy. events.SetPolicy path policy) 17 (λ path policy. refl) (λ path policy. refl)

take_18 : Takes 18
unfolding event_at rule_event_at policy_event_at
take_18 = take_two names_form policy_form (λ path policy. events.SetDefault path policy) 18 (λ path policy. refl) (λ path policy. refl)

take_19 : Takes 19
unfolding event_at rule_event_at open_read_at
take_19 = take_two names_form tag_form (λ path tag. events.OpenRead (record { path = path; tag = tag })) 19 (λ path tag. refl) (λ path tag. refl)

take_20 : Takes 20
unfolding event_at rule_event_at group_event_at
take_20 = take_one name_form (λ name. events.GroupMake name) 20 (λ name. refl) (λ name. refl)

take_21 : Takes 21
unfolding event_at rule_event_at group_event_at
take_21 = take_one name_form (λ name. events.GroupDrop name) 21 (λ name. refl) (λ name. refl)

take_22 : Takes 22
unfolding event_at rule_event_at member_event_at
take_22 = take_two name_form names_form (λ name path. events.GroupAdd name path) 22 (λ name path. refl) (λ name path. refl)

take_23 : Takes 23
unfolding event_at rule_event_at member_event_at
take_23 = take_two name_form names_form (λ name path. events.GroupRemove name path) 23 (λ name path. refl) (λ name path. refl)

take_24 : Takes 24
unfolding event_at rule_event_at mark_at
take_24 = take_three name_form moment_form maybe_form (λ name moment until. events.Mark name moment until) 24 (λ name moment until. refl) (λ name moment until. refl)

take_25 : Takes 25
unfolding event_at rule_event_at unmark_at
take_25 = take_two name_form moment_form (λ name moment. events.Unmark name moment) 25 (λ name moment. refl) (λ name moment. refl)

take_26 : Takes 26
unfolding event_at rule_event_at
take_26 bytes x rest e = subst (λ (y : Event × List ℕ). IsTaken 26 bytes y.0 y.1) (ok_is (events.CleanOne, bytes) (x, rest) e) (record { text = refl; changing = refl })

take_27 : Takes 27
unfolding event_at rule_event_at note_at
take_27 = take_one string_form (λ text. events.Note text) 27 (λ text. refl) (λ text. refl)

past_17 : (kind : ℕ) (bytes : List ℕ) → 17 ≤ kind → event_at (kind ∷ bytes) ≡ rule_event_at kind bytes
unfolding event_at
past_17 kind bytes le = rw (le-ltb kind 6 (omega arith), le-ltb kind 8 (omega arith), le-ltb kind 11 (omega arith), le-ltb kind 17 le) refl

past_27 : (kind : ℕ) (bytes : List ℕ) → 28 ≤ kind → rule_event_at kind bytes ≡ Err (mistake (length bytes) flaws.Choice)
unfolding rule_event_at
past_27 kind bytes le =
    rw (le-ltb kind 19 (omega arith), ne_eqb kind 19 (λ (i : kind ≡ 19). omega arith), le-ltb kind 22 (omega arith), le-ltb kind 24 (omega arith), ne_eqb kind 24 (λ (i : kind ≡ 24). omega arith), ne_eqb kind 25 (λ (i : kind ≡ 25). omega arith), ne_eqb kind 26 (λ (i : kind ≡ 26). omega arith), ne_eqb kind 27 (λ (i : kind ≡ 27). omega arith)) refl

no_more : (kind : ℕ) → 28 ≤ kind → Takes kind
no_more kind le bytes x rest e = absurd (let f = sym (past_17 kind bytes (omega arith) ∙ past_27 kind bytes le) ∙ e in cc)

below_9 : (k : ℕ) → k < 9 → Takes k
below_9 = one_more 8 take_8 (one_more 7 take_7 (one_more 6 take_6 (one_more 5 take_5 (one_more 4 take_4 (one_more 3 take_3 (one_more 2 take_2 (one_more 1 take_1 (one_more 0 take_0 (λ k lt. absurd (omega arith))))))))))

below_18 : (k : ℕ) → k < 18 → Takes k
below_18 = one_more 17 take_17 (one_more 16 take_16 (one_more 15 take_15 (one_more 14 take_14 (one_more 13 take_13 (one_more 12 take_12 (one_more 11 take_11 (one_more 10 take_10 (one_more 9 take_9 below_9))))))))

below_28 : (k : ℕ) → k < 28 → Takes k
below_28 = one_more 27 take_27 (one_more 26 take_26 (one_more 25 take_25 (one_more 24 take_24 (one_more 23 take_23 (one_more 22 take_22 (one_more 21 take_21 (one_more 20 take_20 (one_more 19 take_19 (one_more 18 take_18 below_18)))))))))

taken : (kind : ℕ) → Takes kind
taken kind =
    elim (cases_lt kind 28) [
      | inl lt ↦ below_28 kind lt
      | inr le ↦ no_more kind le
    ]

event_takes : (bytes : List ℕ) (x : Event) (rest : List ℕ) → event_at bytes ≡ Ok (x, rest) → bytes ≡ event_text x ++ rest
unfolding event_at
event_takes [] x rest e = absurd cc
event_takes (kind ∷ bytes) x rest e = (taken kind bytes x rest e).text

-- no question is read
event_changes : (bytes : List ℕ) (x : Event) (rest : List ℕ) → event_at bytes ≡ Ok (x, rest) → changes x ≡ true
unfolding event_at
event_changes [] x rest e = absurd cc
event_changes (kind ∷ bytes) x rest e = (taken kind bytes x rest e).changing

items_change : (n : ℕ) (bytes : List ℕ) (xs : List Event) (rest : List ℕ) → items_at event_at n bytes ≡ Ok (xs, rest) → list_all changes xs ≡ true
unfolding items_at
items_change zero bytes xs rest e = subst (λ (y : List Event × List ℕ). list_all changes y.0 ≡ true) (ok_is ([], bytes) (xs, rest) e) refl
items_change (suc n) bytes xs rest e =
    let a = bind_ok (event_at bytes) (λ first. items_at event_at n first.1 >>= λ others. Ok (first.0 ∷ others.0, others.1)) (xs, rest) e in
    let b = bind_ok (items_at event_at n a.0.1) (λ others. Ok (a.0.0 ∷ others.0, others.1)) (xs, rest) a.2 in
    let all : list_all changes (a.0.0 ∷ b.0.0) ≡ true = rw (event_changes bytes a.0.0 a.0.1 a.1, items_change n a.0.1 b.0.0 b.0.1 b.1) refl in
    subst (λ (y : List Event × List ℕ). list_all changes y.0 ≡ true) (ok_is (a.0.0 ∷ b.0.0, b.0.1) (xs, rest) b.2) all

pub list_changes : (bytes : List ℕ) (xs : List Event) (rest : List ℕ) → list_at event_at bytes ≡ Ok (xs, rest) → list_all changes xs ≡ true
unfolding list_at
list_changes bytes xs rest e =
    let a = bind_ok (number_at bytes) (λ count. items_at event_at count.0 count.1) (xs, rest) e in
    items_change a.0.0 a.0.1 xs rest a.2

event_again : (x : Event) (rest : List ℕ) → IsEvent x → event_at (event_text x ++ rest) ≡ Ok (x, rest)
unfolding event_at clock_at group_event_at mark_at member_event_at note_at number_event_at open_read_at path_event_at paths_event_at policy_event_at restore_at revert_at rule_event_at save_at session_event_at truncate_at unmark_at write_at
event_again (events.MakeDir path) rest fits = again_one names_form (λ path. events.MakeDir path) path rest fits
event_again (events.RemoveDir path) rest fits = again_one names_form (λ path. events.RemoveDir path) path rest fits
event_again (events.Create path) rest fits = again_one names_form (λ path. events.Create path) path rest fits
event_again (events.Unlink path) rest fits = again_one names_form (λ path. events.Unlink path) path rest fits
event_again (events.Undelete path) rest fits = again_one names_form (λ path. events.Undelete path) path rest fits
event_again (events.OpenWrite path) rest fits = again_one names_form (λ path. events.OpenWrite path) path rest fits
event_again (events.Link path other) rest fits = again_two names_form names_form (λ path other. events.Link path other) path other rest fits.0 fits.1
event_again (events.Rename path other) rest fits = again_two names_form names_form (λ path other. events.Rename path other) path other rest fits.0 fits.1
event_again (events.Tick seconds) rest fits = again_one number_form (λ seconds. events.Tick seconds) seconds rest fits
event_again (events.Close handle) rest fits = again_one number_form (λ handle. events.Close handle) handle rest fits
event_again (events.Abandon handle) rest fits = again_one number_form (λ handle. events.Abandon handle) handle rest fits
event_again (events.Clock moment) rest fits = again_one moment_form (λ moment. events.Clock moment) moment rest fits
event_again (events.Truncate handle size) rest fits = again_two number_form number_form (λ handle size. events.Truncate handle size) handle size rest fits.0 fits.1
event_again (events.Write handle offset text) rest fits = again_three number_form number_form string_form (λ handle offset text. events.Write handle offset text) handle offset text rest fits.0 fits.1 fits.2
event_again (events.Save path text) rest fits = again_two names_form string_form (λ path text. events.Save path text) path text rest fits.0 fits.1
event_again (events.Revert path version) rest fits = again_two names_form number_form (λ path version. events.Revert path version) path version rest fits.0 fits.1
event_again (events.Restore path moment) rest fits = again_two names_form moment_form (λ path moment. events.Restore path moment) path moment rest fits.0 fits.1
event_again (events.SetPolicy path policy) rest fits = again_two names_form policy_form (λ path policy. events.SetPolicy path policy) path policy rest fits.0 fits.1
event_again (events.SetDefault path policy) rest fits = again_two names_form policy_form (λ path policy. events.SetDefault path policy) path policy rest fits.0 fits.1
event_again (events.OpenRead tagged) rest fits = again_two names_form tag_form (λ path tag. events.OpenRead (record { path = path; tag = tag })) tagged.path tagged.tag rest fits.0 fits.1
event_again (events.GroupMake name) rest fits = again_one name_form (λ name. events.GroupMake name) name rest fits
event_again (events.GroupDrop name) rest fits = again_one name_form (λ name. events.GroupDrop name) name rest fits
event_again (events.GroupAdd name path) rest fits = again_two name_form names_form (λ name path. events.GroupAdd name path) name path rest fits.0 fits.1
event_again (events.GroupRemove name path) rest fits = again_two name_form names_form (λ name path. events.GroupRemove name path) name path rest fits.0 fits.1
event_again (events.Mark name moment until) rest fits = again_three name_form moment_form maybe_form (λ name moment until. events.Mark name moment until) name moment until rest fits.0 fits.1 fits.2
event_again (events.Unmark name moment) rest fits = again_two name_form moment_form (λ name moment. events.Unmark name moment) name moment rest fits.0 fits.1
event_again events.CleanOne rest fits = refl
event_again (events.Note text) rest fits = again_one string_form (λ text. events.Note text) text rest fits
event_again (events.Read source) rest fits = absurd fits
event_again (events.Stat tagged) rest fits = absurd fits
event_again (events.Versions path) rest fits = absurd fits
event_again (events.List path) rest fits = absurd fits
event_again events.Restorable rest fits = absurd fits
event_again events.Due rest fits = absurd fits
event_again events.UsageAll rest fits = absurd fits
event_again events.GroupsAll rest fits = absurd fits

pub event_form : IsForm event_text event_at IsEvent
event_form = record { takes = event_takes; again = event_again }
