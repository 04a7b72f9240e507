-- The fates of held versions: each has one, and those that are due are in the scan.
use Rattle.ele_model.proofs.Basics.{◌≡◌, ℕ, ◌&&◌, Bool, true, false, List, [], ◌∷◌, Option, Some, None, IsSome, refl, ap, sym, subst, ◌∙◌, arith, find, list_any, nat_tests}
use Rattle.ele_model.proofs.Words.{Key, has_key, FileView, file_view, is_protected, has_covering, keeps_at, is_member, is_marked, HasParts, World, is_open}
use Rattle.ele_policy.specs.Cause.{IsCause}
use Rattle.ele_policy.specs.declared.cause.Cause.{Cause}
use Rattle.ele_policy.specs.declared.cause.Cause.TheVariants.{AtOnce, Age, Displaced}
use Rattle.ele_policy.specs.declared.cause.Newer.{Newer}
use Rattle.ele_policy.specs.declared.policy.Policy.{Policy}
use Rattle.ele_headline.proofs.ScanOrder.{scan_lists}
use Rattle.ele_model.specs.Due.{is_due_at}
use Rattle.ele_model.specs.Fate.{HasCause, HasFate, IsFate, IsMarkedBy, newer_versions, says_due}
use Rattle.ele_model.specs.Scan.{scan}
use Rattle.ele_headline.specs.ScanLists.{is_due_from}
use Rattle.ele_model.specs.declared.fate.Fate.{Fate}
use Rattle.ele_model.specs.declared.fate.Fate.TheVariants.{Current, Open, Marked, Kept, Due}
use Rattle.ele_model.proofs.Fates.{protected_told}
use Rattle.ele_world.proofs.Words.{GroupRow, MarkRow, VersionRow}

-- ---- what the conditions say of each other

any_found : {X : Type 0} (p : X → Bool) (xs : List X) (x : X) → find p xs ≡ Some x → list_any p xs ≡ true
any_found p [] x found = absurd (cc)
any_found p (y ∷ ys) x found = grind (arith, nat_tests, any_found p ys x)

module _ (w : World) (row : VersionRow) where
  pub marked_told : (at : ℕ) (name : List ℕ) (mark : MarkRow) → IsMarkedBy w.groups row.file row.closed row.ended at name mark → is_marked w.groups row.file row.closed row.ended at ≡ true
  marked_told at name mark is = any_found (λ g. is_member row.file g && has_covering row.closed row.ended at g) w.groups is.group is.first_group

  open_protected : (at : ℕ) → is_open w.handles row.file row.number ≡ true → is_protected (file_view w row.file) row at ≡ true
  open_protected at is = grind (arith, nat_tests, protected_told w row at)

  marked_protected : (at : ℕ) (name : List ℕ) (mark : MarkRow) → IsMarkedBy w.groups row.file row.closed row.ended at name mark → is_protected (file_view w row.file) row at ≡ true
  marked_protected at name mark is = grind (arith, nat_tests, protected_told w row at, marked_told at name mark is)

  due_unprotected : (at : ℕ) → is_due_at w row at ≡ true → is_protected (file_view w row.file) row at ≡ false
  unfolding is_due_at
  due_unprotected at due = grind (arith, nat_tests)

  protected_not_due : (at : ℕ) → is_protected (file_view w row.file) row at ≡ true → is_due_at w row at ≡ false
  unfolding is_due_at
  protected_not_due at is = grind (arith, nat_tests)

  due_ended : (at : ℕ) → is_due_at w row at ≡ true → IsSome row.ended
  unfolding is_due_at
  due_ended at due = grind (arith, nat_tests)

  unended_not_due : (at : ℕ) → row.ended ≡ None → is_due_at w row at ≡ false
  unfolding is_due_at
  unended_not_due at none = grind (arith, nat_tests)

  -- ---- a version is due by its fate exactly if it is due

  fate_due : (fate : Fate) → IsFate w row fate → (key : Key) → is_due_from w key row ≡ says_due key.ripe (Some fate)
  fate_due Current is key = rw (unended_not_due w.now is) refl
  fate_due Open is key = rw (protected_not_due w.now (open_protected w.now is.1)) refl
  fate_due (Marked name mark) is key = rw (protected_not_due w.now (marked_protected w.now name mark is.2)) refl
  fate_due (Kept until level) is key = rw is.not_due refl
  fate_due (Due since cause) is key = rw (is.due, is.ripe) refl

pub due_fate : (w : World) → HasParts w → (file number : ℕ) (fate : Fate) → HasFate w file number fate
    → (ripe : ℕ) → has_key (record { ripe = ripe; file = file; number = number }) (scan w) ≡ says_due ripe (Some fate)
due_fate w k file number fate has ripe =
    let key : Key = record { ripe = ripe; file = file; number = number } in
    (scan_lists w k).each key ∙ rw has.held (fate_due w has.row fate has.is key)

-- ---- no version has two

none_some : {X : Type 0} (o : Option X) → o ≡ None → IsSome o → ⊥
none_some o is some = grind (arith, nat_tests)

true_false : (b : Bool) → b ≡ true → b ≡ false → ⊥
true_false b is isn't = grind (arith, nat_tests)

module _ (w : World) (row : VersionRow) where
  one_mark : (name other : List ℕ) (mark made : MarkRow) → IsMarkedBy w.groups row.file row.closed row.ended w.now name mark → IsMarkedBy w.groups row.file row.closed row.ended w.now other made → (name ≡ other) × (mark ≡ made)
  one_mark name other mark made a b =
      let group : a.group ≡ b.group = cc (a.first_group, b.first_group) in
      let named : name ≡ other = sym a.named ∙ ap (λ (g : GroupRow). g.name) group ∙ b.named in
      let same : Some mark ≡ Some made = sym a.first_mark ∙ ap (λ (g : GroupRow). find (keeps_at row.closed row.ended w.now) g.marks) group ∙ b.first_mark in
      (named, cc same)

  one_cause : (policy : Policy) (closed ended : ℕ) (newer : List Newer) (at : ℕ) (a b : Cause) → IsCause policy closed ended newer at a → IsCause policy closed ended newer at b → a ≡ b
  one_cause policy closed ended newer at AtOnce AtOnce p q = refl
  one_cause policy closed ended newer at AtOnce (Age n) p q = absurd (cc (p, q.safe))
  one_cause policy closed ended newer at AtOnce (Displaced l n) p q = absurd (cc (p, q.ladder))
  one_cause policy closed ended newer at (Age n) AtOnce p q = absurd (cc (p.safe, q))
  one_cause policy closed ended newer at (Age n) (Age m) p q = let same : n ≡ m = cc (p.safe, q.safe) in ap Age same
  one_cause policy closed ended newer at (Age n) (Displaced l m) p q = absurd (cc (p.safe, q.ladder))
  one_cause policy closed ended newer at (Displaced l n) AtOnce p q = absurd (cc (p.ladder, q))
  one_cause policy closed ended newer at (Displaced l n) (Age m) p q = absurd (cc (p.ladder, q.safe))
  one_cause policy closed ended newer at (Displaced l n) (Displaced k m) p q =
      let rungs : p.rungs ≡ q.rungs = cc (p.ladder, q.ladder) in
      let level : l ≡ k = cc (p.reached, q.reached) in
      let rung : p.rung ≡ q.rung = cc (p.at_level, q.at_level) in
      let by : n ≡ m = cc (p.by_is, q.by_is) in
      cc

  one_cause_of : (v : FileView) (since : ℕ) (a b : Cause) → HasCause v row since a → HasCause v row since b → a ≡ b
  one_cause_of v since a b p q =
      let policy : p.policy ≡ q.policy = cc (p.policy_is, q.policy_is) in
      let ended : p.ended ≡ q.ended = cc (p.has_ended, q.has_ended) in
      let under : Policy → Type 0 = λ o. IsCause o row.closed p.ended (newer_versions v row) since a in
      let until : ℕ → Type 0 = λ e. IsCause q.policy row.closed e (newer_versions v row) since a in
      one_cause q.policy row.closed q.ended (newer_versions v row) since a b (subst until ended (subst under policy p.why)) q.why

  one_fate_of : (a b : Fate) → IsFate w row a → IsFate w row b → a ≡ b
  one_fate_of Current Current p q = refl
  one_fate_of Current Open p q = absurd (none_some row.ended p q.0)
  one_fate_of Current (Marked g m) p q = absurd (none_some row.ended p q.0)
  one_fate_of Current (Kept u l) p q = absurd (none_some row.ended p q.has_ended)
  one_fate_of Current (Due s c) p q = absurd (none_some row.ended p (due_ended w row w.now q.due))
  one_fate_of Open Current p q = absurd (none_some row.ended q p.0)
  one_fate_of Open Open p q = refl
  one_fate_of Open (Marked g m) p q = absurd (true_false (is_open w.handles row.file row.number) p.1 q.1)
  one_fate_of Open (Kept u l) p q = absurd (true_false (is_protected (file_view w row.file) row w.now) (open_protected w row w.now p.1) q.unprotected)
  one_fate_of Open (Due s c) p q = absurd (true_false (is_protected (file_view w row.file) row w.now) (open_protected w row w.now p.1) (due_unprotected w row w.now q.due))
  one_fate_of (Marked g m) Current p q = absurd (none_some row.ended q p.0)
  one_fate_of (Marked g m) Open p q = absurd (true_false (is_open w.handles row.file row.number) q.1 p.1)
  one_fate_of (Marked g m) (Marked h n) p q = let one = one_mark g h m n p.2 q.2 in cc (one.0, one.1)
  one_fate_of (Marked g m) (Kept u l) p q = absurd (true_false (is_protected (file_view w row.file) row w.now) (marked_protected w row w.now g m p.2) q.unprotected)
  one_fate_of (Marked g m) (Due s c) p q = absurd (true_false (is_protected (file_view w row.file) row w.now) (marked_protected w row w.now g m p.2) (due_unprotected w row w.now q.due))
  one_fate_of (Kept u l) Current p q = absurd (none_some row.ended q p.has_ended)
  one_fate_of (Kept u l) Open p q = absurd (true_false (is_protected (file_view w row.file) row w.now) (open_protected w row w.now q.1) p.unprotected)
  one_fate_of (Kept u l) (Marked g m) p q = absurd (true_false (is_protected (file_view w row.file) row w.now) (marked_protected w row w.now g m q.2) p.unprotected)
  one_fate_of (Kept u l) (Kept t k) p q = cc (p.until_is, q.until_is, p.level_is, q.level_is)
  one_fate_of (Kept u l) (Due s c) p q = absurd (true_false (is_due_at w row w.now) q.due p.not_due)
  one_fate_of (Due s c) Current p q = absurd (none_some row.ended q (due_ended w row w.now p.due))
  one_fate_of (Due s c) Open p q = absurd (true_false (is_protected (file_view w row.file) row w.now) (open_protected w row w.now q.1) (due_unprotected w row w.now p.due))
  one_fate_of (Due s c) (Marked g m) p q = absurd (true_false (is_protected (file_view w row.file) row w.now) (marked_protected w row w.now g m q.2) (due_unprotected w row w.now p.due))
  one_fate_of (Due s c) (Kept t k) p q = absurd (true_false (is_due_at w row w.now) p.due q.not_due)
  one_fate_of (Due s c) (Due t d) p q =
      let since : s ≡ t = cc (p.ripe, q.ripe) in
      let why = let P : ℕ → Type 0 = λ n. HasCause (file_view w row.file) row n c in subst P since p.why in
      let cause : c ≡ d = one_cause_of (file_view w row.file) t c d why q.why in
      cc

pub one_fate : (w : World) (file number : ℕ) (one other : Fate) → HasFate w file number one → HasFate w file number other → one ≡ other
one_fate w file number one other a b =
    let row : a.row ≡ b.row = cc (a.held, b.held) in
    one_fate_of w b.row one other (let P : VersionRow → Type 0 = λ r. IsFate w r one in subst P row a.is) b.is
