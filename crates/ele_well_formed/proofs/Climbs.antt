-- Where directories' live names are, and walks up by them to the root.
use Rattle.ele_well_formed.proofs.Words.{AllByRecursion, AllLater, AreOthers, Bool, List, NameRow, None, Option, Some, [], all-weaker, arith, cond, false, false≢true, is_live_directory, last_passing, list_any, live_directory, nat_tests, option_map, option_map_or, option_or, refl, root, suc, sym, take, true, zero, ℕ, ◌&&◌, ◌++◌, ◌+◌, ◌==◌, ◌||◌, ◌∙◌, ◌∷◌, ◌≡◌}
use Rattle.ele_lists.proofs.Alls.{later-weaker}
use Rattle.ele_lists.proofs.Lasts.{last_has}
use Rattle.ele_model.specs.OneTree.{Hangs, hangs_by}
use Rattle.ele_model.specs.WellFormed.{is_reached}
use Rattle.ele_well_formed.proofs.Rows.{IsAt, taken}
use Rattle.ele_well_formed.specs.Fault.{IsBelow}
use Rattle.ele_well_formed.specs.Means.{HasHome, parent_of}

-- ---- the last row that passes

module _ {X : Type 0} (p : X → Bool) where
  last_none : (xs : List X) → AllByRecursion (λ x. p x ≡ false) xs → last_passing p xs ≡ None
  last_none [] none = refl
  last_none (x ∷ xs) none = grind (arith, last_none xs none.1, none.0)

  none_passing : (xs : List X) → last_passing p xs ≡ None → list_any p xs ≡ false
  none_passing [] none = refl
  none_passing (x ∷ xs) none = grind (arith, none_passing xs)

  last_push : (xs : List X) (x : X) → last_passing p (xs ++ x ∷ []) ≡ cond (p x) (Some x) (last_passing p xs)
  last_push [] x = grind arith
  last_push (y ∷ ys) x = grind (arith, last_push ys x)

  -- if no two pass, the one that does decides
  any_last : (g : X → Bool) (xs : List X) → AllLater (λ x y. p x ≡ true → p y ≡ false) xs → list_any (λ x. p x && g x) xs ≡ option_map_or g (last_passing p xs) false
  any_last g [] apart = refl
  any_last g (x ∷ xs) apart = elim (last_passing p xs) as (λ o. last_passing p xs ≡ o → list_any (λ x. p x && g x) (x ∷ xs) ≡ option_map_or g (option_or o (cond (p x) (Some x) None)) false) [
    | Some y ↦ λ e. let is = last_has p (λ y. p x ≡ true → p y ≡ false) xs y apart.0 e in grind (arith, any_last g xs apart.1)
    | None ↦ λ e. grind (arith, any_last g xs apart.1)
  ] refl

-- the parent by one name more
module _ (names : List NameRow) (at : ℕ) (x : NameRow) (here : IsAt names at x) where
  pub parent_more : (id q : ℕ) → live_directory x ≡ Some id → parent_of (take (at + 1) names) q ≡ cond (id == q) (Some x.directory) (parent_of (take at names) q)
  parent_more id q live = rw (taken names at x here, last_push (is_live_directory q) (take at names) x) (grind (arith, nat_tests))

  pub parent_same : (q : ℕ) → live_directory x ≡ None → parent_of (take (at + 1) names) q ≡ parent_of (take at names) q
  parent_same q live = rw (taken names at x here, last_push (is_live_directory q) (take at names) x) (grind (arith, nat_tests))

-- ---- up to the root

-- the directories that no walk has passed yet have their parents, and of the others each that can be reached hangs
pub record IsLeft (names : List NameRow) (left : ℕ → Option ℕ) : Type 0 where
  pub own : (q p : ℕ) → left q ≡ Some p → parent_of names q ≡ Some p
  pub hang : (q : ℕ) → left q ≡ None → is_reached names q ≡ true → Hangs names q

-- a walk that began at a directory and is here. Each directory that it passed has its name in the next one
pub record IsWalk (names : List NameRow) (left : ℕ → Option ℕ) (passed : ℕ → Bool) (from here : ℕ) : Type 0 where
  pub own : (q p : ℕ) → left q ≡ Some p → parent_of names q ≡ Some p
  pub hang : (q : ℕ) → left q ≡ None → passed q ≡ false → is_reached names q ≡ true → Hangs names q
  pub up : (q : ℕ) → passed q ≡ true → (p : ℕ) × (parent_of names q ≡ Some p) × ((passed p || (p == here)) ≡ true)
  pub lifts : Hangs names here → (q : ℕ) → passed q ≡ true → Hangs names q
  pub began : (passed from || (from == here)) ≡ true
  pub reached : is_reached names here ≡ true

module _ (names : List NameRow) (homes : AllByRecursion (HasHome names) names) (others : AllLater AreOthers names) (below : AllByRecursion IsBelow names) where
  root_apart : parent_of names root ≡ None
  root_apart = rw (last_none (is_live_directory root) names (all-weaker IsBelow (λ row. is_live_directory root row ≡ false) names (λ row is. grind (arith, is)) below)) refl

  one_name : (directory : ℕ) → AllLater (λ x y. is_live_directory directory x ≡ true → is_live_directory directory y ≡ false) names
  one_name directory = later-weaker AreOthers _ names (λ x y apart. apart directory) others

  mapped : {X : Type 0} (f : X → ℕ) (g : ℕ → Bool) (o : Option X) → option_map_or (λ x. g (f x)) o false ≡ option_map_or g (option_map f o) false
  mapped f g None = refl
  mapped f g (Some x) = refl

  hangs_up : (depth directory : ℕ) → hangs_by names (suc depth) directory ≡ option_map_or (hangs_by names depth) (parent_of names directory) false
  hangs_up depth directory = any_last (is_live_directory directory) (λ row. hangs_by names depth row.directory) names (one_name directory) ∙ mapped (λ row. row.directory) (hangs_by names depth) (last_passing (is_live_directory directory) names)

  up_hangs : (directory parent : ℕ) → parent_of names directory ≡ Some parent → Hangs names parent → Hangs names directory
  up_hangs directory parent is hangs = (suc hangs.0, rw (hangs_up hangs.0 directory, is) hangs.1)

  parent_reached : (directory parent : ℕ) → parent_of names directory ≡ Some parent → is_reached names parent ≡ true
  parent_reached directory parent is = elim (last_passing (is_live_directory directory) names) as (λ o. last_passing (is_live_directory directory) names ≡ o → option_map (λ (row : NameRow). row.directory) o ≡ Some parent → is_reached names parent ≡ true) [
    | None ↦ λ e no. absurd cc
    | Some row ↦ λ e has.
        let h = last_has (is_live_directory directory) (HasHome names) names row homes e in
        let live : row.death ≡ None = grind (arith, h.1) in
        let same : row.directory ≡ parent = cc in
        rw same at (h.0 live)
  ] refl is

  -- a directory without a live name that can be reached is the root
  top_hangs : (directory : ℕ) → parent_of names directory ≡ None → is_reached names directory ≡ true → Hangs names directory
  top_hangs directory none reached = (
    0,
    elim (last_passing (is_live_directory directory) names) as (λ o. last_passing (is_live_directory directory) names ≡ o → option_map (λ (row : NameRow). row.directory) o ≡ None → (directory == root) ≡ true) [
      | None ↦ λ e no. grind (arith, reached, none_passing (is_live_directory directory) names e)
      | Some row ↦ λ e has. absurd cc
    ] refl none,
  )

  pub left_first : (left : ℕ → Option ℕ) → ((q : ℕ) → left q ≡ parent_of names q) → IsLeft names left
  left_first left same = record { own = λ q p is. sym (same q) ∙ is; hang = λ q none. top_hangs q (sym (same q) ∙ none) }

  -- directories whose names are in one another lead nowhere
  round : (passed : ℕ → Bool) → ((q : ℕ) → passed q ≡ true → (p : ℕ) × (parent_of names q ≡ Some p) × (passed p ≡ true)) → (depth q : ℕ) → passed q ≡ true → hangs_by names depth q ≡ true → ⊥
  round passed up zero q is hangs = let next = up q is in let at : q ≡ root = grind (arith, nat_tests, hangs) in absurd (grind (arith, root_apart, next.1, at))
  round passed up (suc depth) q is hangs = let next = up q is in round passed up depth next.0 next.2 (rw (hangs_up depth q, next.1) at hangs)

  module _ (left : ℕ → Option ℕ) (passed : ℕ → Bool) (from here : ℕ) where
    -- a walk that begins
    pub walk_first : IsLeft names left → ((q : ℕ) → passed q ≡ false) → from ≡ here → is_reached names here ≡ true → IsWalk names left passed from here
    walk_first first none same reached = record {
      own = first.own;
      hang = λ q no _. first.hang q no;
      up = λ q is. absurd (false≢true (sym (none q) ∙ is));
      lifts = λ hangs q is. absurd (false≢true (sym (none q) ∙ is));
      began = grind (arith, nat_tests, same);
      reached = reached;
    }

    module _ (walk : IsWalk names left passed from here) where
      -- and goes one up
      pub walk_more : (parent : ℕ) (fewer : ℕ → Option ℕ) (more : ℕ → Bool) → left here ≡ Some parent → ((q : ℕ) → fewer q ≡ cond (here == q) None (left q)) → ((q : ℕ) → more q ≡ ((here == q) || passed q)) → IsWalk names fewer more from parent
      walk_more parent fewer more is taken_out put =
          let own = walk.own here parent is in record {
            own = λ q p has. walk.own q p (grind (arith, nat_tests, taken_out q, has));
            hang = λ q no fresh. walk.hang q (grind (arith, nat_tests, taken_out q, put q, no, fresh)) (grind (arith, nat_tests, put q, fresh));
            up = λ q has. elim (here == q) as (λ b. (here == q) ≡ b → (p : ℕ) × (parent_of names q ≡ Some p) × ((more p || (p == parent)) ≡ true)) [
              | true ↦ λ e. let same : here ≡ q = grind (arith, nat_tests, e) in (parent, rw same at own, grind (arith, nat_tests))
              | false ↦ λ e. let next = walk.up q (grind (arith, nat_tests, put q, has, e)) in (next.0, next.1, grind (arith, nat_tests, put next.0, next.2))
            ] refl;
            lifts = λ hangs q has.
                let lifted = up_hangs here parent own hangs in
                elim (here == q) as (λ b. (here == q) ≡ b → Hangs names q) [
                  | true ↦ λ e. let same : here ≡ q = grind (arith, nat_tests, e) in rw same at lifted
                  | false ↦ λ e. walk.lifts lifted q (grind (arith, nat_tests, put q, has, e))
                ] refl;
            began = grind (arith, nat_tests, put from, walk.began);
            reached = parent_reached here parent own;
          }

      -- and comes to where no name is left: to a directory that hangs
      pub walk_hangs : (fewer : ℕ → Option ℕ) → left here ≡ None → ((q : ℕ) → fewer q ≡ cond (here == q) None (left q)) → passed here ≡ false → IsLeft names fewer × Hangs names from
      walk_hangs fewer end taken_out fresh =
          let hangs = walk.hang here end fresh walk.reached in (
            record {
              own = λ q p has. walk.own q p (grind (arith, nat_tests, taken_out q, has));
              hang = λ q no reached. elim (passed q) as (λ b. passed q ≡ b → Hangs names q) [
                | true ↦ λ e. walk.lifts hangs q e
                | false ↦ λ e. walk.hang q (grind (arith, nat_tests, taken_out q, no, end)) e reached
              ] refl;
            },
            elim (passed from) as (λ b. passed from ≡ b → Hangs names from) [
              | true ↦ λ e. walk.lifts hangs from e
              | false ↦ λ e. let same : here ≡ from = grind (arith, nat_tests, walk.began, e) in rw same at hangs
            ] refl,
          )

      -- or to one that it passed
      pub walk_round : passed here ≡ true → Hangs names from → ⊥
      walk_round again hangs = round passed (λ q is. let next = walk.up q is in (next.0, next.1, grind (arith, nat_tests, next.2, again))) hangs.0 from (grind (arith, nat_tests, walk.began, again)) hangs.1
