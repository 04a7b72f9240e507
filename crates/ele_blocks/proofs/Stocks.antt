-- The laws of maps over one store.
use Rattle.ele_blocks.proofs.Lemmas.{[], AllByRecursion, ap, AreOneToOne, arith, backing, backing_least, blocks_of, Bool, broken, cond, eqb, ids_of, is_below, is_place, is_whole, IsEarlier, IsIn, IsStocked, Layout, layouts_of, leaves-count, length, length-content, length-map, List, list_all, LivesIn, ltb, map, map-append, Moves, Named, named, names_from, names_in, names_of, nat_tests, Owes, owners, refl, Renews, SameStock, ShowsSame, slice_get, slice_get_within, Slot, slots-count, slots_backed, slots_of, Some, stay_in, StayIn, Stays, StockLaws, Store, suc, sum_by, sum_by-cons, sym, Tagged, tally, times, times-le-length, true, whole_is, whole_same, ℕ, ◌&&◌, ◌*◌, ◌++◌, ◌+◌, ◌<◌, ◌∙◌, ◌∷◌, ◌≡◌, ◌≤◌}
use Rattle.ele_blocks.proofs.Distincts.{self_eq, as_many}
use Rattle.ele_blocks.proofs.OneToOnes.{NoneBy, in_either, in_front, in_back, slot_owned, stays_one_to_one}

-- ---- what a store is owed

module _ {X : Type 0} (f : X → ℕ) where
  pub tally-append : (xs ys : List X) → tally f (xs ++ ys) ≡ tally f xs + tally f ys
  tally-append [] ys = omega arith
  tally-append (x ∷ xs) ys = omega (arith, tally-append xs ys)

-- one of the maps lives in the store
pub owes_lives : (s : Store) (m : Layout) (rest : List Layout) → Owes s (m ∷ rest) → LivesIn s m
owes_lives s m rest owes = record { owned = record { owned = λ leaf. omega (arith, owes.counted leaf) }; backed = λ id some. omega (arith, owes.backed id); whole = grind (arith, nat_tests, owes.whole) }

-- a leaf is named at most 128 times by each map
named_few : (s : Store) (leaf : ℕ) (ms : List Layout) → broken s ms ≡ 0 → named leaf ms ≤ 128 * length ms
named_few s leaf [] h = omega arith
named_few s leaf (m ∷ ms) h = grind (arith, nat_tests, times-le-length, leaves-count, whole_is, named_few s leaf ms (omega (arith, h)))

abbrev pub late : Store → List Tagged → ℕ
late s ts = tally (λ t. cond (is_below s t) 0 1) ts

-- the first maps are replaced, and these were beside them
module _ (s t : Store) (was now : List Layout) (moves : Moves s t was now) (rest : List Tagged) (owes : Owes s (was ++ layouts_of rest)) where
  pub its_leaves : (m : Layout) → ((leaf : ℕ) → named leaf was + times leaf m.leaves ≤ owners s.leaves leaf) → StayIn s t m.leaves
  its_leaves m owned = stay_in s t _ _ m.leaves moves.hands (λ leaf some. omega (arith, owned leaf, some)) (λ leaf some id names. omega (arith, owes.backed id, backing_least s.leaves leaf id, names))

  -- every other map shows what it showed, by the slots that it had
  pub record AllStay (ts : List Tagged) : Type 0 where
    pub shows : AllByRecursion (ShowsSame s t) ts
    pub names : names_in t ts ≡ names_in s ts
    pub late : late t ts ≡ late s ts
    pub broken : broken t (layouts_of ts) ≡ broken s (layouts_of ts)

  all_stay : (ts : List Tagged) → ((leaf : ℕ) → named leaf was + named leaf (layouts_of ts) ≤ owners s.leaves leaf) → AllStay ts
  all_stay [] owned = record { shows = tt; names = refl; late = refl; broken = refl }
  all_stay (m ∷ ts) owned = grind (arith, its_leaves m.layout (λ leaf. omega (arith, owned leaf)), all_stay ts (λ leaf. omega (arith, owned leaf)), whole_same)

  pub rest_stays : AllStay rest
  rest_stays = all_stay rest (λ leaf. omega (arith, owes.counted leaf, tally-append (λ m. times leaf m.leaves) was (layouts_of rest)))

  -- and the store is owed by all of them
  pub moves_owes : Owes t (now ++ layouts_of rest)
  moves_owes = grind (arith, nat_tests, tally-append, rest_stays)

-- ---- maps in another order

tally-sum : {X : Type 0} (f : X → ℕ) (xs : List X) → tally f xs ≡ sum_by f xs
tally-sum f [] = refl
tally-sum f (x ∷ xs) = omega (arith, sum_by-cons f x xs, tally-sum f xs)

same_tally : (ts us : List Tagged) → SameStock ts us → (f : Tagged → ℕ) → tally f ts ≡ tally f us
same_tally ts us same f = tally-sum f ts ∙ (same.sums f ∙ sym (tally-sum f us))

-- ---- names in a list, counted

abbrev is_named : Named → Named → Bool
is_named n m = is_place n.place m.place && eqb n.block m.block

abbrev count : Named → List Named → ℕ
count n ns = tally (λ m. cond (is_named n m) 1 0) ns

counted : (n : Named) (ns : List Named) → IsIn n ns → 0 < count n ns
counted n [] i = absurd i
counted n (m ∷ ns) i = grind (arith, nat_tests, self_eq, counted n ns)

in_counted : (n : Named) (ns : List Named) → 0 < count n ns → IsIn n ns
in_counted n [] h = absurd (omega (arith, h))
in_counted n (m ∷ ns) h = grind (arith, nat_tests, in_counted n ns)

names_count : (s : Store) (n : Named) (ts : List Tagged) → count n (names_in s ts) ≡ tally (λ t. count n (names_of s t.file t.layout)) ts
names_count s n [] = refl
names_count s n (t ∷ ts) = omega (arith, tally-append (λ m. cond (is_named n m) 1 0) (names_of s t.file t.layout) (names_in s ts), names_count s n ts)

pub same_in : (s : Store) (ts us : List Tagged) → SameStock ts us → (n : Named) → IsIn n (names_in s us) → IsIn n (names_in s ts)
same_in s ts us same n i = in_counted n (names_in s ts) (omega (arith, counted n (names_in s us) i, names_count s n ts, names_count s n us, same_tally ts us same (λ t. count n (names_of s t.file t.layout))))

fewer : (ns ms : List Named) → ((n : Named) → IsIn n ns → IsIn n ms) → AreOneToOne ms → AreOneToOne ns
fewer ns ms are one = λ m n i j. one m n (are m i) (are n j)

-- ---- the names of one map, and of several

-- its file, a writer below, and a block that the map names
record IsNameOf (n : Named) (file below : ℕ) (slots : List Slot) : Type 0 where
  pub its_file : n.place.file ≡ file
  pub writer : n.place.writer < below
  pub block : 0 < times n.block (ids_of slots)

named_by : (n : Named) (file below first : ℕ) (slots : List Slot) → list_all (λ (slot : Slot). ltb slot.writer below) slots ≡ true → IsIn n (names_from file first slots) → IsNameOf n file below slots
named_by n file below first [] all i = absurd i
named_by n file below first (x ∷ xs) all i = grind (arith, nat_tests, named_by n file below (first + 1) xs)

head_below : (s : Store) (t : Tagged) (ts : List Tagged) → late s (t ∷ ts) ≡ 0 → is_below s t ≡ true
head_below s t ts h = grind (arith, nat_tests)

pub owned_names : (s : Store) (n : Named) (ts : List Tagged) → late s ts ≡ 0 → IsIn n (names_in s ts) → 0 < backing s.leaves n.block
owned_names s n [] h i = absurd i
owned_names s n (t ∷ ts) h i = grind (arith, nat_tests, in_either n (names_of s t.file t.layout) (names_in s ts) i, slots_backed s t.layout.leaves n.block, named_by n t.file t.below 0 (slots_of s t.layout), owned_names s n ts)

none_by : (s : Store) (file writer : ℕ) (ts : List Tagged) → late s ts ≡ 0 → AllByRecursion (IsEarlier file writer) ts → NoneBy file writer (names_in s ts)
none_by s file writer [] h all n i of by = absurd i
none_by s file writer (t ∷ ts) h all n i of by = grind (arith, in_either n (names_of s t.file t.layout) (names_in s ts) i, named_by n t.file t.below 0 (slots_of s t.layout) (head_below s t ts h), all.0.earlier, none_by s file writer ts (omega (arith, h)) all.1 n)

-- ---- writers by place

all_places : (p : Slot → Bool) (slots : List Slot) → ((k : ℕ) (x : Slot) → slice_get slots k ≡ Some x → p x ≡ true) → list_all p slots ≡ true
all_places p [] each = refl
all_places p (x ∷ xs) each = grind (arith, nat_tests, each 0 x refl, all_places p xs (λ k y e. each (suc k) y e))

at_place : (p : Slot → Bool) (slots : List Slot) (k : ℕ) (x : Slot) → list_all p slots ≡ true → slice_get slots k ≡ Some x → p x ≡ true
at_place p [] k x all e = absurd cc
at_place p (y ∷ ys) k x all e = grind (arith, nat_tests, at_place p ys)

below_renewed : (s t : Store) (writer below : ℕ) (p : ℕ → Bool) (was now : Layout) → below ≡ writer + 1 → Renews s t writer p was now → list_all (λ (slot : Slot). ltb slot.writer below) (slots_of s was) ≡ true → list_all (λ (slot : Slot). ltb slot.writer below) (slots_of t now) ≡ true
below_renewed s t writer below p was now is renews all = grind (arith, nat_tests, all_places, at_place, slice_get_within)

below_more : (below more : ℕ) (slots : List Slot) → below ≤ more → list_all (λ (slot : Slot). ltb slot.writer below) slots ≡ true → list_all (λ (slot : Slot). ltb slot.writer more) slots ≡ true
below_more below more [] le all = refl
below_more below more (x ∷ xs) le all = grind (arith, nat_tests, below_more below more xs)

-- ---- the laws

tally-layouts : (f : Layout → ℕ) (ts : List Tagged) → tally f (layouts_of ts) ≡ tally (λ t. f t.layout) ts
tally-layouts f [] = refl
tally-layouts f (t ∷ ts) = omega (arith, tally-layouts f ts)

pub in_same : (s : Store) (ts us : List Tagged) → SameStock ts us → IsStocked s ts → IsStocked s us
in_same s ts us same h =
    let by : (f : Layout → ℕ) → tally f (layouts_of ts) ≡ tally f (layouts_of us) = λ f. tally-layouts f ts ∙ (same_tally ts us same (λ t. f t.layout) ∙ sym (tally-layouts f us)) in
    grind (arith, h.owed, h.written, λ (leaf : ℕ). by (λ m. times leaf m.leaves), by (λ m. cond (is_whole s m) 0 1), same_tally ts us same (λ t. cond (is_below s t) 0 1), fewer (names_in s us) (names_in s ts) (same_in s ts us same) h.one_to_one)

module _ (s t : Store) (ts : List Tagged) (was : Tagged) (rest : List Tagged) (stocked : IsStocked s ts) (apart : SameStock ts (was ∷ rest)) where
  h : IsStocked s (was ∷ rest)
  h = in_same s ts (was ∷ rest) apart stocked

  all_written : late s rest ≡ 0
  all_written = let e = h.written in omega (arith, e)

  was_below : is_below s was ≡ true
  was_below = head_below s was rest h.written

  goes : Moves s t (was.layout ∷ []) [] → Stays s t rest rest
  goes moves =
      let one = fewer (names_in s rest) (names_in s (was ∷ rest)) (λ n i. in_back n (names_of s was.file was.layout) (names_in s rest) i) h.one_to_one in
      grind (arith, rest_stays s t (was.layout ∷ []) [] moves rest h.owed, one, moves_owes s t (was.layout ∷ []) [] moves rest h.owed, all_written)

  copies : (below : ℕ) (us : List Tagged) → was.below ≤ below → Moves s t [] (was.layout ∷ []) → SameStock us (record was { below = below } ∷ ts) → Stays s t ts us
  copies below us le moves same =
      let stay = rest_stays s t [] (was.layout ∷ []) moves ts stocked.owed in
      let mine = (its_leaves s t [] (was.layout ∷ []) moves ts stocked.owed was.layout (λ leaf. omega (arith, h.owed.counted leaf))).slots in
      let one = fewer (names_in s (was ∷ ts)) (names_in s ts) (λ n i. grind (arith, same_in s ts (was ∷ rest) apart n, in_front n (names_of s was.file was.layout) (names_in s rest), in_either n (names_of s was.file was.layout) (names_in s ts) i)) stocked.one_to_one in
      let all : IsStocked t (record was { below = below } ∷ ts) = grind (arith, moves_owes s t [] (was.layout ∷ []) moves ts stocked.owed, mine, stay, one, below_more was.below below (slots_of s was.layout) le was_below, stocked.written) in
      record { stocked = in_same t (record was { below = below } ∷ ts) us (record { sums = λ f. sym (same.sums f) }) all; shows = stay.shows }

  rewrites : (writer : ℕ) (renewed : ℕ → Bool) (now : Layout) (us : List Tagged) → was.below ≡ writer + 1 → AllByRecursion (IsEarlier was.file writer) rest → Moves s t (was.layout ∷ []) (now ∷ []) → Renews s t writer renewed was.layout now → SameStock us (record was { layout = now } ∷ rest) → Stays s t rest us
  rewrites writer renewed now us is others moves renews same =
      let stay = rest_stays s t (was.layout ∷ []) (now ∷ []) moves rest h.owed in
      let one = stays_one_to_one s t writer was.file renewed was.layout now (names_in s rest) (owes_lives s was.layout (layouts_of rest) h.owed) moves renews (none_by s was.file writer rest all_written others) (λ n i. omega (arith, owned_names s n rest all_written i, h.owed.backed n.block)) h.one_to_one in
      let all : IsStocked t (record was { layout = now } ∷ rest) = grind (arith, stay, one, moves_owes s t (was.layout ∷ []) (now ∷ []) moves rest h.owed, below_renewed s t writer was.below renewed was.layout now is renews was_below, all_written) in
      record { stocked = in_same t (record was { layout = now } ∷ rest) us (record { sums = λ f. sym (same.sums f) }) all; shows = stay.shows }

slot-blocks : (file first : ℕ) (slots : List Slot) → map (λ (n : Named). n.block) (names_from file first slots) ≡ ids_of slots
slot-blocks file first [] = refl
slot-blocks file first (x ∷ xs) = ap (λ bs. x.block ∷ bs) (slot-blocks file (first + 1) xs)

blocks_named : (s : Store) (ts : List Tagged) → map (λ (n : Named). n.block) (names_in s ts) ≡ blocks_of s (layouts_of ts)
blocks_named s [] = refl
blocks_named s (t ∷ ts) = rw (map-append (λ (n : Named). n.block) (names_of s t.file t.layout) (names_in s ts), slot-blocks t.file 0 (slots_of s t.layout), blocks_named s ts) refl

pub stock_laws : StockLaws
stock_laws = record {
  none = record { owed = record { counted = λ leaf. refl; backed = λ id. refl; whole = refl }; one_to_one = λ m n i j. absurd i; written = refl };
  same = in_same;
  empty = λ s file below ts h. grind (arith, h);
  no_empty = λ s file below ts h. grind (arith, h);
  empty_lives = λ s. record { owned = record { owned = λ id. omega arith }; backed = λ id some. absurd (omega (arith, some)); whole = refl };
  lives = λ s t ts h. owes_lives s t.layout (layouts_of ts) h.owed;
  long = λ s m lives. length-content s m lives.whole;
  short = λ s m lives. (whole_is s m lives.whole).short;
  owned = λ s m k slot lives got. slot_owned s m lives k slot got;
  slots = λ s m lives. slots-count s m lives.whole;
  few = λ s ts h few. record { few = λ leaf. omega (arith, h.owed.counted leaf, named_few s leaf (layouts_of ts) h.owed.whole, few, length-map ts (λ (t : Tagged). t.layout)) };
  blocks = λ s ts h. rw (← blocks_named s ts) (sym (as_many (names_in s ts) h.one_to_one));
  gone = goes;
  copied = λ s t ts was rest below us h apart. copies s t ts was rest h apart below us;
  rewritten = λ s t ts was rest writer renewed now us h apart. rewrites s t ts was rest h apart writer renewed now us;
}
