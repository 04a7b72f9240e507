-- Words of paths with tags, cut at their first marks.
use Rattle.ele_path.proofs.Basics.{◌≡◌, ℕ, ◌≤◌, true, false, not, nat_lt, List, [], ◌∷◌, ◌++◌, length, refl, sym, ap, subst, ◌∙◌, arith, suc, Some, None, Option, Ok, Err, Result, ◌⊎◌, All, position, position_or_len, nat_tests, All-head, All-tail, All-weaker, All-append, All-cons, AllPass-from_list_all, prefix_len-le-length}
use Rattle.ele_path.proofs.Words.{IsName, is_name_byte, SpellsNumber, SpellsMoment, PathFault, BadMoment, BadPath, NoMemory, Tag, Now, At, Number, TaggedPath, is_tag_text, path_fault, SpellsPath, path_text, is_mark, SpellsTag, SpellsTaggedPath, path_part, tag_part, IsTagFault, no_moment, no_number}
use Rattle.ele_path.proofs.Spelled.{one_path, no_other_fault}

-- a word with no mark is all path
pub unmarked : (word : List ℕ) → position is_mark word ≡ None → length word ≡ position_or_len is_mark word
unmarked word none = grind (arith, nat_tests, position_or_len, is_mark, prefix_len-le-length, not, nat_lt)

pub cut_fits : (word : List ℕ) → position_or_len is_mark word ≤ length word
cut_fits word = prefix_len-le-length (λ b. not (is_mark b)) word

-- a byte that is no mark belongs to the path
unmarked_step : (byte : ℕ) (word : List ℕ) → is_mark byte ≡ false → (path_part (byte ∷ word) ≡ byte ∷ path_part word) × (tag_part (byte ∷ word) ≡ tag_part word)
unmarked_step byte word plain = grind (arith, nat_tests, position_or_len, is_mark, suc)

-- the text of a tag begins after the path
pub tag_begins : (word : List ℕ) → is_tag_text (tag_part word) ≡ true
tag_begins [] = refl
tag_begins (byte ∷ word) = elim (is_mark byte) as (λ b. is_mark byte ≡ b → is_tag_text (tag_part (byte ∷ word)) ≡ true) [
  | true ↦ λ is. rw is is
  | false ↦ λ is. rw (unmarked_step byte word is).1 (tag_begins word)
] refl

plain_unmarked : (byte : ℕ) → is_name_byte byte ≡ true → is_mark byte ≡ false
plain_unmarked byte plain = grind (arith, nat_tests)

abbrev HasNoMark : List ℕ → Type 0
HasNoMark text = All (λ byte. is_mark byte ≡ false) text

names_unmarked : (names : List (List ℕ)) → All IsName names → HasNoMark (path_text names)
names_unmarked [] are = λ k d lt. absurd (omega arith)
names_unmarked (name ∷ names) are =
    All-cons (λ byte. is_mark byte ≡ false) 47 (name ++ path_text names) refl
    (All-append (λ byte. is_mark byte ≡ false) name (path_text names)
    (All-weaker _ _ plain_unmarked name (AllPass-from_list_all _ name (All-head IsName name names are).plain))
    (names_unmarked names (All-tail IsName name names are)))

path_unmarked : (text : List ℕ) (names : List (List ℕ)) → SpellsPath text names → HasNoMark text
path_unmarked text names h = grind (arith, nat_tests, is_mark, names_unmarked)

tag_marked : (text : List ℕ) (tag : Tag) → SpellsTag text tag → is_tag_text text ≡ true
tag_marked text tag h = grind (arith, nat_tests)

-- a text without a mark, and that of a tag after it, are cut between the two
cut_between : (text tag : List ℕ) → HasNoMark text → is_tag_text tag ≡ true → (text ≡ path_part (text ++ tag)) × (tag ≡ tag_part (text ++ tag))
cut_between [] [] none begins = (refl, refl)
cut_between [] (mark ∷ tag) none begins = rw begins (refl, refl)
cut_between (byte ∷ text) tag none begins =
    let step = unmarked_step byte (text ++ tag) (All-head (λ byte. is_mark byte ≡ false) byte text none) in
    let more = cut_between text tag (All-tail (λ byte. is_mark byte ≡ false) byte text none) begins in
    (ap (λ (text : List ℕ). byte ∷ text) more.0 ∙ sym step.0, more.1 ∙ sym step.1)

-- so a word that spells a path with a tag is cut between the two
pub spelled_parts : (word : List ℕ) (value : TaggedPath) → SpellsTaggedPath word value → SpellsPath (path_part word) value.path × SpellsTag (tag_part word) value.tag
spelled_parts word value h =
    let cut = cut_between h.path_text h.tag_text (path_unmarked h.path_text value.path h.path) (tag_marked h.tag_text value.tag h.tag) in
    (subst (λ text. SpellsPath text value.path) (cut.0 ∙ ap path_part (sym h.are)) h.path, subst (λ text. SpellsTag text value.tag) (cut.1 ∙ ap tag_part (sym h.are)) h.tag)

-- a word that spells a path with a tag has no fault but want of memory
pub no_path_fault : (word : List ℕ) (value : TaggedPath) (fault : PathFault) → SpellsTaggedPath word value → (fault ≡ NoMemory) ⊎ (path_fault (path_part word) ≡ Some fault) → fault ≡ NoMemory
no_path_fault word value fault h bad = no_other_fault (path_part word) value.path fault (spelled_parts word value h).0 bad

pub ok_is : {A E : Type 0} {x y : A} → ◌≡◌ {A = Result A E} (Ok x) (Ok y) → x ≡ y
ok_is h = cc

-- and what its parts are read as is what it spells
pub one_value : (word : List ℕ) (value : TaggedPath) (names : List (List ℕ)) (tag : Tag) → SpellsTaggedPath word value → SpellsPath (path_part word) names → ((t : Tag) → SpellsTag (tag_part word) t → ◌≡◌ {A = Result Tag PathFault} (Ok tag) (Ok t)) → ◌≡◌ {A = TaggedPath} (record { path = names; tag = tag }) value
one_value word value names tag h path only =
    let parts = spelled_parts word value h in
    let same_path = one_path (path_part word) names value.path path parts.0 in
    let same_tag = ok_is (only value.tag parts.1) in
    λ i. record { path = same_path i; tag = same_tag i }

pub no_tag_fault : (word : List ℕ) (value : TaggedPath) (fault : PathFault) → SpellsTaggedPath word value → ((t : Tag) → SpellsTag (tag_part word) t → ◌≡◌ {A = Result Tag PathFault} (Err fault) (Ok t)) → ⊥
no_tag_fault word value fault h only = let read = only value.tag (spelled_parts word value h).1 in cc

-- a moment after `@` is one tag
pub at_only : {E : Type 0} (text rest : List ℕ) (moment : ℕ) → text ≡ 64 ∷ rest → ((m : ℕ) → SpellsMoment rest m → ◌≡◌ {A = Result ℕ E} (Ok moment) (Ok m)) → (tag : Tag) → SpellsTag text tag → ◌≡◌ {A = Result Tag PathFault} (Ok (At moment)) (Ok tag)
at_only text rest moment is only tag h = behind tag (subst (λ text. SpellsTag text tag) is h) where
  behind : (tag : Tag) → SpellsTag (64 ∷ rest) tag → ◌≡◌ {A = Result Tag PathFault} (Ok (At moment)) (Ok tag)
  behind Now h = absurd h
  behind (At m) h = ap (λ m. Ok (At m)) (ok_is (only m h.1))
  behind (Number n) h = absurd (omega (arith, h.0))

pub at_fault : {E : Type 0} (text rest : List ℕ) (e : E) → text ≡ 64 ∷ rest → ((m : ℕ) → SpellsMoment rest m → ◌≡◌ {A = Result ℕ E} (Err e) (Ok m)) → IsTagFault text BadMoment
at_fault text rest e is only = no_moment rest is (λ m spells. let read = only m spells in cc) refl

-- what is after another mark than `@` is after `#`
pub number_fault : (text rest : List ℕ) (mark : ℕ) → is_tag_text text ≡ true → text ≡ mark ∷ rest → (mark ≡ 64 → ⊥) → ((n : ℕ) → SpellsNumber rest n → ◌≡◌ {A = Option ℕ} None (Some n)) → IsTagFault text BadPath
number_fault text rest mark begins is other only = no_number rest (grind (arith, nat_tests)) (λ n spells. let read = only n spells in cc) refl
