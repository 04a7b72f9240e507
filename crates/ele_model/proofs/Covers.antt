-- How long marks hold: as long as the longest of them does, in any order.
use Rattle.ele_model.proofs.Basics.{nat_tests, arith, ◌≡◌, ℕ, ◌+◌, ◌<◌, ◌==◌, nat_lt, cond, Bool, true, false, ◌&&◌, ◌||◌, List, [], ◌∷◌, ◌++◌, Option, Some, None, refl, sym, length, get_or, take, take_more, append-nil, list_any, list_any-append, option_map_or, filter, filter-append, filter_map, flat_map, flat_map-append}
use Rattle.ele_model.proofs.Words.{Cover, Always, Free, Until, GroupRow, MarkRow, covers_moment, cover_by, cover_of, cover_until, ends_over, is_member, keeps_at, lasts, longer, marks_over}

-- the one keeps longer than the other
abbrev pub exceeds : Cover → Cover → Bool
exceeds Free Free = false
exceeds Free (Until other) = false
exceeds Free Always = false
exceeds (Until end) Free = true
exceeds (Until end) (Until other) = nat_lt other end
exceeds (Until end) Always = false
exceeds Always Free = true
exceeds Always (Until other) = true
exceeds Always Always = false

pub exceeds_longer : (a b d : Cover) → exceeds (longer a b) d ≡ (exceeds a d || exceeds b d)
exceeds_longer a b d = grind (arith, nat_tests)

-- so a cover is determined by what it exceeds
pub exceeds_same : (a b : Cover) → ((d : Cover) → exceeds a d ≡ exceeds b d) → a ≡ b
exceeds_same a b same = grind (arith, nat_tests, same a, same b)

-- ---- of marks

-- the mark covers, and keeps longer
abbrev pub reaches : ℕ → Option ℕ → Cover → MarkRow → Bool
reaches closed ended d mark = covers_moment closed ended mark.at && exceeds (cover_until mark.until) d

pub exceeds_by : (closed : ℕ) (ended : Option ℕ) (d : Cover) (marks : List MarkRow) → exceeds (cover_by closed ended marks) d ≡ list_any (reaches closed ended d) marks
exceeds_by closed ended d [] = grind (arith, nat_tests)
exceeds_by closed ended d (x ∷ xs) = grind (arith, nat_tests, exceeds_longer (cover_until x.until) (cover_by closed ended xs) d, exceeds_by closed ended d xs)

pub cover_append : (closed : ℕ) (ended : Option ℕ) (xs ys : List MarkRow) → cover_by closed ended (xs ++ ys) ≡ longer (cover_by closed ended xs) (cover_by closed ended ys)
cover_append closed ended xs ys = exceeds_same _ _ (λ d. grind (arith, nat_tests, exceeds_by closed ended d, exceeds_longer (cover_by closed ended xs) (cover_by closed ended ys) d, list_any-append (reaches closed ended d) xs ys))

-- ---- at a moment

lasts_longer : (a b : Cover) (at : ℕ) → lasts (longer a b) at ≡ (lasts a at || lasts b at)
lasts_longer a b at = grind (arith, nat_tests)

-- it lasts as long as one of the marks is in force
pub lasts_by : (closed : ℕ) (ended : Option ℕ) (at : ℕ) (marks : List MarkRow) → list_any (keeps_at closed ended at) marks ≡ lasts (cover_by closed ended marks) at
lasts_by closed ended at [] = refl
lasts_by closed ended at (x ∷ xs) = grind (arith, nat_tests, lasts_longer (cover_until x.until) (cover_by closed ended xs) at, lasts_by closed ended at xs)

-- the end, if there is a latest one, is that of a mark
end_more : (covers : Bool) (until : Option ℕ) (c : Cover) (end : ℕ) (rest : Bool) → (c ≡ Until end → rest ≡ true) → cond covers (longer (cover_until until) c) c ≡ Until end → cond covers (option_map_or (λ e. (e == end) || rest) until rest) rest ≡ true
end_more false until c end rest before is = before is
end_more true None Free end rest before is = absurd cc
end_more true None (Until other) end rest before is = absurd cc
end_more true None Always end rest before is = absurd cc
end_more true (Some e) Free end rest before is = grind (arith, nat_tests)
end_more true (Some e) (Until other) end rest before is = grind (arith, nat_tests)
end_more true (Some e) Always end rest before is = absurd cc

pub end_stands : (closed : ℕ) (ended : Option ℕ) (end : ℕ) (marks : List MarkRow) → cover_by closed ended marks ≡ Until end → list_any (λ m. m == end) (ends_over closed ended marks) ≡ true
end_stands closed ended end [] is = absurd cc
end_stands closed ended end (x ∷ xs) is = by (covers_moment closed ended x.at) x.until (end_more (covers_moment closed ended x.at) x.until (cover_by closed ended xs) end (list_any (λ m. m == end) (ends_over closed ended xs)) (end_stands closed ended end xs) is) where
  by : (covers : Bool) (until : Option ℕ) → cond covers (option_map_or (λ e. (e == end) || list_any (λ m. m == end) (ends_over closed ended xs)) until (list_any (λ m. m == end) (ends_over closed ended xs))) (list_any (λ m. m == end) (ends_over closed ended xs)) ≡ true
      → list_any (λ m. m == end) (filter_map (λ (mark : MarkRow). mark.until) (cond covers (record { at = x.at; until = until } ∷ filter (λ mark. covers_moment closed ended mark.at) xs) (filter (λ mark. covers_moment closed ended mark.at) xs))) ≡ true
  by false until h = h
  by true None h = h
  by true (Some e) h = h

-- ---- one more

longer_free : (c : Cover) → longer c Free ≡ c
longer_free Free = refl
longer_free (Until end) = refl
longer_free Always = refl

pub cover_more : (closed : ℕ) (ended : Option ℕ) (marks : List MarkRow) (i : ℕ) (x : MarkRow) → i < length marks → x ≡ get_or marks i x → cover_by closed ended (take (i + 1) marks) ≡ longer (cover_by closed ended (take i marks)) (cover_by closed ended (x ∷ []))
cover_more closed ended marks i x lt is = rw (take_more marks i x lt, ← is) (cover_append closed ended (take i marks) (x ∷ []))

pub cover_of_more : (rows : List GroupRow) (file closed : ℕ) (ended : Option ℕ) (i : ℕ) (x : GroupRow) → i < length rows → x ≡ get_or rows i x
    → cover_of (take (i + 1) rows) file closed ended ≡ longer (cover_of (take i rows) file closed ended) (cond (is_member file x) (cover_by closed ended x.marks) Free)
cover_of_more rows file closed ended i x lt is =
    rw (take_more rows i x lt, ← is, filter-append (is_member file) (take i rows) (x ∷ []), flat_map-append (λ (row : GroupRow). row.marks) (filter (is_member file) (take i rows)) (filter (is_member file) (x ∷ []))) (by (is_member file x)) where
      by : (b : Bool) → cover_by closed ended (marks_over (take i rows) file ++ flat_map (λ (row : GroupRow). row.marks) (cond b (x ∷ []) [])) ≡ longer (cover_of (take i rows) file closed ended) (cond b (cover_by closed ended x.marks) Free)
      by true = rw (append-nil x.marks) (cover_append closed ended (marks_over (take i rows) file) x.marks)
      by false = rw (append-nil (marks_over (take i rows) file)) (sym (longer_free (cover_of (take i rows) file closed ended)))
