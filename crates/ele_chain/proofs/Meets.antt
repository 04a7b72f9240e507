-- Two chains with one last hash, row by row from the last one on.
use Rattle.ele_chain.proofs.Basics.{Bool, true, false, Contains, Contains-append_left, Contains-push, List, [], ap, arith, bytes_eq, bytes_eq-Decides, inl, inr, length, refl, reverse, reverse-append, reverse-reverse, subst, sym, ℕ, ◌++◌, ◌∙◌, ◌∷◌, ◌≡◌, ◌⊎◌}
use Rattle.ele_chain.proofs.Grows.{last_goes_on}
use Rattle.ele_chain.proofs.Hashes.{line_length, same_hash}
use Rattle.ele_chain.specs.Chain.{hash_line, hashed, last_hash}
use Rattle.ele_chain.specs.OneChain.{BeginsWell, Collide, OneChain}

-- the list from its end
abbrev rev : List (List ℕ) → List (List ℕ)
rev [] = []
rev (u ∷ us) = rev us ++ u ∷ []

rev_is : (us : List (List ℕ)) → rev us ≡ reverse us
rev_is [] = refl
rev_is (u ∷ us) = ap (λ (vs : List (List ℕ)). vs ++ u ∷ []) (rev_is us) ∙ sym (reverse-append (u ∷ []) us)

-- ---- one row more

hashed_more : (above : List ℕ) (rows : List (List ℕ)) (row : List ℕ) → hashed above (rows ++ row ∷ []) ≡ hashed above rows ++ (last_hash above rows ++ row) ∷ []
hashed_more above [] row = refl
hashed_more above (r ∷ rows) row = ap (λ (texts : List (List ℕ)). (above ++ r) ∷ texts) (hashed_more (hash_line (above ++ r)) rows row)

hashed_last : (rows : List (List ℕ)) (row : List ℕ) → Contains (hashed [] (rows ++ row ∷ [])) (last_hash [] rows ++ row)
hashed_last rows row = rw (hashed_more [] rows row) (Contains-push (hashed [] rows) (last_hash [] rows ++ row))

hashed_first : (rows : List (List ℕ)) (row text : List ℕ) → Contains (hashed [] rows) text → Contains (hashed [] (rows ++ row ∷ [])) text
hashed_first rows row text h = rw (hashed_more [] rows row) (Contains-append_left (hashed [] rows) ((last_hash [] rows ++ row) ∷ []) text h)

collide_more : (rows others : List (List ℕ)) (row other : List ℕ) → Collide rows others → Collide (rows ++ row ∷ []) (others ++ other ∷ [])
collide_more rows others row other c = record {
  one = c.one;
  other = c.other;
  one_hashed = hashed_first rows row c.one c.one_hashed;
  other_hashed = hashed_first others other c.other c.other_hashed;
  differ = c.differ;
  same = c.same;
}

-- ---- the first row

begins_first : (rows : List (List ℕ)) (row first : List ℕ) → BeginsWell ((rows ++ first ∷ []) ++ row ∷ []) → BeginsWell (rows ++ first ∷ [])
begins_first [] row [] h = h
begins_first [] row (b ∷ bs) h = h
begins_first ([] ∷ rows) row first h = h
begins_first ((b ∷ bs) ∷ rows) row first h = h

no_hash : (row m rest : List ℕ) → BeginsWell (row ∷ []) → row ≡ hash_line m ++ rest → ⊥
no_hash [] m rest h e = h
no_hash (b ∷ bs) m rest h e = h (ap head e) where
  head : List ℕ → ℕ
  head [] = 0
  head (c ∷ cs) = c

-- ---- equal texts

cut_same : (xs ys us vs : List ℕ) → length xs ≡ length ys → xs ++ us ≡ ys ++ vs → (xs ≡ ys) × (us ≡ vs)
cut_same [] [] us vs e h = (refl, h)
cut_same [] (y ∷ ys) us vs e h = absurd (omega (arith, e))
cut_same (x ∷ xs) [] us vs e h = absurd (omega (arith, e))
cut_same (x ∷ xs) (y ∷ ys) us vs e h =
    let rest = cut_same xs ys us vs (omega (arith, e)) (ap tail h) in
    (cons_same x y xs ys (ap (head x) h) rest.0, rest.1) where
      head : ℕ → List ℕ → ℕ
      head d [] = d
      head d (c ∷ cs) = c

      tail : List ℕ → List ℕ
      tail [] = []
      tail (c ∷ cs) = cs

      cons_same : (x y : ℕ) (xs ys : List ℕ) → x ≡ y → xs ≡ ys → x ∷ xs ≡ y ∷ ys
      cons_same x y xs ys e h = cc

no_both : false ≡ true → ⊥
no_both e = absurd cc

-- the rows are the same or hashes collide, and so with one row more
with_row : (rows others : List (List ℕ)) (row other : List ℕ) → row ≡ other → (rows ≡ others) ⊎ Collide rows others → (rows ++ row ∷ [] ≡ others ++ other ∷ []) ⊎ Collide (rows ++ row ∷ []) (others ++ other ∷ [])
with_row rows others row other e (inl same) = inl (ap (λ (us : List (List ℕ)). us ++ row ∷ []) same ∙ ap (λ (u : List ℕ). others ++ u ∷ []) e)
with_row rows others row other e (inr collide) = inr (collide_more rows others row other collide)

abbrev Meet : List (List ℕ) → List (List ℕ) → Type 0
Meet rows others = BeginsWell rows → BeginsWell others → last_hash [] rows ≡ last_hash [] others → (rows ≡ others) ⊎ Collide rows others

-- the texts of the last hashes are the same
agree : (us vs : List (List ℕ)) (u v : List ℕ) → Meet (rev us) (rev vs) → BeginsWell (rev us ++ u ∷ []) → BeginsWell (rev vs ++ v ∷ []) → last_hash [] (rev us) ++ u ≡ last_hash [] (rev vs) ++ v
    → (rev us ++ u ∷ [] ≡ rev vs ++ v ∷ []) ⊎ Collide (rev us ++ u ∷ []) (rev vs ++ v ∷ [])
agree [] [] u v ih bu bv e = inl (ap (λ (row : List ℕ). row ∷ []) e)
agree [] (w ∷ ws) u v ih bu bv e = absurd (no_hash u (last_hash [] (rev ws) ++ w) v bu (e ∙ ap (λ (line : List ℕ). line ++ v) (last_goes_on [] (rev ws) w)))
agree (w ∷ ws) [] u v ih bu bv e = absurd (no_hash v (last_hash [] (rev ws) ++ w) u bv (sym e ∙ ap (λ (line : List ℕ). line ++ u) (last_goes_on [] (rev ws) w)))
agree (w ∷ ws) (x ∷ xs) u v ih bu bv e =
    let above = last_hash [] (rev (w ∷ ws)) in
    let other_above = last_hash [] (rev (x ∷ xs)) in
    let long : length above ≡ length other_above =
    ap length (last_goes_on [] (rev ws) w) ∙ line_length (last_hash [] (rev ws) ++ w) ∙ sym (ap length (last_goes_on [] (rev xs) x) ∙ line_length (last_hash [] (rev xs) ++ x)) in
    let parts = cut_same above other_above u v long e in
    with_row (rev (w ∷ ws)) (rev (x ∷ xs)) u v parts.1 (ih (begins_first (rev ws) u w bu) (begins_first (rev xs) v x bv) parts.0)

-- one row more in each, by whether the texts of the last hashes are the same
step : (same : Bool) (us vs : List (List ℕ)) (u v : List ℕ) → bytes_eq (last_hash [] (rev us) ++ u) (last_hash [] (rev vs) ++ v) ≡ same → Meet (rev us) (rev vs) → Meet (rev us ++ u ∷ []) (rev vs ++ v ∷ [])
step true us vs u v t ih bu bv e = agree us vs u v ih bu bv ((bytes_eq-Decides (last_hash [] (rev us) ++ u) (last_hash [] (rev vs) ++ v)).0 t)
step false us vs u v f ih bu bv e = inr (record {
  one = last_hash [] (rev us) ++ u;
  other = last_hash [] (rev vs) ++ v;
  one_hashed = hashed_last (rev us) u;
  other_hashed = hashed_last (rev vs) v;
  differ = λ same. no_both (sym f ∙ (bytes_eq-Decides (last_hash [] (rev us) ++ u) (last_hash [] (rev vs) ++ v)).1 same);
  same = same_hash (last_hash [] (rev us) ++ u) (last_hash [] (rev vs) ++ v) (sym (last_goes_on [] (rev us) u) ∙ e ∙ last_goes_on [] (rev vs) v);
})

meet : (us vs : List (List ℕ)) → Meet (rev us) (rev vs)
meet [] vs bu bv e = absurd bu
meet (u ∷ us) [] bu bv e = absurd bv
meet (u ∷ us) (v ∷ vs) bu bv e =
    step (bytes_eq (last_hash [] (rev us) ++ u) (last_hash [] (rev vs) ++ v)) us vs u v refl (meet us vs) bu bv e

pub one_chain : OneChain
one_chain rows others = subst (λ (us : List (List ℕ)). Meet us others) (rev_is (reverse rows) ∙ reverse-reverse rows)
    (subst (λ (vs : List (List ℕ)). Meet (rev (reverse rows)) vs) (rev_is (reverse others) ∙ reverse-reverse others) (meet (reverse rows) (reverse others)))
