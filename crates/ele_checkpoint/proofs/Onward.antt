-- What was read stays so, whatever bytes follow.
use Rattle.std.proofs.Common.{◌≡◌, ℕ, zero, suc, ◌+◌, ◌<◌, ◌≤◌, Bool, true, false, cond, eqb, ltb, List, [], ◌∷◌, ◌++◌, length, take, drop, Option, Some, None, Result, Ok, Err, refl, sym, ap, subst, ◌∙◌, append_assoc, arith, inl, inr}
use Rattle.std.specs.Prelude.{slice_get}
use Rattle.std.proofs.lemmas.Bool.{cases_lt, le-ltb, lt-ltb}
use Rattle.std.proofs.lemmas.List.{take-append-le, drop-append-le, length-append}
use Rattle.ele_content.specs.declared.cell.Cell.{Cell}
use Rattle.ele_model.specs.declared.flat.Flat.{Flat}
use Rattle.ele_model.specs.declared.rows.VersionRow.{VersionRow}
use Rattle.ele_checkpoint.specs.declared.fault.Mistake.{Mistake}
use Rattle.ele_checkpoint.specs.Reading.{◌>>=◌}
use Rattle.ele_checkpoint.proofs.Forms.{bind_ok, ok_is}
use Rattle.ele_checkpoint.specs.Contents.{base_after, base_of}
use Rattle.ele_checkpoint.specs.PartsRead.{joined, digits_at, number_at, items_at, list_at, string_at, truth_at, moment_at, maybe_at, name_at, rung_at, safe_at, ladder_at, policy_at, target_at, reads_at, directory_at, file_at, name_row_at, handle_at, mark_at, group_at, cell_at, slot_at, slots_at, content_at, version_at, each_version_at, versions_at, draft_at, drafts_at, three_at, counts_at, limits_at, whole_at}

-- what a first reading gives, a second one gives too, with more bytes after those that are left
pub record Stays {X : Type 0} (more : List ℕ) (r s : Result (X × List ℕ) Mistake) : Type 0 where
  pub same : (x : X) (rest : List ℕ) → r ≡ Ok (x, rest) → s ≡ Ok (x, rest ++ more)

abbrev pub IsOnward : {X : Type 0} → (List ℕ → Result (X × List ℕ) Mistake) → Type 0
IsOnward at = (bytes more : List ℕ) → Stays more (at bytes) (at (bytes ++ more))

module _ {X : Type 0} where
  onward : (x : X) (rest more : List ℕ) → Stays more (Ok (x, rest)) (Ok (x, rest ++ more))
  onward x rest more = record { same = λ y after e. ap (λ (p : X × List ℕ). Ok (p.0, p.1 ++ more)) (ok_is (x, rest) (y, after) e) }

  none : (d : Mistake) (more : List ℕ) (s : Result (X × List ℕ) Mistake) → Stays more (Err d) s
  none d more s = record { same = λ y after e. absurd cc }

  -- one test in both readings
  one_test : (b : Bool) (more : List ℕ) (r s r' s' : Result (X × List ℕ) Mistake) → Stays more r s → Stays more r' s' → Stays more (cond b r r') (cond b s s')
  one_test true more r s r' s' same same' = same
  one_test false more r s r' s' same same' = same'

module _ {A B : Type 0} where
  step : (more : List ℕ) (r s : Result (A × List ℕ) Mistake) (f g : A × List ℕ → Result (B × List ℕ) Mistake) → Stays more r s → ((x : A) (rest : List ℕ) → Stays more (f (x, rest)) (g (x, rest ++ more))) → Stays more (r >>= f) (s >>= g)
  step more r s f g first then =
      record {
        same = λ y after e.
            let b = bind_ok r f (y, after) e in
            ap (λ (t : Result (A × List ℕ) Mistake). t >>= g) (first.same b.0.0 b.0.1 b.1) ∙ (then b.0.0 b.0.1).same y after b.2;
      }

number_from : (n : ℕ) → IsOnward (digits_at n)
unfolding digits_at joined
number_from zero [] more = none _ _ _
number_from zero (byte ∷ bytes) more = one_test (ltb byte 128) more _ _ _ _ (onward _ _ _) (none _ _ _)
number_from (suc n) [] more = none _ _ _
number_from (suc n) (byte ∷ bytes) more =
    one_test (ltb byte 128) more _ _ _ _ (onward _ _ _)
    (step more (digits_at n bytes) (digits_at n (bytes ++ more)) _ _ (number_from n bytes more) (λ high rest. one_test (ltb 255 byte) more _ _ _ _ (none _ _ _) (one_test (eqb high 0) more _ _ _ _ (none _ _ _) (one_test (ltb 144115188075855871 high) more _ _ _ _ (none _ _ _) (onward _ _ _)))))

number : IsOnward number_at
unfolding number_at
number bytes more = number_from 9 bytes more

items_from : {X : Type 0} (at : List ℕ → Result (X × List ℕ) Mistake) (n : ℕ) → IsOnward at → IsOnward (items_at at n)
unfolding items_at
items_from at zero one bytes more = onward _ _ _
items_from at (suc n) one bytes more =
    step more (at bytes) (at (bytes ++ more)) _ _ (one bytes more) (λ first rest. step more (items_at at n rest) (items_at at n (rest ++ more)) _ _ (items_from at n one rest more) (λ others after. onward _ _ _))

list : {X : Type 0} (at : List ℕ → Result (X × List ℕ) Mistake) → IsOnward at → IsOnward (list_at at)
unfolding list_at
list at one bytes more = step more (number_at bytes) (number_at (bytes ++ more)) _ _ (number bytes more) (λ count rest. items_from at count one rest more)

-- ---- values

part : (n : ℕ) (rest more : List ℕ) (d e : Mistake) → Stays more (cond (ltb (length rest) n) (Err d) (Ok (take n rest, drop n rest))) (cond (ltb (length (rest ++ more)) n) (Err e) (Ok (take n (rest ++ more), drop n (rest ++ more))))
part n rest more d e =
    elim (cases_lt (length rest) n) [
      | inl few ↦ rw (lt-ltb (length rest) n few) (none _ _ _)
      | inr le ↦ rw (le-ltb (length rest) n le, le-ltb (length (rest ++ more)) n (omega (arith, length-append rest more, le)), take-append-le n rest more le, drop-append-le n rest more le) (onward _ _ _)
    ]

string : IsOnward string_at
unfolding string_at
string bytes more = step more (number_at bytes) (number_at (bytes ++ more)) _ _ (number bytes more) (λ count rest. part count rest more _ _)

truth : IsOnward truth_at
unfolding truth_at
truth [] more = none _ _ _
truth (zero ∷ bytes) more = onward _ _ _
truth (suc zero ∷ bytes) more = onward _ _ _
truth (suc (suc byte) ∷ bytes) more = none _ _ _

moment : IsOnward moment_at
unfolding moment_at
moment bytes more = step more (number_at bytes) (number_at (bytes ++ more)) _ _ (number bytes more) (λ seconds rest. one_test _ more _ _ _ _ (onward _ _ _) (none _ _ _))

maybe : IsOnward maybe_at
unfolding maybe_at
maybe [] more = none _ _ _
maybe (zero ∷ bytes) more = onward _ _ _
maybe (suc zero ∷ bytes) more = step more (moment_at bytes) (moment_at (bytes ++ more)) _ _ (moment bytes more) (λ seconds rest. onward _ _ _)
maybe (suc (suc byte) ∷ bytes) more = none _ _ _

name : IsOnward name_at
unfolding name_at
name bytes more = step more (string_at bytes) (string_at (bytes ++ more)) _ _ (string bytes more) (λ word rest. one_test _ more _ _ _ _ (onward _ _ _) (none _ _ _))

rung : IsOnward rung_at
unfolding rung_at
rung bytes more = step more (number_at bytes) (number_at (bytes ++ more)) _ _ (number bytes more) (λ age rest. step more (number_at rest) (number_at (rest ++ more)) _ _ (number rest more) (λ width after. onward _ _ _))

safe : IsOnward safe_at
unfolding safe_at
safe bytes more = step more (number_at bytes) (number_at (bytes ++ more)) _ _ (number bytes more) (λ interval rest. step more (number_at rest) (number_at (rest ++ more)) _ _ (number rest more) (λ floor after. one_test _ more _ _ _ _ (onward _ _ _) (none _ _ _)))

ladder : IsOnward ladder_at
unfolding ladder_at
ladder bytes more = step more (list_at rung_at bytes) (list_at rung_at (bytes ++ more)) _ _ (list rung_at rung bytes more) (λ rungs rest. one_test _ more _ _ _ _ (onward _ _ _) (none _ _ _))

policy : IsOnward policy_at
unfolding policy_at
policy [] more = none _ _ _
policy (zero ∷ bytes) more = onward _ _ _
policy (suc zero ∷ bytes) more = onward _ _ _
policy (suc (suc zero) ∷ bytes) more = safe bytes more
policy (suc (suc (suc zero)) ∷ bytes) more = ladder bytes more
policy (suc (suc (suc (suc byte))) ∷ bytes) more = none _ _ _

target : IsOnward target_at
unfolding target_at
target [] more = none _ _ _
target (zero ∷ bytes) more = step more (number_at bytes) (number_at (bytes ++ more)) _ _ (number bytes more) (λ id rest. onward _ _ _)
target (suc zero ∷ bytes) more = step more (number_at bytes) (number_at (bytes ++ more)) _ _ (number bytes more) (λ id rest. onward _ _ _)
target (suc (suc byte) ∷ bytes) more = none _ _ _

reads : IsOnward reads_at
unfolding reads_at
reads [] more = none _ _ _
reads (zero ∷ bytes) more = step more (number_at bytes) (number_at (bytes ++ more)) _ _ (number bytes more) (λ file rest. onward _ _ _)
reads (suc zero ∷ bytes) more = step more (number_at bytes) (number_at (bytes ++ more)) _ _ (number bytes more) (λ file rest. step more (number_at rest) (number_at (rest ++ more)) _ _ (number rest more) (λ version after. onward _ _ _))
reads (suc (suc byte) ∷ bytes) more = none _ _ _

-- ---- rows

directory : IsOnward directory_at
unfolding directory_at
directory b more = step more (number_at b) (number_at (b ++ more)) _ _ (number b more) (λ id b2. step more (policy_at b2) (policy_at (b2 ++ more)) _ _ (policy b2 more) (λ default b3. onward _ _ _))

file : IsOnward file_at
unfolding file_at
file b more = step more (number_at b) (number_at (b ++ more)) _ _ (number b more) (λ id b2. step more (policy_at b2) (policy_at (b2 ++ more)) _ _ (policy b2 more) (λ rule b3. step more (number_at b3) (number_at (b3 ++ more)) _ _ (number b3 more) (λ next b4. onward _ _ _)))

name_row : IsOnward name_row_at
unfolding name_row_at
name_row b more =
    step more (number_at b) (number_at (b ++ more)) _ _ (number b more) (λ parent b2.
    step more (name_at b2) (name_at (b2 ++ more)) _ _ (name b2 more) (λ word b3.
    step more (target_at b3) (target_at (b3 ++ more)) _ _ (target b3 more) (λ meant b4.
    step more (moment_at b4) (moment_at (b4 ++ more)) _ _ (moment b4 more) (λ birth b5.
    step more (maybe_at b5) (maybe_at (b5 ++ more)) _ _ (maybe b5 more) (λ death b6. onward _ _ _)))))

handle : IsOnward handle_at
unfolding handle_at
handle b more = step more (number_at b) (number_at (b ++ more)) _ _ (number b more) (λ own b2. step more (reads_at b2) (reads_at (b2 ++ more)) _ _ (reads b2 more) (λ read b3. onward _ _ _))

mark : IsOnward mark_at
unfolding mark_at
mark b more = step more (moment_at b) (moment_at (b ++ more)) _ _ (moment b more) (λ at b2. step more (maybe_at b2) (maybe_at (b2 ++ more)) _ _ (maybe b2 more) (λ until b3. onward _ _ _))

group : IsOnward group_at
unfolding group_at
group b more =
    step more (name_at b) (name_at (b ++ more)) _ _ (name b more) (λ word b2.
    step more (list_at number_at b2) (list_at number_at (b2 ++ more)) _ _ (list number_at number b2 more) (λ members b3.
    step more (list_at mark_at b3) (list_at mark_at (b3 ++ more)) _ _ (list mark_at mark b3 more) (λ marks b4. onward _ _ _)))

-- ---- contents

cell : IsOnward cell_at
unfolding cell_at
cell b more = step more (number_at b) (number_at (b ++ more)) _ _ (number b more) (λ writer b2. step more (string_at b2) (string_at (b2 ++ more)) _ _ (string b2 more) (λ held b3. onward _ _ _))

slot : (before : Option Cell) (kept : ℕ) → IsOnward (slot_at before kept)
unfolding slot_at
slot None (suc kept) b more = none _ _ _
slot (Some earlier) (suc kept) b more = onward _ _ _
slot None zero b more = step more (cell_at b) (cell_at (b ++ more)) _ _ (cell b more) (λ told b2. step more (number_at b2) (number_at (b2 ++ more)) _ _ (number b2 more) (λ kept b3. onward _ _ _))
slot (Some earlier) zero b more = step more (cell_at b) (cell_at (b ++ more)) _ _ (cell b more) (λ told b2. step more (number_at b2) (number_at (b2 ++ more)) _ _ (number b2 more) (λ kept b3. one_test _ more _ _ _ _ (none _ _ _) (onward _ _ _)))

slots : (base : List Cell) (n at kept : ℕ) → IsOnward (slots_at base n at kept)
unfolding slots_at
slots base zero at kept b more = one_test _ more _ _ _ _ (onward _ _ _) (none _ _ _)
slots base (suc n) at kept b more =
    step more (slot_at (slice_get base at) kept b) (slot_at (slice_get base at) kept (b ++ more)) _ _ (slot (slice_get base at) kept b more) (λ first b2.
    step more (slots_at base n (at + 1) first.1 b2) (slots_at base n (at + 1) first.1 (b2 ++ more)) _ _ (slots base n (at + 1) first.1 b2 more) (λ others b3. onward _ _ _))

content : (base : List Cell) → IsOnward (content_at base)
unfolding content_at
content base b more =
    step more (number_at b) (number_at (b ++ more)) _ _ (number b more) (λ count b2.
    step more (number_at b2) (number_at (b2 ++ more)) _ _ (number b2 more) (λ kept b3. slots base count 0 kept b3 more))

version : (before : Option VersionRow) → IsOnward (version_at before)
unfolding version_at
version before b more =
    step more (number_at b) (number_at (b ++ more)) _ _ (number b more) (λ file b2.
    step more (number_at b2) (number_at (b2 ++ more)) _ _ (number b2 more) (λ own b3.
    step more (moment_at b3) (moment_at (b3 ++ more)) _ _ (moment b3 more) (λ opened b4.
    step more (moment_at b4) (moment_at (b4 ++ more)) _ _ (moment b4 more) (λ closed b5.
    step more (maybe_at b5) (maybe_at (b5 ++ more)) _ _ (maybe b5 more) (λ ended b6.
    step more (content_at (base_after before file) b6) (content_at (base_after before file) (b6 ++ more)) _ _ (content (base_after before file) b6 more) (λ cells b7. onward _ _ _))))))

each_version : (before : Option VersionRow) (n : ℕ) → IsOnward (each_version_at before n)
unfolding each_version_at
each_version before zero b more = onward _ _ _
each_version before (suc n) b more =
    step more (version_at before b) (version_at before (b ++ more)) _ _ (version before b more) (λ first b2.
    step more (each_version_at (Some first) n b2) (each_version_at (Some first) n (b2 ++ more)) _ _ (each_version (Some first) n b2 more) (λ others b3. onward _ _ _))

versions : IsOnward versions_at
unfolding versions_at
versions b more = step more (number_at b) (number_at (b ++ more)) _ _ (number b more) (λ count b2. each_version None count b2 more)

draft : (rows : List VersionRow) → IsOnward (draft_at rows)
unfolding draft_at
draft rows b more =
    step more (number_at b) (number_at (b ++ more)) _ _ (number b more) (λ file b2.
    step more (moment_at b2) (moment_at (b2 ++ more)) _ _ (moment b2 more) (λ opened b3.
    step more (truth_at b3) (truth_at (b3 ++ more)) _ _ (truth b3 more) (λ changed b4.
    step more (content_at (base_of rows file) b4) (content_at (base_of rows file) (b4 ++ more)) _ _ (content (base_of rows file) b4 more) (λ cells b5. onward _ _ _))))

drafts : (rows : List VersionRow) → IsOnward (drafts_at rows)
unfolding drafts_at
drafts rows b more = list (draft_at rows) (draft rows) b more

-- ---- the world

three : IsOnward three_at
unfolding three_at
three b more =
    step more (number_at b) (number_at (b ++ more)) _ _ (number b more) (λ one b2.
    step more (number_at b2) (number_at (b2 ++ more)) _ _ (number b2 more) (λ two b3.
    step more (number_at b3) (number_at (b3 ++ more)) _ _ (number b3 more) (λ last b4. onward _ _ _)))

counts : IsOnward counts_at
unfolding counts_at
counts b more =
    step more (three_at b) (three_at (b ++ more)) _ _ (three b more) (λ one b2.
    step more (three_at b2) (three_at (b2 ++ more)) _ _ (three b2 more) (λ two b3.
    step more (number_at b3) (number_at (b3 ++ more)) _ _ (number b3 more) (λ members b4.
    step more (number_at b4) (number_at (b4 ++ more)) _ _ (number b4 more) (λ marks b5. onward _ _ _))))

limits : IsOnward limits_at
unfolding limits_at
limits b more =
    step more (three_at b) (three_at (b ++ more)) _ _ (three b more) (λ one b2.
    step more (three_at b2) (three_at (b2 ++ more)) _ _ (three b2 more) (λ two b3.
    step more (three_at b3) (three_at (b3 ++ more)) _ _ (three b3 more) (λ last b4. one_test _ more _ _ _ _ (onward _ _ _) (none _ _ _))))

pub whole : IsOnward whole_at
unfolding whole_at
whole b more =
    step more (moment_at b) (moment_at (b ++ more)) _ _ (moment b more) (λ now b2.
    step more (list_at directory_at b2) (list_at directory_at (b2 ++ more)) _ _ (list directory_at directory b2 more) (λ directories b3.
    step more (list_at file_at b3) (list_at file_at (b3 ++ more)) _ _ (list file_at file b3 more) (λ files b4.
    step more (list_at name_row_at b4) (list_at name_row_at (b4 ++ more)) _ _ (list name_row_at name_row b4 more) (λ names b5.
    step more (versions_at b5) (versions_at (b5 ++ more)) _ _ (versions b5 more) (λ held b6.
    step more (drafts_at held b6) (drafts_at held (b6 ++ more)) _ _ (drafts held b6 more) (λ made b7.
    step more (list_at handle_at b7) (list_at handle_at (b7 ++ more)) _ _ (list handle_at handle b7 more) (λ handles b8.
    step more (list_at group_at b8) (list_at group_at (b8 ++ more)) _ _ (list group_at group b8 more) (λ groups b9.
    step more (counts_at b9) (counts_at (b9 ++ more)) _ _ (counts b9 more) (λ counted b10.
    step more (limits_at b10) (limits_at (b10 ++ more)) _ _ (limits b10 more) (λ most b11. onward _ _ _))))))))))

-- a world and all that follows it
pub whole_onward : (bytes : List ℕ) (flat : Flat) (more : List ℕ) → whole_at bytes ≡ Ok (flat, []) → whole_at (bytes ++ more) ≡ Ok (flat, more)
whole_onward bytes flat more e = (whole bytes more).same flat [] e
