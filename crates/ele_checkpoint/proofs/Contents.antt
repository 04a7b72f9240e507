-- A version and a draft are read as they were written, and no other bytes stand for them.
use Rattle.std.proofs.Common.{◌≡◌, ℕ, zero, suc, List, [], ◌∷◌, ◌++◌, length, Option, Some, None, Ok, refl, sym, ap, subst, ◌∙◌}
use Rattle.std.specs.List.{AllByRecursion}
use Rattle.ele_model.specs.declared.rows.VersionRow.{VersionRow}
use Rattle.ele_model.specs.declared.rows.DraftRow.{DraftRow}
use Rattle.ele_checkpoint.specs.Reading.{◌>>=◌}
use Rattle.ele_checkpoint.proofs.Forms.{IsForm, bind_ok, ok_is, both}
use Rattle.ele_checkpoint.specs.Number.{number_text}
use Rattle.ele_checkpoint.specs.PartsRead.{number_at, moment_at, maybe_at, truth_at, content_at, version_at, each_version_at, versions_at, draft_at, drafts_at}
use Rattle.ele_checkpoint.proofs.Numbers.{number_form}
use Rattle.ele_checkpoint.specs.Fits.{IsVersion, IsDraft, AreItems}
use Rattle.ele_checkpoint.specs.Values.{maybe_text, truth_text}
use Rattle.ele_checkpoint.specs.Cells.{content_text}
use Rattle.ele_checkpoint.specs.Contents.{base_after, version_text, each_version, versions_text, base_of, draft_text, drafts_text}
use Rattle.ele_checkpoint.proofs.Grouped.{grouped2, grouped4, grouped6}
use Rattle.ele_checkpoint.proofs.Lists.{list_form}
use Rattle.ele_checkpoint.proofs.Values.{moment_form, maybe_form, truth_form}
use Rattle.ele_checkpoint.proofs.Cells.{content_form}

version_takes : (before : Option VersionRow) (bytes : List ℕ) (x : VersionRow) (rest : List ℕ) → version_at before bytes ≡ Ok (x, rest) → bytes ≡ version_text before x ++ rest
unfolding version_at
version_takes before bytes x rest e =
    let s1 = bind_ok (number_at bytes) (λ v1. number_at v1.1 >>= λ v2. moment_at v2.1 >>= λ v3. moment_at v3.1 >>= λ v4. maybe_at v4.1 >>= λ v5. content_at (base_after before v1.0) v5.1 >>= λ v6. Ok (record { file = v1.0; number = v2.0; opened = v3.0; closed = v4.0; ended = v5.0; cells = v6.0 }, v6.1)) (x, rest) e in
    let s2 = bind_ok (number_at s1.0.1) (λ v2. moment_at v2.1 >>= λ v3. moment_at v3.1 >>= λ v4. maybe_at v4.1 >>= λ v5. content_at (base_after before s1.0.0) v5.1 >>= λ v6. Ok (record { file = s1.0.0; number = v2.0; opened = v3.0; closed = v4.0; ended = v5.0; cells = v6.0 }, v6.1)) (x, rest) s1.2 in
    let s3 = bind_ok (moment_at s2.0.1) (λ v3. moment_at v3.1 >>= λ v4. maybe_at v4.1 >>= λ v5. content_at (base_after before s1.0.0) v5.1 >>= λ v6. Ok (record { file = s1.0.0; number = s2.0.0; opened = v3.0; closed = v4.0; ended = v5.0; cells = v6.0 }, v6.1)) (x, rest) s2.2 in
    let s4 = bind_ok (moment_at s3.0.1) (λ v4. maybe_at v4.1 >>= λ v5. content_at (base_after before s1.0.0) v5.1 >>= λ v6. Ok (record { file = s1.0.0; number = s2.0.0; opened = s3.0.0; closed = v4.0; ended = v5.0; cells = v6.0 }, v6.1)) (x, rest) s3.2 in
    let s5 = bind_ok (maybe_at s4.0.1) (λ v5. content_at (base_after before s1.0.0) v5.1 >>= λ v6. Ok (record { file = s1.0.0; number = s2.0.0; opened = s3.0.0; closed = s4.0.0; ended = v5.0; cells = v6.0 }, v6.1)) (x, rest) s4.2 in
    let s6 = bind_ok (content_at (base_after before s1.0.0) s5.0.1) (λ v6. Ok (record { file = s1.0.0; number = s2.0.0; opened = s3.0.0; closed = s4.0.0; ended = s5.0.0; cells = v6.0 }, v6.1)) (x, rest) s5.2 in
    let p1 = (number_form).takes bytes s1.0.0 s1.0.1 s1.1 in
    let p2 = (number_form).takes s1.0.1 s2.0.0 s2.0.1 s2.1 in
    let q2 = both bytes (number_text s1.0.0) s1.0.1 (number_text s2.0.0) s2.0.1 p1 p2 in
    let p3 = (moment_form).takes s2.0.1 s3.0.0 s3.0.1 s3.1 in
    let q3 = both bytes (number_text s1.0.0 ++ number_text s2.0.0) s2.0.1 (number_text s3.0.0) s3.0.1 q2 p3 in
    let p4 = (moment_form).takes s3.0.1 s4.0.0 s4.0.1 s4.1 in
    let q4 = both bytes (number_text s1.0.0 ++ number_text s2.0.0 ++ number_text s3.0.0) s3.0.1 (number_text s4.0.0) s4.0.1 q3 p4 in
    let p5 = (maybe_form).takes s4.0.1 s5.0.0 s5.0.1 s5.1 in
    let q5 = both bytes (number_text s1.0.0 ++ number_text s2.0.0 ++ number_text s3.0.0 ++ number_text s4.0.0) s4.0.1 (maybe_text s5.0.0) s5.0.1 q4 p5 in
    let p6 = (content_form (base_after before s1.0.0)).takes s5.0.1 s6.0.0 s6.0.1 s6.1 in
    let q6 = both bytes (number_text s1.0.0 ++ number_text s2.0.0 ++ number_text s3.0.0 ++ number_text s4.0.0 ++ maybe_text s5.0.0) s5.0.1 (content_text (base_after before s1.0.0) s6.0.0) s6.0.1 q5 p6 in
    subst (λ (y : VersionRow × List ℕ). bytes ≡ version_text before y.0 ++ y.1) (ok_is (record { file = s1.0.0; number = s2.0.0; opened = s3.0.0; closed = s4.0.0; ended = s5.0.0; cells = s6.0.0 }, s6.0.1) (x, rest) s6.2) q6

version_again : (before : Option VersionRow) (x : VersionRow) (rest : List ℕ) → IsVersion x → version_at before (version_text before x ++ rest) ≡ Ok (x, rest)
unfolding version_at
version_again before x rest fits =
    let regrouped = grouped6 (number_text x.file) (number_text x.number) (number_text x.opened) (number_text x.closed) (maybe_text x.ended) (content_text (base_after before x.file) x.cells) rest in
    ap (version_at before) regrouped ∙ rw ((number_form).again x.file (number_text x.number ++ (number_text x.opened ++ (number_text x.closed ++ (maybe_text x.ended ++ (content_text (base_after before x.file) x.cells ++ rest))))) fits.file, (number_form).again x.number (number_text x.opened ++ (number_text x.closed ++ (maybe_text x.ended ++ (content_text (base_after before x.file) x.cells ++ rest)))) fits.number, (moment_form).again x.opened (number_text x.closed ++ (maybe_text x.ended ++ (content_text (base_after before x.file) x.cells ++ rest))) fits.opened, (moment_form).again x.closed (maybe_text x.ended ++ (content_text (base_after before x.file) x.cells ++ rest)) fits.closed, (maybe_form).again x.ended (content_text (base_after before x.file) x.cells ++ rest) fits.ended, (content_form (base_after before x.file)).again x.cells rest fits.cells) refl

pub version_form : (before : Option VersionRow) → IsForm (version_text before) (version_at before) IsVersion
version_form before = record { takes = version_takes before; again = version_again before }

versions_take : (before : Option VersionRow) (n : ℕ) (bytes : List ℕ) (xs : List VersionRow) (rest : List ℕ) → each_version_at before n bytes ≡ Ok (xs, rest) → (bytes ≡ each_version before xs ++ rest) × (length xs ≡ n)
unfolding each_version_at
versions_take before zero bytes xs rest e =
    subst (λ (y : List VersionRow × List ℕ). (bytes ≡ each_version before y.0 ++ y.1) × (length y.0 ≡ 0)) (ok_is ([], bytes) (xs, rest) e) (refl, refl)
versions_take before (suc n) bytes xs rest e =
    let a = bind_ok (version_at before bytes) (λ first. each_version_at (Some first.0) n first.1 >>= λ others. Ok (first.0 ∷ others.0, others.1)) (xs, rest) e in
    let b = bind_ok (each_version_at (Some a.0.0) n a.0.1) (λ others. Ok (a.0.0 ∷ others.0, others.1)) (xs, rest) a.2 in
    let second = versions_take (Some a.0.0) n a.0.1 b.0.0 b.0.1 b.1 in
    let all = both bytes (version_text before a.0.0) a.0.1 (each_version (Some a.0.0) b.0.0) b.0.1 ((version_form before).takes bytes a.0.0 a.0.1 a.1) second.0 in
    subst (λ (y : List VersionRow × List ℕ). (bytes ≡ each_version before y.0 ++ y.1) × (length y.0 ≡ suc n)) (ok_is (a.0.0 ∷ b.0.0, b.0.1) (xs, rest) b.2) (all, ap suc second.1)

versions_again : (before : Option VersionRow) (xs : List VersionRow) (rest : List ℕ) → AllByRecursion IsVersion xs → each_version_at before (length xs) (each_version before xs ++ rest) ≡ Ok (xs, rest)
unfolding each_version_at
versions_again before [] rest fits = refl
versions_again before (x ∷ xs) rest fits =
    let regrouped = grouped2 (version_text before x) (each_version (Some x) xs) rest in
    ap (each_version_at before (suc (length xs))) regrouped ∙ rw ((version_form before).again x (each_version (Some x) xs ++ rest) fits.0, versions_again (Some x) xs rest fits.1) refl

all_take : (bytes : List ℕ) (xs : List VersionRow) (rest : List ℕ) → versions_at bytes ≡ Ok (xs, rest) → bytes ≡ versions_text xs ++ rest
unfolding versions_at
all_take bytes xs rest e =
    let a = bind_ok (number_at bytes) (λ count. each_version_at None count.0 count.1) (xs, rest) e in
    let second = versions_take None a.0.0 a.0.1 xs rest a.2 in
    let all = both bytes (number_text a.0.0) a.0.1 (each_version None xs) rest (number_form.takes bytes a.0.0 a.0.1 a.1) second.0 in
    subst (λ (n : ℕ). bytes ≡ number_text n ++ each_version None xs ++ rest) (sym second.1) all

all_again : (xs : List VersionRow) (rest : List ℕ) → AreItems IsVersion xs → versions_at (versions_text xs ++ rest) ≡ Ok (xs, rest)
unfolding versions_at
all_again xs rest fits =
    let regrouped = grouped2 (number_text (length xs)) (each_version None xs) rest in
    ap versions_at regrouped ∙ rw (number_form.again (length xs) (each_version None xs ++ rest) fits.0, versions_again None xs rest fits.1) refl

pub versions_form : IsForm versions_text versions_at (AreItems IsVersion)
versions_form = record { takes = all_take; again = all_again }

draft_takes : (rows : List VersionRow) (bytes : List ℕ) (x : DraftRow) (rest : List ℕ) → draft_at rows bytes ≡ Ok (x, rest) → bytes ≡ draft_text rows x ++ rest
unfolding draft_at
draft_takes rows bytes x rest e =
    let s1 = bind_ok (number_at bytes) (λ v1. moment_at v1.1 >>= λ v2. truth_at v2.1 >>= λ v3. content_at (base_of rows v1.0) v3.1 >>= λ v4. Ok (record { file = v1.0; opened = v2.0; cells = v4.0; changed = v3.0 }, v4.1)) (x, rest) e in
    let s2 = bind_ok (moment_at s1.0.1) (λ v2. truth_at v2.1 >>= λ v3. content_at (base_of rows s1.0.0) v3.1 >>= λ v4. Ok (record { file = s1.0.0; opened = v2.0; cells = v4.0; changed = v3.0 }, v4.1)) (x, rest) s1.2 in
    let s3 = bind_ok (truth_at s2.0.1) (λ v3. content_at (base_of rows s1.0.0) v3.1 >>= λ v4. Ok (record { file = s1.0.0; opened = s2.0.0; cells = v4.0; changed = v3.0 }, v4.1)) (x, rest) s2.2 in
    let s4 = bind_ok (content_at (base_of rows s1.0.0) s3.0.1) (λ v4. Ok (record { file = s1.0.0; opened = s2.0.0; cells = v4.0; changed = s3.0.0 }, v4.1)) (x, rest) s3.2 in
    let p1 = (number_form).takes bytes s1.0.0 s1.0.1 s1.1 in
    let p2 = (moment_form).takes s1.0.1 s2.0.0 s2.0.1 s2.1 in
    let q2 = both bytes (number_text s1.0.0) s1.0.1 (number_text s2.0.0) s2.0.1 p1 p2 in
    let p3 = (truth_form).takes s2.0.1 s3.0.0 s3.0.1 s3.1 in
    let q3 = both bytes (number_text s1.0.0 ++ number_text s2.0.0) s2.0.1 (truth_text s3.0.0) s3.0.1 q2 p3 in
    let p4 = (content_form (base_of rows s1.0.0)).takes s3.0.1 s4.0.0 s4.0.1 s4.1 in
    let q4 = both bytes (number_text s1.0.0 ++ number_text s2.0.0 ++ truth_text s3.0.0) s3.0.1 (content_text (base_of rows s1.0.0) s4.0.0) s4.0.1 q3 p4 in
    subst (λ (y : DraftRow × List ℕ). bytes ≡ draft_text rows y.0 ++ y.1) (ok_is (record { file = s1.0.0; opened = s2.0.0; cells = s4.0.0; changed = s3.0.0 }, s4.0.1) (x, rest) s4.2) q4

draft_again : (rows : List VersionRow) (x : DraftRow) (rest : List ℕ) → IsDraft x → draft_at rows (draft_text rows x ++ rest) ≡ Ok (x, rest)
unfolding draft_at
draft_again rows x rest fits =
    let regrouped = grouped4 (number_text x.file) (number_text x.opened) (truth_text x.changed) (content_text (base_of rows x.file) x.cells) rest in
    ap (draft_at rows) regrouped ∙ rw ((number_form).again x.file (number_text x.opened ++ (truth_text x.changed ++ (content_text (base_of rows x.file) x.cells ++ rest))) fits.file, (moment_form).again x.opened (truth_text x.changed ++ (content_text (base_of rows x.file) x.cells ++ rest)) fits.opened, (truth_form).again x.changed (content_text (base_of rows x.file) x.cells ++ rest) tt, (content_form (base_of rows x.file)).again x.cells rest fits.cells) refl

pub draft_form : (rows : List VersionRow) → IsForm (draft_text rows) (draft_at rows) IsDraft
draft_form rows = record { takes = draft_takes rows; again = draft_again rows }

pub drafts_form : (rows : List VersionRow) → IsForm (drafts_text rows) (drafts_at rows) (AreItems IsDraft)
unfolding drafts_at
drafts_form rows = list_form (draft_form rows)
