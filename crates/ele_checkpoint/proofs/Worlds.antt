-- A world is read as it was written, and no other bytes stand for it.
use Rattle.std.proofs.Common.{◌≡◌, ℕ, ◌<◌, ◌≤◌, ◌^◌, true, cond, List, ◌++◌, length, Ok, Err, refl, ap, subst, ◌∙◌, arith}
use Rattle.std.proofs.lemmas.Bool.{le-leb}
use Rattle.ele_model.specs.declared.flat.Flat.{Flat}
use Rattle.ele_model.specs.declared.limits.Counts.{Counts}
use Rattle.ele_model.specs.Bounds.{Bounds, AreBounds, largest_bounds}
use Rattle.ele_checkpoint.specs.declared.fault.Flaw.TheVariants as flaws
use Rattle.ele_checkpoint.specs.Reading.{◌>>=◌, mistake}
use Rattle.ele_checkpoint.proofs.Forms.{IsForm, bind_ok, test_ok, ok_is, both, peel}
use Rattle.ele_checkpoint.specs.Number.{number_text}
use Rattle.ele_checkpoint.specs.PartsRead.{number_at, list_at, moment_at, directory_at, file_at, name_row_at, handle_at, group_at, versions_at, drafts_at, three_at, counts_at, are_bounds, bounds_from, limits_at, whole_at}
use Rattle.ele_checkpoint.proofs.Numbers.{number_form}
use Rattle.ele_checkpoint.specs.Fits.{IsNumber, IsFlat, AreCounts}
use Rattle.ele_checkpoint.specs.Lists.{list_text}
use Rattle.ele_checkpoint.specs.Rows.{directory_text, file_text, name_text, handle_text, group_text}
use Rattle.ele_checkpoint.specs.Contents.{versions_text, drafts_text}
use Rattle.ele_checkpoint.specs.Whole.{three_text, counts_text, limits_text, whole_text}
use Rattle.ele_checkpoint.proofs.Grouped.{grouped3, grouped4, grouped10}
use Rattle.ele_checkpoint.proofs.Lists.{list_form}
use Rattle.ele_checkpoint.proofs.Values.{moment_form}
use Rattle.ele_checkpoint.proofs.Rows.{directory_form, file_form, name_row_form, handle_form, group_form}
use Rattle.ele_checkpoint.proofs.Contents.{versions_form, drafts_form}

abbrev Three : Type 0
Three = ℕ × ℕ × ℕ

abbrev spelled : Three → List ℕ
spelled x = three_text x.0 x.1 x.2

abbrev AreThree : Three → Type 0
AreThree x = IsNumber x.0 × IsNumber x.1 × IsNumber x.2

three_takes : (bytes : List ℕ) (x : Three) (rest : List ℕ) → three_at bytes ≡ Ok (x, rest) → bytes ≡ spelled x ++ rest
unfolding three_at
three_takes bytes x rest e =
    let s1 = bind_ok (number_at bytes) (λ v1. number_at v1.1 >>= λ v2. number_at v2.1 >>= λ v3. Ok ((v1.0, v2.0, v3.0), v3.1)) (x, rest) e in
    let s2 = bind_ok (number_at s1.0.1) (λ v2. number_at v2.1 >>= λ v3. Ok ((s1.0.0, v2.0, v3.0), v3.1)) (x, rest) s1.2 in
    let s3 = bind_ok (number_at s2.0.1) (λ v3. Ok ((s1.0.0, s2.0.0, v3.0), v3.1)) (x, rest) s2.2 in
    let p1 = (number_form).takes bytes s1.0.0 s1.0.1 s1.1 in
    let p2 = (number_form).takes s1.0.1 s2.0.0 s2.0.1 s2.1 in
    let q2 = both bytes (number_text s1.0.0) s1.0.1 (number_text s2.0.0) s2.0.1 p1 p2 in
    let p3 = (number_form).takes s2.0.1 s3.0.0 s3.0.1 s3.1 in
    let q3 = both bytes (number_text s1.0.0 ++ number_text s2.0.0) s2.0.1 (number_text s3.0.0) s3.0.1 q2 p3 in
    subst (λ (y : Three × List ℕ). bytes ≡ spelled y.0 ++ y.1) (ok_is ((s1.0.0, s2.0.0, s3.0.0), s3.0.1) (x, rest) s3.2) q3

three_again : (x : Three) (rest : List ℕ) → AreThree x → three_at (spelled x ++ rest) ≡ Ok (x, rest)
unfolding three_at
three_again x rest fits =
    let regrouped = grouped3 (number_text x.0) (number_text x.1) (number_text x.2) rest in
    ap (three_at) regrouped ∙ rw ((number_form).again x.0 (number_text x.1 ++ (number_text x.2 ++ rest)) fits.0, (number_form).again x.1 (number_text x.2 ++ rest) fits.1, (number_form).again x.2 rest fits.2) refl

three_form : IsForm spelled three_at AreThree
three_form = record { takes = three_takes; again = three_again }

counts_takes : (bytes : List ℕ) (x : Counts) (rest : List ℕ) → counts_at bytes ≡ Ok (x, rest) → bytes ≡ counts_text x ++ rest
unfolding counts_at
counts_takes bytes x rest e =
    let s1 = bind_ok (three_at bytes) (λ v1. three_at v1.1 >>= λ v2. number_at v2.1 >>= λ v3. number_at v3.1 >>= λ v4. Ok (record { files = (v1.0).0; directories = (v1.0).1; names = (v1.0).2; versions = (v2.0).0; handles = (v2.0).1; groups = (v2.0).2; members = v3.0; marks = v4.0 }, v4.1)) (x, rest) e in
    let s2 = bind_ok (three_at s1.0.1) (λ v2. number_at v2.1 >>= λ v3. number_at v3.1 >>= λ v4. Ok (record { files = (s1.0.0).0; directories = (s1.0.0).1; names = (s1.0.0).2; versions = (v2.0).0; handles = (v2.0).1; groups = (v2.0).2; members = v3.0; marks = v4.0 }, v4.1)) (x, rest) s1.2 in
    let s3 = bind_ok (number_at s2.0.1) (λ v3. number_at v3.1 >>= λ v4. Ok (record { files = (s1.0.0).0; directories = (s1.0.0).1; names = (s1.0.0).2; versions = (s2.0.0).0; handles = (s2.0.0).1; groups = (s2.0.0).2; members = v3.0; marks = v4.0 }, v4.1)) (x, rest) s2.2 in
    let s4 = bind_ok (number_at s3.0.1) (λ v4. Ok (record { files = (s1.0.0).0; directories = (s1.0.0).1; names = (s1.0.0).2; versions = (s2.0.0).0; handles = (s2.0.0).1; groups = (s2.0.0).2; members = s3.0.0; marks = v4.0 }, v4.1)) (x, rest) s3.2 in
    let p1 = (three_form).takes bytes s1.0.0 s1.0.1 s1.1 in
    let p2 = (three_form).takes s1.0.1 s2.0.0 s2.0.1 s2.1 in
    let q2 = both bytes (spelled s1.0.0) s1.0.1 (spelled s2.0.0) s2.0.1 p1 p2 in
    let p3 = (number_form).takes s2.0.1 s3.0.0 s3.0.1 s3.1 in
    let q3 = both bytes (spelled s1.0.0 ++ spelled s2.0.0) s2.0.1 (number_text s3.0.0) s3.0.1 q2 p3 in
    let p4 = (number_form).takes s3.0.1 s4.0.0 s4.0.1 s4.1 in
    let q4 = both bytes (spelled s1.0.0 ++ spelled s2.0.0 ++ number_text s3.0.0) s3.0.1 (number_text s4.0.0) s4.0.1 q3 p4 in
    subst (λ (y : Counts × List ℕ). bytes ≡ counts_text y.0 ++ y.1) (ok_is (record { files = (s1.0.0).0; directories = (s1.0.0).1; names = (s1.0.0).2; versions = (s2.0.0).0; handles = (s2.0.0).1; groups = (s2.0.0).2; members = s3.0.0; marks = s4.0.0 }, s4.0.1) (x, rest) s4.2) q4

counts_again : (x : Counts) (rest : List ℕ) → AreCounts x → counts_at (counts_text x ++ rest) ≡ Ok (x, rest)
unfolding counts_at
counts_again x rest fits =
    let regrouped = grouped4 (spelled (x.files, x.directories, x.names)) (spelled (x.versions, x.handles, x.groups)) (number_text x.members) (number_text x.marks) rest in
    ap (counts_at) regrouped ∙ rw ((three_form).again (x.files, x.directories, x.names) (spelled (x.versions, x.handles, x.groups) ++ (number_text x.members ++ (number_text x.marks ++ rest))) (fits.files, fits.directories, fits.names), (three_form).again (x.versions, x.handles, x.groups) (number_text x.members ++ (number_text x.marks ++ rest)) (fits.versions, fits.handles, fits.groups), (number_form).again x.members (number_text x.marks ++ rest) fits.members, (number_form).again x.marks rest fits.marks) refl

pub counts_form : IsForm counts_text counts_at AreCounts
counts_form = record { takes = counts_takes; again = counts_again }

number_within : (n most : ℕ) → n ≤ most → most < 2 ^ 64 → IsNumber n
number_within n most le lt = omega arith

limits_test : (b : Bounds) → AreBounds b → are_bounds b ≡ true
limits_test b h =
    rw (le-leb _ _ h.events, le-leb _ _ h.files, le-leb _ _ h.directories, le-leb _ _ h.names, le-leb _ _ h.versions, le-leb _ _ h.handles, le-leb _ _ h.groups, le-leb _ _ h.members, le-leb _ _ h.marks) refl

limits_takes : (bytes : List ℕ) (x : Bounds) (rest : List ℕ) → limits_at bytes ≡ Ok (x, rest) → bytes ≡ limits_text x ++ rest
unfolding limits_at
limits_takes bytes x rest e =
    let s1 = bind_ok (three_at bytes) (λ v1. three_at v1.1 >>= λ v2. three_at v2.1 >>= λ v3. cond (are_bounds (bounds_from (v1.0) (v2.0) (v3.0))) (Ok (bounds_from (v1.0) (v2.0) (v3.0), v3.1)) (Err (mistake (length bytes) flaws.Limits))) (x, rest) e in
    let s2 = bind_ok (three_at s1.0.1) (λ v2. three_at v2.1 >>= λ v3. cond (are_bounds (bounds_from (s1.0.0) (v2.0) (v3.0))) (Ok (bounds_from (s1.0.0) (v2.0) (v3.0), v3.1)) (Err (mistake (length bytes) flaws.Limits))) (x, rest) s1.2 in
    let s3 = bind_ok (three_at s2.0.1) (λ v3. cond (are_bounds (bounds_from (s1.0.0) (s2.0.0) (v3.0))) (Ok (bounds_from (s1.0.0) (s2.0.0) (v3.0), v3.1)) (Err (mistake (length bytes) flaws.Limits))) (x, rest) s2.2 in
    let g = test_ok (are_bounds (bounds_from (s1.0.0) (s2.0.0) (s3.0.0))) (mistake (length bytes) flaws.Limits) (bounds_from (s1.0.0) (s2.0.0) (s3.0.0), s3.0.1) (x, rest) s3.2 in
    let p1 = (three_form).takes bytes s1.0.0 s1.0.1 s1.1 in
    let p2 = (three_form).takes s1.0.1 s2.0.0 s2.0.1 s2.1 in
    let q2 = both bytes (spelled s1.0.0) s1.0.1 (spelled s2.0.0) s2.0.1 p1 p2 in
    let p3 = (three_form).takes s2.0.1 s3.0.0 s3.0.1 s3.1 in
    let q3 = both bytes (spelled s1.0.0 ++ spelled s2.0.0) s2.0.1 (spelled s3.0.0) s3.0.1 q2 p3 in
    subst (λ (y : Bounds × List ℕ). bytes ≡ limits_text y.0 ++ y.1) g.1 q3

limits_again : (x : Bounds) (rest : List ℕ) → AreBounds x → limits_at (limits_text x ++ rest) ≡ Ok (x, rest)
unfolding limits_at
limits_again x rest fits =
    let regrouped = grouped3 (spelled (x.events, x.files, x.directories)) (spelled (x.names, x.versions, x.handles)) (spelled (x.groups, x.members, x.marks)) rest in
    ap (limits_at) regrouped ∙ rw ((three_form).again (x.events, x.files, x.directories) (spelled (x.names, x.versions, x.handles) ++ (spelled (x.groups, x.members, x.marks) ++ rest)) (number_within x.events largest_bounds.events fits.events (omega arith), number_within x.files largest_bounds.files fits.files (omega arith), number_within x.directories largest_bounds.directories fits.directories (omega arith)), (three_form).again (x.names, x.versions, x.handles) (spelled (x.groups, x.members, x.marks) ++ rest) (number_within x.names largest_bounds.names fits.names (omega arith), number_within x.versions largest_bounds.versions fits.versions (omega arith), number_within x.handles largest_bounds.handles fits.handles (omega arith)), (three_form).again (x.groups, x.members, x.marks) rest (number_within x.groups largest_bounds.groups fits.groups (omega arith), number_within x.members largest_bounds.members fits.members (omega arith), number_within x.marks largest_bounds.marks fits.marks (omega arith)), limits_test x fits) refl

pub limits_form : IsForm limits_text limits_at AreBounds
limits_form = record { takes = limits_takes; again = limits_again }

whole_takes : (bytes : List ℕ) (x : Flat) (rest : List ℕ) → whole_at bytes ≡ Ok (x, rest) → bytes ≡ whole_text x ++ rest
unfolding whole_at
whole_takes bytes x rest e =
    peel (moment_at bytes) (λ w1. list_at directory_at w1.1 >>= λ w2. list_at file_at w2.1 >>= λ w3. list_at name_row_at w3.1 >>= λ w4. versions_at w4.1 >>= λ w5. drafts_at w5.0 w5.1 >>= λ w6. list_at handle_at w6.1 >>= λ w7. list_at group_at w7.1 >>= λ w8. counts_at w8.1 >>= λ w9. limits_at w9.1 >>= λ w10. Ok (record { now = w1.0; directories = w2.0; files = w3.0; names = w4.0; versions = w5.0; drafts = w6.0; handles = w7.0; groups = w8.0; made = w9.0; limits = w10.0 }, w10.1)) (x, rest) e (λ v1 r1 e1 k1.
    peel (list_at directory_at r1) (λ w2. list_at file_at w2.1 >>= λ w3. list_at name_row_at w3.1 >>= λ w4. versions_at w4.1 >>= λ w5. drafts_at w5.0 w5.1 >>= λ w6. list_at handle_at w6.1 >>= λ w7. list_at group_at w7.1 >>= λ w8. counts_at w8.1 >>= λ w9. limits_at w9.1 >>= λ w10. Ok (record { now = v1; directories = w2.0; files = w3.0; names = w4.0; versions = w5.0; drafts = w6.0; handles = w7.0; groups = w8.0; made = w9.0; limits = w10.0 }, w10.1)) (x, rest) k1 (λ v2 r2 e2 k2.
    peel (list_at file_at r2) (λ w3. list_at name_row_at w3.1 >>= λ w4. versions_at w4.1 >>= λ w5. drafts_at w5.0 w5.1 >>= λ w6. list_at handle_at w6.1 >>= λ w7. list_at group_at w7.1 >>= λ w8. counts_at w8.1 >>= λ w9. limits_at w9.1 >>= λ w10. Ok (record { now = v1; directories = v2; files = w3.0; names = w4.0; versions = w5.0; drafts = w6.0; handles = w7.0; groups = w8.0; made = w9.0; limits = w10.0 }, w10.1)) (x, rest) k2 (λ v3 r3 e3 k3.
    peel (list_at name_row_at r3) (λ w4. versions_at w4.1 >>= λ w5. drafts_at w5.0 w5.1 >>= λ w6. list_at handle_at w6.1 >>= λ w7. list_at group_at w7.1 >>= λ w8. counts_at w8.1 >>= λ w9. limits_at w9.1 >>= λ w10. Ok (record { now = v1; directories = v2; files = v3; names = w4.0; versions = w5.0; drafts = w6.0; handles = w7.0; groups = w8.0; made = w9.0; limits = w10.0 }, w10.1)) (x, rest) k3 (λ v4 r4 e4 k4.
    peel (versions_at r4) (λ w5. drafts_at w5.0 w5.1 >>= λ w6. list_at handle_at w6.1 >>= λ w7. list_at group_at w7.1 >>= λ w8. counts_at w8.1 >>= λ w9. limits_at w9.1 >>= λ w10. Ok (record { now = v1; directories = v2; files = v3; names = v4; versions = w5.0; drafts = w6.0; handles = w7.0; groups = w8.0; made = w9.0; limits = w10.0 }, w10.1)) (x, rest) k4 (λ v5 r5 e5 k5.
    peel (drafts_at v5 r5) (λ w6. list_at handle_at w6.1 >>= λ w7. list_at group_at w7.1 >>= λ w8. counts_at w8.1 >>= λ w9. limits_at w9.1 >>= λ w10. Ok (record { now = v1; directories = v2; files = v3; names = v4; versions = v5; drafts = w6.0; handles = w7.0; groups = w8.0; made = w9.0; limits = w10.0 }, w10.1)) (x, rest) k5 (λ v6 r6 e6 k6.
    peel (list_at handle_at r6) (λ w7. list_at group_at w7.1 >>= λ w8. counts_at w8.1 >>= λ w9. limits_at w9.1 >>= λ w10. Ok (record { now = v1; directories = v2; files = v3; names = v4; versions = v5; drafts = v6; handles = w7.0; groups = w8.0; made = w9.0; limits = w10.0 }, w10.1)) (x, rest) k6 (λ v7 r7 e7 k7.
    peel (list_at group_at r7) (λ w8. counts_at w8.1 >>= λ w9. limits_at w9.1 >>= λ w10. Ok (record { now = v1; directories = v2; files = v3; names = v4; versions = v5; drafts = v6; handles = v7; groups = w8.0; made = w9.0; limits = w10.0 }, w10.1)) (x, rest) k7 (λ v8 r8 e8 k8.
    peel (counts_at r8) (λ w9. limits_at w9.1 >>= λ w10. Ok (record { now = v1; directories = v2; files = v3; names = v4; versions = v5; drafts = v6; handles = v7; groups = v8; made = w9.0; limits = w10.0 }, w10.1)) (x, rest) k8 (λ v9 r9 e9 k9.
    peel (limits_at r9) (λ w10. Ok (record { now = v1; directories = v2; files = v3; names = v4; versions = v5; drafts = v6; handles = v7; groups = v8; made = v9; limits = w10.0 }, w10.1)) (x, rest) k9 (λ v10 r10 e10 k10.
    let p1 = (moment_form).takes bytes v1 r1 e1 in
    let p2 = (list_form directory_form).takes r1 v2 r2 e2 in
    let q2 : bytes ≡ (number_text v1 ++ list_text directory_text v2) ++ r2 = both bytes (number_text v1) r1 (list_text directory_text v2) r2 p1 p2 in
    let p3 = (list_form file_form).takes r2 v3 r3 e3 in
    let q3 : bytes ≡ (number_text v1 ++ list_text directory_text v2 ++ list_text file_text v3) ++ r3 = both bytes (number_text v1 ++ list_text directory_text v2) r2 (list_text file_text v3) r3 q2 p3 in
    let p4 = (list_form name_row_form).takes r3 v4 r4 e4 in
    let q4 : bytes ≡ (number_text v1 ++ list_text directory_text v2 ++ list_text file_text v3 ++ list_text name_text v4) ++ r4 = both bytes (number_text v1 ++ list_text directory_text v2 ++ list_text file_text v3) r3 (list_text name_text v4) r4 q3 p4 in
    let p5 = (versions_form).takes r4 v5 r5 e5 in
    let q5 : bytes ≡ (number_text v1 ++ list_text directory_text v2 ++ list_text file_text v3 ++ list_text name_text v4 ++ versions_text v5) ++ r5 = both bytes (number_text v1 ++ list_text directory_text v2 ++ list_text file_text v3 ++ list_text name_text v4) r4 (versions_text v5) r5 q4 p5 in
    let p6 = (drafts_form v5).takes r5 v6 r6 e6 in
    let q6 : bytes ≡ (number_text v1 ++ list_text directory_text v2 ++ list_text file_text v3 ++ list_text name_text v4 ++ versions_text v5 ++ drafts_text v5 v6) ++ r6 = both bytes (number_text v1 ++ list_text directory_text v2 ++ list_text file_text v3 ++ list_text name_text v4 ++ versions_text v5) r5 (drafts_text v5 v6) r6 q5 p6 in
    let p7 = (list_form handle_form).takes r6 v7 r7 e7 in
    let q7 : bytes ≡ (number_text v1 ++ list_text directory_text v2 ++ list_text file_text v3 ++ list_text name_text v4 ++ versions_text v5 ++ drafts_text v5 v6 ++ list_text handle_text v7) ++ r7 = both bytes (number_text v1 ++ list_text directory_text v2 ++ list_text file_text v3 ++ list_text name_text v4 ++ versions_text v5 ++ drafts_text v5 v6) r6 (list_text handle_text v7) r7 q6 p7 in
    let p8 = (list_form group_form).takes r7 v8 r8 e8 in
    let q8 : bytes ≡ (number_text v1 ++ list_text directory_text v2 ++ list_text file_text v3 ++ list_text name_text v4 ++ versions_text v5 ++ drafts_text v5 v6 ++ list_text handle_text v7 ++ list_text group_text v8) ++ r8 = both bytes (number_text v1 ++ list_text directory_text v2 ++ list_text file_text v3 ++ list_text name_text v4 ++ versions_text v5 ++ drafts_text v5 v6 ++ list_text handle_text v7) r7 (list_text group_text v8) r8 q7 p8 in
    let p9 = (counts_form).takes r8 v9 r9 e9 in
    let q9 : bytes ≡ (number_text v1 ++ list_text directory_text v2 ++ list_text file_text v3 ++ list_text name_text v4 ++ versions_text v5 ++ drafts_text v5 v6 ++ list_text handle_text v7 ++ list_text group_text v8 ++ counts_text v9) ++ r9 = both bytes (number_text v1 ++ list_text directory_text v2 ++ list_text file_text v3 ++ list_text name_text v4 ++ versions_text v5 ++ drafts_text v5 v6 ++ list_text handle_text v7 ++ list_text group_text v8) r8 (counts_text v9) r9 q8 p9 in
    let p10 = (limits_form).takes r9 v10 r10 e10 in
    let q10 : bytes ≡ (number_text v1 ++ list_text directory_text v2 ++ list_text file_text v3 ++ list_text name_text v4 ++ versions_text v5 ++ drafts_text v5 v6 ++ list_text handle_text v7 ++ list_text group_text v8 ++ counts_text v9 ++ limits_text v10) ++ r10 = both bytes (number_text v1 ++ list_text directory_text v2 ++ list_text file_text v3 ++ list_text name_text v4 ++ versions_text v5 ++ drafts_text v5 v6 ++ list_text handle_text v7 ++ list_text group_text v8 ++ counts_text v9) r9 (limits_text v10) r10 q9 p10 in
    subst (λ (y : Flat × List ℕ). bytes ≡ whole_text y.0 ++ y.1) (ok_is (record { now = v1; directories = v2; files = v3; names = v4; versions = v5; drafts = v6; handles = v7; groups = v8; made = v9; limits = v10 }, r10) (x, rest) k10) q10))))))))))

whole_again : (x : Flat) (rest : List ℕ) → IsFlat x → whole_at (whole_text x ++ rest) ≡ Ok (x, rest)
unfolding whole_at
whole_again x rest fits =
    let regrouped = grouped10 (number_text x.now) (list_text directory_text x.directories) (list_text file_text x.files) (list_text name_text x.names) (versions_text x.versions) (drafts_text x.versions x.drafts) (list_text handle_text x.handles) (list_text group_text x.groups) (counts_text x.made) (limits_text x.limits) rest in
    ap (whole_at) regrouped ∙ rw ((moment_form).again x.now (list_text directory_text x.directories ++ (list_text file_text x.files ++ (list_text name_text x.names ++ (versions_text x.versions ++ (drafts_text x.versions x.drafts ++ (list_text handle_text x.handles ++ (list_text group_text x.groups ++ (counts_text x.made ++ (limits_text x.limits ++ rest))))))))) fits.now, (list_form directory_form).again x.directories (list_text file_text x.files ++ (list_text name_text x.names ++ (versions_text x.versions ++ (drafts_text x.versions x.drafts ++ (list_text handle_text x.handles ++ (list_text group_text x.groups ++ (counts_text x.made ++ (limits_text x.limits ++ rest)))))))) fits.directories, (list_form file_form).again x.files (list_text name_text x.names ++ (versions_text x.versions ++ (drafts_text x.versions x.drafts ++ (list_text handle_text x.handles ++ (list_text group_text x.groups ++ (counts_text x.made ++ (limits_text x.limits ++ rest))))))) fits.files, (list_form name_row_form).again x.names (versions_text x.versions ++ (drafts_text x.versions x.drafts ++ (list_text handle_text x.handles ++ (list_text group_text x.groups ++ (counts_text x.made ++ (limits_text x.limits ++ rest)))))) fits.names, (versions_form).again x.versions (drafts_text x.versions x.drafts ++ (list_text handle_text x.handles ++ (list_text group_text x.groups ++ (counts_text x.made ++ (limits_text x.limits ++ rest))))) fits.versions, (drafts_form x.versions).again x.drafts (list_text handle_text x.handles ++ (list_text group_text x.groups ++ (counts_text x.made ++ (limits_text x.limits ++ rest)))) fits.drafts, (list_form handle_form).again x.handles (list_text group_text x.groups ++ (counts_text x.made ++ (limits_text x.limits ++ rest))) fits.handles, (list_form group_form).again x.groups (counts_text x.made ++ (limits_text x.limits ++ rest)) fits.groups, (counts_form).again x.made (limits_text x.limits ++ rest) fits.made, (limits_form).again x.limits rest fits.limits) refl

pub whole_form : IsForm whole_text whole_at IsFlat
whole_form = record { takes = whole_takes; again = whole_again }
