-- Each row is read as it was written, and no other bytes stand for it.
use Rattle.std.proofs.Common.{◌≡◌, ℕ, List, ◌++◌, Ok, refl, ap, subst, ◌∙◌}
use Rattle.ele_model.specs.declared.rows.DirectoryRow.{DirectoryRow}
use Rattle.ele_model.specs.declared.rows.FileRow.{FileRow}
use Rattle.ele_model.specs.declared.rows.NameRow.{NameRow}
use Rattle.ele_model.specs.declared.rows.HandleRow.{HandleRow}
use Rattle.ele_model.specs.declared.rows.MarkRow.{MarkRow}
use Rattle.ele_model.specs.declared.rows.GroupRow.{GroupRow}
use Rattle.ele_checkpoint.specs.Reading.{◌>>=◌}
use Rattle.ele_checkpoint.proofs.Forms.{IsForm, bind_ok, ok_is, both}
use Rattle.ele_checkpoint.specs.Number.{number_text}
use Rattle.ele_checkpoint.specs.PartsRead.{number_at, list_at, name_at, moment_at, maybe_at, policy_at, target_at, reads_at, directory_at, file_at, name_row_at, handle_at, mark_at, group_at}
use Rattle.ele_checkpoint.proofs.Numbers.{number_form}
use Rattle.ele_checkpoint.specs.Fits.{IsDirectory, IsFile, IsNameRow, IsHandle, IsMark, IsGroup}
use Rattle.ele_checkpoint.specs.Lists.{list_text}
use Rattle.ele_checkpoint.specs.Values.{string_text, maybe_text, policy_text, target_text, reads_text}
use Rattle.ele_checkpoint.specs.Rows.{directory_text, file_text, name_text, handle_text, mark_text, group_text}
use Rattle.ele_checkpoint.proofs.Grouped.{grouped2, grouped3, grouped5}
use Rattle.ele_checkpoint.proofs.Lists.{list_form}
use Rattle.ele_checkpoint.proofs.Values.{moment_form, maybe_form, name_form, target_form, reads_form}
use Rattle.ele_checkpoint.proofs.Policies.{policy_form}

directory_takes : (bytes : List ℕ) (x : DirectoryRow) (rest : List ℕ) → directory_at bytes ≡ Ok (x, rest) → bytes ≡ directory_text x ++ rest
unfolding directory_at
directory_takes bytes x rest e =
    let s1 = bind_ok (number_at bytes) (λ v1. policy_at v1.1 >>= λ v2. Ok (record { id = v1.0; default = v2.0 }, v2.1)) (x, rest) e in
    let s2 = bind_ok (policy_at s1.0.1) (λ v2. Ok (record { id = s1.0.0; default = v2.0 }, v2.1)) (x, rest) s1.2 in
    let p1 = (number_form).takes bytes s1.0.0 s1.0.1 s1.1 in
    let p2 = (policy_form).takes s1.0.1 s2.0.0 s2.0.1 s2.1 in
    let q2 = both bytes (number_text s1.0.0) s1.0.1 (policy_text s2.0.0) s2.0.1 p1 p2 in
    subst (λ (y : DirectoryRow × List ℕ). bytes ≡ directory_text y.0 ++ y.1) (ok_is (record { id = s1.0.0; default = s2.0.0 }, s2.0.1) (x, rest) s2.2) q2

directory_again : (x : DirectoryRow) (rest : List ℕ) → IsDirectory x → directory_at (directory_text x ++ rest) ≡ Ok (x, rest)
unfolding directory_at
directory_again x rest fits =
    let regrouped = grouped2 (number_text x.id) (policy_text x.default) rest in
    ap (directory_at) regrouped ∙ rw ((number_form).again x.id (policy_text x.default ++ rest) fits.id, (policy_form).again x.default rest fits.default) refl

pub directory_form : IsForm directory_text directory_at IsDirectory
directory_form = record { takes = directory_takes; again = directory_again }

file_takes : (bytes : List ℕ) (x : FileRow) (rest : List ℕ) → file_at bytes ≡ Ok (x, rest) → bytes ≡ file_text x ++ rest
unfolding file_at
file_takes bytes x rest e =
    let s1 = bind_ok (number_at bytes) (λ v1. policy_at v1.1 >>= λ v2. number_at v2.1 >>= λ v3. Ok (record { id = v1.0; policy = v2.0; next = v3.0 }, v3.1)) (x, rest) e in
    let s2 = bind_ok (policy_at s1.0.1) (λ v2. number_at v2.1 >>= λ v3. Ok (record { id = s1.0.0; policy = v2.0; next = v3.0 }, v3.1)) (x, rest) s1.2 in
    let s3 = bind_ok (number_at s2.0.1) (λ v3. Ok (record { id = s1.0.0; policy = s2.0.0; next = v3.0 }, v3.1)) (x, rest) s2.2 in
    let p1 = (number_form).takes bytes s1.0.0 s1.0.1 s1.1 in
    let p2 = (policy_form).takes s1.0.1 s2.0.0 s2.0.1 s2.1 in
    let q2 = both bytes (number_text s1.0.0) s1.0.1 (policy_text s2.0.0) s2.0.1 p1 p2 in
    let p3 = (number_form).takes s2.0.1 s3.0.0 s3.0.1 s3.1 in
    let q3 = both bytes (number_text s1.0.0 ++ policy_text s2.0.0) s2.0.1 (number_text s3.0.0) s3.0.1 q2 p3 in
    subst (λ (y : FileRow × List ℕ). bytes ≡ file_text y.0 ++ y.1) (ok_is (record { id = s1.0.0; policy = s2.0.0; next = s3.0.0 }, s3.0.1) (x, rest) s3.2) q3

file_again : (x : FileRow) (rest : List ℕ) → IsFile x → file_at (file_text x ++ rest) ≡ Ok (x, rest)
unfolding file_at
file_again x rest fits =
    let regrouped = grouped3 (number_text x.id) (policy_text x.policy) (number_text x.next) rest in
    ap (file_at) regrouped ∙ rw ((number_form).again x.id (policy_text x.policy ++ (number_text x.next ++ rest)) fits.id, (policy_form).again x.policy (number_text x.next ++ rest) fits.policy, (number_form).again x.next rest fits.next) refl

pub file_form : IsForm file_text file_at IsFile
file_form = record { takes = file_takes; again = file_again }

name_row_takes : (bytes : List ℕ) (x : NameRow) (rest : List ℕ) → name_row_at bytes ≡ Ok (x, rest) → bytes ≡ name_text x ++ rest
unfolding name_row_at
name_row_takes bytes x rest e =
    let s1 = bind_ok (number_at bytes) (λ v1. name_at v1.1 >>= λ v2. target_at v2.1 >>= λ v3. moment_at v3.1 >>= λ v4. maybe_at v4.1 >>= λ v5. Ok (record { directory = v1.0; name = v2.0; target = v3.0; birth = v4.0; death = v5.0 }, v5.1)) (x, rest) e in
    let s2 = bind_ok (name_at s1.0.1) (λ v2. target_at v2.1 >>= λ v3. moment_at v3.1 >>= λ v4. maybe_at v4.1 >>= λ v5. Ok (record { directory = s1.0.0; name = v2.0; target = v3.0; birth = v4.0; death = v5.0 }, v5.1)) (x, rest) s1.2 in
    let s3 = bind_ok (target_at s2.0.1) (λ v3. moment_at v3.1 >>= λ v4. maybe_at v4.1 >>= λ v5. Ok (record { directory = s1.0.0; name = s2.0.0; target = v3.0; birth = v4.0; death = v5.0 }, v5.1)) (x, rest) s2.2 in
    let s4 = bind_ok (moment_at s3.0.1) (λ v4. maybe_at v4.1 >>= λ v5. Ok (record { directory = s1.0.0; name = s2.0.0; target = s3.0.0; birth = v4.0; death = v5.0 }, v5.1)) (x, rest) s3.2 in
    let s5 = bind_ok (maybe_at s4.0.1) (λ v5. Ok (record { directory = s1.0.0; name = s2.0.0; target = s3.0.0; birth = s4.0.0; death = v5.0 }, v5.1)) (x, rest) s4.2 in
    let p1 = (number_form).takes bytes s1.0.0 s1.0.1 s1.1 in
    let p2 = (name_form).takes s1.0.1 s2.0.0 s2.0.1 s2.1 in
    let q2 = both bytes (number_text s1.0.0) s1.0.1 (string_text s2.0.0) s2.0.1 p1 p2 in
    let p3 = (target_form).takes s2.0.1 s3.0.0 s3.0.1 s3.1 in
    let q3 = both bytes (number_text s1.0.0 ++ string_text s2.0.0) s2.0.1 (target_text s3.0.0) s3.0.1 q2 p3 in
    let p4 = (moment_form).takes s3.0.1 s4.0.0 s4.0.1 s4.1 in
    let q4 = both bytes (number_text s1.0.0 ++ string_text s2.0.0 ++ target_text s3.0.0) s3.0.1 (number_text s4.0.0) s4.0.1 q3 p4 in
    let p5 = (maybe_form).takes s4.0.1 s5.0.0 s5.0.1 s5.1 in
    let q5 = both bytes (number_text s1.0.0 ++ string_text s2.0.0 ++ target_text s3.0.0 ++ number_text s4.0.0) s4.0.1 (maybe_text s5.0.0) s5.0.1 q4 p5 in
    subst (λ (y : NameRow × List ℕ). bytes ≡ name_text y.0 ++ y.1) (ok_is (record { directory = s1.0.0; name = s2.0.0; target = s3.0.0; birth = s4.0.0; death = s5.0.0 }, s5.0.1) (x, rest) s5.2) q5

name_row_again : (x : NameRow) (rest : List ℕ) → IsNameRow x → name_row_at (name_text x ++ rest) ≡ Ok (x, rest)
unfolding name_row_at
name_row_again x rest fits =
    let regrouped = grouped5 (number_text x.directory) (string_text x.name) (target_text x.target) (number_text x.birth) (maybe_text x.death) rest in
    ap (name_row_at) regrouped ∙ rw ((number_form).again x.directory (string_text x.name ++ (target_text x.target ++ (number_text x.birth ++ (maybe_text x.death ++ rest)))) fits.directory, (name_form).again x.name (target_text x.target ++ (number_text x.birth ++ (maybe_text x.death ++ rest))) fits.name, (target_form).again x.target (number_text x.birth ++ (maybe_text x.death ++ rest)) fits.target, (moment_form).again x.birth (maybe_text x.death ++ rest) fits.birth, (maybe_form).again x.death rest fits.death) refl

pub name_row_form : IsForm name_text name_row_at IsNameRow
name_row_form = record { takes = name_row_takes; again = name_row_again }

handle_takes : (bytes : List ℕ) (x : HandleRow) (rest : List ℕ) → handle_at bytes ≡ Ok (x, rest) → bytes ≡ handle_text x ++ rest
unfolding handle_at
handle_takes bytes x rest e =
    let s1 = bind_ok (number_at bytes) (λ v1. reads_at v1.1 >>= λ v2. Ok (record { number = v1.0; reads = v2.0 }, v2.1)) (x, rest) e in
    let s2 = bind_ok (reads_at s1.0.1) (λ v2. Ok (record { number = s1.0.0; reads = v2.0 }, v2.1)) (x, rest) s1.2 in
    let p1 = (number_form).takes bytes s1.0.0 s1.0.1 s1.1 in
    let p2 = (reads_form).takes s1.0.1 s2.0.0 s2.0.1 s2.1 in
    let q2 = both bytes (number_text s1.0.0) s1.0.1 (reads_text s2.0.0) s2.0.1 p1 p2 in
    subst (λ (y : HandleRow × List ℕ). bytes ≡ handle_text y.0 ++ y.1) (ok_is (record { number = s1.0.0; reads = s2.0.0 }, s2.0.1) (x, rest) s2.2) q2

handle_again : (x : HandleRow) (rest : List ℕ) → IsHandle x → handle_at (handle_text x ++ rest) ≡ Ok (x, rest)
unfolding handle_at
handle_again x rest fits =
    let regrouped = grouped2 (number_text x.number) (reads_text x.reads) rest in
    ap (handle_at) regrouped ∙ rw ((number_form).again x.number (reads_text x.reads ++ rest) fits.number, (reads_form).again x.reads rest fits.reads) refl

pub handle_form : IsForm handle_text handle_at IsHandle
handle_form = record { takes = handle_takes; again = handle_again }

mark_takes : (bytes : List ℕ) (x : MarkRow) (rest : List ℕ) → mark_at bytes ≡ Ok (x, rest) → bytes ≡ mark_text x ++ rest
unfolding mark_at
mark_takes bytes x rest e =
    let s1 = bind_ok (moment_at bytes) (λ v1. maybe_at v1.1 >>= λ v2. Ok (record { at = v1.0; until = v2.0 }, v2.1)) (x, rest) e in
    let s2 = bind_ok (maybe_at s1.0.1) (λ v2. Ok (record { at = s1.0.0; until = v2.0 }, v2.1)) (x, rest) s1.2 in
    let p1 = (moment_form).takes bytes s1.0.0 s1.0.1 s1.1 in
    let p2 = (maybe_form).takes s1.0.1 s2.0.0 s2.0.1 s2.1 in
    let q2 = both bytes (number_text s1.0.0) s1.0.1 (maybe_text s2.0.0) s2.0.1 p1 p2 in
    subst (λ (y : MarkRow × List ℕ). bytes ≡ mark_text y.0 ++ y.1) (ok_is (record { at = s1.0.0; until = s2.0.0 }, s2.0.1) (x, rest) s2.2) q2

mark_again : (x : MarkRow) (rest : List ℕ) → IsMark x → mark_at (mark_text x ++ rest) ≡ Ok (x, rest)
unfolding mark_at
mark_again x rest fits =
    let regrouped = grouped2 (number_text x.at) (maybe_text x.until) rest in
    ap (mark_at) regrouped ∙ rw ((moment_form).again x.at (maybe_text x.until ++ rest) fits.at, (maybe_form).again x.until rest fits.until) refl

pub mark_form : IsForm mark_text mark_at IsMark
mark_form = record { takes = mark_takes; again = mark_again }

group_takes : (bytes : List ℕ) (x : GroupRow) (rest : List ℕ) → group_at bytes ≡ Ok (x, rest) → bytes ≡ group_text x ++ rest
unfolding group_at
group_takes bytes x rest e =
    let s1 = bind_ok (name_at bytes) (λ v1. list_at number_at v1.1 >>= λ v2. list_at mark_at v2.1 >>= λ v3. Ok (record { name = v1.0; members = v2.0; marks = v3.0 }, v3.1)) (x, rest) e in
    let s2 = bind_ok (list_at number_at s1.0.1) (λ v2. list_at mark_at v2.1 >>= λ v3. Ok (record { name = s1.0.0; members = v2.0; marks = v3.0 }, v3.1)) (x, rest) s1.2 in
    let s3 = bind_ok (list_at mark_at s2.0.1) (λ v3. Ok (record { name = s1.0.0; members = s2.0.0; marks = v3.0 }, v3.1)) (x, rest) s2.2 in
    let p1 = (name_form).takes bytes s1.0.0 s1.0.1 s1.1 in
    let p2 = (list_form number_form).takes s1.0.1 s2.0.0 s2.0.1 s2.1 in
    let q2 = both bytes (string_text s1.0.0) s1.0.1 (list_text number_text s2.0.0) s2.0.1 p1 p2 in
    let p3 = (list_form mark_form).takes s2.0.1 s3.0.0 s3.0.1 s3.1 in
    let q3 = both bytes (string_text s1.0.0 ++ list_text number_text s2.0.0) s2.0.1 (list_text mark_text s3.0.0) s3.0.1 q2 p3 in
    subst (λ (y : GroupRow × List ℕ). bytes ≡ group_text y.0 ++ y.1) (ok_is (record { name = s1.0.0; members = s2.0.0; marks = s3.0.0 }, s3.0.1) (x, rest) s3.2) q3

group_again : (x : GroupRow) (rest : List ℕ) → IsGroup x → group_at (group_text x ++ rest) ≡ Ok (x, rest)
unfolding group_at
group_again x rest fits =
    let regrouped = grouped3 (string_text x.name) (list_text number_text x.members) (list_text mark_text x.marks) rest in
    ap (group_at) regrouped ∙ rw ((name_form).again x.name (list_text number_text x.members ++ (list_text mark_text x.marks ++ rest)) fits.name, (list_form number_form).again x.members (list_text mark_text x.marks ++ rest) fits.members, (list_form mark_form).again x.marks rest fits.marks) refl

pub group_form : IsForm group_text group_at IsGroup
group_form = record { takes = group_takes; again = group_again }
