-- A save and a restore make a current version with their bytes, of the file at the path.
use Rattle.ele_model.proofs.Basics.{nat_tests, arith, ◌≡◌, ◌==◌, ℕ, ◌+◌, ◌≤◌, ◌∙◌, false, List, [], ◌∷◌, Some, Ok, refl, ap, is_some, all-found, append-nil}
use Rattle.ele_model.proofs.Words.{World, Cell, HasParts, IsVersion, Names, Files, Versions, Append, MakeFile, Revive, after_change, after_changes, cells_by, content_of, current_of, default_of, file_at, file_now, live_target, next_of, next_version, parent_now, plan, step, version_cells, version_then, with_name}
use Rattle.ele_world.proofs.Words.{File, Tagged, VersionRow}
use Rattle.ele_model.specs.declared.event.Event.TheVariants as asked
use Rattle.ele_model.specs.declared.reply.Reply.TheVariants as reply
use Rattle.ele_path.specs.declared.tagged.Tag.TheVariants as tag
use Rattle.ele_content.proofs.Contents.{content_of-written}
use Rattle.ele_world.specs.RestoreReads.{BringsBack}
use Rattle.ele_world.specs.SaveReads.{HasBytes}
use Rattle.ele_model.proofs.Allowed.{allowed}
use Rattle.ele_model.proofs.Created.{made_next, named_live}
use Rattle.ele_model.proofs.Files.{next_of-given, next_of-numbered_on}
use Rattle.ele_model.proofs.Keeps.{change_keeps}
use Rattle.ele_model.proofs.May.{MayMake, MayRevive}
use Rattle.ele_model.proofs.Meant.{IsMeant, then_is}
use Rattle.ele_model.proofs.NextVersion.{new_found}
use Rattle.ele_model.proofs.PlanOutcomes.{in_all}
use Rattle.ele_model.proofs.Versions.{IsFound, all_found}
use Rattle.ele_model.proofs.Walks.{file_live, file_there, new_leads, place_leads, standing_free, standing_is}
use Rattle.ele_world.proofs.Leads.{current_is}

-- a read of a path gives its current version
reads_now : (v : World) (path : List (List ℕ)) (file : ℕ) (row : VersionRow) → file_now v.names path ≡ Ok file → current_of v file ≡ Some row → (step v (asked.Read (Tagged (record { path = path; tag = tag.Now })))).0 ≡ reply.Bytes (content_of row.cells)
reads_now v path file row named current = rw (named, current) refl

-- the cells of bytes have them
saved_content : (writer : ℕ) (bytes : List ℕ) → content_of (cells_by writer bytes) ≡ bytes
saved_content writer bytes = content_of-written writer 0 bytes [] ∙ grind (arith, append-nil bytes)

-- ---- the next version of a file that a path names

module _ (w : World) (k : HasParts w) (path : List (List ℕ)) (file : ℕ) (cells : List Cell) (named : file_now w.names path ≡ Ok file) where
  abbrev row : VersionRow
  row = next_version w file w.now cells

  abbrev appended : World
  appended = after_change w (Append file w.now cells)

  current : current_of appended file ≡ Some row
  current = grind (arith, nat_tests, new_found w file (k.holds Versions).each w.now cells, next_of-numbered_on w.files file, file_there w.files w.now w.names path file (k.holds Names).each named)

  has_bytes : (number : ℕ) (bytes : List ℕ) → next_of w.files file ≡ number → content_of cells ≡ bytes → HasBytes w.now path number bytes appended
  has_bytes number bytes numbered content = record {
    file = file;
    is = row;
    named = named;
    current = current;
    numbered = numbered;
    opened = refl;
    closed = refl;
    no_end = rw (file_live w.names path file named) refl;
    content = content;
    read = reads_now appended path file row named current ∙ ap reply.Bytes content;
  }

-- ---- and that of a file that is made

module _ (w : World) (k : HasParts w) (path : List (List ℕ)) (at : ℕ × List ℕ) (found : parent_now w.names path ≡ Ok at) (free : is_some (live_target w.names at.0 at.1) ≡ false) (bytes : List ℕ) where
  abbrev id : ℕ
  id = w.made.files + 1

  abbrev made : World
  made = after_change w (MakeFile at.0 at.1 id (default_of w.directories at.0))

  made_has : MayMake w at.0 at.1 id (default_of w.directories at.0) → HasBytes w.now path 2 bytes (after_change made (Append id w.now (cells_by 2 bytes)))
  made_has may = has_bytes made (change_keeps w (MakeFile at.0 at.1 id (default_of w.directories at.0)) may k) path id (cells_by 2 bytes) (ap file_at (new_leads w.names path at (File id) w.now found free)) 2 bytes (made_next w at.0 at.1 (default_of w.directories at.0) k) (saved_content 2 bytes)

-- ---- a save

pub save_reads : (w : World) (path : List (List ℕ)) (bytes : List ℕ) (number : ℕ) → HasParts w → (step w (asked.Save path bytes)).0 ≡ reply.Version number → HasBytes w.now path number bytes ((step w (asked.Save path bytes)).1)
save_reads w path bytes number k = in_all w (λ answer. answer.0 ≡ reply.Version number → HasBytes w.now path number bytes (answer.1)) (plan w (asked.Save path bytes)) (λ refusal told. absurd cc) (λ at found standing stood fits.
    let may = allowed w (asked.Save path bytes) k at found standing stood fits in (
      λ none files names versions told.
          let two : number ≡ 2 = cc in
          rw two (made_has w k path at found (standing_free _ standing stood none) bytes (may.0 none files names versions).0),
      λ file is drafts versions told.
          let named = ap file_at (place_leads w.names path at (File file) found (standing_is _ standing file stood is)) in
          has_bytes w k path file (cells_by (next_of w.files file) bytes) named number bytes (cc) (saved_content (next_of w.files file) bytes),
    ))

-- ---- a restore

module _ (w : World) (k : HasParts w) (path : List (List ℕ)) (moment : ℕ) (row : VersionRow) (was : version_then w path moment ≡ Ok row) where
  meant : IsMeant w.versions row.file row
  meant = then_is w path moment row was

  -- the version is of a file that was made
  given : row.file ≤ w.made.files
  given = grind (arith, nat_tests, k.holds Versions, k.holds Files, meant, all-found meant.passes (IsVersion w.files w.now) w.versions, next_of-given w.made.files w.made.versions w.files row.file)

  held : IsFound w.versions row
  held = all-found meant.passes (IsFound w.versions) w.versions row meant.found (all_found w.versions (k.holds Versions).placed)

  -- over a file
  over : (file number : ℕ) → file_now w.names path ≡ Ok file → next_of w.files file ≡ number → (row.file == file) ≡ false
      → BringsBack w path moment number (after_change w (Append file w.now (cells_by (next_of w.files file) (content_of row.cells))))
  over file number named numbered apart = record {
    was = row;
    found = was;
    has = has_bytes w k path file (cells_by (next_of w.files file) (content_of row.cells)) named number (content_of row.cells) numbered (saved_content (next_of w.files file) (content_of row.cells));
    cells = λ same. absurd (grind (arith, nat_tests, same, apart));
  }

  own : (file number : ℕ) → file_now w.names path ≡ Ok file → next_of w.files file ≡ number → BringsBack w path moment number (after_change w (Append file w.now row.cells))
  unfolding has_bytes
  own file number named numbered = record {
    was = row;
    found = was;
    has = has_bytes w k path file row.cells named number (content_of row.cells) numbered refl;
    cells = λ same. refl;
  }

  -- under a name that is free
  module _ (at : ℕ × List ℕ) (found : parent_now w.names path ≡ Ok at) (free : is_some (live_target w.names at.0 at.1) ≡ false) where
    anew : MayMake w at.0 at.1 (w.made.files + 1) (default_of w.directories at.0) → BringsBack w path moment 2 (after_changes w (MakeFile at.0 at.1 (w.made.files + 1) (default_of w.directories at.0) ∷ Append (w.made.files + 1) w.now (cells_by 2 (content_of row.cells)) ∷ []))
    unfolding made_has has_bytes
    anew may = record {
      was = row;
      found = was;
      has = made_has w k path at found free (content_of row.cells) may;
      cells = λ same. absurd (omega (arith, same, given));
    }

    again : (number : ℕ) → MayRevive w at.0 at.1 row.file row.number → next_of w.files row.file ≡ number → BringsBack w path moment number (after_change w (Revive at.0 at.1 row.file row.number))
    again number may numbered =
        let is = next_version (with_name w at.0 at.1 (File row.file)) row.file w.now (version_cells w row.file row.number) in
        let after : World = after_change w (Revive at.0 at.1 row.file row.number) in
        let named : file_now after.names path ≡ Ok row.file = ap file_at (new_leads w.names path at (File row.file) w.now found free) in
        let current = current_is w path at k found free row.file row.number may in
        let same : is.cells ≡ row.cells = rw held refl in
        record {
          was = row;
          found = was;
          has = record {
            file = row.file;
            is = is;
            named = named;
            current = current;
            numbered = numbered;
            opened = refl;
            closed = refl;
            no_end = rw (named_live w at.0 at.1 row.file) refl;
            content = ap content_of same;
            read = reads_now after path row.file is named current ∙ ap (λ cells. reply.Bytes (content_of cells)) same;
          };
          cells = λ its. same;
        }

pub restore_reads : (w : World) (path : List (List ℕ)) (moment number : ℕ) → HasParts w → (step w (asked.Restore path moment)).0 ≡ reply.Version number → BringsBack w path moment number ((step w (asked.Restore path moment)).1)
restore_reads w path moment number k = in_all w (λ answer. answer.0 ≡ reply.Version number → BringsBack w path moment number (answer.1)) (plan w (asked.Restore path moment)) (λ refusal told. absurd cc) (λ row was at found standing stood.
    let may = allowed w (asked.Restore path moment) k row was at found standing stood in (
      λ none.
          let free = standing_free _ standing stood none in (
            λ live files names versions told.
                let two : number ≡ 2 = cc in
                rw two (anew w k path moment row was at found free ((may.0 none).0 live files names versions).0),
            λ nameless drafts names versions told. again w k path moment row was at found free number ((may.0 none).1 nameless drafts names versions).0 (cc),
          ),
      λ file is.
          let named = ap file_at (place_leads w.names path at (File file) found (standing_is _ standing file stood is)) in (
            λ same drafts versions told. own w k path moment row was file number named (cc),
            λ apart drafts versions told. over w k path moment row was file number named (cc) apart,
          ),
    ))
