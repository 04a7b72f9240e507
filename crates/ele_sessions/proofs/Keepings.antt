-- That the fields keep their order and counts when a handle is opened or closed.
use Rattle.ele_sessions.proofs.Basics.{IfOk, Result, ◌≡◌, ℕ, ◌+◌, ◌-◌, true, Ok, Err, refl, cond, nat_lt, List, [], ◌∷◌, ◌++◌, Some, ap, ◌∙◌, arith, list_any, find, length-append, nat_tests, remove_first, counted, Tally, length-remove_first-le}
use Rattle.ele_sessions.proofs.Words.{FoundHandle, StandsAt, Layout, Store, RewritesDraft, Resizes, has_length, left_drafts, Keeps, reads_eq, reading, AreOrderly, Draft, AllSessions, is_handle, is_writer, is_draft, reads_by, file_by, HandleRow, Reads, Refusal}
use Rattle.ele_model.specs.declared.rows.Reads.TheVariants as reads
use Rattle.ele_sessions.proofs.Counts.{reading-push, reading-left, any-writer}
use Rattle.ele_sessions.proofs.Orders.{reader_left, writer_left, its_draft, rewritten}

-- the handle of that number, by what is read through it
pub record IsRead (hs : List HandleRow) (number : ℕ) (what : Reads) : Type 0 where
  pub handle : HandleRow
  pub found : find (is_handle number) hs ≡ Some handle
  pub is : handle.reads ≡ what

-- a file that is written through the handle
pub written_by : (hs : List HandleRow) (number file : ℕ) → Ok file ≡ file_by hs number → Ok (reads.Draft file) ≡ reads_by hs number
written_by hs number file is = grind (arith, nat_tests, is, reads_by)

-- what a handle at that place reads
pub stood_reads : (hs : List HandleRow) (found : FoundHandle) → StandsAt hs found → Ok found.row.reads ≡ reads_by hs found.row.number
stood_reads hs found stands = rw stands.row refl

module _ (s : AllSessions) (counts : Tally Reads) (keeps : Keeps s counts) where
  pub entered_keeps : (h : HandleRow) (ds : List Draft) (ready counts' : Tally Reads) → AreOrderly (record { drafts = ds; handles = s.handles ++ h ∷ []; opened = s.opened + 1 }) → ((what : Reads) → counted reads_eq ready what ≡ counted reads_eq counts what) → ((what : Reads) → counted reads_eq counts' what ≡ counted reads_eq ready what + cond (reads_eq h.reads what) 1 0) → Keeps (record { drafts = ds; handles = s.handles ++ h ∷ []; opened = s.opened + 1 }) counts'
  entered_keeps h ds ready counts' orderly same more = record {
    orderly = orderly;
    few = omega (arith, length-append s.handles (h ∷ []), keeps.few);
    counted = λ what. omega (arith, same what, more what, keeps.counted what, reading-push what s.handles h);
  }

  -- another map for a draft
  pub rewritten_keeps : (ds : List Draft) (file : ℕ) (Made : Draft → Layout → Type 0) → RewritesDraft s.drafts ds file Made → Keeps (record s { drafts = ds }) counts
  rewritten_keeps ds file Made h = rw h.made (record { orderly = rewritten s keeps.orderly file h.layout; few = keeps.few; counted = keeps.counted })

  pub resized_keeps : (t u : Store) (ds : List Draft) (file size : ℕ) → Resizes t u s.drafts ds file size → Keeps (record s { drafts = ds }) counts
  resized_keeps t u ds file size = grind (arith, nat_tests, has_length, find, is_draft, rewritten_keeps)

  -- one handle fewer
  module _ (number : ℕ) (what : Reads) (read : Ok what ≡ reads_by s.handles number) where
    abbrev rest : List HandleRow
    rest = remove_first (is_handle number) s.handles

    its : IsRead s.handles number what
    its = grind (arith, read)

    fewer_by : (other : Reads) → reading other rest + cond (reads_eq what other) 1 0 ≡ reading other s.handles
    fewer_by other = rw (← its.is) (reading-left other number s.handles its.handle its.found)

    module _ (counts' : Tally Reads) (fewer : (other : Reads) → counted reads_eq counts' other ≡ counted reads_eq counts other - cond (reads_eq what other) 1 0) where
      counted_left : (other : Reads) → counted reads_eq counts' other ≡ reading other rest
      counted_left other = omega (arith, fewer other, keeps.counted other, fewer_by other)

      left_keeps : (ds : List Draft) → AreOrderly (record s { drafts = ds; handles = rest }) → Keeps (record s { drafts = ds; handles = rest }) counts'
      left_keeps ds orderly = grind (arith, nat_tests, length-remove_first-le, is_handle, counted, counted_left)

      pub reader_keeps : (file version : ℕ) → what ≡ reads.Version file version → Keeps (record s { handles = rest }) counts'
      reader_keeps file version is = left_keeps s.drafts (reader_left s keeps.orderly number its.handle its.found file version (its.is ∙ is))

      pub writer_keeps : (file : ℕ) → what ≡ reads.Draft file → Keeps (record s { drafts = left_drafts (list_any (is_writer file) rest) file s.drafts; handles = rest }) counts'
      writer_keeps file is = left_keeps (left_drafts (list_any (is_writer file) rest) file s.drafts) (writer_left s keeps.orderly number its.handle its.found file (its.is ∙ is))

      -- whether the draft stays, by the counts after the handle is removed
      pub stays_now : (file : ℕ) → nat_lt 0 (counted reads_eq counts' (reads.Draft file)) ≡ list_any (is_writer file) rest
      stays_now file = ap (nat_lt 0) (counted_left (reads.Draft file)) ∙ any-writer file rest

    module _ (file : ℕ) (is : what ≡ reads.Draft file) where
      pub draft_there : list_any (is_draft file) s.drafts ≡ true
      draft_there = its_draft s keeps.orderly number its.handle its.found file (its.is ∙ is)

      -- and before
      pub stays_then : nat_lt 1 (counted reads_eq counts (reads.Draft file)) ≡ list_any (is_writer file) rest
      stays_then = grind (arith, nat_tests, is, keeps.counted (reads.Draft file), fewer_by (reads.Draft file), any-writer file rest)

  -- a file that a handle writes has its draft
  pub file_drafted : (number : ℕ) (r : Result ℕ Refusal) → r ≡ file_by s.handles number → IfOk r (λ file. list_any (is_draft file) s.drafts ≡ true)
  file_drafted number (Ok file) is = draft_there number (reads.Draft file) (written_by s.handles number file is) file refl
  file_drafted number (Err refusal) is = tt
