-- The rows of a world, file by file.
use Rattle.ele_files.proofs.Words.{AllByRecursion, AllLater, Bool, Cell, DraftRow, FileRow, Held, List, None, Option, Reads, Some, VersionRow, World, [], all-both, all-left, all-weaker, ap, append_assoc, append_nil, arith, eqb, false, find, find-at, is_file, is_version, later-weaker, length, nat_tests, next_of, option_map_or, refl, subst, sym, take, take_all, true, ℕ, ◌++◌, ◌+◌, ◌-◌, ◌<◌, ◌∙◌, ◌∷◌, ◌≡◌, ◌≤◌}
use Rattle.ele_files.proofs.Begun.{next_has}
use Rattle.ele_files.specs.Adding.{AgreeWith, AreHandled, AreNextDrafts, AreNextVersions, AreWhole, Growing, IsMadeUpTo, IsNextFile, own_length, unopened_rows, with_drafts, with_next, with_versions}
use Rattle.ele_lists.proofs.Alls.{all-mid, all-split, later-around, later-right}
use Rattle.ele_model.specs.OneContent.{Agree, file_read}
use Rattle.ele_model.specs.Start.{IsStart}
use Rattle.ele_model.specs.Step.{cells_read}
use Rattle.ele_model.specs.WellFormed.{ArePlaced, IsDraft, IsFile, IsVersion}
use Rattle.ele_model.specs.World.{is_draft}
use Rattle.ele_model.specs.declared.rows.Reads.TheVariants as reads
use Rattle.std.proofs.Common.{add-one, drop, get_or}
use Rattle.std.proofs.Math.Seq.{take-add}
use Rattle.std.proofs.lemmas.List.{drop-drop, drop_all, drop_more, length-drop, take-append-drop}
use Rattle.std.specs.Prelude.{IfSome}

-- ---- each row is found by its numbers

not_it : (earlier row : VersionRow) → ArePlaced earlier row → is_version row.file row.number earlier ≡ false
not_it earlier row placed = let after = placed.after in grind (arith, nat_tests, after)

each_version : (versions : List VersionRow) → AllLater ArePlaced versions → AllByRecursion (λ (row : VersionRow). find (is_version row.file row.number) versions ≡ Some row) versions
each_version versions placed = all-split (λ (row : VersionRow). find (is_version row.file row.number) versions ≡ Some row) versions (λ before row behind is.
    let earlier = (later-around ArePlaced before row behind (subst (AllLater ArePlaced) is placed)).0 in
    let none = all-weaker (λ (x : VersionRow). ArePlaced x row) (λ (x : VersionRow). is_version row.file row.number x ≡ false) before (λ x p. not_it x row p) earlier in
    ap (find (is_version row.file row.number)) is ∙ find-at (is_version row.file row.number) before row behind none (grind (arith, nat_tests)))

each_draft : (drafts : List DraftRow) → AllLater (λ (x y : DraftRow). x.file < y.file) drafts → AllByRecursion (λ (row : DraftRow). find (is_draft row.file) drafts ≡ Some row) drafts
each_draft drafts placed = all-split (λ (row : DraftRow). find (is_draft row.file) drafts ≡ Some row) drafts (λ before row behind is.
    let earlier = (later-around (λ (x y : DraftRow). x.file < y.file) before row behind (subst (AllLater (λ (x y : DraftRow). x.file < y.file)) is placed)).0 in
    let none = all-weaker (λ (x : DraftRow). x.file < row.file) (λ (x : DraftRow). is_draft row.file x ≡ false) before (λ x lt. grind (arith, nat_tests, lt)) earlier in
    ap (find (is_draft row.file)) is ∙ find-at (is_draft row.file) before row behind none (grind (arith, nat_tests)))

-- ---- a place has one content

module _ (w : World) (start : IsStart w) where
  version_read : (row : VersionRow) → find (is_version row.file row.number) w.versions ≡ Some row → cells_read w (reads.Version row.file row.number) ≡ row.cells
  version_read row found = ap (λ (o : Option VersionRow). option_map_or (λ (row : VersionRow). row.cells) o []) found

  draft_read : (row : DraftRow) → find (is_draft row.file) w.drafts ≡ Some row → cells_read w (reads.Draft row.file) ≡ row.cells
  draft_read row found = ap (λ (o : Option DraftRow). option_map_or (λ (row : DraftRow). row.cells) o []) found

  agree : (one other : Reads) (cells others : List Cell) → cells_read w one ≡ cells → cells_read w other ≡ others → file_read one ≡ file_read other → Agree cells others
  agree one other cells others is are same = subst (λ (cs : List Cell). Agree cs others) is (subst (λ (cs : List Cell). Agree (cells_read w one) cs) are (start.contents one other same))

  found_versions : AllByRecursion (λ (row : VersionRow). find (is_version row.file row.number) w.versions ≡ Some row) w.versions
  found_versions = each_version w.versions start.formed.versions.placed

  found_drafts : AllByRecursion (λ (row : DraftRow). find (is_draft row.file) w.drafts ≡ Some row) w.drafts
  found_drafts = each_draft w.drafts start.formed.drafts.placed

  all_agree : (other : Reads) (cells : List Cell) → cells_read w other ≡ cells → AgreeWith w.versions w.drafts (file_read other) cells
  all_agree other cells are = record {
    versions = all-weaker (λ (row : VersionRow). find (is_version row.file row.number) w.versions ≡ Some row) (λ (row : VersionRow). row.file ≡ file_read other → Agree row.cells cells) w.versions (λ row found same. agree (reads.Version row.file row.number) other row.cells cells (version_read row found) are same) found_versions;
    drafts = all-weaker (λ (row : DraftRow). find (is_draft row.file) w.drafts ≡ Some row) (λ (row : DraftRow). row.file ≡ file_read other → Agree row.cells cells) w.drafts (λ row found same. agree (reads.Draft row.file) other row.cells cells (draft_read row found) are same) found_drafts;
  }

  pub whole_rows : AreWhole w.files w.versions w.drafts
  whole_rows = record {
    files_made = w.made.files;
    versions_made = w.made.versions;
    moment = w.now;
    each_file = start.formed.files;
    each_version = start.formed.versions;
    each_draft = start.formed.drafts;
    version_contents = all-weaker (λ (row : VersionRow). find (is_version row.file row.number) w.versions ≡ Some row) (λ (row : VersionRow). AgreeWith w.versions w.drafts row.file row.cells) w.versions (λ row found. all_agree (reads.Version row.file row.number) row.cells (version_read row found)) found_versions;
    draft_contents = all-weaker (λ (row : DraftRow). find (is_draft row.file) w.drafts ≡ Some row) (λ (row : DraftRow). AgreeWith w.versions w.drafts row.file row.cells) w.drafts (λ row found. all_agree (reads.Draft row.file) row.cells (draft_read row found)) found_drafts;
  }

  pub handled_rows : AreHandled w.drafts w.handles w.made.handles
  handled_rows = record { rise = start.formed.drafts.placed; each = start.formed.handles; written = start.writers }

-- ---- the rows of one file are next

ended_after : (closed now : ℕ) (o : Option ℕ) → IfSome o (λ ended. (closed ≤ ended) × (ended ≤ now)) → IfSome o (λ ended. closed ≤ ended)
ended_after closed now None h = tt
ended_after closed now (Some ended) h = h.0

module _ (files : List FileRow) (versions : List VersionRow) (drafts : List DraftRow) (whole : AreWhole files versions drafts) where
  abbrev Whole : VersionRow → Type 0
  Whole row = AgreeWith versions drafts row.file row.cells

  -- those that are there agree with the cells of a row of the file
  part_agrees : (file other : ℕ) (cells : List Cell) (had more : List VersionRow) (held left : List DraftRow) → versions ≡ had ++ more → drafts ≡ held ++ left → file ≡ other → AgreeWith versions drafts file cells → AgreeWith had held other cells
  part_agrees file other cells had more held left are drafted same agrees = record {
    versions = all-left (λ (row : VersionRow). row.file ≡ other → Agree row.cells cells) had more (subst (λ (id : ℕ). AllByRecursion (λ (row : VersionRow). row.file ≡ id → Agree row.cells cells) (had ++ more)) same (subst (AllByRecursion (λ (row : VersionRow). row.file ≡ file → Agree row.cells cells)) are agrees.versions));
    drafts = all-left (λ (row : DraftRow). row.file ≡ other → Agree row.cells cells) held left (subst (λ (id : ℕ). AllByRecursion (λ (row : DraftRow). row.file ≡ id → Agree row.cells cells) (held ++ left)) same (subst (AllByRecursion (λ (row : DraftRow). row.file ≡ file → Agree row.cells cells)) drafted agrees.drafts));
  }

  pub versions_next : (g : Growing) (rows rest : List VersionRow) (left : List DraftRow) → versions ≡ g.held.versions ++ (rows ++ rest) → drafts ≡ g.held.drafts ++ left → next_of files g.file.id ≡ g.file.next → AllByRecursion (λ (row : VersionRow). row.file ≡ g.file.id) rows → AreNextVersions g rows
  versions_next g [] rest left are drafted next own = tt
  versions_next g (row ∷ rows) rest left are drafted next own =
      let each : IsVersion files whole.moment row = all-mid (IsVersion files whole.moment) g.held.versions row (rows ++ rest) (subst (AllByRecursion (IsVersion files whole.moment)) are whole.each_version.each) in
      let agrees : AgreeWith versions drafts row.file row.cells = all-mid Whole g.held.versions row (rows ++ rest) (subst (AllByRecursion Whole) are whole.version_contents) in
      let number : next_of files row.file ≡ g.file.next = ap (next_of files) own.0 ∙ next in (
        record {
          own = own.0;
          first = each.first;
          numbered = subst (λ (n : ℕ). row.number < n) number each.numbered;
          ended = ended_after row.closed whole.moment row.ended each.ended;
          open_end = λ none. each.open_end none ∙ number;
          placed = (later-around ArePlaced g.held.versions row (rows ++ rest) (subst (AllLater ArePlaced) are whole.each_version.placed)).0;
          beside = record {
            content = each.content;
            written = each.written;
            agrees = part_agrees row.file g.file.id row.cells g.held.versions (row ∷ rows ++ rest) g.held.drafts left are drafted own.0 agrees;
          };
        },
        versions_next (with_versions g (row ∷ [])) rows rest left (are ∙ sym (append_assoc g.held.versions (row ∷ []) (rows ++ rest))) drafted next own.1,
      )

  pub drafts_next : (g : Growing) (rows rest : List DraftRow) (more : List VersionRow) → versions ≡ g.held.versions ++ more → drafts ≡ g.held.drafts ++ (rows ++ rest) → next_of files g.file.id ≡ g.file.next → AllByRecursion (λ (row : DraftRow). row.file ≡ g.file.id) rows → AreNextDrafts g rows
  drafts_next g [] rest more are drafted next own = tt
  drafts_next g (row ∷ rows) rest more are drafted next own =
      let each : IsDraft files whole.moment row = all-mid (IsDraft files whole.moment) g.held.drafts row (rows ++ rest) (subst (AllByRecursion (IsDraft files whole.moment)) drafted whole.each_draft.each) in
      let agrees : AgreeWith versions drafts row.file row.cells = all-mid (λ (row : DraftRow). AgreeWith versions drafts row.file row.cells) g.held.drafts row (rows ++ rest) (subst (AllByRecursion (λ (row : DraftRow). AgreeWith versions drafts row.file row.cells)) drafted whole.draft_contents) in
      let number : next_of files row.file ≡ g.file.next = ap (next_of files) own.0 ∙ next in (
        record {
          own = own.0;
          beside = record {
            content = each.content;
            written = subst (λ (n : ℕ). AllByRecursion (λ (cell : Cell). cell.writer ≤ n) row.cells) number each.written;
            agrees = part_agrees row.file g.file.id row.cells g.held.versions more g.held.drafts (row ∷ rows ++ rest) are drafted own.0 agrees;
          };
        },
        drafts_next (with_drafts g (row ∷ [])) rows rest more are (drafted ∙ sym (append_assoc g.held.drafts (row ∷ []) (rows ++ rest))) next own.1,
      )

-- ---- the first rows are of the next file, and the others of later ones

module _ {X : Type 0} (file_of : X → ℕ) (file : ℕ) where
  pub own_within : (xs : List X) → own_length file_of file xs ≤ length xs
  own_within [] = omega arith
  own_within (x ∷ xs) = grind (arith, own_within xs)

  pub own_front : (xs : List X) → AllByRecursion (λ (x : X). file_of x ≡ file) (take (own_length file_of file xs) xs)
  own_front [] = tt
  own_front (x ∷ xs) = by (eqb (file_of x) file) refl (own_front xs) where
    by : (b : Bool) → eqb (file_of x) file ≡ b → AllByRecursion (λ (y : X). file_of y ≡ file) (take (own_length file_of file xs) xs) → AllByRecursion (λ (y : X). file_of y ≡ file) (take (own_length file_of file (x ∷ xs)) (x ∷ xs))
    by true e rest = rw (e, add-one (own_length file_of file xs)) (grind (arith, nat_tests, e), rest)
    by false e rest = rw e tt

module _ {X : Type 0} (file_of : X → ℕ) (f : FileRow) (fs : List FileRow) (rise : AllByRecursion (λ (row : FileRow). f.id < row.id) fs) where
  -- a file that is there and isn't this one is a later one
  still_there : (id : ℕ) → 0 < next_of (f ∷ fs) id → eqb id f.id ≡ false → 0 < next_of fs id
  still_there id there other = let apart : eqb f.id id ≡ false = grind (arith, nat_tests, other) in rw apart at there

  pub ahead_left : (xs : List X) → AllLater (λ (x y : X). file_of x ≤ file_of y) xs → AllByRecursion (λ (x : X). 0 < next_of (f ∷ fs) (file_of x)) xs → AllByRecursion (λ (x : X). 0 < next_of fs (file_of x)) (drop (own_length file_of f.id xs) xs)
  ahead_left [] later ahead = tt
  ahead_left (x ∷ xs) later ahead = by (eqb (file_of x) f.id) refl (ahead_left xs later.1 ahead.1) where
    others : eqb (file_of x) f.id ≡ false → AllByRecursion (λ (x : X). 0 < next_of fs (file_of x)) (x ∷ xs)
    others e =
        let there : 0 < next_of fs (file_of x) = still_there (file_of x) ahead.0 e in
        let lt : f.id < file_of x = next_has (λ id. f.id < id) fs (file_of x) rise there in (
          there,
          all-weaker (λ (y : X). (file_of x ≤ file_of y) × (0 < next_of (f ∷ fs) (file_of y))) (λ (y : X). 0 < next_of fs (file_of y)) xs (λ y h.
              let after = h.0 in
              still_there (file_of y) h.1 (grind (arith, nat_tests, lt, after))) (all-both (λ (y : X). file_of x ≤ file_of y) (λ (y : X). 0 < next_of (f ∷ fs) (file_of y)) xs later.0 ahead.1),
        )

    by : (b : Bool) → eqb (file_of x) f.id ≡ b → AllByRecursion (λ (x : X). 0 < next_of fs (file_of x)) (drop (own_length file_of f.id xs) xs) → AllByRecursion (λ (x : X). 0 < next_of fs (file_of x)) (drop (own_length file_of f.id (x ∷ xs)) (x ∷ xs))
    by true e rest = rw (e, add-one (own_length file_of f.id xs)) rest
    by false e rest = rw e (others e)

-- nothing is left where no file is
pub none_ahead : {X : Type 0} (file_of : X → ℕ) (xs : List X) → AllByRecursion (λ (x : X). 0 < next_of [] (file_of x)) xs → xs ≡ []
none_ahead file_of [] ahead = refl
none_ahead file_of (x ∷ xs) ahead = absurd (omega (arith, ahead.0))

taken_all : {X : Type 0} (i : ℕ) (xs : List X) → drop i xs ≡ [] → take i xs ≡ xs
taken_all i xs none = sym (append_nil (take i xs)) ∙ ap (λ ys. take i xs ++ ys) (sym none) ∙ take-append-drop i xs

dropped : {X : Type 0} (i n : ℕ) (xs : List X) → drop (i + n) xs ≡ drop n (drop i xs)
dropped i n xs = sym (drop-drop n i xs)

-- all that is left behind a place
pub left_behind : {X : Type 0} (i : ℕ) (xs : List X) → take (length xs - i) (drop i xs) ≡ drop i xs
left_behind i xs = take_all (length xs - i) (drop i xs) (omega (arith, length-drop i xs))

module _ (files : List FileRow) (versions : List VersionRow) (drafts : List DraftRow) (whole : AreWhole files versions drafts) where
  pub none_made : IsMadeUpTo files versions drafts 0 0 0 (unopened_rows [] [] [])
  none_made = record {
    made = refl;
    versions_within = omega arith;
    drafts_within = omega arith;
    versions_ahead = all-weaker (IsVersion files whole.moment) (λ (row : VersionRow). 0 < next_of files row.file) versions (λ row h. let lt = h.numbered in omega (arith, lt)) whole.each_version.each;
    drafts_ahead = all-weaker (IsDraft files whole.moment) (λ (row : DraftRow). 0 < next_of files row.file) drafts (λ row h. h.there) whole.each_draft.each;
  }

  module _ (k i j : ℕ) (h : Held) (so_far : IsMadeUpTo files versions drafts k i j h) where
    pub all_made : length files ≤ k → h ≡ unopened_rows files versions drafts
    all_made end =
        let none : drop k files ≡ [] = drop_all k files end in
        let all_versions : drop i versions ≡ [] = none_ahead (λ (row : VersionRow). row.file) (drop i versions) (rw none at so_far.versions_ahead) in
        let all_drafts : drop j drafts ≡ [] = none_ahead (λ (row : DraftRow). row.file) (drop j drafts) (rw none at so_far.drafts_ahead) in
        so_far.made ∙ rw (taken_all k files none, taken_all i versions all_versions, taken_all j drafts all_drafts) refl

    module _ (file : FileRow) (within : k < length files) (is : file ≡ get_or files k file) where
      abbrev rest : List FileRow
      rest = drop (k + 1) files

      here : drop k files ≡ file ∷ rest
      here = drop_more files k file within ∙ ap (λ (row : FileRow). row ∷ rest) (sym is)

      abbrev n : ℕ
      n = own_length (λ (row : VersionRow). row.file) file.id (drop i versions)

      abbrev m : ℕ
      m = own_length (λ (row : DraftRow). row.file) file.id (drop j drafts)

      abbrev own : List VersionRow
      own = take n (drop i versions)

      abbrev own_drafts : List DraftRow
      own_drafts = take m (drop j drafts)

      cut : files ≡ take k files ++ file ∷ rest
      cut = sym (take-append-drop k files) ∙ ap (λ (xs : List FileRow). take k files ++ xs) here

      around : AllByRecursion (λ (row : FileRow). row.id < file.id) (take k files) × AllByRecursion (λ (row : FileRow). file.id < row.id) rest
      around = later-around (λ (x y : FileRow). x.id < y.id) (take k files) file rest (subst (AllLater (λ (x y : FileRow). x.id < y.id)) cut whole.each_file.placed)

      its_next : next_of files file.id ≡ file.next
      its_next = ap (λ (xs : List FileRow). next_of xs file.id) cut ∙ ap (λ (o : Option FileRow). option_map_or (λ (row : FileRow). row.next) o 0) (find-at (is_file file.id) (take k files) file rest (all-weaker (λ (row : FileRow). row.id < file.id) (λ (row : FileRow). is_file file.id row ≡ false) (take k files) (λ row lt. grind (arith, nat_tests, lt)) around.0) (grind (arith, nat_tests)))

      split_versions : versions ≡ take i versions ++ (own ++ drop n (drop i versions))
      split_versions = sym (take-append-drop i versions) ∙ ap (λ (xs : List VersionRow). take i versions ++ xs) (sym (take-append-drop n (drop i versions)))

      split_drafts : drafts ≡ take j drafts ++ (own_drafts ++ drop m (drop j drafts))
      split_drafts = sym (take-append-drop j drafts) ∙ ap (λ (xs : List DraftRow). take j drafts ++ xs) (sym (take-append-drop m (drop j drafts)))

      abbrev before : Held
      before = unopened_rows (take k files) (take i versions) (take j drafts)

      next_before : IsNextFile before file own own_drafts
      next_before = record {
        next =
            let is : IsFile whole.files_made whole.versions_made file = all-mid (IsFile whole.files_made whole.versions_made) (take k files) file rest (subst (AllByRecursion (IsFile whole.files_made whole.versions_made)) cut whole.each_file.each) in
            let first = is.first in
            omega (arith, first);
        rises = around.0;
        versions = versions_next files versions drafts whole (with_next before file) own (drop n (drop i versions)) (drop j drafts) split_versions (sym (take-append-drop j drafts)) its_next (own_front (λ (row : VersionRow). row.file) file.id (drop i versions));
        drafts = drafts_next files versions drafts whole (with_versions (with_next before file) own) own_drafts (drop m (drop j drafts)) (drop n (drop i versions)) (split_versions ∙ sym (append_assoc (take i versions) own (drop n (drop i versions)))) split_drafts its_next (own_front (λ (row : DraftRow). row.file) file.id (drop j drafts));
      }

      pub is_next : IsNextFile h file own own_drafts
      is_next = rw so_far.made next_before

      versions_rise : AllLater (λ (x y : VersionRow). x.file ≤ y.file) (drop i versions)
      versions_rise = later-weaker ArePlaced (λ (x y : VersionRow). x.file ≤ y.file) (drop i versions) (λ x y placed. let after = placed.after in grind (arith, nat_tests, after)) (later-right ArePlaced (take i versions) (drop i versions) (subst (AllLater ArePlaced) (sym (take-append-drop i versions)) whole.each_version.placed))

      drafts_rise : AllLater (λ (x y : DraftRow). x.file ≤ y.file) (drop j drafts)
      drafts_rise = later-weaker (λ (x y : DraftRow). x.file < y.file) (λ (x y : DraftRow). x.file ≤ y.file) (drop j drafts) (λ x y lt. omega (arith, lt)) (later-right (λ (x y : DraftRow). x.file < y.file) (take j drafts) (drop j drafts) (subst (AllLater (λ (x y : DraftRow). x.file < y.file)) (sym (take-append-drop j drafts)) whole.each_draft.placed))

      front_is : take (k + 1) files ≡ take k files ++ file ∷ []
      front_is = take-add k 1 files ∙ ap (λ (xs : List FileRow). take k files ++ take 1 xs) here

      pub more_made : IsMadeUpTo files versions drafts (k + 1) (i + n) (j + m) (with_drafts (with_versions (with_next h file) own) own_drafts).held
      more_made = record {
        made = rw (so_far.made, front_is, take-add i n versions, take-add j m drafts) refl;
        versions_within = omega (arith, own_within (λ (row : VersionRow). row.file) file.id (drop i versions), length-drop i versions, so_far.versions_within);
        drafts_within = omega (arith, own_within (λ (row : DraftRow). row.file) file.id (drop j drafts), length-drop j drafts, so_far.drafts_within);
        versions_ahead = rw (dropped i n versions) (ahead_left (λ (row : VersionRow). row.file) file rest around.1 (drop i versions) versions_rise (rw here at so_far.versions_ahead));
        drafts_ahead = rw (dropped j m drafts) (ahead_left (λ (row : DraftRow). row.file) file rest around.1 (drop j drafts) drafts_rise (rw here at so_far.drafts_ahead));
      }
