-- Contents of one place have the same bytes, said of what is read and of the rows.
use Rattle.ele_well_formed.proofs.Words.{AllByRecursion, AllLater, ArePlaced, Cell, DraftRow, List, Option, Some, VersionRow, World, [], all-append, all-both, all-found, all-map, all-right, all-weaker, ap, arith, find, found_passes, is_draft, map-all, nat_tests, option_map_or, refl, slice_get, sym, ℕ, ◌<◌, ◌∙◌, ◌∷◌, ◌≡◌}
use Rattle.ele_lists.proofs.Alls.{all-left}
use Rattle.ele_model.proofs.Versions.{IsFound, all_found}
use Rattle.ele_model.specs.OneContent.{HasOneContent, file_read}
use Rattle.ele_model.specs.Step.{cells_read}
use Rattle.ele_model.specs.declared.rows.Reads.{Reads}
use Rattle.ele_model.specs.declared.rows.Reads.TheVariants.{Draft, Version}
use Rattle.ele_well_formed.specs.Sharing.{AreShared, Content, IsSharing, contents}

-- ---- relations between any two of a list

later_of_all : {X : Type 0} (P : X → Type 0) (R : X → X → Type 0) (xs : List X) → ((x y : X) → P x → P y → R x y) → AllByRecursion P xs → AllLater R xs
later_of_all P R [] each all = tt
later_of_all P R (x ∷ xs) each all = (all-weaker P (R x) xs (λ y is. each x y all.0 is) all.1, later_of_all P R xs each all.1)

all_of_later : {X : Type 0} (R : X → X → Type 0) (xs : List X) → ((x : X) → R x x) → ((x y : X) → R x y → R y x) → AllLater R xs → AllByRecursion (λ x. AllByRecursion (R x) xs) xs
all_of_later R [] same turned later = tt
all_of_later R (x ∷ xs) same turned later = (
  (same x, later.0),
  all-weaker (λ y. R x y × AllByRecursion (R y) xs) (λ y. AllByRecursion (R y) (x ∷ xs)) xs (λ y h. (turned x y h.0, h.1)) (all-both (R x) (λ y. AllByRecursion (R y) xs) xs later.0 (all_of_later R xs same turned later.1)),
)

-- ---- contents that are read, and those of the rows

abbrev content : ℕ → List Cell → Content
content file cells = record { file = file; cells = cells }

abbrev of_version : VersionRow → Content
of_version row = content row.file row.cells

abbrev of_draft : DraftRow → Content
of_draft row = content row.file row.cells

abbrev that : World → Reads → Content
that w read = content (file_read read) (cells_read w read)

-- the content can be read
record IsRead (w : World) (its : Content) : Type 0 where
  read : Reads
  file : file_read read ≡ its.file
  cells : cells_read w read ≡ its.cells

abbrev IsFoundDraft : List DraftRow → DraftRow → Type 0
IsFoundDraft rows row = find (is_draft row.file) rows ≡ Some row

drafts_found : (rows : List DraftRow) → AllLater (λ earlier later. earlier.file < later.file) rows → AllByRecursion (IsFoundDraft rows) rows
drafts_found [] placed = tt
drafts_found (x ∷ xs) placed = grind (arith, nat_tests, all-weaker (λ y. (x.file < y.file) × IsFoundDraft xs y) (IsFoundDraft (x ∷ xs)) xs, all-both (λ (y : DraftRow). x.file < y.file) (IsFoundDraft xs) xs, drafts_found xs)

all_read : (w : World) → AllLater ArePlaced w.versions → AllLater (λ earlier later. earlier.file < later.file) w.drafts → AllByRecursion (IsRead w) (contents w)
all_read w versions drafts = all-append (IsRead w) _ _
    (all-map of_version (IsRead w) w.versions (all-weaker (IsFound w.versions) (λ row. IsRead w (of_version row)) w.versions (λ row found. record { read = Version row.file row.number; file = refl; cells = rw found refl }) (all_found w.versions versions)))
    (all-map of_draft (IsRead w) w.drafts (all-weaker (IsFoundDraft w.drafts) (λ row. IsRead w (of_draft row)) w.drafts (λ row found. record { read = Draft row.file; file = refl; cells = rw found refl }) (drafts_found w.drafts drafts)))

-- what holds of the contents of all rows holds of all that is read
module _ (P : Content → Type 0) (none : (file : ℕ) → P (content file [])) (w : World) where
  read_by : AllByRecursion (λ row. P (of_version row)) w.versions → AllByRecursion (λ row. P (of_draft row)) w.drafts → (read : Reads) → P (that w read)
  read_by versions drafts (Draft file) = grind (arith, nat_tests, none, drafts, all-found, found_passes)
  read_by versions drafts (Version file number) = grind (arith, nat_tests, none, versions, all-found, found_passes)

  read_of : AllByRecursion P (contents w) → (read : Reads) → P (that w read)
  read_of all = read_by (map-all of_version P w.versions (all-left P _ _ all)) (map-all of_draft P w.drafts (all-right P _ _ all))

empty : (cells : List Cell) (slot : ℕ) (cell : Cell) → cells ≡ [] → slice_get cells slot ≡ Some cell → ⊥
empty [] slot cell none found = absurd cc
empty (x ∷ xs) slot cell none found = absurd cc

-- ---- both

pub sharing_of : (w : World) → AllLater ArePlaced w.versions → AllLater (λ earlier later. earlier.file < later.file) w.drafts → HasOneContent w → IsSharing w
sharing_of w versions drafts have = later_of_all (IsRead w) AreShared (contents w) each (all_read w versions drafts) where
  each : (x y : Content) → IsRead w x → IsRead w y → AreShared x y
  each x y a b = λ place bytes other here there.
      have a.read b.read (a.file ∙ here.of_file ∙ sym there.of_file ∙ sym b.file) place.slot (record { writer = place.writer; bytes = bytes }) (record { writer = place.writer; bytes = other })
      (ap (λ (cells : List Cell). slice_get cells place.slot) a.cells ∙ here.there) (ap (λ (cells : List Cell). slice_get cells place.slot) b.cells ∙ there.there) refl

same_bytes : (found : Option Cell) (writer : ℕ) (bytes other : List ℕ) → found ≡ Some (record { writer = writer; bytes = bytes }) → found ≡ Some (record { writer = writer; bytes = other }) → bytes ≡ other
same_bytes found writer bytes other one two = ap (λ (o : Option Cell). option_map_or (λ (cell : Cell). cell.bytes) o []) (sym one ∙ two)

shared_self : (x : Content) → AreShared x x
shared_self x = λ place bytes other here there. same_bytes (slice_get x.cells place.slot) place.writer bytes other here.there there.there

shared_turned : (x y : Content) → AreShared x y → AreShared y x
shared_turned x y shared = λ place bytes other here there. sym (shared place other bytes there here)

pub one_content_of : (w : World) → IsSharing w → HasOneContent w
one_content_of w shared one other same slot cell twin found there writers =
    both one other (record { file = file_read one; slot = slot; writer = cell.writer }) cell.bytes twin.bytes (record { of_file = refl; there = found })
    (record { of_file = sym same; there = there ∙ ap (λ (writer : ℕ). Some (record { writer = writer; bytes = twin.bytes })) (sym writers) }) where
      both : (one other : Reads) → AreShared (that w one) (that w other)
      both one other =
          read_of (λ x. (other : Reads) → AreShared x (that w other)) (λ file other place bytes these here there. absurd (empty [] place.slot _ refl here.there)) w
          (all-weaker (λ x. AllByRecursion (AreShared x) (contents w)) (λ x. (other : Reads) → AreShared x (that w other)) (contents w)
          (λ x all. read_of (AreShared x) (λ file place bytes these here there. absurd (empty [] place.slot _ refl there.there)) w all)
          (all_of_later AreShared (contents w) shared_self shared_turned shared)) one other
