-- A map of a file's cells is added to a stock, with the block of each place that has one.
use Rattle.ele_files.proofs.Words.{AllByRecursion, Cell, Draft, DraftRow, File, IsStocked, Layout, List, LivesIn, Named, None, Option, SameStock, Some, Stays, StockLaws, Store, Tagged, VersionRow, [], all-append, all-left, all-map, all-right, ap, arith, bytes_at, draft_in, draft_stock, file_stock, flat_map, map, map-all, names_in, names_of, refl, row_in, row_stock, rows_in, shown, slice_get, stock_of, subst, suc, sym, ℕ, ◌++◌, ◌+◌, ◌-◌, ◌<◌, ◌∙◌, ◌∷◌, ◌≡◌}
use Rattle.ele_blocks.specs.LivesIn.{fills}
use Rattle.ele_blocks.specs.Made.{HasBlock, IsMade}
use Rattle.ele_blocks.specs.Placed.{ArePlaced, Finds, HasBytesOf, HaveBytesOf, IsShownBy, IsShownIn, block_in, slots_with}
use Rattle.ele_blocks.specs.PlaceLaws.{PlaceLaws}
use Rattle.ele_blocks.specs.declared.new_slot.NewSlot.{NewSlot}
use Rattle.ele_blocks.specs.declared.placed.PlacedBlocks.{PlacedBlocks}
use Rattle.ele_content.specs.Content.{fill_slots}
use Rattle.ele_files.specs.Adding.{AgreeWith}
use Rattle.ele_model.specs.OneContent.{Agree}
use Rattle.std.proofs.Common.{⊎_elim}

-- slots are filled in both words
pub slots_fill : (n : ℕ) (cells : List Cell) → fills 512 (λ (cell : Cell). cell.bytes) n cells ≡ fill_slots n cells
slots_fill n [] = refl
slots_fill n (cell ∷ cells) = rw (slots_fill (n - 512) cells) refl

-- the map of the file shows no other bytes where one version wrote a slot
abbrev pub ShowsAgreed : Store → ℕ → List Cell → Tagged → Type 0
ShowsAgreed s file cells t = t.file ≡ file → Agree (shown s t.layout) cells

-- so with all maps of files and drafts, if their rows agree
module _ (s : Store) (file : ℕ) (cells : List Cell) where
  agreed_files : (files : List File) → AllByRecursion (λ (row : VersionRow). row.file ≡ file → Agree row.cells cells) (flat_map (rows_in s) files) → AllByRecursion (ShowsAgreed s file cells) (flat_map file_stock files)
  agreed_files [] all = tt
  agreed_files (f ∷ files) all =
      all-append (ShowsAgreed s file cells) (file_stock f) (flat_map file_stock files)
      (all-map (row_stock f.id) (ShowsAgreed s file cells) f.log.rows (map-all (row_in s f.id) (λ (row : VersionRow). row.file ≡ file → Agree row.cells cells) f.log.rows (all-left (λ (row : VersionRow). row.file ≡ file → Agree row.cells cells) (rows_in s f) (flat_map (rows_in s) files) all)))
      (agreed_files files (all-right (λ (row : VersionRow). row.file ≡ file → Agree row.cells cells) (rows_in s f) (flat_map (rows_in s) files) all))

  pub stock_agreed : (files : List File) (drafts : List Draft) → AgreeWith (flat_map (rows_in s) files) (map (draft_in s) drafts) file cells → AllByRecursion (ShowsAgreed s file cells) (stock_of files drafts)
  stock_agreed files drafts agrees =
      all-append (ShowsAgreed s file cells) (flat_map file_stock files) (map draft_stock drafts) (agreed_files files agrees.versions)
      (all-map draft_stock (ShowsAgreed s file cells) drafts (map-all (draft_in s) (λ (row : DraftRow). row.file ≡ file → Agree row.cells cells) drafts agrees.drafts))

module _ (laws : PlaceLaws) (s : Store) (ts : List Tagged) (p : PlacedBlocks) (file : ℕ) (finds : Finds p file (names_in s ts)) (cells : List Cell) (agreed : AllByRecursion (ShowsAgreed s file cells) ts) where
  -- the block of a name of the file has the bytes of the cell there, if they have one writer
  shown_bytes : (n : Named) (us : List Tagged) → AllByRecursion (ShowsAgreed s file cells) us → IsShownIn s n us → n.place.file ≡ file → (cell : Cell) → slice_get cells n.place.slot ≡ Some cell → n.place.writer ≡ cell.writer → bytes_at s n.block ≡ cell.bytes
  shown_bytes n [] all i own cell got by = absurd i
  shown_bytes n (u ∷ us) all i own cell got by =
      ⊎_elim (λ (a : IsShownBy s n u). all.0 (a.file ∙ own) n.place.slot (record { writer = n.place.writer; bytes = bytes_at s n.block }) cell a.cell got by) (λ (b : IsShownIn s n us). shown_bytes n us all.1 b own cell got by) i

  bytes_one : (slot : ℕ) (cell : Cell) (o : Option ℕ) → block_in p slot cell.writer ≡ o → slice_get cells slot ≡ Some cell → HasBytesOf s o cell
  bytes_one slot cell None is got = tt
  bytes_one slot cell (Some block) is got =
      let n : Named = record { place = record { file = file; slot = slot; writer = cell.writer }; block = block } in
      shown_bytes n ts agreed (laws.shown s ts n (finds.named slot cell.writer block is)) refl cell got refl

  bytes_from : (rest : List Cell) (first : ℕ) → ((k : ℕ) → slice_get rest k ≡ slice_get cells (first + k)) → HaveBytesOf s p first rest
  bytes_from [] first same = tt
  bytes_from (cell ∷ rest) first same = (
    bytes_one first cell (block_in p first cell.writer) refl (ap (slice_get cells) (omega arith) ∙ sym (same 0)),
    bytes_from rest (first + 1) (λ k. same (suc k) ∙ ap (slice_get cells) (omega arith)),
  )

  pub have_bytes : HaveBytesOf s p 0 cells
  have_bytes = bytes_from cells 0 (λ k. ap (slice_get cells) (omega arith))

  module _ (stock : StockLaws) (stocked : IsStocked s ts) (below : ℕ) (written : AllByRecursion (λ (cell : Cell). cell.writer < below) cells) where
    abbrev news : List NewSlot
    news = slots_with p 0 cells

    pub placed : ArePlaced file 0 (names_in s ts) news
    placed = laws.found p file 0 (names_in s ts) cells finds

    pub there : AllByRecursion (λ (new : NewSlot). HasBlock s.blocks new.bytes) news
    there = laws.there s ts file 0 news stocked placed

    module _ (t : Store) (count : ℕ) (now : Layout) (made : IsMade s t count news now) where
      abbrev tag : Tagged
      tag = record { file = file; below = below; layout = now }

      pub stays : (us : List Tagged) → SameStock us (tag ∷ ts) → Stays s t ts us
      stays us same = laws.made s t ts file below count news now us stocked made placed (laws.writers p below 0 cells written) same

      pub lives : LivesIn t now
      lives = stock.lives t tag ts (stays (tag ∷ ts) (record { sums = λ f. refl })).stocked

      pub shows : shown t now ≡ cells
      shows = made.cells ∙ laws.cells s p 0 cells have_bytes

      pub finds_more : (q : PlacedBlocks) (us : List Tagged) → SameStock us (tag ∷ ts) → ((other : ℕ) (names : List Named) → Finds p other names → Finds q other (names_of t other now ++ names)) → Finds q file (names_in t us)
      finds_more q us same more =
          laws.ordered t (tag ∷ ts) us q file (record { sums = λ f. sym (same.sums f) })
          (subst (λ (names : List Named). Finds q file (names_of t file now ++ names)) (sym (laws.names s t ts count news now stocked made)) (more file (names_in s ts) finds))
