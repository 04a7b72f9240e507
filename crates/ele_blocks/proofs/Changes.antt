-- What a write and a truncate make of a map and its store.
use Rattle.ele_blocks.proofs.Lemmas.{slice_get-map, [], ap, append-nil, AreSized, arith, backed_there, Bool, bytes_of, Cell, cell_by, cell_of, cond, content_after_truncate, content_after_write, content_of, drop, drop_all, false, fill_by_all, flat-at, flat-laid, flat-take, flat_map, flat_map-map, Hands, is_between, is_whole_by, IsReplaced, IsResized, IsRewritten, IsWritten, Layout, leaf_at, length, length-append, length-chunks, length-content, length-drop, length-map, length-replicate, length-spliced, length-take, List, LivesIn, longest_content, map, max, meets, min, moved_one, nat_tests, nil_from_length, no_cell, pieces, pieces_between, pieces_are, pieces_taken, range_with_len, refits, refl, Renews, shown, sized-count, sized-is, sized-laid, sized-length, sized-map, sized-take, slice_get-get_or, Slot, slot_bytes, slot_count, slots_of, spliced_part, Store, sym, take, take-add, take-append-drop, take-take, take_all, times, whole_is, writer_at, ℕ, ◌*◌, ◌++◌, ◌+◌, ◌-◌, ◌/◌, ◌<◌, ◌∙◌, ◌≡◌, ◌≤◌}
use Rattle.ele_content.specs.Content.{cells_after_truncate, cells_after_write}
use Rattle.std.proofs.lemmas.Simd.{map-map}

pub renews_as : (s t : Store) (w : ℕ) (p q : ℕ → Bool) (was now : Layout) → ((slot : ℕ) → q slot ≡ p slot) → Renews s t w p was now → Renews s t w q was now
renews_as s t w p q was now same h = grind (arith, nat_tests)

-- ---- a map of this content, in which the slots that pass the test are renewed

module _ (s t : Store) (m new : Layout) (w : ℕ) (test : ℕ → Bool) (after : List ℕ) (n : ℕ) (hands : Hands s t (λ q. times q m.leaves) (λ q. times q new.leaves)) (leaves : AreSized 16 (leaf_at t) n new.leaves) (renews : Renews s t w test m new) (content : content_of (shown t new) ≡ after) (bytes : AreSized 512 bytes_of new.size (shown t new)) (short : new.size ≤ longest_content) where
  count : length (shown t new) ≡ slot_count new.size
  count = grind (arith, sized-count)

  long : length (slots_of t new) ≡ length (shown t new)
  long = sym (length-map (slots_of t new) (cell_of t))

  writers : (k : ℕ) → k < length (shown t new) → writer_at (shown t new) k ≡ cond (test k) w (writer_at (shown s m) k)
  writers k lt = grind (arith, nat_tests, slice_get-map, long, slice_get-get_or (slots_of t new) k (let c : Slot = record { writer = 0; block = 0 } in c))

  new_cells : shown t new ≡ map (λ slot. record { writer = cond (test slot) w (writer_at (shown s m) slot); bytes = slot_bytes after slot }) (range_with_len 0 (slot_count new.size))
  new_cells = fill_by_all (λ slot. let c : Cell = record { writer = cond (test slot) w (writer_at (shown s m) slot); bytes = slot_bytes after slot } in c) (shown t new) (slot_count new.size) no_cell count
      (λ k lt. grind (arith, count, slice_get-get_or (shown t new) k no_cell, writers k, flat-at 512 bytes_of (omega arith) k new.size (shown t new) no_cell bytes, content))

  pub rewritten : (size : ℕ) (cells : List Cell) → new.size ≡ size → map (λ slot. let c : Cell = record { writer = cond (test slot) w (writer_at (shown s m) slot); bytes = slot_bytes after slot } in c) (range_with_len 0 (slot_count new.size)) ≡ cells → IsRewritten s t w test size after cells m new
  rewritten size cells is are =
      let slots : n ≡ slot_count new.size = omega (arith, sized-length 16 (leaf_at t) (omega arith) n new.leaves leaves, long, count) in
      grind (arith, is, are, content, new_cells, renews, moved_one s t m new hands, is_whole_by t new, short, bytes, sized-is 16 (leaf_at t) (omega arith) n (slot_count new.size) new.leaves slots leaves)

-- ---- pieces of a patch laid over the first slots of a map

module _ (s t : Store) (m new : Layout) (w first kept : ℕ) (staged : List (List ℕ)) (patch : List ℕ) (lives : LivesIn s m) (h : IsReplaced s t w first kept staged m new) (cut : staged ≡ pieces patch) (kept_le : kept ≤ slot_count m.size) (le : first ≤ kept) (start : 512 * first ≤ m.size) (fit : 512 * (first + length staged) < min m.size (512 * kept) → length patch ≡ 512 * length staged) where
  abbrev pub base : List ℕ
  base = take (512 * kept) (content_of (shown s m))

  sized_old : AreSized 512 bytes_of (min m.size (512 * kept)) (take kept (shown s m))
  sized_old = sized-take 512 bytes_of (omega arith) kept m.size (shown s m) (whole_is s m lives.whole).bytes

  pub laid_content : content_of (shown t new) ≡ take (512 * first) base ++ (patch ++ drop (512 * (first + length staged)) base)
  laid_content =
      let own : flat_map bytes_of (map (cell_by w) staged) ≡ patch = flat_map-map bytes_of (cell_by w) staged ∙ (ap (flat_map (λ piece. piece)) cut ∙ (pieces_are patch).2) in
      ap content_of h.cells ∙ (flat-laid 512 bytes_of (omega arith) first (min m.size (512 * kept)) (map (cell_by w) staged) (take kept (shown s m)) sized_old ∙ rw (flat-take 512 bytes_of (omega arith) kept m.size (shown s m) (whole_is s m lives.whole).bytes, own, length-map staged (cell_by w)) refl)

  pub laid_bytes : AreSized 512 bytes_of (512 * first + (length patch + (min m.size (512 * kept) - 512 * (first + length staged)))) (shown t new)
  laid_bytes =
      let new_sized = sized-map 512 (λ piece. piece) bytes_of (length patch) staged (map (cell_by w) staged) (sym (map-map bytes_of (cell_by w) staged)) (rw (← cut) at (pieces_are patch).1) in
      grind (arith, h.cells, length-map staged (cell_by w), fit, kept_le, le, start, sized-count 512 bytes_of (omega arith) (min m.size (512 * kept)) (take kept (shown s m)) sized_old, sized-laid 512 bytes_of (omega arith) first (min m.size (512 * kept)) (length patch) (map (cell_by w) staged) (take kept (shown s m)) sized_old new_sized)

-- ---- the cells of a write and of a truncate

abbrev slots_by : (ℕ → Bool) → ℕ → List Cell → List ℕ → ℕ → List Cell
slots_by test w cells after n = map (λ slot. let c : Cell = record { writer = cond (test slot) w (writer_at cells slot); bytes = slot_bytes after slot } in c) (range_with_len 0 (slot_count n))

written_cells : (s : Store) (m : Layout) (w o n : ℕ) (x : List ℕ) → LivesIn s m → n ≡ max m.size (o + length x) → slots_by (meets (min o m.size) (o + length x)) w (shown s m) (content_after_write (content_of (shown s m)) o x) n ≡ cells_after_write w o x (shown s m)
unfolding cells_after_write
written_cells s m w o n x lives is = rw (length-spliced (content_of (shown s m)) o x, length-content s m lives.whole, is) refl

resized_cells : (s : Store) (m : Layout) (w size : ℕ) → LivesIn s m → slots_by (refits m.size size) w (shown s m) (content_after_truncate (content_of (shown s m)) size) size ≡ cells_after_truncate w size (shown s m)
unfolding cells_after_truncate
resized_cells s m w size lives = rw (length-content s m lives.whole) refl

-- ---- a write of some bytes, or past the end: f is the first slot that it meets

module _ (s : Store) (m : Layout) (w o f : ℕ) (x : List ℕ) (staged : List (List ℕ)) (lives : LivesIn s m) (is_f : f ≡ min o m.size / 512) (is_staged : staged ≡ pieces_between f (slot_count (o + length x)) (content_after_write (content_of (shown s m)) o x)) where
  abbrev many : ℕ
  many = slot_count (o + length x) - f

  abbrev patch : List ℕ
  patch = take (512 * many) (drop (512 * f) (content_after_write (content_of (shown s m)) o x))

  whole_long : length (content_of (shown s m)) ≡ m.size
  whole_long = length-content s m lives.whole

  rest_long : length (drop (512 * f) (content_after_write (content_of (shown s m)) o x)) ≡ max m.size (o + length x) - 512 * f
  rest_long = omega (arith, length-spliced (content_of (shown s m)) o x, length-drop (512 * f) (content_after_write (content_of (shown s m)) o x), whole_long)

  patch_long : length patch ≡ min (512 * many) (max m.size (o + length x) - 512 * f)
  patch_long = omega (arith, length-take (512 * many) (drop (512 * f) (content_after_write (content_of (shown s m)) o x)), rest_long)

  staged_count : length staged ≡ many
  staged_count = ap length is_staged ∙ length-chunks 512 many (drop (512 * f) (content_after_write (content_of (shown s m)) o x))

  pub reach : f + length staged ≡ (o + length x + 511) / 512
  reach = omega (arith, staged_count, is_f)

  cut : staged ≡ pieces patch
  cut = grind (arith, pieces_taken, rest_long)

  pub write_change : (t : Store) (new : Layout) → new.size ≡ max m.size (o + length x) → o + length x ≤ longest_content → min o m.size < o + length x → IsReplaced s t w f (slot_count m.size) staged m new → IsWritten s t w o x m new
  write_change t new size short some h =
      let content = content_of (shown s m) in
      let after = content_after_write content o x in
      let test = meets (min o m.size) (o + length x) in
      let fit : 512 * (f + length staged) < min m.size (512 * slot_count m.size) → length patch ≡ 512 * length staged = λ lt. omega (arith, lt, reach, patch_long, staged_count) in
      let is : content_of (shown t new) ≡ after = grind (arith, laid_content s t m new w f (slot_count m.size) staged patch lives h cut (omega arith) (omega (arith, is_f)) (omega (arith, is_f)) fit, take_all (512 * slot_count m.size) content, spliced_part content o (512 * f) (512 * many) (512 * (f + length staged)) x, whole_long, reach, staged_count, is_f) in
      let bytes = sized-is 512 bytes_of (omega arith) (512 * f + (length patch + (min m.size (512 * slot_count m.size) - 512 * (f + length staged)))) new.size (shown t new) (omega (arith, size, reach, patch_long, is_f, staged_count, some)) (laid_bytes s t m new w f (slot_count m.size) staged patch lives h cut (omega arith) (omega (arith, is_f)) (omega (arith, is_f)) fit) in
      rewritten s t m new w test after (length (slots_of t new)) h.hands h.filled (renews_as s t w (is_between f (f + length staged)) test m new (λ slot. grind (arith, nat_tests, some, is_f, reach)) h.renews) is bytes (omega (arith, size, short, (whole_is s m lives.whole).short)) (max m.size (o + length x)) (cells_after_write w o x (shown s m)) size (written_cells s m w o new.size x lives size)

-- ---- a truncate to fewer bytes: f slots stay whole, and kept slots stay

module _ (s : Store) (m : Layout) (w size f kept : ℕ) (staged : List (List ℕ)) (lives : LivesIn s m) (less : size < m.size) (is_f : f ≡ size / 512) (is_kept : kept ≡ (size + 511) / 512) (is_staged : staged ≡ pieces (take (size - 512 * f) (slot_bytes (content_of (shown s m)) f))) where
  pub cut_long : length (take (size - 512 * f) (slot_bytes (content_of (shown s m)) f)) ≡ size - 512 * f
  cut_long = omega (arith, length-take (size - 512 * f) (slot_bytes (content_of (shown s m)) f), length-take 512 (drop (512 * f) (content_of (shown s m))), length-drop (512 * f) (content_of (shown s m)), length-content s m lives.whole, is_f, less)

  pub cut_reach : f + length staged ≡ kept
  cut_reach = omega (arith, ap length is_staged, (pieces_are (take (size - 512 * f) (slot_bytes (content_of (shown s m)) f))).0, cut_long, is_f, is_kept)

  pub cut_change : (t : Store) (new : Layout) → new.size ≡ size → IsReplaced s t w f kept staged m new → IsResized s t w size m new
  cut_change t new is h =
      let content = content_of (shown s m) in
      let patch = take (size - 512 * f) (slot_bytes content f) in
      let fit : 512 * (f + length staged) < min m.size (512 * kept) → length patch ≡ 512 * length staged = λ lt. absurd (omega (arith, lt, cut_reach)) in
      let after : content_of (shown t new) ≡ content_after_truncate content size = grind (arith, laid_content s t m new w f kept staged patch lives h is_staged (omega (arith, is_kept, less)) (omega (arith, is_f, is_kept)) (omega (arith, is_f, less)) fit, take-take (size - 512 * f) 512 (drop (512 * f) content), drop_all (512 * (f + length staged)) (take (512 * kept) content), length-take (512 * kept) content, cut_reach, length-content s m lives.whole, less, is_f, is_kept, take-take (512 * f) (512 * kept) content, append-nil, take-add (512 * f) (size - 512 * f) content) in
      let bytes = sized-is 512 bytes_of (omega arith) (512 * f + (length patch + (min m.size (512 * kept) - 512 * (f + length staged)))) new.size (shown t new) (omega (arith, is, cut_long, cut_reach, is_f)) (laid_bytes s t m new w f kept staged patch lives h is_staged (omega (arith, is_kept, less)) (omega (arith, is_f, is_kept)) (omega (arith, is_f, less)) fit) in
      rewritten s t m new w (refits m.size size) (content_after_truncate content size) (length (slots_of t new)) h.hands h.filled (renews_as s t w (is_between f (f + length staged)) (refits m.size size) m new (λ slot. grind (arith, nat_tests, less, is_f, cut_reach, is_kept)) h.renews) after bytes (omega (arith, is, less, (whole_is s m lives.whole).short)) size (cells_after_truncate w size (shown s m)) is (rw is (resized_cells s m w size lives))

-- ---- what changes nothing

module _ (s : Store) (m : Layout) (w : ℕ) (lives : LivesIn s m) where
  stays : (test : ℕ → Bool) (after : List ℕ) (cells : List Cell) → ((slot : ℕ) → test slot ≡ false) → content_of (shown s m) ≡ after → slots_by test w (shown s m) after m.size ≡ cells → IsRewritten s s w test m.size after cells m m
  stays test after cells none same are =
      let whole = whole_is s m lives.whole in
      let hands : Hands s s (λ q. times q m.leaves) (λ q. times q m.leaves) = grind (arith) in
      let renews : Renews s s w test m m = grind (arith, none, backed_there s m.leaves lives.backed) in
      rewritten s s m m w test after (slot_count m.size) hands whole.leaves renews same whole.bytes whole.short m.size cells refl are

  pub resized_same : IsResized s s w m.size m m
  resized_same = stays (refits m.size m.size) _ (cells_after_truncate w m.size (shown s m)) (λ slot. grind (arith, nat_tests)) (grind (arith, append-nil, take_all, length-content s m lives.whole)) (resized_cells s m w m.size lives)

  -- a write of no bytes within the content
  pub written_nothing : (o : ℕ) (x : List ℕ) → o + length x ≤ min o m.size → IsWritten s s w o x m m
  written_nothing o x none =
      let size : m.size ≡ max m.size (o + length x) = omega (arith, none) in
      let same : content_of (shown s m) ≡ content_after_write (content_of (shown s m)) o x = grind (arith, none, nil_from_length x, length-content s m lives.whole, append-nil, take-append-drop) in
      rw (← size) (stays (meets (min o m.size) (o + length x)) (content_after_write (content_of (shown s m)) o x) (cells_after_write w o x (shown s m)) (λ slot. grind (arith, nat_tests, none)) same (written_cells s m w o m.size x lives size))

-- ---- a truncate that fills is a write of no bytes after the end

grown_content : (content : List ℕ) (size : ℕ) → length content ≤ size → content_after_write content size [] ≡ content_after_truncate content size
grown_content content size le = grind (arith, nat_tests, drop_all, append-nil)

grown_cells : (w size : ℕ) (cells : List Cell) → length (content_of cells) < size → cells_after_write w size [] cells ≡ cells_after_truncate w size cells
unfolding cells_after_write cells_after_truncate
grown_cells w size cells lt = grind (arith, nat_tests, length-append, length-take, length-replicate, grown_content)

pub grown : (s t : Store) (m n : Layout) (w size : ℕ) → LivesIn s m → m.size < size → IsWritten s t w size [] m n → IsResized s t w size m n
grown s t m n w size lives lt h = grind (arith, nat_tests, length-content s m lives.whole, grown_content, grown_cells, renews_as)
