-- At first there is no key and no usage.
use Rattle.ele_state.proofs.Words.{◌≡◌, List, refl, sym, IsQueued, held_world, IsBooked, Key, Held, Kind, Book, sums_of, nothing, World, []}
use Rattle.ele_model.specs.RipeRows.{ripe_numbered}
use Rattle.ele_model.specs.Usage.{usage_of}

abbrev pub no_files : Held
no_files = record { files = []; versions = []; drafts = []; handles = []; opened = 0 }

pub no_keys : (w : World) (h : Held) (queue : List Key) → h ≡ no_files → queue ≡ [] → IsQueued (record w { files = h.files; versions = h.versions; handles = h.handles }) queue
unfolding ripe_numbered
no_keys w h queue files keys k = rw (files, keys) refl

unused : (k : Kind) → usage_of (held_world no_files) k ≡ nothing
unfolding usage_of
unused k = refl

pub no_usage : (h : Held) (book : Book) → h ≡ no_files → ((k : Kind) → sums_of book k ≡ nothing) → IsBooked h book
no_usage h book files sums k = rw (files, sums k) (sym (unused k))
