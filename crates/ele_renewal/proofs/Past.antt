-- What is read of the past of a renewed world.
use Rattle.ele_path.specs.declared.tagged.Tag.{Tag}
use Rattle.ele_path.specs.declared.tagged.Tag.TheVariants as tag
use Rattle.ele_renewal.proofs.Cells.{same_content}
use Rattle.ele_renewal.proofs.Found.{found_renewed, same_current, same_life, same_living}
use Rattle.ele_renewal.proofs.Fresh.{file_there, has_file}
use Rattle.ele_renewal.proofs.Leads.{at_there, now_there, same_walk_at, same_walk_now}
use Rattle.ele_renewal.proofs.Words.{Directory, File, IsStart, List, Target, World, new_file, refl, renewed, true, ℕ, ◌≡◌, Bool, None, Option, Some, VersionRow, cond, false, map, nat_lt, option_map, option_map_or, renewed_name, renewed_version}
use Rattle.ele_model.specs.declared.refusal.Refusal.{Refusal}
use Rattle.ele_model.specs.Step.{own_then, row_then, version_then}
use Rattle.ele_model.specs.WalkAt.{walk_at}
use Rattle.ele_model.specs.Tagged.{version_at, version_found, version_meant, walk_meant, had_life}
use Rattle.ele_model.specs.Walk.{file_at, file_now, walk_now}
use Rattle.ele_renewal.specs.SamePast.{IsOfTime, RenewedHasSamePast, RenewedVersionIsSame, found_as, led_to, read_as}
use Rattle.std.specs.Prelude.{Result, Ok, Err}

pub same_version : RenewedVersionIsSame
same_version w row = record { opened = refl; closed = refl; ended = refl; bytes = same_content w.versions row.file 0 row.cells }

module _ (w : World) (old : IsStart w) where
  leads : (path : List (List ℕ)) (t : Tag) → IsOfTime t → walk_meant (renewed w) path t ≡ led_to w (walk_meant w path t)
  leads path tag.Now time = same_walk_now w old path
  leads path (tag.At moment) time = same_walk_at w old moment path
  leads path (tag.Number number) time = absurd time

  -- a file that a path leads to is there
  led_there : (path : List (List ℕ)) (t : Tag) (file : ℕ) → IsOfTime t → walk_meant w path t ≡ Ok (File file) → has_file w.files file ≡ true
  led_there path tag.Now file time is = file_there w.files file ((now_there w old path (File file) is).1)
  led_there path (tag.At moment) file time is = file_there w.files file ((at_there w old moment path (File file) is).1)
  led_there path (tag.Number number) file time is = absurd time

  meant : (file : ℕ) (t : Tag) → has_file w.files file ≡ true → IsOfTime t → version_meant (renewed w).files (renewed w).versions (new_file w.files file) t ≡ found_as w file (version_meant w.files w.versions file t)
  meant file tag.Now there time = same_current w old.formed.versions file there
  meant file (tag.At moment) there time = same_living w old.formed.versions file there moment
  meant file (tag.Number number) there time = absurd time

  found : (led : Result Target Refusal) (t : Tag) → IsOfTime t → ((file : ℕ) → led ≡ Ok (File file) → has_file w.files file ≡ true)
      → version_found (renewed w) (file_at (led_to w led)) t ≡ read_as w (file_at led) (version_found w (file_at led) t)
  found (Err refusal) t time there = refl
  found (Ok (Directory directory)) t time there = refl
  found (Ok (File file)) t time there = meant file t (there file refl) time

  reads : (path : List (List ℕ)) (t : Tag) → IsOfTime t
      → version_at (renewed w) (record { path = path; tag = t }) ≡ read_as w (file_at (walk_meant w path t)) (version_at w (record { path = path; tag = t }))
  reads path t time = rw (leads path t time) (found (walk_meant w path t) t time (λ file is. led_there path t file time is))

  -- ---- what a restore means

  own_one : (o : Option VersionRow) (refusal : Refusal) → option_map_or Ok (option_map (renewed_version w) o) (Err refusal) ≡ read_as w (Err refusal) (option_map_or Ok o (Err refusal))
  own_one None refusal = refl
  own_one (Some row) refusal = refl

  own_same : (led : Result Target Refusal) (moment : ℕ) → ((file : ℕ) → led ≡ Ok (File file) → has_file w.files file ≡ true) → own_then (renewed w) (file_at (led_to w led)) moment ≡ option_map (renewed_version w) (own_then w (file_at led) moment)
  own_same (Err refusal) moment there = refl
  own_same (Ok (Directory directory)) moment there = refl
  own_same (Ok (File file)) moment there = found_renewed w old.formed.versions (had_life (new_file w.files file) moment) (had_life file moment) (same_life w old.formed.versions file (there file refl) moment)

  now_file : (path : List (List ℕ)) (file : ℕ) → walk_now w.names path ≡ Ok (File file) → has_file w.files file ≡ true
  now_file path file is = file_there w.files file ((now_there w old path (File file) is).1)

  missed : (path : List (List ℕ)) (moment : ℕ) (refusal : Refusal) (future : Bool)
      → cond future (Err refusal) (option_map_or Ok (own_then (renewed w) (file_now (map (renewed_name w) w.names) path) moment) (Err refusal)) ≡ read_as w (Err refusal) (cond future (Err refusal) (option_map_or Ok (own_then w (file_now w.names path) moment) (Err refusal)))
  missed path moment refusal true = refl
  missed path moment refusal false = rw (same_walk_now w old path, own_same (walk_now w.names path) moment (now_file path)) (own_one (own_then w (file_now w.names path) moment) refusal)

  row_by : (path : List (List ℕ)) (moment : ℕ) (led : Result Target Refusal) → ((file : ℕ) → led ≡ Ok (File file) → has_file w.files file ≡ true) → row_then (renewed w) path moment (led_to w led) ≡ read_as w (file_at led) (row_then w path moment led)
  row_by path moment (Ok target) there = found (Ok target) (tag.At moment) tt there
  row_by path moment (Err refusal) there = missed path moment refusal (nat_lt w.now moment)

  restores : (path : List (List ℕ)) (moment : ℕ) → version_then (renewed w) path moment ≡ read_as w (file_at (walk_at w.names moment w.now path)) (version_then w path moment)
  restores path moment = rw (same_walk_at w old moment path) (row_by path moment (walk_at w.names moment w.now path) (λ file is. led_there path (tag.At moment) file tt is))

pub same_past : RenewedHasSamePast
same_past w old = record { leads = leads w old; reads = reads w old; restores = restores w old }
