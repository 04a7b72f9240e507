-- What a writer took, and what its buffer holds.
use Rattle.std.specs.Prelude.{◌≡◌, ◌≤◌, ℕ, Bool, true, false, List, [], ◌++◌, length, Option, Result, Ok, Err}
use Rattle.std.specs.Borrow.{GName}
use Rattle.std.specs.Io.KnownBytes.{Appends}

-- which writer it is, the bytes that it is known to hold, the bytes in the buffer after them, and whether the writer failed, after which it
-- gets no more
pub record Outlet : Type 0 where
  pub writer : GName
  pub known : Option (List ℕ)
  pub held : List ℕ
  pub has_failed : Bool

-- how many bytes a buffer has room for
abbrev pub room : ℕ
room = 8192

-- these bytes went out after the others: the writer took a prefix of all, and the rest is in the buffer, or lost if the writer failed
pub record Outputs (old new : Outlet) (bytes : List ℕ) : Type 0 where
  pub same : new.writer ≡ old.writer
  pub sent : List ℕ
  pub rest : List ℕ
  pub parts : old.held ++ bytes ≡ sent ++ rest
  pub written : Appends old.known new.known sent
  pub stays : old.has_failed ≡ true → (sent ≡ []) × (new.has_failed ≡ true)
  pub holds : new.has_failed ≡ false → rest ≡ new.held

-- the buffer has room for these bytes
unfoldable pub HasRoom : List ℕ → Type 0
HasRoom bytes = length bytes ≤ room

-- these bytes were printed after the others: they went out, but all stay in the buffer if it has room for them and for what it held
pub record Puts (old new : Outlet) (bytes : List ℕ) : Type 0 where
  pub same : new.writer ≡ old.writer
  pub sent : List ℕ
  pub rest : List ℕ
  pub parts : old.held ++ bytes ≡ sent ++ rest
  pub written : Appends old.known new.known sent
  pub stays : old.has_failed ≡ true → (sent ≡ []) × (new.has_failed ≡ true)
  pub holds : new.has_failed ≡ false → rest ≡ new.held
  pub inside : old.has_failed ≡ false → HasRoom (sent ++ rest) → (sent ≡ []) × (new.has_failed ≡ false)

-- these bytes were printed, and nothing is in the buffer: the writer took all that was printed, unless it failed
abbrev pub Reports : Outlet → Outlet → List ℕ → Type 0
Reports old new bytes = Outputs old new bytes × (new.held ≡ [])

-- the buffer is empty, and the writer has not failed
abbrev pub IsHandedOver : Outlet → Type 0
IsHandedOver o = (o.held ≡ []) × (o.has_failed ≡ false)

-- these bytes were printed and the buffer was written, or the writer failed
abbrev pub HandsOver : {A E : Type 0} → Outlet → Outlet → List ℕ → Result A E → Type 0
HandsOver old new bytes (Ok _) = Outputs old new bytes × IsHandedOver new
HandsOver old new bytes (Err _) = Outputs old new bytes

-- bytes were written to a writer, or a prefix of them if it failed, or none of them if it had failed before
pub record Sends (old new : Option (List ℕ)) (bytes : List ℕ) (had_failed has_failed : Bool) : Type 0 where
  pub sent : List ℕ
  pub rest : List ℕ
  pub parts : bytes ≡ sent ++ rest
  pub written : Appends old new sent
  pub stays : had_failed ≡ true → (sent ≡ []) × (has_failed ≡ true)
  pub whole : has_failed ≡ false → rest ≡ []
