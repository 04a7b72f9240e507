-- Why a word is no path: the first fault from the left.
use Rattle.std.specs.Prelude.{ℕ, ◌==◌, ◌&&◌, not, nat_le, nat_lt, Bool, List, [], ◌∷◌, length, codes, slice_get, Option, Some, None, if◌then◌else◌}
use Rattle.std.specs.List.{list_all, filter_map, enumerate_from}
use Rattle.std.specs.Str.{bytes_eq}
use Rattle.ele_moment.specs.Name.{is_name_byte}
use Rattle.ele_path.specs.Path.{pieces_of}
use Rattle.ele_path.specs.declared.fault.PathFault.{PathFault}
use Rattle.ele_path.specs.declared.fault.PathFault.TheVariants.{BadName, BadPath}

-- whether the bytes are a name
abbrev pub is_name : List ℕ → Bool
is_name bytes =
    nat_lt 0 (length bytes) && nat_le (length bytes) 64 && list_all is_name_byte bytes && not (bytes_eq bytes (codes ".")) && not (bytes_eq bytes (codes ".."))

-- the fault of a piece after so many others
abbrev pub piece_fault : ℕ → List ℕ → Option PathFault
piece_fault before [] = Some BadPath
piece_fault before (byte ∷ bytes) =
    if nat_le 32 before then Some BadPath else if is_name (byte ∷ bytes) then None else Some BadName

-- the faults of the pieces after so many others, from the left
abbrev pub piece_faults_from : ℕ → List (List ℕ) → List PathFault
piece_faults_from before pieces = filter_map (λ (before, piece). piece_fault before piece) (enumerate_from before pieces)

-- the faults of the pieces, from the left
abbrev pub piece_faults : List (List ℕ) → List PathFault
piece_faults pieces = piece_faults_from 0 pieces

-- the first fault of the word, from the left: a first byte that is no slash, or a piece after it
abbrev pub path_fault : List ℕ → Option PathFault
path_fault [] = Some BadPath
path_fault (byte ∷ []) = if byte == 47 then None else Some BadPath
path_fault (byte ∷ text) = if byte == 47 then slice_get (piece_faults (pieces_of text)) 0 else Some BadPath
