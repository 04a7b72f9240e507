-- The number and the name of each refusal and stop.
use Rattle.std.specs.Prelude.{ℕ, List, codes}
use Rattle.ele_model.specs.declared.refusal.Which.{Which}
use Rattle.ele_model.specs.declared.refusal.Which.TheVariants as which
use Rattle.ele_model.specs.declared.refusal.Refusal.{Refusal}
use Rattle.ele_model.specs.declared.refusal.Refusal.TheVariants.{ClockBack, ClockEnd, NoEntry, NotDirectory, IsDirectory, Exists, NotEmpty, IntoItself, IsRoot, Future, Forgotten, NoVersion, NoHandle, NotWriter, TooBig, Drafting, NotRestorable, NoGroup, GroupExists, NoMark, MarkExists, NotPast, AlreadyMember, NotMember, Full, NotAhead}
use Rattle.ele_model.specs.declared.refusal.Stop.{Stop}
use Rattle.ele_model.specs.declared.refusal.Stop.TheVariants.{NoMemory, HistoryFull}

abbrev pub stop_answer : Stop → ℕ × List ℕ
stop_answer NoMemory = (1, codes "NoMemory")
stop_answer HistoryFull = (2, codes "HistoryFull")

abbrev pub refusal_answer : Refusal → ℕ × List ℕ
refusal_answer ClockBack = (3, codes "ClockBack")
refusal_answer ClockEnd = (4, codes "ClockEnd")
refusal_answer NoEntry = (5, codes "NoEntry")
refusal_answer NotDirectory = (6, codes "NotDirectory")
refusal_answer IsDirectory = (7, codes "IsDirectory")
refusal_answer Exists = (8, codes "Exists")
refusal_answer NotEmpty = (9, codes "NotEmpty")
refusal_answer IntoItself = (10, codes "IntoItself")
refusal_answer IsRoot = (11, codes "IsRoot")
refusal_answer Future = (12, codes "Future")
refusal_answer (Forgotten before) = (13, codes "Forgotten")
refusal_answer NoVersion = (14, codes "NoVersion")
refusal_answer NoHandle = (15, codes "NoHandle")
refusal_answer NotWriter = (16, codes "NotWriter")
refusal_answer TooBig = (17, codes "TooBig")
refusal_answer Drafting = (18, codes "Drafting")
refusal_answer NotRestorable = (19, codes "NotRestorable")
refusal_answer NoGroup = (20, codes "NoGroup")
refusal_answer GroupExists = (21, codes "GroupExists")
refusal_answer NoMark = (22, codes "NoMark")
refusal_answer MarkExists = (23, codes "MarkExists")
refusal_answer NotPast = (24, codes "NotPast")
refusal_answer AlreadyMember = (25, codes "AlreadyMember")
refusal_answer NotMember = (26, codes "NotMember")
refusal_answer (Full what) = (27, codes "Full")
refusal_answer NotAhead = (41, codes "NotAhead")

abbrev pub stop_number : Stop → ℕ
stop_number stop = (stop_answer stop).0

abbrev pub stop_name : Stop → List ℕ
stop_name stop = (stop_answer stop).1

abbrev pub refusal_number : Refusal → ℕ
refusal_number refusal = (refusal_answer refusal).0

abbrev pub refusal_name : Refusal → List ℕ
refusal_name refusal = (refusal_answer refusal).1

-- the word of a kind of thing that has a limit
abbrev pub which_word : Which → List ℕ
which_word which.Files = codes "files"
which_word which.Directories = codes "directories"
which_word which.Names = codes "names"
which_word which.Versions = codes "versions"
which_word which.Handles = codes "handles"
which_word which.Groups = codes "groups"
which_word which.Members = codes "members"
which_word which.Marks = codes "marks"
