-- The code of a state, by which proofs tell states apart. No clause of a call uses it.
use Rattle.std.proofs.Common.{ap, inl, inr, refl}
use Rattle.std.specs.Prelude.{◌≡◌, ◌⊎◌, ℕ, List, [], ◌∷◌, Option}
use Rattle.std.specs.Coded.{Coded, code_by, coded×, coded⊎, coded_list, coded_option, coded_ℕ}
use Rattle.ele_history.specs.Past.{Past}
use Rattle.ele_journaled.specs.JournalState.{JournalState}
use Rattle.ele_journaled.specs.contracts.journal.Journal as journals
use Rattle.ele_model.specs.World.{World}
use Rattle.ele_model.specs.contracts.entry.Entry as entries
use Rattle.ele_model.specs.contracts.flat.Flat as flats
use Rattle.ele_model.specs.contracts.reply.Reply as replies
use Rattle.ele_model.specs.declared.entry.Entry.{Entry}
use Rattle.ele_model.specs.declared.reply.Reply.{Reply}
use Rattle.ele_runs.specs.Kept.{Kept, Plain, Recorded, Journaled}

-- a state without its journals, and these
abbrev pub Parts : Type 0
Parts = ((World × Option Reply) ⊎ (World × (ℕ × List Entry))) × List JournalState

abbrev pub parted : Kept → Parts
parted (Plain w last) = (inl (w, last), [])
parted (Recorded past) = (inr (past.base, (past.folded, past.entries)), [])
parted (Journaled kept journal) = let parts = parted kept in (parts.0, journal ∷ parts.1)

abbrev pub without : ((World × Option Reply) ⊎ (World × (ℕ × List Entry))) → Kept
without (inl plain) = Plain plain.0 plain.1
without (inr past) = Recorded (record { base = past.0; folded = past.1.0; entries = past.1.1 })

abbrev pub rejoined : ((World × Option Reply) ⊎ (World × (ℕ × List Entry))) → List JournalState → Kept
rejoined bare [] = without bare
rejoined bare (journal ∷ journals) = Journaled (rejoined bare journals) journal

pub rejoined_parted : (kept : Kept) → rejoined (parted kept).0 (parted kept).1 ≡ kept
rejoined_parted (Plain w last) = refl
rejoined_parted (Recorded past) = refl
rejoined_parted (Journaled kept journal) = ap (λ (k : Kept). Journaled k journal) (rejoined_parted kept)

abbrev pub state_code : Coded Kept
state_code =
    code_by Parts
    (coded× (coded⊎ (coded× flats.the_row.coded (coded_option replies.the_row.coded)) (coded× flats.the_row.coded (coded× coded_ℕ (coded_list entries.the_row.coded)))) (coded_list journals.the_row.coded))
    parted (λ parts. rejoined parts.0 parts.1) rejoined_parted
