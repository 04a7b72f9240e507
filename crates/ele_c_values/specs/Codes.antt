-- The codes and numbers of a result, as C gets them.
use Rattle.std.specs.Prelude.{ℕ, ◌+◌, ◌-◌, ◌^◌, length, Option, Some, None, Ok, Err}
use Rattle.ele_embed.specs.Embedding.{Embedding, reply_of}
use Rattle.ele_embed.specs.declared.checkpoint.CheckpointError.{CheckpointError}
use Rattle.ele_embed.specs.declared.checkpoint.CheckpointError.TheVariants as checkpoint
use Rattle.ele_keeper.specs.declared.journal.JournalError.{JournalError}
use Rattle.ele_keeper.specs.declared.journal.JournalError.TheVariants as journal
use Rattle.ele_embed.specs.declared.opening.OpenJournalError.{OpenJournalError}
use Rattle.ele_embed.specs.declared.opening.OpenJournalError.TheVariants as opening
use Rattle.ele_keeper.specs.declared.renewal.RenewalError.{RenewalError}
use Rattle.ele_keeper.specs.declared.renewal.RenewalError.TheVariants as renewal
use Rattle.ele_journal.specs.declared.fault.Fault.{Fault}
use Rattle.ele_journal.specs.declared.fault.Fault.TheVariants as faults
use Rattle.ele_model.specs.Answers.{refusal_number, stop_number}
use Rattle.ele_model.specs.declared.pass.PassEnd.TheVariants.{Stopped as PassStopped}
use Rattle.ele_model.specs.declared.refusal.Refusal.{Refusal}
use Rattle.ele_model.specs.declared.refusal.Refusal.TheVariants.{Forgotten, Full}
use Rattle.ele_model.specs.declared.refusal.Which.{Which}
use Rattle.ele_model.specs.declared.refusal.Which.TheVariants as which
use Rattle.ele_model.specs.declared.reply.Reply.{Reply}
use Rattle.ele_model.specs.declared.reply.Reply.TheVariants.{Now, Directory, File, Handle, Version, Closed, Bytes, Rows, NameList, RestoreList, DueList, UsageList, GroupList, Refused}
use Rattle.ele_printer.specs.LineFault.{fault_number}
use Rattle.ele_runs.specs.declared.said.Said.{Said}
use Rattle.ele_runs.specs.declared.said.Said.TheVariants.{Bad, Stopped, Passed, Trimmed, Why, Ahead, Gone, Handles, Story, Removals, Changes, Expiring}

-- neither a moment nor a level
abbrev pub never : ℕ
never = 2 ^ 64 - 1

abbrev pub reply_code : Option Reply → ℕ
reply_code (Some (Refused refusal)) = refusal_number refusal
reply_code reply = 0

-- the code of a result: the number of a fault, a stop or a refusal, or 0
abbrev pub said_code : Said → Option Reply → ℕ
said_code (Bad fault) reply = fault_number fault
said_code (Stopped stop) reply = stop_number stop
said_code (Passed (PassStopped stop removed)) reply = stop_number stop
said_code (Why (Err refusal)) reply = refusal_number refusal
said_code (Ahead (Err refusal)) reply = refusal_number refusal
said_code (Story (Err refusal)) reply = refusal_number refusal
said_code (Changes (Err refusal)) reply = refusal_number refusal
said_code (Expiring (Err refusal)) reply = refusal_number refusal
said_code said reply = reply_code reply

abbrev pub code_of : Embedding → ℕ
code_of store = said_code store.said (reply_of store)

-- the code of an error: that of a stop, 72 of bytes that have no world in which a run may begin, 73 of an open handle, 74 of a store
-- without a journal, 75 of one with a journal, 76 of bytes that are no file of a store
abbrev pub checkpoint_code : CheckpointError → ℕ
checkpoint_code (checkpoint.Damaged damage) = 72
checkpoint_code (checkpoint.Fault fault) = 72
checkpoint_code (checkpoint.Stop stop) = stop_number stop

abbrev pub renewal_code : RenewalError → ℕ
renewal_code renewal.HasJournal = 75
renewal_code renewal.Open = 73
renewal_code (renewal.Stop stop) = stop_number stop

abbrev pub journal_code : JournalError → ℕ
journal_code journal.NoJournal = 74
journal_code journal.HasJournal = 75
journal_code journal.NoMemory = 1

abbrev pub opening_code : OpenJournalError → ℕ
opening_code (opening.Stop stop) = stop_number stop
opening_code error = 76

-- what follows the whole changes of a file: 0 nothing, 1 the front of a change, 2 damage
abbrev pub rest_number : Option Fault → ℕ
rest_number None = 0
rest_number (Some faults.Cut) = 1
rest_number (Some (faults.Damaged damage)) = 2

-- the number in a reply; for a list and for bytes, how many there are
abbrev pub reply_number : Option Reply → ℕ
reply_number (Some (Now moment)) = moment
reply_number (Some (Directory id)) = id
reply_number (Some (File id)) = id
reply_number (Some (Handle handle)) = handle
reply_number (Some (Version number)) = number
reply_number (Some (Closed (Some number))) = number
reply_number (Some (Bytes bytes)) = length bytes
reply_number (Some (Rows rows)) = length rows
reply_number (Some (NameList names)) = length names
reply_number (Some (RestoreList names)) = length names
reply_number (Some (DueList keys)) = length keys
reply_number (Some (UsageList usages)) = 4
reply_number (Some (GroupList groups)) = length groups
reply_number reply = 0

abbrev pub said_number : Said → Option Reply → ℕ
said_number (Trimmed count) reply = count
said_number (Ahead (Ok keys)) reply = length keys
said_number (Gone rows) reply = length rows.items
said_number (Handles handles) reply = length handles.items
said_number (Story (Ok story)) reply = length story.versions.items + length story.names.items
said_number (Removals rows) reply = length rows.items
said_number (Changes (Ok found)) reply = length found.rows.items
said_number (Expiring (Ok found)) reply = length found.rows.items
said_number said reply = reply_number reply

abbrev pub number_of : Embedding → ℕ
number_of store = said_number store.said (reply_of store)

-- the number of the limit that is reached, in the order of the limits
abbrev pub limit_number : Which → ℕ
limit_number which.Files = 1
limit_number which.Directories = 2
limit_number which.Names = 3
limit_number which.Versions = 4
limit_number which.Handles = 5
limit_number which.Groups = 6
limit_number which.Members = 7
limit_number which.Marks = 8

-- the number of a version, or 0
abbrev pub number_or_zero : Option ℕ → ℕ
number_or_zero None = 0
number_or_zero (Some number) = number

-- the detail of a refusal, beside its code
abbrev pub detail_in : Refusal → Option ℕ
detail_in (Forgotten before) = Some (number_or_zero before)
detail_in (Full which) = Some (limit_number which)
detail_in refusal = None

abbrev pub reply_detail : Option Reply → Option ℕ
reply_detail (Some (Refused refusal)) = detail_in refusal
reply_detail reply = None

abbrev pub said_detail : Said → Option Reply → Option ℕ
said_detail (Why (Err refusal)) reply = detail_in refusal
said_detail said reply = reply_detail reply

abbrev pub detail_of : Embedding → Option ℕ
detail_of store = said_detail store.said (reply_of store)
