-- What the handle keeps of each kind, as numbers and as bytes.
use Rattle.std.specs.Prelude.{ℕ, ◌==◌, ℤ, pos, List, [], ◌∷◌, length, slice_get, Option, Some, None, Result, Ok, Err, if◌then◌else◌}
use Rattle.ele_c_values.specs.Codes.{detail_of}
use Rattle.ele_c_values.specs.Limits.{made_numbers}
use Rattle.ele_c_values.specs.Numbers.{zeros, single, pair, version_numbers, key_numbers, usage_numbers, named_numbers, dead_numbers, group_numbers, mark_numbers, file_numbers, directory_numbers, fate_numbers, pass_numbers}
use Rattle.ele_c_values.specs.declared.kind.Kind.{Kind}
use Rattle.ele_c_values.specs.declared.kind.Kind.TheVariants as kind
use Rattle.ele_c_values.specs.declared.numbers.Numbers.{Numbers}
use Rattle.ele_due.specs.declared.key.Key.{Key}
use Rattle.ele_embed.specs.Embedding.{Embedding, events_in, past_in, reply_of, world_in}
use Rattle.ele_history.specs.Past.{Past}
use Rattle.ele_model.specs.CountsOf.{counts_of}
use Rattle.ele_model.specs.declared.fate.Fate.TheVariants as fate
use Rattle.ele_model.specs.declared.reply.Reply.{Reply}
use Rattle.ele_model.specs.declared.reply.Reply.TheVariants as reply
use Rattle.ele_model.specs.declared.rows.DeletedName.{DeletedName}
use Rattle.ele_model.specs.declared.rows.GroupRow.{GroupRow}
use Rattle.ele_model.specs.declared.rows.Target.{Target}
use Rattle.ele_policy.specs.declared.policy.Policy.{Policy}
use Rattle.ele_policy.specs.declared.policy.Policy.TheVariants as policy
use Rattle.ele_runs.specs.declared.said.Said.{Said}
use Rattle.ele_runs.specs.declared.said.Said.TheVariants as said

-- the kinds in the order of their numbers, from 0 on
abbrev pub kinds : List Kind
kinds =
    kind.Now ∷ kind.Detail ∷ kind.History ∷ kind.Pass ∷ kind.Why ∷ kind.Key ∷ kind.Removed ∷ kind.Version ∷ kind.Name ∷ kind.Usage
    ∷ kind.Group ∷ kind.Member ∷ kind.Mark ∷ kind.Stat ∷ kind.Rung ∷ kind.Counts
    ∷ kind.Hold ∷ []

-- a row of a list that is kept, or 69; a kind of which nothing is kept is 68
abbrev pub row_as : {X Y : Type 0} → (X → Y) → Option X → Result Y ℤ
row_as f None = Err (pos 69)
row_as f (Some x) = Ok (f x)

abbrev pub row_in : {X Y : Type 0} → (X → Y) → List X → ℕ → Result Y ℤ
row_in f rows index = row_as f (slice_get rows index)

-- the detail of a refusal
abbrev pub detail_in : Option ℕ → Result Numbers ℤ
detail_in None = Err (pos 68)
detail_in (Some detail) = Ok (single detail)

-- how many events are folded, and how many entries follow them; or 67 without a history
abbrev pub history_in : Option Past → Result Numbers ℤ
history_in None = Err (pos 67)
history_in (Some past) = Ok (pair past.folded (length past.entries))

abbrev pub pass_in : Said → Result Numbers ℤ
pass_in (said.Passed end) = Ok (pass_numbers end)
pass_in other = Err (pos 68)

abbrev pub why_in : Said → Result Numbers ℤ
why_in (said.Why (Ok fate)) = Ok (fate_numbers fate)
why_in (said.WhyHeld fate hold) = Ok (fate_numbers fate)
why_in other = Err (pos 68)

-- the mark that held a version after its policy had let it go
abbrev pub hold_in : Said → Result Numbers ℤ
hold_in (said.WhyHeld fate hold) = Ok (mark_numbers hold.mark)
hold_in other = Err (pos 68)

abbrev pub due_in : Option Reply → ℕ → Result Numbers ℤ
due_in (Some (reply.DueList keys)) index = row_in key_numbers keys index
due_in other index = Err (pos 68)

-- a key that is due, or will be
abbrev pub key_in : Said → Option Reply → ℕ → Result Numbers ℤ
key_in (said.Ahead (Ok keys)) reply index = row_in key_numbers keys index
key_in said reply index = due_in reply index

-- the key that a clean removed, or zeros if nothing was due
abbrev pub removed_in : Option Reply → Result Numbers ℤ
removed_in (Some (reply.Removed key)) = Ok (key_numbers key)
removed_in (Some reply.Nothing) = Ok zeros
removed_in other = Err (pos 68)

abbrev pub version_in : Option Reply → ℕ → Result Numbers ℤ
version_in (Some (reply.Rows rows)) index = row_in version_numbers rows index
version_in other index = Err (pos 68)

-- a name in a directory, or a restorable one
abbrev pub name_in : Option Reply → ℕ → Result Numbers ℤ
name_in (Some (reply.NameList names)) index = row_in named_numbers names index
name_in (Some (reply.RestoreList names)) index = row_in dead_numbers names index
name_in other index = Err (pos 68)

abbrev pub usage_in : Option Reply → ℕ → Result Numbers ℤ
usage_in (Some (reply.UsageList usages)) index = row_in usage_numbers usages index
usage_in other index = Err (pos 68)

-- a group, and a member and a mark of it
abbrev pub group_in : Option Reply → ℕ → Result GroupRow ℤ
group_in (Some (reply.GroupList groups)) index = row_in (λ (group : GroupRow). group) groups index
group_in other index = Err (pos 68)

abbrev pub counts_in : Result GroupRow ℤ → Result Numbers ℤ
counts_in (Ok group) = Ok (group_numbers group)
counts_in (Err code) = Err code

abbrev pub member_in : Result GroupRow ℤ → ℕ → Result Numbers ℤ
member_in (Ok group) member = row_in single group.members member
member_in (Err code) member = Err code

abbrev pub mark_in : Result GroupRow ℤ → ℕ → Result Numbers ℤ
mark_in (Ok group) mark = row_in mark_numbers group.marks mark
mark_in (Err code) mark = Err code

abbrev pub stat_in : Option Reply → Result Numbers ℤ
stat_in (Some (reply.FileStat stat)) = Ok (file_numbers stat)
stat_in (Some (reply.DirStat row)) = Ok (directory_numbers row)
stat_in other = Err (pos 68)

-- a rung of the policy in a reply
abbrev pub rungs_of : Policy → List (ℕ × ℕ)
rungs_of (policy.Landmarks ladder) = ladder
rungs_of other = []

abbrev pub rung_in : Option Reply → ℕ → Result Numbers ℤ
rung_in (Some (reply.FileStat stat)) index = row_in (λ (rung : ℕ × ℕ). pair rung.0 rung.1) (rungs_of stat.policy) index
rung_in (Some (reply.DirStat row)) index = row_in (λ (rung : ℕ × ℕ). pair rung.0 rung.1) (rungs_of row.default) index
rung_in other index = Err (pos 68)

-- what the limits count
abbrev pub counts_made : Embedding → Numbers
counts_made store = made_numbers (events_in (past_in store.state)) (counts_of (world_in store.state))

-- what is asked for by its kind, the index of its row, and in a group's row that of a member or mark
abbrev pub numbers_of : Kind → Embedding → ℕ → ℕ → Result Numbers ℤ
numbers_of kind.Now store index inner = Ok (single (world_in store.state).now)
numbers_of kind.Detail store index inner = detail_in (detail_of store)
numbers_of kind.History store index inner = history_in (past_in store.state)
numbers_of kind.Pass store index inner = pass_in store.said
numbers_of kind.Why store index inner = why_in store.said
numbers_of kind.Key store index inner = key_in store.said (reply_of store) index
numbers_of kind.Removed store index inner = removed_in (reply_of store)
numbers_of kind.Version store index inner = version_in (reply_of store) index
numbers_of kind.Name store index inner = name_in (reply_of store) index
numbers_of kind.Usage store index inner = usage_in (reply_of store) index
numbers_of kind.Group store index inner = counts_in (group_in (reply_of store) index)
numbers_of kind.Member store index inner = member_in (group_in (reply_of store) index) inner
numbers_of kind.Mark store index inner = mark_in (group_in (reply_of store) index) inner
numbers_of kind.Stat store index inner = stat_in (reply_of store)
numbers_of kind.Rung store index inner = rung_in (reply_of store) index
numbers_of kind.Counts store index inner = Ok (counts_made store)
numbers_of kind.Hold store index inner = hold_in store.said

-- a number that no kind has keeps nothing
abbrev pub numbers_at : Option Kind → Embedding → ℕ → ℕ → Result Numbers ℤ
numbers_at None store index inner = Err (pos 68)
numbers_at (Some kind) store index inner = numbers_of kind store index inner

-- the bytes of a content
abbrev pub content_in : Option Reply → Result (List ℕ) ℤ
content_in (Some (reply.Bytes bytes)) = Ok bytes
content_in other = Err (pos 68)

-- the bytes of a row's name
abbrev pub bytes_in : Option Reply → ℕ → Result (List ℕ) ℤ
bytes_in (Some (reply.NameList names)) index = row_in (λ (named : List ℕ × Target). named.0) names index
bytes_in (Some (reply.RestoreList names)) index = row_in (λ (dead : DeletedName). dead.name) names index
bytes_in (Some (reply.GroupList groups)) index = row_in (λ (group : GroupRow). group.name) groups index
bytes_in other index = Err (pos 68)

-- the name of the group whose mark holds a version, or held it after its policy had let it go
abbrev pub marked_in : Said → Result (List ℕ) ℤ
marked_in (said.Why (Ok (fate.Marked group mark))) = Ok group
marked_in (said.WhyHeld fate hold) = Ok hold.group
marked_in other = Err (pos 68)

-- the kept bytes of a kind: 0 the content, 1 the text of the last answer, 2 the name of a row, 3 the name of the mark's group
abbrev pub bytes_at : Embedding → ℕ → ℕ → Result (List ℕ) ℤ
bytes_at store kind index =
    if kind == 0 then content_in (reply_of store)
    else (if kind == 1 then Ok store.answer
    else (if kind == 2 then bytes_in (reply_of store) index else marked_in store.said))
