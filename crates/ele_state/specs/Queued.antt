-- The keys that follow the rows. No public clause cites this module.
use Rattle.std.specs.Prelude.{◌≡◌, ℕ, ◌-◌, ◌==◌, nat_le, Bool, true, not, ◌&&◌, ◌||◌, List, [], ◌∷◌, Option, Some, None, is_some, find, option_and_then, unwrap_or, if◌then◌else◌}
use Rattle.std.specs.Option.{option_map, option_map_or}
use Rattle.ele_due.specs.declared.key.Key.{Key}
use Rattle.ele_due.specs.HasKey.{has_key}
use Rattle.ele_fates.specs.Alone.{few_enough}
use Rattle.ele_fates.specs.Keys.{comes, goes}
use Rattle.ele_fates.specs.declared.keys.KeyChange.{KeyChange}
use Rattle.ele_files.specs.Held.{Held}
use Rattle.ele_policy.specs.declared.policy.Policy.{Policy}
use Rattle.ele_policy.specs.RipeCase.{case_of, rule_in}
use Rattle.ele_policy.specs.declared.rule.Rule.{Rule}
use Rattle.ele_model.specs.declared.cover.Cover.{Cover}
use Rattle.ele_model.specs.declared.rows.GroupRow.{GroupRow}
use Rattle.ele_model.specs.RipeRows.{ripe_at}
use Rattle.ele_model.specs.Neighbours.{case_moment, free_moment, is_moment, moment_under, newer_held, with_newer}
use Rattle.ele_model.specs.Cover.{cover_of}
use Rattle.ele_model.specs.Told.{info_of}
use Rattle.ele_model.specs.declared.rows.VersionInfo.{VersionInfo}
use Rattle.ele_model.specs.declared.rows.VersionRow.{VersionRow}
use Rattle.ele_model.specs.World.{World, next_of, is_open, is_version}

-- the queue has the key of each version that has a ripe moment, and no other
abbrev pub IsQueued : World → List Key → Type 0
IsQueued w queue = (k : Key) → has_key k queue ≡ is_moment k.ripe (ripe_at w k.file k.number)

-- ---- moments that change

-- the first moments give the version the key's moment, and the second don't
abbrev pub is_alone : (ℕ → ℕ → Option ℕ) → (ℕ → ℕ → Option ℕ) → Key → Bool
is_alone one other k = is_moment k.ripe (one k.file k.number) && not (is_moment k.ripe (other k.file k.number))

-- the changes are those of the touched versions, from the old moments to the new ones
pub record AreChanges (touched : ℕ → ℕ → Bool) (was is : ℕ → ℕ → Option ℕ) (changes : List KeyChange) : Type 0 where
  pub come : (k : Key) → comes changes k ≡ (touched k.file k.number && is_alone is was k)
  pub go : (k : Key) → goes changes k ≡ (touched k.file k.number && is_alone was is k)

-- the version is that one
abbrev pub is_one : ℕ → ℕ → ℕ → ℕ → Bool
is_one file number owner n = (owner == file) && (n == number)

abbrev pub is_own : ℕ → ℕ → ℕ → Bool
is_own file owner number = owner == file

-- ---- what an append touches: the file's next version, and the held one that then has as many newer ones as the file's rule asks for; if it
-- asks for none, the newest

-- the moment that this version gets as the next version closes beside it, which ends it unless it has ended; none if it keeps the moment
-- that it had without one
abbrev pub gained_moment : (ℕ → Option ℕ → Cover) → Rule → ℕ → ℕ → Option ℕ → Option ℕ
gained_moment cover rule now closed ended =
    if is_some (option_and_then (case_moment cover (case_of rule.policy closed None (few_enough rule))) ended) then None
    else case_moment cover (case_of rule.policy closed (Some now) true) (unwrap_or ended now)

-- the moment that the file's version of that row gets; none if a handle reads it
abbrev pub former_moment : List GroupRow → Held → Rule → ℕ → ℕ → VersionRow → Option ℕ
former_moment groups h rule file now row =
    if is_open h.handles file row.number then None else gained_moment (cover_of groups file) rule now row.closed row.ended

-- its key; if the file is restored, the version got its key while the rule asked for no newer ones
abbrev pub former_key : List GroupRow → Held → Rule → ℕ → ℕ → Bool → KeyChange
former_key groups h rule file now again =
    let gaining = if not again || (rule.newer == 0) then with_newer h.versions file (rule.newer - 1) else None in
    record { file = file; number = option_map_or (λ row. row.number) gaining 0; was = None; is = option_and_then (former_moment groups h rule file now) gaining }

-- the key of the file's next version, which closes now, and may also end now
abbrev pub own_key : List GroupRow → Held → Rule → ℕ → ℕ → Bool → KeyChange
own_key groups h rule file now ends =
    record { file = file; number = next_of h.files file; was = None; is = if ends then case_moment (cover_of groups file) (case_of rule.policy now None true) now else None }

-- both keys, in a file under the policy, which is live or not: without a live name the next version also ends now
abbrev pub new_keys : List GroupRow → Held → Policy → Bool → ℕ → ℕ → Bool → List KeyChange
new_keys groups h policy live file now again =
    former_key groups h (rule_in policy live) file now again ∷ own_key groups h (rule_in policy live) file now (not live) ∷ []

-- ---- what a change of the rule touches

-- the moment of a version of the file under the rule; none if a handle reads it
abbrev pub unread_under : List GroupRow → Rule → Held → ℕ → ℕ → Option ℕ
unread_under groups rule h file number = if is_open h.handles file number then None else moment_under (cover_of groups file) rule h.versions file number

-- the version of these info is held
abbrev pub IsInfoOf : Held → ℕ → VersionInfo → Type 0
IsInfoOf h file info = option_map info_of (find (is_version file info.number) h.versions) ≡ Some info

-- the moment of a version of the file under the policy if it asks for no newer ones and none is newer, or newer ones don't matter; an
-- unended version ends now; none if a handle reads it
abbrev pub freed_moment : List GroupRow → Held → ℕ → Policy → ℕ → ℕ → ℕ → Option ℕ → Option ℕ
freed_moment groups h file policy now number closed ended =
    if is_open h.handles file number then None else case_moment (cover_of groups file) (case_of policy closed None true) (unwrap_or ended now)

-- the key is the freed one of one of the file's newest versions, so many
abbrev pub is_freed : List GroupRow → Held → ℕ → Policy → ℕ → ℕ → Key → Bool
is_freed groups h file policy now newest k =
    let its = option_and_then (λ row. freed_moment groups h file policy now row.number row.closed row.ended) (find (is_version file k.number) h.versions) in
    (k.file == file) && (not (nat_le newest (newer_held h.versions file k.number)) && is_moment k.ripe its)

-- ---- what changes of groups touch

-- the moments of the world's versions under these covers
abbrev pub moments_by : World → (ℕ → ℕ → Option ℕ → Cover) → ℕ → ℕ → Option ℕ
moments_by w cover file number = if is_open w.handles file number then None else free_moment w (cover file) file number
