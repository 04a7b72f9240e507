-- Drafts and handles that are given at once.
use Rattle.std.proofs.Common.{map, take}
use Rattle.std.proofs.lemmas.List.{map-append}
use Rattle.std.proofs.lemmas.List.Sums.{count_by-le-length}
use Rattle.ele_sessions.proofs.Basics.{AllByRecursion, List, [], all-both, all-weaker, arith, counted, length, nat_tests, Tally, ℕ, ◌++◌, ◌+◌, ◌<◌, ◌∷◌, ◌≡◌, ◌≤◌}
use Rattle.ele_sessions.proofs.Words.{AllSessions, AreOrderly, Entry, HandleRow, Keeps, Reads, Rises, draft_in, drafts_of, reading, reads_eq}

-- a draft at the end of the others
pub draft_pushed : (entries : List Entry) (entry : Entry) → drafts_of (entries ++ entry ∷ []) ≡ drafts_of entries ++ draft_in entry ∷ []
draft_pushed entries entry = map-append draft_in entries (entry ∷ [])

-- rising numbers from the first on are at most as many as the last
few_rise : (from to : ℕ) (hs : List HandleRow) → AllByRecursion (λ h. from ≤ h.number) hs → AllByRecursion (λ h. h.number ≤ to) hs → Rises (λ h. h.number) hs → from ≤ to + 1 → length hs + from ≤ to + 1
few_rise from to [] low high rise le = omega arith
few_rise from to (h ∷ hs) low high rise le =
    let first : from ≤ h.number = low.0 in
    let last : h.number ≤ to = high.0 in
    let rest : length hs + (h.number + 1) ≤ to + 1 = few_rise (h.number + 1) to hs (all-weaker (λ k. h.number < k.number) (λ k. h.number + 1 ≤ k.number) hs (λ k above. omega arith) rise.0) high.1 rise.1 (omega arith) in
    omega arith

pub given_keeps : (s : AllSessions) (counts : Tally Reads) → AreOrderly s → AllByRecursion (λ h. 1 ≤ h.number) s.handles → ((what : Reads) → counted reads_eq counts what ≡ reading what s.handles) → Keeps s counts
given_keeps s counts orderly numbered counted = record {
  orderly = orderly;
  few = let few : length s.handles + 1 ≤ s.opened + 1 = few_rise 1 s.opened s.handles numbered orderly.opened orderly.handles_rise (omega arith) in omega arith;
  counted = counted;
}

-- a count is at most the number of handles
pub reading_few : (what : Reads) (hs : List HandleRow) → reading what hs ≤ length hs
reading_few what hs = count_by-le-length (λ h. reads_eq h.reads what) hs
