-- How drafts and handles relate to each other.
use Rattle.std.specs.Prelude.{◌≡◌, ◌≤◌, true, List}
use Rattle.std.specs.List.{AllByRecursion, list_any}
use Rattle.ele_sessions.specs.Order.{Rises}
use Rattle.ele_sessions.specs.Sessions.{Draft, AllSessions, is_draft}
use Rattle.ele_model.specs.World.{is_writer}
use Rattle.ele_model.specs.declared.rows.Reads.{Reads}
use Rattle.ele_model.specs.declared.rows.Reads.TheVariants as reads

-- a draft that a handle reads is there
abbrev pub IsReadable : List Draft → Reads → Type 0
IsReadable drafts (reads.Draft file) = list_any (is_draft file) drafts ≡ true
IsReadable drafts (reads.Version file number) = Unit {0}

-- drafts are in order of files, at most one for each, and handles in order of numbers, none above those that were opened; each handle that
-- writes has its draft, and each draft has a handle that writes it
pub record AreOrderly (s : AllSessions) : Type 0 where
  pub drafts_rise : Rises (λ draft. draft.file) s.drafts
  pub handles_rise : Rises (λ handle. handle.number) s.handles
  pub opened : AllByRecursion (λ handle. handle.number ≤ s.opened) s.handles
  pub drafted : AllByRecursion (λ handle. IsReadable s.drafts handle.reads) s.handles
  pub written : AllByRecursion (λ draft. list_any (is_writer draft.file) s.handles ≡ true) s.drafts
