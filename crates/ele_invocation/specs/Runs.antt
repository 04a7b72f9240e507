-- Which run the matches of `run` ask for.
use Rattle.std.specs.Prelude.{◌≡◌, ℕ, ◌≤◌, List, None, codes}
use Rattle.ele_run_options.specs.declared.options.RunOptions.{RunOptions}
use Rattle.ele_invocation.specs.Matches.{HasNumber, is_on}
use Rattle.clap.specs.Words.{Row, first_of}

-- a run answers from 1 to 1,000,000,000 events
pub record IsEvents (events : ℕ) : Type 0 where
  pub some : 1 ≤ events
  pub within : events ≤ 1000000000

-- a run of so many events, without a file among the words
pub record AsksRun (rows : List Row) (events : ℕ) : Type 0 where
  pub no_file : first_of (codes "file") rows ≡ None
  pub events_are : HasNumber (codes "events") rows events
  pub fit : IsEvents events

-- each option is on if its flag is
abbrev pub options_of : List Row → RunOptions
options_of rows = record {
  strict = is_on (codes "strict") rows;
  numbers = is_on (codes "numbers") rows;
  remarks = is_on (codes "remarks") rows;
  explain = is_on (codes "explain") rows;
}
