-- What a tagged path reads, describes and opens.
use Rattle.std.specs.Prelude.{◌≡◌, ℕ, Ok}
use Rattle.ele_content.specs.Content.{content_of}
use Rattle.ele_path.specs.declared.tagged.TaggedPath.{TaggedPath}
use Rattle.ele_model.specs.declared.event.Event.TheVariants.{OpenRead, Read, Stat}
use Rattle.ele_model.specs.declared.event.Source.TheVariants.{Tagged}
use Rattle.ele_model.specs.declared.refusal.Refusal.{Refusal}
use Rattle.ele_model.specs.declared.reply.Reply.TheVariants.{Bytes, FileStat, Handle, Refused}
use Rattle.ele_model.specs.declared.rows.Reads.TheVariants.{Version}
use Rattle.ele_model.specs.declared.rows.VersionRow.{VersionRow}
use Rattle.ele_model.specs.Step.{step}
use Rattle.ele_model.specs.Told.{info_of}
use Rattle.ele_model.specs.World.{World, policy_for, reads_by}

-- a read and a stat reply with that version, and a handle that an open returns reads it
pub record AnswersVersion (w : World) (tagged : TaggedPath) (row : VersionRow) : Type 0 where
  pub read : (step w (Read (Tagged tagged))).0 ≡ Bytes (content_of row.cells)
  pub stat : (step w (Stat tagged)).0 ≡ FileStat (record { file = row.file; info = info_of row; policy = policy_for w.files row.file })
  pub opened : (handle : ℕ) → (step w (OpenRead tagged)).0 ≡ Handle handle
      → reads_by ((step w (OpenRead tagged)).1).handles handle ≡ Ok (Version row.file row.number)

-- a read, a stat and an open are refused
pub record Refuses (w : World) (tagged : TaggedPath) (refusal : Refusal) : Type 0 where
  pub read : (step w (Read (Tagged tagged))).0 ≡ Refused refusal
  pub stat : (step w (Stat tagged)).0 ≡ Refused refusal
  pub opened : (step w (OpenRead tagged)).0 ≡ Refused refusal
