use Rattle.std.proofs.Common.{◌≡◌, ℕ, List, cond, true}
use Rattle.std.specs.Prelude.{bytes_eq}
use Rattle.std.specs.List.{list_any}
use Rattle.ele_against.proofs.NamesMore.{has_more}
use Rattle.ele_against.proofs.names.Names.add.Goals as goal

pub returns : goal.returns
returns c = λ text.
    has_more c.args.name.now text (list_any (λ name. bytes_eq text name.now) c.args.self.now.names.keys) (list_any (λ name. bytes_eq text name.now) c.insert.new.self.keys) (c.in_ok-_new.ensures.updates.0 (record { ref_ptr = (0, 0); now = text }))
