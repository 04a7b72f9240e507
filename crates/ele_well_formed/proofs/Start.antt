-- All parts of a world together.
use Rattle.std.specs.Prelude.{◌≤◌}
use Rattle.ele_moment.specs.Last.{last_moment}
use Rattle.ele_model.specs.Bounds.{AreBounds}
use Rattle.ele_model.specs.Start.{IsStart}
use Rattle.ele_model.specs.World.{World}
use Rattle.ele_well_formed.proofs.OneContent.{one_content_of}
use Rattle.ele_well_formed.specs.Fault.{GroupsHold, HasLives}
use Rattle.ele_well_formed.specs.Sharing.{IsSharing}

pub start : (w : World) → w.now ≤ last_moment → AreBounds w.limits → HasLives w → GroupsHold w → IsSharing w → IsStart w
start w now bounded lives groups shared =
    let held = lives.held in
    let named = held.named in
    record {
      formed = record {
        now = now;
        bounded = bounded;
        counted = named.numbered.counted;
        directories = named.numbered.directories;
        files = named.numbered.files;
        names = named.names;
        homes = named.homes;
        tree = named.tree;
        versions = held.versions;
        drafts = held.drafts;
        handles = held.handles;
        readers = held.readers;
        current = lives.current;
        ended = lives.ended;
        groups = groups;
      };
      idle = lives.busy;
      tree = named.rooted;
      writers = held.writers;
      contents = one_content_of w shared;
    }
