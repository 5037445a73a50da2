-- Replays that meet the rules of the format.
use Rattle.std.specs.Prelude.{◌≡◌, ◌≤◌, true}
use Rattle.replay_file.specs.declared.replay.Replay.{Replay}
use Rattle.replay_file.specs.PartRules.{is_known, most_clients, opening, EachMayFollow}

-- The replay meets the rules of its version.
pub record IsValidReplay (r : Replay) : Type 0 where
  pub version : is_known r.version ≡ true
  pub least : 1 ≤ r.clients
  pub most : r.clients ≤ most_clients r.version
  pub parts : EachMayFollow r.version (opening r.clients) r.parts
