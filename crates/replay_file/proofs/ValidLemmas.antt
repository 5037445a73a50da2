-- A valid replay obeys the rules as a whole, and a replay that obeys them is valid.
use Rattle.std.specs.Prelude.{◌≡◌, ◌≤◌, true}
use Rattle.std.specs.List.{AllByRecursion}
use Rattle.replay_file.specs.declared.replay.Replay.{Replay}
use Rattle.replay_file.specs.PartRules.{greatest_tag, is_known, most_clients, most_frames}
use Rattle.replay_file.specs.RuleLaws.{HasKnownOrders, ObeysRules}
use Rattle.replay_file.proofs.RuleLemmas.{orders_known_of, parts_follow, rules_obeyed}
use Rattle.replay_file.specs.ValidReplay.{IsValidReplay}

pub valid_obeys : (r : Replay) → IsValidReplay r →
    ObeysRules r.clients (most_frames r.version) r.parts
valid_obeys r valid = rules_obeyed r.version r.clients r.parts valid.parts

pub valid_knows : (r : Replay) → IsValidReplay r →
    AllByRecursion (HasKnownOrders (greatest_tag r.version)) r.parts
valid_knows r valid = orders_known_of r.version r.clients r.parts valid.parts

pub obeying_valid :
    (r : Replay) → is_known r.version ≡ true → 1 ≤ r.clients →
    r.clients ≤ most_clients r.version → ObeysRules r.clients (most_frames r.version) r.parts →
    AllByRecursion (HasKnownOrders (greatest_tag r.version)) r.parts → IsValidReplay r
obeying_valid r version least most obeys orders =
    record {
      version = version;
      least = least;
      most = most;
      parts = parts_follow r.version r.clients r.parts obeys orders;
    }

pub ruleset rule_laws = (valid_obeys, valid_knows, obeying_valid)
