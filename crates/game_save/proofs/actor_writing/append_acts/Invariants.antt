-- What is written and the bytes of those that are left are the bytes of all. Those so far fit.
use Rattle.std.proofs.Common.{◌≡◌, ◌++◌, drop, take}
use Rattle.std.specs.List.{All, flat_map}
use Rattle.sync_hash.specs.FitsFields.{ActivityFits}
use Rattle.sync_hash.specs.HashedBytes.{activity_bytes, acts_bytes}
use Rattle.game_save.proofs.actor_writing.append_acts.Given as goal

abbrev pub invariant-loop-activity : goal.invariant-loop-activity
invariant-loop-activity l =
    (l.out.items ++ flat_map activity_bytes (drop l.activity-index l.activity-items)
    ≡ l.fn.out.items ++ acts_bytes l.acts)
    × All ActivityFits (take l.activity-index l.activity-items)
