-- What the bytes of the activities that are left make of the number so far is what the bytes of all
-- make of the first.
use Rattle.std.proofs.Common.{◌≡◌, drop}
use Rattle.std.specs.List.{flat_map}
use Rattle.sync_hash.specs.Fnv.{fnv_from}
use Rattle.sync_hash.specs.HashedBytes.{activity_bytes, acts_bytes}
use Rattle.sync_hash.proofs.actor_bytes.write_acts.Given as goal

abbrev pub invariant-loop-activity : goal.invariant-loop-activity
invariant-loop-activity l =
    fnv_from l.state (flat_map activity_bytes (drop l.activity-index l.activity-items))
    ≡ fnv_from l.fn.state (acts_bytes l.acts)
