-- What the bytes of the builds that are left make of the number so far is what the bytes of all make
-- of the first.
use Rattle.std.proofs.Common.{◌≡◌, drop}
use Rattle.std.specs.List.{flat_map}
use Rattle.sync_hash.specs.Fnv.{fnv_from}
use Rattle.sync_hash.specs.HashedBytes.{build_bytes, builds_bytes}
use Rattle.sync_hash.proofs.actor_bytes.write_builds.Given as goal

abbrev pub invariant-loop-build : goal.invariant-loop-build
invariant-loop-build l =
    fnv_from l.state (flat_map build_bytes (drop l.build-index l.build-items))
    ≡ fnv_from l.fn.state (builds_bytes l.builds)
