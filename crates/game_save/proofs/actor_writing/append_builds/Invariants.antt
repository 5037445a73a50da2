-- What is written and the bytes of those that are left are the bytes of all. Those so far fit.
use Rattle.std.proofs.Common.{◌≡◌, ◌++◌, drop, take}
use Rattle.std.specs.List.{All, flat_map}
use Rattle.sync_hash.specs.FitsFields.{BuildFits}
use Rattle.sync_hash.specs.HashedBytes.{build_bytes, builds_bytes}
use Rattle.game_save.proofs.actor_writing.append_builds.Given as goal

abbrev pub invariant-loop-build : goal.invariant-loop-build
invariant-loop-build l =
    (l.out.items ++ flat_map build_bytes (drop l.build-index l.build-items)
    ≡ l.fn.out.items ++ builds_bytes l.builds)
    × All BuildFits (take l.build-index l.build-items)
