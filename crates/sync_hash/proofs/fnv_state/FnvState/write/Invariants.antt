-- What the bytes that are left make of the number so far is what all of them make of the first
-- number.
use Rattle.std.proofs.Common.{◌≡◌, drop}
use Rattle.sync_hash.specs.Fnv.{fnv_from}
use Rattle.sync_hash.proofs.fnv_state.FnvState.write.Given as goal

abbrev pub invariant-loop-byte : goal.invariant-loop-byte
invariant-loop-byte l =
    fnv_from l.self-inside.hash (drop l.byte-index l.bytes) ≡ fnv_from l.initial.self-inside.hash l.bytes
