use Rattle.std.proofs.Common.{refl}
use Rattle.sync_hash.specs.HashedBytes.{actor_bytes}
use Rattle.sync_hash.proofs.HeaderLemmas.{fnv_from-append}
use Rattle.sync_hash.proofs.actor_bytes.write_actor.Goals as goal

-- The parts of an actor, one after the other.
pub returns : goal.returns
unfolding actor_bytes
returns c =
    rw (c.write_builds.ensures, c.write_acts.ensures, c.write_u16-4.ensures, c.write_u16-3.ensures, c.write_u32-2.ensures, c.write_leg.ensures, c.write_u16-2.ensures, c.units.ensures.value, c.write_cell.ensures, c.write_u8.ensures, c.write_u16.ensures, c.write_u32.ensures)
    (simp fnv_from-append refl)
