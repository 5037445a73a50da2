use Rattle.std.proofs.Common.{◌≡◌, append_assoc, ap, refl}
use Rattle.game_model.specs.declared.world.Head.{Head}
use Rattle.game_model.specs.World.{head_of}
use Rattle.game_save.specs.SaveBytes.{world_bytes}
use Rattle.game_save.proofs.save_writing.append_world.Goals as goal

pub returns-clause-bytes : goal.returns-clause-bytes
unfolding world_bytes
returns-clause-bytes g c =
    let head : c.head-head.result.now ≡ head_of (g.W.LendsWorld.world_of c.args.w.now) =
    ap {B = Head} head_of c.head-head.ensures in
    rw (c.in_ok-append_bytes.ensures, c.in_ok-append_actors.ensures.bytes, c.in_ok-append_header.ensures, c.in_ok-append_byte-2.ensures, c.in_ok-append_byte.ensures, c.as_slice.ensures.value, c.height.ensures, c.width.ensures, c.ore-ore.ensures, c.actor_count.ensures, head)
    (simp append_assoc refl)
