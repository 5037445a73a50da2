use Rattle.std.proofs.Common.{append_assoc, refl}
use Rattle.game_save.proofs.save_writing.append_header.Goals as goal

pub returns : goal.returns
returns c =
    rw (c.in_ok-write_u32-4.ensures.ok, c.in_ok-append_clients.ensures, c.in_ok-append_byte-2.ensures, c.in_ok-append_byte.ensures, c.in_ok-write_u32-3.ensures.ok, c.in_ok-write_u64.ensures.ok, c.in_ok-write_u32-2.ensures.ok, c.in_ok-write_u32.ensures.ok, c.clients.ensures.value)
    (simp append_assoc refl)
