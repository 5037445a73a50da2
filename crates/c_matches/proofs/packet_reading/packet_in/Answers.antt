use Rattle.c_matches.proofs.PacketLemmas.{all_taken, some_left}
use Rattle.c_matches.proofs.packet_reading.packet_in.Goals as goal

pub returns-then-taken-bytes : goal.returns-then-taken-bytes
returns-then-taken-bytes g c =
    all_taken _ _ _ c.in-Ok-Some.packet c.in-Ok-Some.taken c.in-Ok-Some.field-0-is c.in-Ok-Some.ensures.reads c.if-taken-bytes.true

pub returns-else-taken-bytes : goal.returns-else-taken-bytes
returns-else-taken-bytes g c =
    some_left _ _ _ c.in-Ok-Some.packet c.in-Ok-Some.taken c.in-Ok-Some.field-0-is c.in-Ok-Some.ensures.reads c.if-taken-bytes.false
