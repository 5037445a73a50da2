use Rattle.std.proofs.Common.{arith, get_or}
use Rattle.wire_bytes.specs.Field.{field_number}
use Rattle.wire_bytes.proofs.ReadLemmas.{reads_enough}
use Rattle.wire_bytes.proofs.cursor.Cursor.read_u8.Goals as goal

pub returns : goal.returns
unfolding field_number
returns c = reads_enough 1 c.args.self.now c.take.new.self c.in_ok-field.field.now (get_or c.in_ok-field.field.now 0 0) c.in_ok-field.ensures.ok (omega arith)
