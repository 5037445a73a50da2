use Rattle.wire_bytes.specs.Field.{field_number}
use Rattle.wire_bytes.proofs.ReadLemmas.{reads_enough}
use Rattle.wire_bytes.proofs.cursor.Cursor.read_u16.Goals as goal

pub returns : goal.returns
unfolding field_number
returns c = reads_enough 2 c.args.self.now c.take.new.self c.in_ok-field.field.now c.read_u16.result c.in_ok-field.ensures.ok c.read_u16.ensures
