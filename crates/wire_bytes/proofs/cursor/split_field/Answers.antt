use Rattle.std.proofs.Common.{arith}
use Rattle.wire_bytes.proofs.cursor.split_field.Goals as goal

pub returns : goal.returns
returns c =
    record {
      enough = c.requires;
      first = c.split_at.ensures.front;
      rest = c.split_at.ensures.back;
      bytes = λ i. let fits = c.type_inv.bytes i in omega arith;
    }
