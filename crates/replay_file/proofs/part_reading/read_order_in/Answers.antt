use Rattle.std.proofs.Common.{◌≡◌, ap, sym, ◌∙◌, Ok, arith}
use Rattle.wire_bytes.specs.Read.{field_at}
use Rattle.replay_file.proofs.OrdersLemmas.{first_tag}
use Rattle.replay_file.proofs.part_reading.read_order_in.Goals as goal

pub returns-clause-known : goal.returns-clause-known
returns-clause-known c =
    let at : field_at 1 c.args.c.now ≡ Ok (c.in_ok-tag.tag, c.read_u8.new.self) =
    ap (field_at 1) (sym (c.over-ahead.ensures ∙ c.rest.ensures)) ∙ c.in_ok-tag.ensures.answer in
    first_tag c.args.greatest c.in_ok-tag.tag c.args.c.now c.read_u8.new.self c.read_order.new.c
    c.in_ok-order.order at c.in_ok-order.ensures.spelled (omega arith)
