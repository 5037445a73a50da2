use Rattle.std.proofs.Common.{rules, ◌≡◌, ◌≤◌, ◌++◌, ℕ, length, take, Ok}
use Rattle.wire_bytes.specs.Field.{field_bytes}
use Rattle.wire_bytes.specs.Read.{field_at}
use Rattle.order_packets.specs.PacketReading.{payload_at}
use Rattle.order_packets.proofs.FirstLemmas.{first_found, first_within, first_spelled}
use Rattle.order_packets.proofs.first_reading.first_packet.Goals as goal

pub returns-clause-reads : goal.returns-clause-reads
returns-clause-reads g c =
    let bytes = c.args.bytes.now in
    let rest = c.read_u16.new.self in
    let size : ℕ = c.from-length.result in
    let enough : size ≤ length rest = search rules in
    let field : field_at 2 bytes ≡ Ok (size, rest) = search rules in
    let spelled : bytes ≡ field_bytes 2 size ++ rest = search rules in
    let small : size ≤ 256 = search rules in
    let read : payload_at g.P.Packet.at (take size rest) ≡ Ok c.in_ok-packet.packet =
    search rules in (
      first_found g.P.Packet.at bytes rest size c.in_ok-packet.packet field spelled small enough
          read,
      first_within bytes rest size spelled enough,
    )

pub returns-clause-spelled : goal.returns-clause-spelled
returns-clause-spelled g c =
    let bytes = c.args.bytes.now in
    let rest = c.read_u16.new.self in
    let size : ℕ = c.from-length.result in
    let payload = g.P.Packet.payload c.in_ok-packet.packet in
    let enough : size ≤ length rest = search rules in
    let spelled : bytes ≡ field_bytes 2 size ++ rest = search rules in
    let whole : take size rest ≡ payload = search rules in
    first_spelled bytes rest payload size spelled enough whole
