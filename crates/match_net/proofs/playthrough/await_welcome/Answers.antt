use Rattle.match_net.proofs.OpeningLemmas.{await_packet, await_bad, await_lost, await_out}
use Rattle.match_net.proofs.playthrough.await_welcome.Goals as goal

pub returns-in-Ok-Packet-clause-ok : goal.returns-in-Ok-Packet-clause-ok
returns-in-Ok-Packet-clause-ok g c =
    λ rules first before stream said.
    let got = await_packet first _ _ _ _ _ _ _ c.in-Ok-Packet.field-0-is
    (λ packets s. c.in-Ok-Packet.ensures.means first packets s) stream in
    c.begin.ensures.ok rules first before got.1.0 got.0 got.1.1 said

pub returns-in-Ok-Packet-clause-err : goal.returns-in-Ok-Packet-clause-err
returns-in-Ok-Packet-clause-err g c =
    λ rules first before stream said.
    let got = await_packet first _ _ _ _ _ _ _ c.in-Ok-Packet.field-0-is
    (λ packets s. c.in-Ok-Packet.ensures.means first packets s) stream in
    c.begin.ensures.err rules first before got.1.0 got.0 got.1.1 said

pub returns-in-Ok-Bad-clause-ok : goal.returns-in-Ok-Bad-clause-ok
returns-in-Ok-Bad-clause-ok g c =
    λ rules first before stream said.
    await_bad _ first _ _ before _ _ _ _ _ _ _ _ _ _ c.in-Ok-Bad.field-0-is
    (λ packets s. c.in-Ok-Bad.ensures.means first packets s) stream said c.unwelcomed.ensures

pub returns-in-Ok-Lost-clause-ok : goal.returns-in-Ok-Lost-clause-ok
returns-in-Ok-Lost-clause-ok g c =
    λ rules first before stream said.
    await_lost _ first _ _ before _ _ _ _ _ _ _ _ c.in-Ok-Lost.field-0-is
    (λ packets s. c.in-Ok-Lost.ensures.means first packets s) stream said
    c.unwelcomed-in-Ok-Lost.ensures

pub returns-in-Err-clause-err : goal.returns-in-Err-clause-err
returns-in-Err-clause-err g c =
    λ rules first before stream said.
    await_out _ first _ _ before _ _
    (λ packets s. c.in-Err.ensures.means first packets s) stream said
