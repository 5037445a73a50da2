use Rattle.match_net.proofs.PlayLemmas.{turn_packet, turn_bad, turn_lost, turn_out}
use Rattle.match_net.proofs.playing.play_once.Goals as goal

pub returns-in-Ok-Packet-clause-means : goal.returns-in-Ok-Packet-clause-means
returns-in-Ok-Packet-clause-means g c =
    λ made rules first before so_far.
    turn_packet _ first _ _ before _ _ _ _ _ _ _ _ _ _ c.in-Ok-Packet.field-0-is
    (λ packets stream. c.in-Ok-Packet.ensures.means first packets stream)
    c.act_on.ensures.handles c.act_on.ensures.err so_far

pub returns-in-Ok-Bad-clause-means : goal.returns-in-Ok-Bad-clause-means
returns-in-Ok-Bad-clause-means g c =
    λ made rules first before so_far.
    turn_bad _ first _ _ before _ _ _ _ _ _ _ c.in-Ok-Bad.field-0-is
    (λ packets stream. c.in-Ok-Bad.ensures.means first packets stream) so_far

pub returns-in-Ok-Lost-clause-means : goal.returns-in-Ok-Lost-clause-means
returns-in-Ok-Lost-clause-means g c =
    λ made rules first before so_far.
    turn_lost _ first _ _ before _ _ _ _ _ c.in-Ok-Lost.field-0-is
    (λ packets stream. c.in-Ok-Lost.ensures.means first packets stream) so_far

pub returns-in-Err-clause-means : goal.returns-in-Err-clause-means
returns-in-Err-clause-means g c =
    λ made rules first before so_far.
    turn_out _ first _ _ before _ _ _
    (λ packets stream. c.in-Err.ensures.means first packets stream) so_far
