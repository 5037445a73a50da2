use Rattle.match_net.proofs.DownLemmas.{moves_with, tries_packet, tries_fault, tries_by}
use Rattle.match_net.proofs.downward.try_next.Goals as goal

pub returns-in-Ok-Some-clause-moves : goal.returns-in-Ok-Some-clause-moves
returns-in-Ok-Some-clause-moves g c =
    moves_with _ _ c.at-at.result _ c.in-Ok-Some.packet c.in-Ok-Some.field-0-is c.requires.fault
    c.requires.few c.in-Ok-Some.ensures.answer c.in-Ok-Some.ensures.spelled

pub returns-in-Ok-Some-clause-means : goal.returns-in-Ok-Some-clause-means
returns-in-Ok-Some-clause-means g c =
    λ first packets stream.
    tries_packet first _ packets _ _ _ _ c.in-Ok-Some.packet c.in-Ok-Some.field-0-is c.at-at.ensures
    c.requires.fault c.in-Ok-Some.ensures.answer c.in-Ok-Some.ensures.stream stream

pub returns-in-Ok-None-clause-means : goal.returns-in-Ok-None-clause-means
returns-in-Ok-None-clause-means g c =
    λ first packets stream.
    tries_by first _ _ packets _ _ _ _ _ c.in-Ok-None.field-0-is c.requires.fault
    c.in-Ok-None.ensures.answer c.requires.few c.take_more.ensures.ok c.take_more.ensures.err
    stream

pub returns-in-Err-clause-means : goal.returns-in-Err-clause-means
returns-in-Err-clause-means g c =
    λ first packets stream.
    tries_fault first _ packets _ _ _ c.in-Err.fault _ c.at-at.ensures c.requires.fault
    c.in-Err.ensures.answer c.bad.ensures stream
