use Rattle.std.proofs.Common.{ap}
use Rattle.replay_file.specs.PartKind.{next_of, part_of}
use Rattle.replay_file.proofs.SoFarLemmas.{read_step, step_shrinks}
use Rattle.replay_file.proofs.replay_reading.read_parts.Goals as goal

pub loop-frame-smaller : goal.loop-frame-smaller
loop-frame-smaller c =
    let frame = c.read_next_at.new.frame in
    step_shrinks c.args.version c.loop-frame.c c.read_next_at.new.c c.loop-frame.standing
    (next_of c.in_ok-kind.field-0 frame) (part_of c.in-Some.kind frame) c.in_ok-kind.ensures.1
    (ap (λ next. next_of next frame) c.in-Some.is)

pub loop-frame-preserved : goal.loop-frame-preserved
loop-frame-preserved c =
    let frame = c.read_next_at.new.frame in
    read_step c.args.version c.args.clients c.args.c.now c.loop-frame.c c.read_next_at.new.c
    c.loop-frame.parts c.push.new.self c.loop-frame.standing c.pass.new.self
    (next_of c.in_ok-kind.field-0 frame) (part_of c.in-Some.kind frame) c.loop-frame.invariant
    c.in_ok-kind.ensures.1 (ap (λ next. next_of next frame) c.in-Some.is) c.push.ensures.fits
    c.in_ok-push.ensures.ok c.pass.ensures
