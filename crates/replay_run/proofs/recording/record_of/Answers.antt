use Rattle.std.proofs.Common.{ap, subst, ◌∙◌, List, length, arith}
use Rattle.frame_core.specs.Agreed.{AreReady}
use Rattle.frame_core.specs.Column.{Column}
use Rattle.replay_run.proofs.RecordingLemmas.{record_returns}
use Rattle.replay_run.proofs.recording.record_of.Goals as goal

pub returns : goal.returns
returns g c m clients marks =
    let server = c.args.server.now in
    let columns = c.columns.ensures.value in
    let ready =
    subst (λ (all : List Column). AreReady all server.ticked) columns c.columns.ensures.ready in
    let count =
    c.clients-clients.ensures.value ∙ ap (λ (all : List Column). length all) columns in
    record_returns m c.args.rules c.args.seed c.clients-clients.result server.ticked server.columns
    server.marks c.in_ok-writer.writer c.write_frames.new.writer c.finish.result count
    c.clients-clients.ensures.least c.clients-clients.ensures.most
    (omega (arith, c.ranges.rules.fits)) (omega (arith, c.ranges.seed.fits))
    (omega (arith, c.ticked-ticked.ensures.value, c.ticked-ticked.ensures.limit)) ready
    c.in_ok-write_frames.ensures.fits c.in_ok-writer.ensures c.in_ok-write_frames.ensures.written
    c.finish.ensures clients marks
