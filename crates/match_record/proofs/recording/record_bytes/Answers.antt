use Rattle.std.proofs.Common.{ap, sym, subst, arith, IfOk}
use Rattle.frame_core.specs.Agreed.{AreReady}
use Rattle.replay_file.specs.FirstFault.{Spells}
use Rattle.replay_run.specs.Recording.{replay_of}
use Rattle.replay_run.proofs.RecordingLemmas.{record_returns}
use Rattle.server_core.specs.Served.{agreed_marks}
use Rattle.match_record.specs.Matches.{match_from}
use Rattle.match_record.proofs.recording.record_bytes.Goals as goal

pub write_frames-requires-clause-ready : goal.write_frames-requires-clause-ready
write_frames-requires-clause-ready g c =
    subst (AreReady c.args.columns.now) (sym c.longest-count.ensures) c.requires.ready

pub returns : goal.returns
returns g c =
    let columns = c.args.columns.now in
    let count = c.longest-count.result in
    let after = g.M.World.Sim.after in
    let hash = g.M.World.Sim.hash_of in
    let summary = g.M.World.Sim.summary_of in
    let made = g.M.Maker.made c.args.maker.now c.args.seed c.args.clients in
    let of_match = match_from after hash summary made c.args.clients in
    let opening = c.in_ok-sim.sim in
    let marks = agreed_marks (match_from after hash summary opening (g.M.World.Sim.clients_of opening)) columns count in
    subst (λ n. IfOk c.finish.result (λ bytes. Spells c.args.rules bytes.items (replay_of of_match c.args.rules c.args.seed columns n)))
    c.longest-count.ensures
    (record_returns of_match c.args.rules c.args.seed c.args.clients count columns marks c.in_ok-writer.writer
    c.write_frames.new.writer c.finish.result (sym c.requires.count) c.requires.least c.requires.most
    (omega (arith, c.ranges.rules.fits)) (omega (arith, c.ranges.seed.fits)) c.in_ok-write_frames.ensures.few
    (subst (AreReady columns) (sym c.longest-count.ensures) c.requires.ready)
    c.in_ok-write_frames.ensures.fits c.in_ok-writer.ensures c.in_ok-write_frames.ensures.written c.finish.ensures
    (sym c.requires.count)
    (ap (λ start. agreed_marks (match_from after hash summary start c.args.clients) columns count) c.in_ok-sim.ensures.world))
