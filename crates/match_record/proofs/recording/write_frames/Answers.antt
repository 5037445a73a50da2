use Rattle.std.proofs.Common.{◌≡◌, ◌∙◌, ap, ap₂, sym, arith}
use Rattle.std.specs.Prelude.{◌+◌, slice_index_or}
use Rattle.std.proofs.lemmas.Option.{get_or_from_slice_get}
use Rattle.frame_core.proofs.FoldLemmas.{folded_step}
use Rattle.frame_core.specs.Ready.{frame_at}
use Rattle.frame_core.specs.World.{world_at}
use Rattle.replay_run.specs.Recording.{hash_after_frame}
use Rattle.replay_run.proofs.RecordingLemmas.{frame_fits_too, frame_written}
use Rattle.server_core.specs.Served.{agreed_marks}
use Rattle.server_core.proofs.ServedLemmas.{agreed_mark}
use Rattle.match_record.specs.Matches.{match_from}
use Rattle.match_record.proofs.recording.write_frames.Goals as goal

pub loop-n-preserved : goal.loop-n-preserved
loop-n-preserved g c =
    let columns = c.args.columns.now in
    let start = c.args.sim.now in
    let n = c.loop-n.n in
    let of_match = match_from g.S.Sim.after g.S.Sim.hash_of g.S.Sim.summary_of start (g.S.Sim.clients_of start) in
    let marks = agreed_marks of_match columns c.args.count in
    let frame = c.fill_frame.ensures in
    let world : c.step.new.self ≡ world_at g.S.Sim.after start columns (n + 1) =
    c.step.ensures.world ∙ ap₂ g.S.Sim.after c.loop-n.invariant.2 frame
    ∙ sym (folded_step g.S.Sim.after start (frame_at columns) n) in
    let mark : c.mark_of.result ≡ slice_index_or marks n 0 =
    c.mark_of.ensures.value ∙ ap g.S.Sim.hash_of world
    ∙ sym (get_or_from_slice_get marks n (hash_after_frame of_match columns n) 0
    (agreed_mark of_match columns c.args.count n (omega arith))) in (
      frame_written columns marks n c.fill_frame.new.frame c.mark_of.result c.loop-n.writer
          c.push_frame.new.self c.push_mark.new.self c.args.writer.now c.loop-n.invariant.0
          c.in_ok-push_frame.ensures.added c.in_ok-push_mark.ensures.added frame mark,
      frame_fits_too columns marks n c.fill_frame.new.frame c.mark_of.result c.loop-n.invariant.1
          c.push_frame.ensures.fits c.mark_of.ensures.fits frame mark,
      world,
      omega (arith, c.step.ensures.counted, c.loop-n.invariant.3),
      c.step.ensures.clients ∙ c.loop-n.invariant.4,
      omega (arith, c.ready-ready.ensures.limit (c.ready-ready.ensures.value ∙ c.requires.ready n (omega arith))),
    )
