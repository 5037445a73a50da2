use Rattle.std.proofs.Common.{ap, ◌∙◌, List, ℕ}
use Rattle.std.specs.Prelude.{slice_index_or}
use Rattle.frame_core.specs.Column.{Column}
use Rattle.frame_core.specs.Ready.{frame_at}
use Rattle.replay_run.proofs.RecordingLemmas.{frame_fits_too, frame_written}
use Rattle.replay_run.proofs.recording.write_frames.Goals as goal

pub loop-n-preserved : goal.loop-n-preserved
loop-n-preserved g c =
    let frame =
    c.fill_frame.ensures
    ∙ ap (λ (columns : List Column). frame_at columns c.loop-n.n) c.columns-columns.ensures.value in
    let mark =
    c.mark_at.ensures.value
    ∙ ap (λ (marks : List ℕ). slice_index_or marks c.loop-n.n 0) c.marks-marks.ensures.value in (
      frame_written c.args.server.now.columns c.args.server.now.marks c.loop-n.n c.fill_frame.new.frame
          c.mark_at.result c.loop-n.writer c.push_frame.new.self c.push_mark.new.self
          c.args.writer.now c.loop-n.invariant.0 c.in_ok-push_frame.ensures.added
          c.in_ok-push_mark.ensures.added frame mark,
      frame_fits_too c.args.server.now.columns c.args.server.now.marks c.loop-n.n c.fill_frame.new.frame
          c.mark_at.result c.loop-n.invariant.1 c.push_frame.ensures.fits c.mark_at.ensures.fits
          frame mark,
    )
