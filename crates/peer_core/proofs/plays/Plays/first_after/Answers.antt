use Rattle.std.proofs.Common.{ap, sym, ◌∙◌, arith, slice_get, option_map}
use Rattle.peer_core.specs.Entries.{play_after}
use Rattle.peer_core.proofs.PlaysLemmas.{next_in_column, next_early}
use Rattle.peer_core.proofs.plays.Plays.first_after.Goals as goal

pub returns-then-next-len : goal.returns-then-next-len
returns-then-next-len c =
    next_in_column c.self.inside.column.items c.self.inside.early.entries c.args.n (omega arith)
    ∙ ap (λ plays. play_after plays c.args.n) c.self.view_is

-- No play stands in the column after the frame, and the map has none from the next frame on.
pub returns-in_err-frame : goal.returns-in_err-frame
returns-in_err-frame c =
    c.from_residual.ensures ∙ ap (λ early. option_map (λ e. e.0) (slice_get early 0))
    (sym c.in_err-frame.ensures.steps.0)
    ∙ next_early c.self.inside.column.items c.self.inside.early.entries c.range.result c.args.n
    (omega arith) (c.range.ensures.between tt)
    ∙ ap (λ plays. play_after plays c.args.n) c.self.view_is

-- The map's first play from the next frame on.
pub returns : goal.returns
returns c =
    ap (λ early. option_map (λ e. e.0) (slice_get early 0)) (sym c.in_ok-frame.ensures.steps)
    ∙ next_early c.self.inside.column.items c.self.inside.early.entries c.range.result c.args.n
    (omega arith) (c.range.ensures.between tt)
    ∙ ap (λ plays. play_after plays c.args.n) c.self.view_is
