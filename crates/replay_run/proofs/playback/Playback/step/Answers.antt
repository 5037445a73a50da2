use Rattle.std.proofs.Common.{ap, sym, ◌≡◌, ◌∷◌, ◌∙◌, rules}
use Rattle.replay_file.specs.Frames.{frames_of}
use Rattle.replay_run.proofs.PlayingLemmas.{plays_on, took_frame}
use Rattle.replay_run.proofs.playback.Playback.step.Goals as goal

pub returns-then-next_frame-clause-step : goal.returns-then-next_frame-clause-step
returns-then-next_frame-clause-step g c =
    let left : c.args.self.now.left
    ≡ c.next_frame.new.frame ∷ frames_of c.next_frame.new.left =
    ap (λ p. p.left) (sym c.self.view_is)
    ∙ took_frame c.self.inside.left c.next_frame.new.left c.next_frame.new.frame
    c.next_frame.result c.next_frame.ensures c.if-next_frame.true in
    (c.next_frame.new.frame, left, search rules, search rules)

pub returns-then-next_frame-clause-plays : goal.returns-then-next_frame-clause-plays
returns-then-next_frame-clause-plays g c = λ start r is.
    let left : c.args.self.now.left
    ≡ c.next_frame.new.frame ∷ frames_of c.next_frame.new.left =
    ap (λ p. p.left) (sym c.self.view_is)
    ∙ took_frame c.self.inside.left c.next_frame.new.left c.next_frame.new.frame
    c.next_frame.result c.next_frame.ensures c.if-next_frame.true in
    plays_on g.S.Sim.after start r c.args.self.now _
    (c.next_frame.new.frame, left, search rules, search rules) is
