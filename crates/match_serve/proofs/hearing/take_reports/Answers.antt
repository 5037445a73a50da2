use Rattle.match_serve.proofs.HeardLemmas.{hears_more}
use Rattle.match_serve.proofs.hearing.take_reports.Goals as goal

pub loop-turn-preserved-then-report-clients : goal.loop-turn-preserved-then-report-clients
loop-turn-preserved-then-report-clients g c =
    hears_more _ _ _ _ c.args.board.now _ _ _ c.loop-turn.invariant c.in-Some-receive.ensures.some c.receive.ensures.joined c.receive.ensures.same c.in_ok-_answer.ensures.after c.in_ok-_answer.ensures.keeps
