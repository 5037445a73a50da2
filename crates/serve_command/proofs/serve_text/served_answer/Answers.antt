use Rattle.std.proofs.Common.{◌≡◌, IfOk, subst}
use Rattle.command_answers.specs.Answer.{reply_of}
use Rattle.serve_command.specs.ServeText.{served_reply}
use Rattle.serve_command.proofs.ClosedLemmas.{closed_are}
use Rattle.serve_command.proofs.serve_text.served_answer.Goals as goal

pub returns : goal.returns
returns g c clients over =
    let served = c.args.served in
    let hash = g.S.Sim.hash_of in
    let summary = g.S.Sim.summary_of in
    let columns = closed_are clients served.table served.pass _ over c.close-columns.ensures.clients c.close-columns.ensures.columns in
    subst (λ all. IfOk c.closed_answer.result (λ answer. reply_of answer ≡ served_reply hash summary all served.ends served.sim served.board)) columns
    (subst (λ ends. IfOk c.closed_answer.result (λ answer. reply_of answer ≡ served_reply hash summary c.close-columns.result ends served.sim served.board))
    c.as_slice.ensures c.closed_answer.ensures)
