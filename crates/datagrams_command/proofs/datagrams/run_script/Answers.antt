use Rattle.std.proofs.lemmas.Result.{err_from_is_err_and}
use Rattle.datagrams_command.proofs.RunLemmas.{run_done, run_stopped}
use Rattle.datagrams_command.proofs.datagrams.run_script.Goals as goal

-- A line has a fault, or memory ran out.
pub returns-in_err-run_lines : goal.returns-in_err-run_lines
returns-in_err-run_lines c =
    let p = err_from_is_err_and c.from_residual.result c.from_residual.ensures.1 in
    rw (p.1, p.2)
    (run_stopped c.args.bytes.now _ _ _ c.in_err-run_lines.field-0.0 c.in-Ok.ensures c.new-text.ensures.bytes
    c.of-lines.ensures c.in_err-run_lines.ensures)

pub returns : goal.returns
returns c =
    run_done c.args.bytes.now _ _ _ _ _ c.in-Ok-with_closing.text.items c.in-Ok.ensures
    c.new-text.ensures.bytes c.of-lines.ensures c.in_ok-run_lines.ensures c.in-Ok-with_closing.ensures
