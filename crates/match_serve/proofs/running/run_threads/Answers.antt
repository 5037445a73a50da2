use Rattle.std.proofs.Common.{rules, sym}
use Rattle.match_serve.proofs.running.run_threads.Goals as goal

-- The second closure's last fact, of what its borrows leave.
pub returns-clause-watches : goal.returns-clause-watches
returns-clause-watches g c =
    let left = c.join_mut-served.ensures.1.met in
    let watching = c.watching-1.given.1 (sym left.0.3) in
    let console = c.console-1.given.1 (sym left.0.4) in
    let kicks = c.kicks-1.given.1 (sym left.0.5) in
    let watches = left.1.8 in
    search (rules, watches, watching, console, kicks)
