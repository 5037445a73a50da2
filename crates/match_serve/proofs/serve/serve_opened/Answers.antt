use Rattle.std.proofs.Common.{ℕ, ◌<◌, Bool, false, length, List, get_or, subst, ap, sym, ◌∙◌}
use Rattle.std.specs.List.{list_any}
use Rattle.match_serve.specs.Console.{kicks_client}
use Rattle.std.specs.Prelude.{All}
use Rattle.frame_table.specs.Calls.{view_of}
use Rattle.report_line.specs.declared.heard.Heard.{Heard}
use Rattle.report_line.specs.Order.{IsInterleaving}
use Rattle.report_line.specs.Reports.{heard, joined}
use Rattle.frame_core.specs.Column.{Column}
use Rattle.frame_core.specs.Match.{Match}
use Rattle.match_serve.specs.declared.link_end.LinkEnd.{LinkEnd}
use Rattle.match_serve.specs.Watching.{WatchesConsole}
use Rattle.match_serve.specs.Serve.{ServesMatch}
use Rattle.match_serve.specs.Heard.{HasHeard}
use Rattle.match_serve.specs.Seats.{PieceState, IsNewSeat}
use Rattle.match_serve.proofs.MatchLemmas.{may_serve, serves, fixed_by, joined_left, joined_grows, hears_nothing, still_heard, split_shares, total}
use Rattle.match_serve.proofs.SplitLemmas.{kept_still, given_still, kept_made, given_made}
use Rattle.match_serve.proofs.CloseLemmas.{joined_pass, joined_share, joined_made}
use Rattle.match_serve.proofs.PieceLemmas.{done_back, written_back}
use Rattle.match_serve.proofs.serve.serve_opened.Goals as goal

pub run_threads-requires-clause-pieces : goal.run_threads-requires-clause-pieces
run_threads-requires-clause-pieces g c κs within =
    subst (λ (l : List PieceState). All (λ piece. IsNewSeat piece.seat.invite.clients c.args.table piece.seat) l) (sym c.as_mut_slice.ensures.value) (may_serve _ _ _ _ _ _ _ c.requires.pieces.1)

pub run_threads-requires-clause-watching : goal.run_threads-requires-clause-watching
run_threads-requires-clause-watching g c κs within = given_still _ _ _ c.split-watching.result c.split-watching.result c.requires.opening.is c.split-watching.ensures.other c.split-watching.ensures.given

pub run_threads-requires-clause-pass : goal.run_threads-requires-clause-pass
run_threads-requires-clause-pass g c κs within = kept_still _ _ _ _ c.split-watching.result c.requires.opening.is c.split-watching.ensures.pass c.split-watching.ensures.kept

pub run_threads-requires-clause-heard : goal.run_threads-requires-clause-heard
run_threads-requires-clause-heard g c κs within = hears_nothing _ _ _ c.requires.board c.requires.unheard

pub close_links-requires-clause-pass : goal.close_links-requires-clause-pass
close_links-requires-clause-pass g c κs within =
    let ran = c.in_ok-run_threads.ensures in
    joined_pass _ _ _ _ _ ran.pass ran.watches.pass.is c.join.ensures.pass c.join.ensures.joined

pub close_links-requires-clause-left : goal.close_links-requires-clause-left
close_links-requires-clause-left g c κs within =
    let ran = c.in_ok-run_threads.ensures in
    joined_left _ _ c.run_threads.new.pass c.join.new.pass ran.pass ran.ticked.left.left c.join.ensures.mine

pub close_links-requires-clause-done : goal.close_links-requires-clause-done
close_links-requires-clause-done g c κs within =
    let ran = c.in_ok-run_threads.ensures in
    (c.requires.pieces.0, (done_back _ _ _ _ _ _ _ _ _ _ c.as_mut_slice.ensures.value c.as_mut_slice.ensures.len ran.same.queue c.requires.pieces.1 ran.pieces).0)

pub take_reports-requires : goal.take_reports-requires
take_reports-requires g c =
    let ran = c.in_ok-run_threads.ensures in
    still_heard _ _ _ _ _ ran.heard c.close_links.ensures.heard ran.boards

pub returns-clause-served : goal.returns-clause-served
returns-clause-served g c = λ coming are still.
    let ran = c.in_ok-run_threads.ensures in
    let handed = c.close_links.ensures in
    let told = c.in_ok-take_reports.ensures in
    let gone = c.leave_all.ensures in
    let done = done_back _ _ _ _ _ _ _ _ _ _ c.as_mut_slice.ensures.value c.as_mut_slice.ensures.len ran.same.queue are ran.pieces in
    let full = ap length told.joined ∙ handed.joined ∙ sym (told.same.ends ∙ handed.same.ends ∙ ran.same.ends ∙ c.requires.ends_of) in
    let between = subst (λ (l : List (List Heard)). IsInterleaving (heard c.take_reports.new.receiver) l) told.joined (told.all full) in
    let has = subst (λ k. HasHeard k c.take_reports.new.board.reports (heard c.take_reports.new.receiver)) ran.boards told.board in
    let of_match : Match g.row.S.Denot = record { start = c.args.sim; after = g.S.Sim.after; hash = g.S.Sim.hash_of; summary = g.S.Sim.summary_of; clients = c.args.invite.now.clients; lag = 0 } in
    let ends = c.from_vec.ensures ∙ written_back c.args.ends.items c.close_links.new.ends c.args.ends.len (sym c.as_mut_slice-2.ensures.len ∙ ap length c.as_mut_slice-2.ensures.value) (handed.ends ∙ sym c.requires.ends) in
    let counts = c.from_vec-2.ensures ∙ written_back c.args.taken.items c.close_links.new.taken c.args.taken.len (sym c.as_mut_slice-3.ensures.len ∙ ap length c.as_mut_slice-3.ensures.value) (handed.taken ∙ sym c.requires.taken) in
    let watches = subst (λ (l : List Bool). WatchesConsole c.args.invite.now.clients c.args.table (g.C.Source.state c.args.console.now) (g.C.Source.state c.run_threads.new.console) c.split-watching.result c.run_threads.new.watching l) (sym c.as_slice.ensures.value) ran.watches in
    let split = c.split-watching.ensures in
    let of_joined = joined_pass _ _ _ _ _ ran.pass ran.watches.pass.is c.join.ensures.pass c.join.ensures.joined in
    let share = total _ _ _ _ _ _ _ _ _ _ (split_shares c.args.pass c.split-watching.new.pass c.split-watching.result split.kept split.given) ran.share ran.watches.pass.share
    (joined_share _ _ _ _ _ ran.pass ran.watches.pass.is c.join.ensures.pass c.join.ensures.joined) handed.share gone.gone.share done.1 c.requires.shares in
    let was_left = joined_left _ _ c.run_threads.new.pass c.join.new.pass ran.pass ran.ticked.left.left c.join.ensures.mine in
    let once = λ (d : ℕ) (below : d < c.args.invite.now.clients). gone.once (sym gone.gone.share ∙ share) d below (ap (λ (k : Column). k.left) (handed.known d below) ∙ was_left d below) in
    let made = joined_made _ _ _ _ _ ran.pass ran.watches.pass.is c.join.ensures.pass c.join.ensures.joined in
    let none_made = λ (d : ℕ). kept_made _ _ c.args.pass c.split-watching.new.pass c.split-watching.result c.requires.opening.is split.kept d ∙ c.requires.opening.fixed_none d in
    let none_given = given_made _ _ c.args.pass c.split-watching.new.pass c.split-watching.result c.requires.opening.is split.given in
    let by = fixed_by _ (λ (d : ℕ). get_or _ d false) c.split-watching.new.pass c.run_threads.new.pass c.split-watching.result c.run_threads.new.watching c.join.new.pass c.close_links.new.pass _
    none_made ran.ticked.learns none_given watches.pass.stays made handed.made once in
    let by_before = fixed_by _ (λ (d : ℕ). list_any (kicks_client d) watches.read.before) c.split-watching.new.pass c.run_threads.new.pass c.split-watching.result c.run_threads.new.watching c.join.new.pass c.close_links.new.pass _
    none_made ran.ticked.learns none_given watches.by made handed.made once in
    subst (λ (e : List LinkEnd). ServesMatch of_match c.args.invite.now coming (g.C.Source.state c.args.console.now) (g.C.Source.state c.run_threads.new.console) (g.N.Net.state c.close_links.new.net) c.run_threads.new.sim (g.S.Sim.steps c.run_threads.new.sim) c.args.table c.leave_all.new.pass c.take_reports.new.board e c.from_vec-2.result) (sym ends)
    (subst (λ (k : List ℕ). ServesMatch of_match c.args.invite.now coming (g.C.Source.state c.args.console.now) (g.C.Source.state c.run_threads.new.console) (g.N.Net.state c.close_links.new.net) c.run_threads.new.sim (g.S.Sim.steps c.run_threads.new.sim) c.args.table c.leave_all.new.pass c.take_reports.new.board c.close_links.new.ends k) (sym counts)
    (serves of_match c.args.invite.now coming (g.C.Source.state c.args.console.now) (g.C.Source.state c.run_threads.new.console) watches.read (g.N.Net.state c.close_links.new.net) c.args.table (view_of c.split-watching.new.pass) c.run_threads.new.pass c.join.new.pass c.close_links.new.pass c.leave_all.new.pass c.run_threads.new.board c.take_reports.new.board c.close_links.new.ends c.close_links.new.taken (g.S.Sim.steps c.run_threads.new.sim) c.run_threads.new.sim (heard c.take_reports.new.receiver) (joined c.close_links.new.receiver) _ _
    ran.pass of_joined gone.pass ran.ticked (joined_grows _ _ c.run_threads.new.pass c.join.new.pass ran.pass c.join.ensures.mine) handed.known gone.gone share
    told.wanted (told.boards ∙ ran.boards) handed.given (handed.coming ∙ still) handed.ends handed.taken (handed.links coming done.0) watches.kicked_are by by_before has handed.joined between c.reports_of_each_client_are_heard.ensures))
