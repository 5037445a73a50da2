use Rattle.std.proofs.Common.{ℕ, List, drop, Option, subst, ap, sym, ◌∙◌}
use Rattle.std.specs.Option.{option_map}
use Rattle.game_io.specs.NetState.{NetState}
use Rattle.report_line.specs.declared.reports.Reports.{Reports}
use Rattle.report_line.specs.Reports.{AreNewEnds}
use Rattle.match_serve.specs.Seats.{PieceState, AreNewPieces}
use Rattle.match_serve.proofs.serve.serve_watched.Goals as goal

pub accept_links-requires-clause-ends : goal.accept_links-requires-clause-ends
accept_links-requires-clause-ends g c κs within =
    (c.in_ok-reports.field-0.receiver, subst (λ (l : List Reports). AreNewEnds c.args.invite.now.clients l c.in_ok-reports.field-0.receiver) (sym c.into_vec.ensures) c.in_ok-reports.ensures)

pub serve_opened-requires-clause-pieces : goal.serve_opened-requires-clause-pieces
serve_opened-requires-clause-pieces g c κs within =
    let ends = subst (λ (l : List Reports). AreNewEnds c.args.invite.now.clients l c.in_ok-reports.field-0.receiver) (sym c.into_vec.ensures) c.in_ok-reports.ensures in
    let are = c.in_ok-pieces.ensures.pieces c.in_ok-reports.field-0.receiver ends in
    ((g.N.Net.state c.listen.new.self).coming, subst (λ (l : List PieceState). AreNewPieces c.args.invite.now.clients c.in_ok-table.table c.args.invite.now c.in_ok-reports.field-0.receiver (g.N.Net.state c.listen.new.self).coming 0 l) (sym c.into_vec-2.ensures) are)

pub returns-clause-served : goal.returns-clause-served
returns-clause-served g c =
    let ends = subst (λ (l : List Reports). AreNewEnds c.args.invite.now.clients l c.in_ok-reports.field-0.receiver) (sym c.into_vec.ensures) c.in_ok-reports.ensures in
    let are = c.in_ok-pieces.ensures.pieces c.in_ok-reports.field-0.receiver ends in
    let all = subst (λ (l : List PieceState). AreNewPieces c.args.invite.now.clients c.in_ok-table.table c.args.invite.now c.in_ok-reports.field-0.receiver (g.N.Net.state c.listen.new.self).coming 0 l) (sym c.into_vec-2.ensures) are in
    let same = c.listen.ensures.coming in
    c.in_ok-served.ensures.served (g.N.Net.state c.args.net.now).coming
    (subst (λ (k : Option (List (List ℕ))). AreNewPieces c.args.invite.now.clients c.in_ok-table.table c.args.invite.now c.in_ok-reports.field-0.receiver k 0 c.into_vec-2.result.items) same all)
    (ap (λ (n : NetState). n.coming) c.stop_listening.ensures ∙ c.in_ok-pieces.ensures.coming ∙ ap (option_map (drop c.args.invite.now.clients)) same)
