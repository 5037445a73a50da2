use Rattle.std.proofs.Common.{ap, ◌∙◌}
use Rattle.shroud.specs.ShroudState.{ShroudState, updated}
use Rattle.shroud.proofs.ShownLemmas.{shows_update}
use Rattle.shroud.proofs.shroud.Shroud.update_from.Goals as goal

pub returns-clause-follows : goal.returns-clause-follows
returns-clause-follows g c =
    let touched = c.saturating_add-self-inside.result in
    let actors = g.A.LendsActors.actors_of c.args.actors.now in
    shows_update c.self.inside.tally c.follow_all-anew.new.self actors c.self.inside.touched touched
    c.follow_all-anew.ensures.was c.follow_all-anew.ensures.tally c.follow_all-anew.ensures.follows
    c.follow_all-anew.ensures.lists
    ∙ ap (λ (s : ShroudState). updated s actors touched) c.self.view_is
