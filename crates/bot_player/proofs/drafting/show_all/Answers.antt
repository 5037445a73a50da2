use Rattle.std.proofs.Common.{sym, ap, ◌∙◌}
use Rattle.std.specs.Prelude.{List}
use Rattle.game_model.specs.declared.actor.Actor.{Actor}
use Rattle.bot_player.specs.declared.draft.Draft.{Draft}
use Rattle.bot_player.specs.Drafts.{shown}
use Rattle.bot_player.proofs.DraftLemmas.{none_shown}
use Rattle.bot_player.proofs.ListLemmas.{fold_next}
use Rattle.bot_player.proofs.drafting.show_all.Goals as goal

pub loop-i-preserved : goal.loop-i-preserved
loop-i-preserved g c =
    let actors : List Actor = g.A.LendsActors.actors_of c.args.actors.now in
    let a : Actor = c.nth_actor.result.now in
    c.show.ensures
    ∙ ap (λ (ds : List Draft). shown c.args.rules.now c.args.c ds a) c.loop-i.invariant
    ∙ fold_next (shown c.args.rules.now c.args.c) c.args.drafts.now actors c.loop-i.i a c.nth_actor.ensures

pub returns-then-not-have_attack : goal.returns-then-not-have_attack
returns-then-not-have_attack g c =
    sym (none_shown c.args.rules.now c.args.c (g.A.LendsActors.actors_of c.args.actors.now) c.args.drafts.now
    (sym c.have_attack.ensures ∙ c.if-not-have_attack.true))
