use Rattle.std.proofs.Common.{Bool, ap₂, ◌∙◌}
use Rattle.std.specs.Prelude.{List}
use Rattle.game_model.specs.declared.actor.Actor.{Actor}
use Rattle.bot_player.specs.KindFlags.{no_flags, with_flag}
use Rattle.bot_player.specs.Survey.{owned_with}
use Rattle.bot_player.proofs.ListLemmas.{fold_next}
use Rattle.bot_player.proofs.survey.owned_kinds.Goals as goal

pub loop-i-preserved : goal.loop-i-preserved
loop-i-preserved g c =
    let actors : List Actor = g.A.LendsActors.actors_of c.args.actors.now in
    let a : Actor = c.nth_actor-a.result.now in
    c.set_if.ensures
    ∙ ap₂ (λ (flags : List Bool) (own : Bool). with_flag flags a.kind own) c.loop-i.invariant c.is_own.ensures
    ∙ fold_next (owned_with c.args.c) no_flags actors c.loop-i.i a c.nth_actor-a.ensures
