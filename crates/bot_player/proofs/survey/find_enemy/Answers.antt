use Rattle.std.proofs.Common.{◌≡◌, Some, None, sym, ap, ◌∙◌, arith}
use Rattle.std.specs.Prelude.{List, Option, find, option_map}
use Rattle.game_model.specs.declared.actor.Actor.{Actor}
use Rattle.bot_player.specs.BotOrders.{is_enemy}
use Rattle.bot_player.specs.Survey.{enemy_of}
use Rattle.bot_player.proofs.ListLemmas.{find_end, find_here, find_later}
use Rattle.bot_player.proofs.survey.find_enemy.Goals as goal

pub loop-i-preserved : goal.loop-i-preserved
loop-i-preserved g c =
    let actors : List Actor = g.A.LendsActors.actors_of c.args.actors.now in
    let x : Actor = c.nth_actor-x.result.now in
    sym (find_later (is_enemy c.args.rules.now c.args.c) actors c.loop-i.i x c.nth_actor-x.ensures
    (sym c.is_enemy.ensures ∙ c.if-is_enemy.false))
    ∙ c.loop-i.invariant

pub returns-then-is_enemy : goal.returns-then-is_enemy
returns-then-is_enemy g c =
    let actors : List Actor = g.A.LendsActors.actors_of c.args.actors.now in
    let x : Actor = c.nth_actor-x.result.now in
    let found : find (is_enemy c.args.rules.now c.args.c) actors ≡ Some x =
    sym c.loop-i.invariant
    ∙ find_here (is_enemy c.args.rules.now c.args.c) actors c.loop-i.i x c.nth_actor-x.ensures
    (sym c.is_enemy.ensures ∙ c.if-is_enemy.true) in
    ap (λ e. Some e) c.of.ensures ∙ sym (ap (λ (o : Option Actor). option_map enemy_of o) found)

pub returns : goal.returns
returns g c =
    let actors : List Actor = g.A.LendsActors.actors_of c.args.actors.now in
    let none : find (is_enemy c.args.rules.now c.args.c) actors ≡ None =
    sym c.loop-i.invariant
    ∙ find_end (is_enemy c.args.rules.now c.args.c) actors c.loop-i.i (omega arith) in
    sym (ap (λ (o : Option Actor). option_map enemy_of o) none)
