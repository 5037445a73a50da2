use Rattle.std.proofs.lemmas.List.Elements.{All-more}
use Rattle.world_text.specs.Numbers.{IsActivityHeld}
use Rattle.world_text.proofs.held.acts_held.Goals as goal

pub loop-act-preserved : goal.loop-act-preserved
loop-act-preserved c =
    All-more IsActivityHeld c.args.acts.now c.loop-act.act-index _ c.loop-act-test.true
    c.loop-act.invariant c.activity_held.ensures
