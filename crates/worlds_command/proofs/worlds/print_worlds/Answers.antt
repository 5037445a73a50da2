use Rattle.worlds_command.specs.Worlds.{chosen_step, worlds_text}
use Rattle.worlds_command.proofs.WorldsLemmas.{stop_of_step, text_of_step}
use Rattle.worlds_command.proofs.worlds.print_worlds.Goals as goal

pub returns-in-Ok-clause-prints : goal.returns-in-Ok-clause-prints
returns-in-Ok-clause-prints g c =
    text_of_step
    (chosen_step c.args.name.now c.args.from c.args.to c.args.every c.args.rules c.args.bytes.now)
    (c.in-Ok.r, c.in-Ok.chosen) (λ made. worlds_text c.args.maker.now made.0 made.1) _ _ _
    c.in-Ok.ensures.step c.print_replay.ensures.prints

pub returns-in-Err-clause-prints : goal.returns-in-Err-clause-prints
returns-in-Err-clause-prints g c =
    stop_of_step c.in-Err.stop
    (chosen_step c.args.name.now c.args.from c.args.to c.args.every c.args.rules c.args.bytes.now)
    (λ made. worlds_text c.args.maker.now made.0 made.1) _ _ _ c.in-Err.ensures.step
    c.print_stop.ensures.prints
