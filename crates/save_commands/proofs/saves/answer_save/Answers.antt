use Rattle.save_commands.proofs.ContinueLemmas.{all_go_on}
use Rattle.save_commands.proofs.saves.answer_save.Goals as goal

pub returns-clause-continues : goal.returns-clause-continues
returns-clause-continues c = λ bytes read save name r again.
    all_go_on c.args.r.now.rules c.args.maker.now c.args.frames save name c.in_ok-bytes.bytes.items
    bytes c.args.r.now r c.a_resumed_run_gives_the_same.ensures.given
    c.a_resumed_run_gives_the_same.ensures.same c.in_ok-bytes.ensures.again read again c.requires.few
