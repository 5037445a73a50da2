use Rattle.worlds_command.specs.Worlds.{worlds_text}
use Rattle.worlds_command.proofs.WorldsLemmas.{has_printed, may_print, printed_later, text_printed}
use Rattle.worlds_command.proofs.worlds.print_all.Goals as goal

pub returns-clause-prints : goal.returns-clause-prints
returns-clause-prints g c =
    let text = worlds_text c.args.maker.now c.args.r.now c.args.chosen.now in
    rw c.status_of.ensures (may_print _ _ text c.finish.result
    (has_printed _ _ _ _ text c.finish.result c.finish.ensures
    (c.requires.fresh_printer (g.K.Sink.state c.args.out.now) text)
    (text_printed c.args.maker.now c.args.r.now c.args.chosen.now c.args.game _ _ _ _
    c.print_chosen-count.result c.requires.opens c.print_setup.ensures
    c.print_chosen-count.ensures.prints c.print_chosen-count.ensures.counts
    c.print_last.ensures)))

pub returns-clause-later : goal.returns-clause-later
returns-clause-later g c =
    let text = worlds_text c.args.maker.now c.args.r.now c.args.chosen.now in
    printed_later _ _ text c.finish.result
    (has_printed _ _ _ _ text c.finish.result c.finish.ensures
    (c.requires.fresh_printer (g.K.Sink.state c.args.out.now) text)
    (text_printed c.args.maker.now c.args.r.now c.args.chosen.now c.args.game _ _ _ _
    c.print_chosen-count.result c.requires.opens c.print_setup.ensures
    c.print_chosen-count.ensures.prints c.print_chosen-count.ensures.counts
    c.print_last.ensures))
