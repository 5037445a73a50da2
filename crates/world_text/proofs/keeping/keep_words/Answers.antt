use Rattle.world_text.proofs.PrintingLemmas.{keeps_words, then_nothing}
use Rattle.world_text.proofs.keeping.keep_words.Goals as goal

pub returns-in-Ok : goal.returns-in-Ok
returns-in-Ok g c =
    then_nothing _ _ _ _
    (keeps_words c.args.kept.now.fault _ _ c.args.words.now (g.K.Sink.state c.args.out.now)
    c.requires c.in-Ok.ensures.bytes)
    c.write_if_full.ensures
