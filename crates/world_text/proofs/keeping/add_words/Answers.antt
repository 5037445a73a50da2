use Rattle.world_text.proofs.PrintingLemmas.{nothing_then}
use Rattle.world_text.proofs.keeping.add_words.Goals as goal

pub returns-then-words-gt-LINE_ROOM : goal.returns-then-words-gt-LINE_ROOM
returns-then-words-gt-LINE_ROOM g c =
    nothing_then _ _ _ _ c.write_kept.ensures.prints c.write_words.ensures
