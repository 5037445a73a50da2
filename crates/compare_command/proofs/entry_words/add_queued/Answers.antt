use Rattle.compare_command.proofs.WordLemmas.{queued_added}
use Rattle.compare_command.proofs.entry_words.add_queued.Goals as goal

pub returns-then-queued : goal.returns-then-queued
returns-then-queued c =
    rw (c.if-queued.true)
    (queued_added c.write.result _ _ _ c.args.word.now (c.in_ok-push_str.ensures {u = tt}).bytes
    c.write.ensures.bytes)

pub returns-else-queued : goal.returns-else-queued
returns-else-queued c = rw (c.if-queued.false) (c.in_ok-push_str.ensures {u = tt}).bytes
