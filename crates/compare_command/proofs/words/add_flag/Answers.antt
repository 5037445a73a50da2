use Rattle.compare_command.proofs.words.add_flag.Goals as goal

pub returns-then-flag : goal.returns-then-flag
returns-then-flag c = rw (c.if-flag.true) c.write.ensures.bytes

pub returns-else-flag : goal.returns-else-flag
returns-else-flag c = rw (c.if-flag.false) c.write-else-flag.ensures.bytes
