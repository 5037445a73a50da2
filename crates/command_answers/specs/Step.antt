-- Steps of a command: a value, or the reply with which the command ends before it has one.
use Rattle.std.specs.Prelude.{Result, Ok, Err}
use Rattle.command_answers.specs.Reply.{Reply}

abbrev pub Step : Type 0 → Type 0
Step T = Result T Reply

-- The reply in the end: that of the last step's value, or the one that came before it.
abbrev pub ended : {T : Type 0} → Step T → (T → Reply) → Reply
ended (Ok value) last = last value
ended (Err reply) last = reply

-- The reply of a command whose last value is one.
abbrev pub replied : Step Reply → Reply
replied step = ended step (λ reply. reply)
