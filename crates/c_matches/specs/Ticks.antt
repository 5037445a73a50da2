-- What a call tells of a tick.
use Rattle.frame_core.specs.declared.tick_answer.TickAnswer.{TickAnswer}
use Rattle.frame_core.specs.declared.tick_answer.TickAnswer.TheVariants.{Ticked, NotYet, Over}
use Rattle.c_objects.specs.declared.code.TheConstants as code
use Rattle.c_matches.specs.declared.answer.Answer.{Answer}
use Rattle.c_matches.specs.Answers.{only, telling}

abbrev pub ticked_answer : TickAnswer → Answer
ticked_answer (Ticked frame) = telling code.OK frame
ticked_answer (NotYet client) = telling code.NOT_YET client
ticked_answer Over = only code.OVER
