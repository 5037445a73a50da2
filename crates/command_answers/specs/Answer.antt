-- An answer in code, as a reply.
use Rattle.std.specs.Prelude.{option_map}
use Rattle.command_answers.specs.declared.answer.Answer.{Answer}
use Rattle.command_answers.specs.declared.answer.FileBytes.{FileBytes}
use Rattle.command_answers.specs.FileWrite.{FileWrite}
use Rattle.command_answers.specs.Reply.{Reply}

abbrev pub write_of : FileBytes → FileWrite
write_of file = record { name = file.name.now; bytes = file.bytes.items }

abbrev pub reply_of : Answer → Reply
reply_of answer =
    record {
      status = answer.status;
      text = answer.text.items;
      write = option_map write_of answer.write;
    }
