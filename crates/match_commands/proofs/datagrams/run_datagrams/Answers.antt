use Rattle.std.proofs.Common.{None, refl, subst, arith}
use Rattle.command_words.specs.RequestPlain.{Datagrams}
use Rattle.command_answers.specs.Answer.{reply_of}
use Rattle.command_answers.specs.Given.{script_contents}
use Rattle.command_answers.specs.Stop.{ReturnsStep}
use Rattle.command_answers.specs.WantedFiles.{no_files, with_script}
use Rattle.datagrams_command.specs.Datagrams.{datagrams_step}
use Rattle.match_commands.proofs.AnswerLemmas.{answer_printed}
use Rattle.match_commands.proofs.DatagramLemmas.{datagrams_fit}
use Rattle.match_commands.proofs.FilesLemmas.{all_given, files_stopped}
use Rattle.match_commands.proofs.datagrams.run_datagrams.Goals as goal

-- The schedule was read.
pub returns-in-Ok : goal.returns-in-Ok
returns-in-Ok g c =
    let script = c.args.script.now in
    let contents = script_contents c.in-Ok.given in
    let d = g.D.Disk.state c.args.disk.now in
    let d1 = g.D.Disk.state c.read_played_files.new.disk in
    let d' = g.D.Disk.state c.print_answer.new.disk in
    let s = g.K.Sink.state c.args.out.now in
    let s' = g.K.Sink.state c.print_answer.new.out in
    all_given (Datagrams script) (with_script script no_files) contents c.print_answer.result d d' s s' refl
    (omega (arith, c.in-Ok.ensures.later, c.print_answer.ensures.disk)) c.print_answer.ensures.later c.in-Ok.ensures.observable c.in-Ok.ensures.opaque
    (answer_printed None c.datagrams_answer.result (datagrams_step script c.in-Ok.given.1.items) c.print_answer.result d d1 d' s s' c.in-Ok.ensures.files c.in-Ok.ensures.later
    (datagrams_fit script c.in-Ok.given.1.items)
    (subst (λ bytes. ReturnsStep c.datagrams_answer.result reply_of (datagrams_step script bytes)) c.deref.ensures.value c.datagrams_answer.ensures)
    c.print_answer.ensures.answers)

-- It was not.
pub returns-in-Err : goal.returns-in-Err
returns-in-Err g c =
    let script = c.args.script.now in
    files_stopped (Datagrams script) (with_script script no_files) c.in-Err.stop c.print_stop.result
    (g.D.Disk.state c.args.disk.now) (g.D.Disk.state c.read_played_files.new.disk) (g.K.Sink.state c.args.out.now) (g.K.Sink.state c.print_stop.new.out)
    refl c.in-Err.ensures.files c.in-Err.ensures.later c.print_stop.ensures.later c.in-Err.ensures.observable c.in-Err.ensures.opaque
    c.print_stop.ensures.prints
