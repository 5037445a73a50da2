use Rattle.drill_words.specs.Drill.{plain_of}
use Rattle.replay_commands.proofs.RecordLemmas.{record_again, record_is, record_written}
use Rattle.replay_commands.proofs.records.record_bytes.Goals as goal

pub returns-clause-record : goal.returns-clause-record
returns-clause-record c = λ setup is.
    let drill = plain_of c.args.drill.now in
    record_is c.args.rules setup drill c.record_of.result
    (record_written c.args.rules setup drill c.args.drilled.now c.record_of.result c.record_of.ensures is)

pub returns-clause-again : goal.returns-clause-again
returns-clause-again c = λ setup is.
    let drill = plain_of c.args.drill.now in
    record_again c.args.rules setup drill c.record_of.result c.a_record_gives_the_match.ensures
    (record_written c.args.rules setup drill c.args.drilled.now c.record_of.result c.record_of.ensures is)
