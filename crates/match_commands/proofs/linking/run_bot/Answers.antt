use Rattle.std.proofs.Common.{refl, sym, ap, map}
use Rattle.command_words.specs.RequestPlain.{plain_bot}
use Rattle.command_answers.specs.Given.{given_contents}
use Rattle.command_answers.specs.WantedFiles.{rules_and_map}
use Rattle.link_commands.specs.Links.{with_links}
use Rattle.link_commands.proofs.LinkLemmas.{linked_given, linked_stopped}
use Rattle.link_commands.specs.Plays.{LinkFailed, IsPlayDone}
use Rattle.rule_commands.specs.Numbers.{numbered_setup_step}
use Rattle.match_commands.specs.Plays.{bot_means, bot_step, PlaysOver}
use Rattle.match_commands.proofs.WaitingLemmas.{bot_returns, play_begins, play_caused}
use Rattle.match_commands.proofs.linking.run_bot.Goals as goal

-- The files were read.
pub returns-in-Ok : goal.returns-in-Ok
returns-in-Ok g c console =
    let query = plain_bot c.args.query.now in
    let contents = given_contents c.in-Ok.given in
    let old = with_links (g.D.Disk.state c.args.disk.now) (g.K.Sink.state c.args.out.now) (g.N.Net.state c.args.net.now) console in
    let new = with_links (g.D.Disk.state c.read_files.new.disk) (g.K.Sink.state c.play_bot.new.out) (g.N.Net.state c.play_bot.new.net) console in
    let stands = rw c.as_slice-names.ensures at c.read_numbered_maker-made.ensures in
    let returns = bot_returns query.frames c.read_numbered_maker-made.result (numbered_setup_step query.rules query.map_file contents) stands in
    linked_given (rules_and_map query.rules query.map_file) (rules_and_map (map (λ name. name.now) c.as_slice-names.result.now) query.map_file)
    (bot_step query) (PlaysOver c.play_bot.result old new) IsPlayDone contents c.play_bot.result _ old new
    (ap (λ names. rules_and_map names query.map_file) (sym c.as_slice-names.ensures))
    c.in-Ok.ensures.files c.in-Ok.ensures.later c.play_bot.ensures.later c.in-Ok.ensures.observable c.in-Ok.ensures.opaque
    (play_begins (bot_means query.frames) c.read_numbered_maker-made.result (bot_step query contents) c.play_bot.result old new refl returns c.play_bot.ensures.plays)
    (play_caused (bot_means query.frames) c.read_numbered_maker-made.result (bot_step query contents) c.play_bot.result old new returns c.play_bot.ensures.plays)

-- One of them was not.
pub returns-in-Err : goal.returns-in-Err
returns-in-Err g c console =
    let query = plain_bot c.args.query.now in
    let old = with_links (g.D.Disk.state c.args.disk.now) (g.K.Sink.state c.args.out.now) (g.N.Net.state c.args.net.now) console in
    let new = with_links (g.D.Disk.state c.read_files.new.disk) (g.K.Sink.state c.print_stop.new.out) (g.N.Net.state c.args.net.now) console in
    linked_stopped (rules_and_map query.rules query.map_file) (rules_and_map (map (λ name. name.now) c.as_slice-names.result.now) query.map_file)
    (bot_step query) (PlaysOver c.print_stop.result old new) IsPlayDone c.in-Err.stop c.print_stop.result (LinkFailed old.net new.net) old new
    (ap (λ names. rules_and_map names query.map_file) (sym c.as_slice-names.ensures))
    c.in-Err.ensures.files c.in-Err.ensures.later c.print_stop.ensures.later c.in-Err.ensures.observable c.in-Err.ensures.opaque
    c.print_stop.ensures.prints (refl, refl)
