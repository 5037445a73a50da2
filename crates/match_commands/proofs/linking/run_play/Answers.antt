use Rattle.std.proofs.Common.{refl, sym, ap, map}
use Rattle.command_words.specs.RequestPlain.{plain_match}
use Rattle.command_answers.specs.Given.{script_contents}
use Rattle.command_answers.specs.WantedFiles.{rules_and_map, with_script}
use Rattle.link_commands.specs.Links.{with_links}
use Rattle.link_commands.proofs.LinkLemmas.{linked_given, linked_stopped}
use Rattle.link_commands.specs.Plays.{LinkFailed, IsPlayDone}
use Rattle.match_commands.specs.Plays.{play_means, play_step, PlaysOver}
use Rattle.match_commands.proofs.WaitingLemmas.{play_begins, play_caused}
use Rattle.match_commands.proofs.linking.run_play.Goals as goal

-- The files were read.
pub returns-in-Ok : goal.returns-in-Ok
returns-in-Ok g c console =
    let query = plain_match c.args.query.now in
    let contents = script_contents c.in-Ok.given in
    let old = with_links (g.D.Disk.state c.args.disk.now) (g.K.Sink.state c.args.out.now) (g.N.Net.state c.args.net.now) console in
    let new = with_links (g.D.Disk.state c.read_played_files.new.disk) (g.K.Sink.state c.play_made.new.out) (g.N.Net.state c.play_made.new.net) console in
    linked_given (with_script query.file (rules_and_map query.rules query.map_file))
    (with_script query.file (rules_and_map (map (λ name. name.now) c.as_slice-names.result.now) query.map_file))
    (play_step query) (PlaysOver c.play_made.result old new) IsPlayDone contents c.play_made.result _ old new
    (ap (λ names. with_script query.file (rules_and_map names query.map_file)) (sym c.as_slice-names.ensures))
    c.in-Ok.ensures.files c.in-Ok.ensures.later c.play_made.ensures.later c.in-Ok.ensures.observable c.in-Ok.ensures.opaque
    (play_begins play_means c.prepare_play.result (play_step query contents) c.play_made.result old new refl c.prepare_play.ensures c.play_made.ensures.plays)
    (play_caused play_means c.prepare_play.result (play_step query contents) c.play_made.result old new c.prepare_play.ensures c.play_made.ensures.plays)

-- One of them was not.
pub returns-in-Err : goal.returns-in-Err
returns-in-Err g c console =
    let query = plain_match c.args.query.now in
    let old = with_links (g.D.Disk.state c.args.disk.now) (g.K.Sink.state c.args.out.now) (g.N.Net.state c.args.net.now) console in
    let new = with_links (g.D.Disk.state c.read_played_files.new.disk) (g.K.Sink.state c.print_stop.new.out) (g.N.Net.state c.args.net.now) console in
    linked_stopped (with_script query.file (rules_and_map query.rules query.map_file))
    (with_script query.file (rules_and_map (map (λ name. name.now) c.as_slice-names.result.now) query.map_file))
    (play_step query) (PlaysOver c.print_stop.result old new) IsPlayDone c.in-Err.stop c.print_stop.result (LinkFailed old.net new.net) old new
    (ap (λ names. with_script query.file (rules_and_map names query.map_file)) (sym c.as_slice-names.ensures))
    c.in-Err.ensures.files c.in-Err.ensures.later c.print_stop.ensures.later c.in-Err.ensures.observable c.in-Err.ensures.opaque
    c.print_stop.ensures.prints (refl, refl)
