-- Rules, a map and a file after them.
use Rattle.std.proofs.Common.{map, option_map}
use Rattle.command_answers.specs.Given.{given_contents}
use Rattle.command_answers.proofs.AfterLemmas.{first_stop_observable, first_stop_opaque, last_stop_observable, last_stop_opaque}
use Rattle.command_answers.proofs.FilesLemmas.{rose_later}
use Rattle.command_answers.proofs.PlayedLemmas.{played_after}
use Rattle.command_answers.proofs.files.read_played_files.Goals as goal

pub returns-in-Err-clause-observable : goal.returns-in-Err-clause-observable
returns-in-Err-clause-observable g c =
    first_stop_observable _ _ _ _ _ (played_after c.args.played (map (λ name. name.now) c.args.names.now) (option_map (λ name. name.now) c.args.map_file))
    c.in-Err.stop _ _ c.in-Err.ensures.observable

pub returns-in-Err-clause-opaque : goal.returns-in-Err-clause-opaque
returns-in-Err-clause-opaque g c =
    first_stop_opaque _ _ _ _ _ (played_after c.args.played (map (λ name. name.now) c.args.names.now) (option_map (λ name. name.now) c.args.map_file))
    c.in-Err.stop _ _ c.in-Err.ensures.opaque

pub returns-in-Err-read_played-clause-observable : goal.returns-in-Err-read_played-clause-observable
returns-in-Err-read_played-clause-observable g c =
    last_stop_observable _ _ _ _ _ (played_after c.args.played (map (λ name. name.now) c.args.names.now) (option_map (λ name. name.now) c.args.map_file))
    (given_contents c.in-Ok.given) c.in-Err-read_played.stop _ _ _ _ (rose_later _ _ _ c.in-Ok.ensures.later)
    c.in-Ok.ensures.files c.in-Ok.ensures.observable c.in-Err-read_played.ensures.observable

pub returns-in-Err-read_played-clause-opaque : goal.returns-in-Err-read_played-clause-opaque
returns-in-Err-read_played-clause-opaque g c =
    last_stop_opaque _ _ _ _ _ (played_after c.args.played (map (λ name. name.now) c.args.names.now) (option_map (λ name. name.now) c.args.map_file))
    (given_contents c.in-Ok.given) c.in-Err-read_played.stop _ _ _ _ (rose_later _ _ _ c.in-Ok.ensures.later)
    c.in-Ok.ensures.files c.in-Err-read_played.ensures.opaque
