-- Rules, a map and two files that are compared.
use Rattle.std.proofs.Common.{map, option_map}
use Rattle.command_answers.specs.Given.{first_contents}
use Rattle.command_answers.proofs.AfterLemmas.{first_stop_observable, first_stop_opaque, last_stop_observable, last_stop_opaque}
use Rattle.command_answers.proofs.FilesLemmas.{rose_later}
use Rattle.command_answers.proofs.PlayedLemmas.{second_after}
use Rattle.command_answers.proofs.paired.read_compared_files.Goals as goal

pub returns-in-Err-clause-observable : goal.returns-in-Err-clause-observable
returns-in-Err-clause-observable g c =
    first_stop_observable _ _ _ _ _ (second_after c.args.first.now c.args.second.now (map (λ name. name.now) c.args.names.now) (option_map (λ name. name.now) c.args.map_file))
    c.in-Err.stop _ _ c.in-Err.ensures.observable

pub returns-in-Err-clause-opaque : goal.returns-in-Err-clause-opaque
returns-in-Err-clause-opaque g c =
    first_stop_opaque _ _ _ _ _ (second_after c.args.first.now c.args.second.now (map (λ name. name.now) c.args.names.now) (option_map (λ name. name.now) c.args.map_file))
    c.in-Err.stop _ _ c.in-Err.ensures.opaque

pub returns-clause-observable : goal.returns-clause-observable
returns-clause-observable g c =
    last_stop_observable _ _ _ _ _ (second_after c.args.first.now c.args.second.now (map (λ name. name.now) c.args.names.now) (option_map (λ name. name.now) c.args.map_file))
    (first_contents c.in-Ok.given) c.in-Err-read_second.stop _ _ _ _ (rose_later _ _ _ c.in-Ok.ensures.later)
    c.in-Ok.ensures.files c.in-Ok.ensures.observable (rw c.deref.ensures.value at c.in-Err-read_second.ensures.observable)

pub returns-clause-opaque : goal.returns-clause-opaque
returns-clause-opaque g c =
    last_stop_opaque _ _ _ _ _ (second_after c.args.first.now c.args.second.now (map (λ name. name.now) c.args.names.now) (option_map (λ name. name.now) c.args.map_file))
    (first_contents c.in-Ok.given) c.in-Err-read_second.stop _ _ _ _ (rose_later _ _ _ c.in-Ok.ensures.later)
    c.in-Ok.ensures.files (rw c.deref.ensures.value at c.in-Err-read_second.ensures.opaque)
