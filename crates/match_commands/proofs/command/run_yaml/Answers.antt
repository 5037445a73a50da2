use Rattle.std.proofs.Common.{None, refl, map, subst}
use Rattle.command_words.specs.RequestPlain.{Yaml}
use Rattle.command_answers.specs.Causes.{causes_of}
use Rattle.command_answers.specs.Environment.{environment}
use Rattle.match_commands.specs.Run.{RunsRequest}
use Rattle.match_commands.proofs.RequestLemmas.{rules_given, rules_stopped}
use Rattle.match_commands.proofs.command.run_yaml.Goals as goal

-- The rule files were read.
pub returns-in-Ok : goal.returns-in-Ok
returns-in-Ok g c =
    let names = map (λ name. name.now) c.as_slice-names.result.now in
    let contents = map (λ bytes. bytes.items) c.in-Ok.contents.items in
    let d = g.D.Disk.state c.args.disk.now in
    let d' = g.D.Disk.state c.read_rules.new.disk in
    let s = g.K.Sink.state c.args.out.now in
    let s' = g.K.Sink.state c.print_text.new.out in
    subst (λ names. RunsRequest (Yaml names) c.print_text.result (causes_of None (environment d s) (environment d' s')) (environment d s) (environment d' s'))
    c.as_slice-names.ensures
    (rules_given (Yaml names) names contents c.yaml_text.result _ c.print_text.result d d' s s' refl
    c.in-Ok.ensures.files c.in-Ok.ensures.later c.print_text.ensures.later c.in-Ok.ensures.observable c.in-Ok.ensures.opaque
    (rw c.deref.ensures.value at c.yaml_text.ensures) refl c.print_text.ensures.prints)

-- One of them was not.
pub returns-in-Err : goal.returns-in-Err
returns-in-Err g c =
    let names = map (λ name. name.now) c.as_slice-names.result.now in
    let d = g.D.Disk.state c.args.disk.now in
    let d' = g.D.Disk.state c.read_rules.new.disk in
    let s = g.K.Sink.state c.args.out.now in
    let s' = g.K.Sink.state c.print_stop.new.out in
    subst (λ names. RunsRequest (Yaml names) c.print_stop.result (causes_of None (environment d s) (environment d' s')) (environment d s) (environment d' s'))
    c.as_slice-names.ensures
    (rules_stopped (Yaml names) names c.in-Err.stop c.print_stop.result d d' s s' refl
    c.in-Err.ensures.files c.in-Err.ensures.later c.print_stop.ensures.later c.in-Err.ensures.observable c.in-Err.ensures.opaque
    c.print_stop.ensures.prints)
