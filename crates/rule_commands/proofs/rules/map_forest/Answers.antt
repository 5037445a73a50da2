-- The map's lines have a fault.
use Rattle.std.proofs.Common.{[], ◌∷◌, refl}
use Rattle.yaml_merge.specs.Resolving.{resolved_files}
use Rattle.rule_commands.specs.RuleFiles.{merge_step, parsed_files, resolved_rules}
use Rattle.rule_commands.proofs.StopLemmas.{parse_stops, stop_stops}
use Rattle.rule_commands.proofs.rules.map_forest.Goals as goal

pub returns-in-Err : goal.returns-in-Err
unfolding resolved_rules
returns-in-Err c =
    let names = c.args.name.now ∷ [] in
    let contents = c.args.bytes.now ∷ [] in
    stop_stops c.line_stop.result (parsed_files names contents) (λ forests. merge_step names (resolved_files forests))
    (parse_stops names [] 0 contents c.args.bytes.now [] (parsed_files names contents) c.in-Err.fault c.line_stop.result
    refl refl c.line_stop.ensures c.in-Err.ensures.fault)
