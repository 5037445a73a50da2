-- The map's lines have a fault.
use Rattle.std.proofs.Common.{[], ◌∷◌, refl}
use Rattle.yaml_merge.specs.Resolving.{resolved_files}
use Rattle.setup_files.specs.declared.setup_fault.Part.TheVariants as part
use Rattle.setup_files.specs.Reading.{merge_step, parsed_files, resolved_of}
use Rattle.setup_files.proofs.FaultLemmas.{fails_on, files_fail}
use Rattle.setup_files.proofs.reading.map_forest.Goals as goal

pub returns-in-Err : goal.returns-in-Err
unfolding resolved_of
returns-in-Err c =
    let contents = c.args.bytes.now ∷ [] in
    fails_on c.lines_fault.result (parsed_files part.Map contents) (λ forests. merge_step part.Map (resolved_files forests))
    (files_fail part.Map [] 0 contents c.args.bytes.now [] (parsed_files part.Map contents) c.in-Err.fault c.lines_fault.result
    refl refl c.lines_fault.ensures c.in-Err.ensures.fault)
