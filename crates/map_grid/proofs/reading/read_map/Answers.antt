use Rattle.std.proofs.Common.{rules}
use Rattle.yaml_lines.specs.Trees.{trees_of}
use Rattle.map_grid.specs.MapOf.{map_of}
use Rattle.map_grid.proofs.ValidLemmas.{valid_told}
use Rattle.map_grid.proofs.reading.read_map.Goals as goal

pub returns-clause-read : goal.returns-clause-read
unfolding map_of
returns-clause-read c = search rules

pub returns-clause-valid : goal.returns-clause-valid
returns-clause-valid c = valid_told c.args.rules.now (trees_of c.args.forest.now) c.read_sized.result (returns-clause-read c)
