-- The text of the sample map, read, resolved and taken as a map step by step.
use Rattle.std.proofs.Common.{◌≡◌, refl, Some}
use Rattle.std.specs.Str.{is_utf8, chars}
use lib.Utf8.{encode}
use Rattle.base.specs.Numbers.{number_of}
use Rattle.yaml_lines.specs.Built.{parsed}
use Rattle.yaml_lines.specs.Kept.{line_fault}
use Rattle.yaml_lines.specs.Reading.{words_of, key_of, value_of, unguarded_end}
use Rattle.yaml_merge.specs.Resolving.{inherits, within, inherited, node_step, resolved_list}
use Rattle.yaml_merge.specs.Resolving.{resolved_files}
use Rattle.rule_values.specs.Cells.{cell_of, coordinate_of}
use Rattle.rule_values.specs.Parts.{parts_at}
use Rattle.rule_traits.specs.Sample.{sample_kinds}
use Rattle.map_grid.specs.declared.sample.TheConstants.{SAMPLE_MAP}
use Rattle.map_grid.specs.Fields.{size_of, cash_of}
use Rattle.map_grid.specs.Rows.{row_of, tiles_taken, ore_taken, tiles_of, ore_grid}
use Rattle.map_grid.specs.Starts.{kind_of, owner_of, location_of, facing_of, start_of, start_taken}
use Rattle.map_grid.specs.Starts.{starts_of}
use Rattle.map_grid.specs.MapOf.{map_sized, map_of}
use Rattle.rule_sample.specs.MapText.{map_in}
use Rattle.rule_sample.specs.SampleMap.{sample_map}

pub map_is : map_in sample_kinds SAMPLE_MAP.now ≡ Some sample_map
unfolding parsed line_fault words_of key_of value_of unguarded_end number_of is_utf8 chars encode inherits within inherited node_step resolved_list resolved_files cell_of coordinate_of parts_at size_of cash_of row_of tiles_taken ore_taken tiles_of ore_grid kind_of owner_of location_of facing_of start_of start_taken starts_of map_sized map_of
map_is = refl
