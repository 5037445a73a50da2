-- The text of the sample rules, read, resolved and typed step by step.
use Rattle.std.proofs.Common.{◌≡◌, [], refl, Some}
use Rattle.std.specs.Str.{is_utf8, chars}
use lib.Utf8.{encode}
use Rattle.base.specs.Numbers.{number_of}
use Rattle.yaml_lines.specs.Built.{parsed}
use Rattle.yaml_lines.specs.Kept.{line_fault}
use Rattle.yaml_lines.specs.Reading.{words_of, key_of, value_of, unguarded_end}
use Rattle.yaml_merge.specs.Resolving.{inherits, within, inherited, node_step, resolved_list}
use Rattle.yaml_merge.specs.Resolving.{resolved_files}
use Rattle.rule_values.specs.Distances.{dist_of}
use Rattle.rule_values.specs.Parts.{parts_at}
use Rattle.rule_values.specs.NameList.{names_of}
use Rattle.rule_traits.specs.declared.sample.TheConstants.{SAMPLE_RULES}
use Rattle.rule_traits.specs.Sample.{sample_kinds}
use Rattle.rule_traits.specs.Traits.{trait_of}
use Rattle.rule_traits.specs.Typed.{typed, kind_taken, trait_taken, trait_joined}
use Rattle.rule_traits.specs.Values.{field_value, health_with, mobile_with, harvester_with}
use Rattle.rule_traits.specs.Values.{refinery_with, production_with, buildable_with, valued_with}
use Rattle.rule_traits.specs.Values.{armament_with}
use Rattle.rule_sample.specs.RuleText.{rules_of}

pub sample_is : rules_of SAMPLE_RULES.now ≡ Some (sample_kinds, [])
unfolding parsed line_fault words_of key_of value_of unguarded_end number_of dist_of parts_at names_of is_utf8 chars encode inherits within inherited node_step resolved_list resolved_files trait_of typed kind_taken trait_taken trait_joined field_value health_with mobile_with harvester_with refinery_with production_with buildable_with valued_with armament_with
sample_is = refl
