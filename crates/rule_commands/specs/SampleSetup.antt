-- What a match over the sample stands on.
use Rattle.game_model.specs.Setup.{Setup}
use Rattle.rule_sample.specs.SampleMap.{sample_map}
use Rattle.rule_traits.specs.Sample.{sample_kinds}

-- The values of the sample rules and of the sample map.
abbrev pub sample_setup : Setup
sample_setup = record { rules = sample_kinds; map = sample_map }
