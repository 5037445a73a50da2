-- What a line that was read says.
use Rattle.yaml_lines.specs.declared.found.Found.{Found}
use Rattle.yaml_lines.specs.Reading.{Words}

abbrev pub words_found : Found → Words
words_found found = record { level = found.level; key = found.key; value = found.value }
