-- What was parsed, with the files that are left, is all.
use Rattle.std.proofs.Common.{◌≡◌, drop, map}
use Rattle.yaml_lines.specs.Trees.{trees_of}
use Rattle.setup_files.specs.Reading.{parsed_after, parsed_files}
use Rattle.setup_files.proofs.reading.parse_files.Given as goal

abbrev pub invariant-loop-bytes : goal.invariant-loop-bytes
invariant-loop-bytes l =
    (parsed_after l.part (map trees_of l.forests.items) l.file (map (λ bytes. bytes.items) (drop l.bytes-index l.contents))
    ≡ parsed_files l.fn.part (map (λ bytes. bytes.items) l.fn.contents))
    × (l.file ≡ l.bytes-index) × (l.part ≡ l.fn.part)
