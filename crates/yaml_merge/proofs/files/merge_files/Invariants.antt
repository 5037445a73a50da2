use Rattle.std.proofs.Common.{◌≡◌, drop, map}
use Rattle.yaml_lines.specs.Trees.{none, trees_of}
use Rattle.yaml_merge.specs.Merging.{merged_files}
use Rattle.yaml_merge.proofs.files.merge_files.Given as goal

abbrev pub invariant-loop-file : goal.invariant-loop-file
invariant-loop-file l = merged_files (map trees_of (drop l.file-index l.files)) l.list ≡ merged_files (map trees_of l.files) none
