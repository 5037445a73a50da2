-- What was read, and what is left.
use Rattle.std.proofs.Common.{◌≡◌, ◌≤◌, drop, map, length}
use Rattle.command_answers.specs.WantedFiles.{rule_file}
use Rattle.command_answers.proofs.ContentsLemmas.{SoFar}
use Rattle.command_answers.proofs.files.read_rules.Given as goal

abbrev pub invariant-loop-name : goal.invariant-loop-name
invariant-loop-name g l =
    SoFar ((g.D.Disk.state l.fn.disk).files) (map rule_file (map (λ name. name.now) l.fn.names))
    (map rule_file (map (λ name. name.now) (drop l.name-index l.names))) (map (λ bytes. bytes.items) l.contents.items)
    × (length l.contents.items ≡ l.name-index)
    × ((g.D.Disk.state l.disk).files ≡ (g.D.Disk.state l.fn.disk).files)
    × ((g.D.Disk.state l.fn.disk).faults ≤ (g.D.Disk.state l.disk).faults)
