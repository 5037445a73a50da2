use Rattle.std.proofs.Common.{◌≡◌, drop}
use Rattle.game_io.specs.PlannedFiles.{files_of}
use Rattle.game_io.proofs.sure_disk.SureDisk.file.Given as goal

abbrev pub invariant-loop-file : goal.invariant-loop-file
invariant-loop-file l = files_of (drop l.file-index l.file-items) l.name ≡ files_of l.self l.name
