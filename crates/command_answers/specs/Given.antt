-- The contents that the code holds of files that were read.
use Rattle.std.specs.Prelude.{ℕ, List, Option, None, Some, map, option_map}
use Rattle.std.specs.Global.{Vec}
use Rattle.command_answers.specs.declared.files.GivenFiles.{GivenFiles}
use Rattle.command_answers.specs.declared.files.InputFile.{InputFile}
use Rattle.command_answers.specs.declared.files.InputFile.TheVariants.{Script, Replay, Save}
use Rattle.command_answers.specs.declared.files.InputFile.TheVariants.{Compared}
use Rattle.command_answers.specs.declared.paired.ComparedFiles.{ComparedFiles}
use Rattle.command_answers.specs.declared.paired.PairedFiles.{PairedFiles}
use Rattle.command_answers.specs.WantedFiles.{Wanted, WantedFiles, script_file, replay_file}
use Rattle.command_answers.specs.WantedFiles.{save_file, rules_and_map, with_first, with_save}
use Rattle.command_answers.specs.WantedFiles.{with_script, with_replay, with_compared}
use Rattle.command_answers.specs.Contents.{Contents}

abbrev pub given_contents : GivenFiles → Contents
given_contents given =
    record {
      rules = map (λ bytes. bytes.items) given.rules.items;
      map_file = option_map (λ bytes. bytes.items) given.map_file;
      first = None;
      script = None;
      replay = None;
    }

-- Those of rule files and a map, and of a script.
abbrev pub script_contents : GivenFiles × Vec ℕ → Contents
script_contents given = record (given_contents given.0) { script = Some given.1.items }

-- The same with a replay.
abbrev pub replay_contents : GivenFiles × Vec ℕ → Contents
replay_contents given = record (given_contents given.0) { replay = Some given.1.items }

-- The same with a file that is read before a replay.
abbrev pub first_contents : GivenFiles × Vec ℕ → Contents
first_contents given = record (given_contents given.0) { first = Some given.1.items }

-- The file that is read after rules and a map.
abbrev pub played_file : InputFile → Wanted
played_file (Script name) = script_file name.now
played_file (Replay name) = replay_file name.now
played_file (Save name) = save_file name.now
played_file (Compared name) = replay_file name.now

-- Rule files, a map, if one is named, and after them this file.
abbrev pub played_files : InputFile → List (List ℕ) → Option (List ℕ) → WantedFiles
played_files (Script name) names map_file = with_script name.now (rules_and_map names map_file)
played_files (Replay name) names map_file = with_replay name.now (rules_and_map names map_file)
played_files (Save name) names map_file = with_save name.now (rules_and_map names map_file)
played_files (Compared name) names map_file =
    with_first (replay_file name.now) (rules_and_map names map_file)

-- Their contents.
abbrev pub played_contents : InputFile → GivenFiles × Vec ℕ → Contents
played_contents (Script name) given = script_contents given
played_contents (Replay name) given = replay_contents given
played_contents (Save name) given = first_contents given
played_contents (Compared name) given = first_contents given

-- Rule files, a map, if one is named, and after them a save, and then a replay.
abbrev pub paired_files :
    (save replay : List ℕ) → List (List ℕ) → Option (List ℕ) → WantedFiles
paired_files save replay names map_file =
    with_replay replay (with_save save (rules_and_map names map_file))

-- Their contents.
abbrev pub paired_contents : PairedFiles → Contents
paired_contents given =
    record (given_contents given.files) {
      first = Some given.save.items;
      replay = Some given.replay.items;
    }

-- Rule files, a map, if one is named, and after them two files that are compared.
abbrev pub compared_files :
    (first second : List ℕ) → List (List ℕ) → Option (List ℕ) → WantedFiles
compared_files first second names map_file =
    with_compared first second (rules_and_map names map_file)

-- Their contents.
abbrev pub compared_contents : ComparedFiles → Contents
compared_contents given =
    record (given_contents given.files) {
      first = Some given.first.items;
      replay = option_map (λ bytes. bytes.items) given.second;
    }
