-- The files that are read after rules and a map.
use Rattle.std.proofs.Common.{◌≡◌, ℕ, List, [], ◌∷◌, map, Option, None, Some, Ok, Err, IfSome, refl}
use Rattle.std.specs.Prelude.{option_map}
use Rattle.base.specs.Steps.{◌>>=◌}
use Rattle.command_answers.specs.declared.files.InputFile.{InputFile}
use Rattle.command_answers.specs.declared.files.InputFile.TheVariants.{Script, Replay, Save, Compared}
use Rattle.command_answers.specs.Step.{Step}
use Rattle.command_answers.specs.WantedFiles.{Wanted, rule_file, replay_file, save_file, rules_and_map, with_first, second_file, second_limit}
use Rattle.command_answers.specs.Given.{played_file, played_files, paired_files, compared_files}
use Rattle.command_answers.specs.Contents.{Contents, read_after, read_optional}
use Rattle.command_answers.proofs.AfterLemmas.{IsAfter, and_then_more, then_read}
use Rattle.command_answers.proofs.FilesLemmas.{both}

-- The same contents with those of one more file.
abbrev put_script : Contents → Option (List ℕ) → Contents
put_script given bytes = record given { script = bytes }

abbrev put_first : Contents → Option (List ℕ) → Contents
put_first given bytes = record given { first = bytes }

abbrev pub put_replay : Contents → Option (List ℕ) → Contents
put_replay given bytes = record given { replay = bytes }

abbrev pub put_played : InputFile → Contents → Option (List ℕ) → Contents
put_played (Script name) = put_script
put_played (Replay name) = put_replay
put_played (Save name) = put_first
put_played (Compared name) = put_first

-- ---- after rules and a map

-- What was read of rules and a map.
abbrev gathered : Step (List (List ℕ)) → Step (Option (List ℕ)) → Step Contents
gathered rules_step map_step = do
  rules ← rules_step
  map_file ← map_step
  Ok (both rules map_file)

-- The same, and what was read after them, by what they make together.
abbrev gathered_all : (List (List ℕ) → Option (List ℕ) → Option (List ℕ) → Contents) → Step (List (List ℕ)) → (map_step last_step : Step (Option (List ℕ))) → Step Contents
gathered_all all rules_step map_step last_step = do
  rules ← rules_step
  map_file ← map_step
  last ← last_step
  Ok (all rules map_file last)

all_gathered :
    (put : Contents → Option (List ℕ) → Contents) (all : List (List ℕ) → Option (List ℕ) → Option (List ℕ) → Contents) →
    ((rules : List (List ℕ)) (m bytes : Option (List ℕ)) → all rules m bytes ≡ put (both rules m) bytes) →
    (rules_step : Step (List (List ℕ))) (map_step last_step : Step (Option (List ℕ))) →
    gathered_all all rules_step map_step last_step ≡ then_read (gathered rules_step map_step) (λ given. last_step) put
all_gathered put all is (Ok rules) (Ok m) (Ok bytes) = rw (is rules m bytes) refl
all_gathered put all is (Ok rules) (Ok m) (Err reply) = refl
all_gathered put all is (Ok rules) (Err reply) last_step = refl
all_gathered put all is (Err reply) map_step last_step = refl

-- A file that is read before a script or a replay.
first_after :
    (first : Wanted) (names : List (List ℕ)) (map_file : Option (List ℕ)) →
    IsAfter (rules_and_map names map_file) first (λ given. Some first) (with_first first (rules_and_map names map_file)) put_first
first_after first names map_file = record {
  order = and_then_more (map rule_file names) (option_map rule_file map_file) [] (first ∷ []);
  named = λ given. refl;
  reads = λ files. all_gathered put_first
      (λ rules m last. record { rules = rules; map_file = m; first = last; script = None; replay = None }) (λ rules m bytes. refl)
      (read_after [] (map rule_file names) files) (read_optional (option_map rule_file map_file) files) (read_optional (Some first) files);
  are = λ given bytes are short. record { rules = are.rules; map_file = are.map_file; first = short; script = are.script; replay = are.replay };
}

-- The file that is wanted after rules and a map.
abbrev pub wanted_last : InputFile → Contents → Option Wanted
wanted_last played given = Some (played_file played)

pub played_after :
    (played : InputFile) (names : List (List ℕ)) (map_file : Option (List ℕ)) →
    IsAfter (rules_and_map names map_file) (played_file played) (wanted_last played) (played_files played names map_file) (put_played played)
played_after (Script name) names map_file = record {
  order = and_then_more (map rule_file names) (option_map rule_file map_file) [] (played_file (Script name) ∷ []);
  named = λ given. refl;
  reads = λ files. all_gathered put_script
      (λ rules m last. record { rules = rules; map_file = m; first = None; script = last; replay = None }) (λ rules m bytes. refl)
      (read_after [] (map rule_file names) files) (read_optional (option_map rule_file map_file) files) (read_optional (Some (played_file (Script name))) files);
  are = λ given bytes are short. record { rules = are.rules; map_file = are.map_file; first = are.first; script = short; replay = are.replay };
}
played_after (Replay name) names map_file = record {
  order = and_then_more (map rule_file names) (option_map rule_file map_file) [] (played_file (Replay name) ∷ []);
  named = λ given. refl;
  reads = λ files. all_gathered put_replay
      (λ rules m last. record { rules = rules; map_file = m; first = None; script = None; replay = last }) (λ rules m bytes. refl)
      (read_after [] (map rule_file names) files) (read_optional (option_map rule_file map_file) files) (read_optional (Some (played_file (Replay name))) files);
  are = λ given bytes are short. record { rules = are.rules; map_file = are.map_file; first = are.first; script = are.script; replay = short };
}
played_after (Save name) names map_file = first_after (save_file name.now) names map_file
played_after (Compared name) names map_file = first_after (replay_file name.now) names map_file

-- ---- after these

abbrev first_gathered : Step (List (List ℕ)) → (map_step first_step : Step (Option (List ℕ))) → Step Contents
first_gathered rules_step map_step first_step = do
  rules ← rules_step
  map_file ← map_step
  first ← first_step
  Ok (record { rules = rules; map_file = map_file; first = first; script = None; replay = None })

abbrev pair_gathered : Step (List (List ℕ)) → (map_step first_step : Step (Option (List ℕ))) → (Option (List ℕ) → Step (Option (List ℕ))) → Step Contents
pair_gathered rules_step map_step first_step last_step = do
  rules ← rules_step
  map_file ← map_step
  first ← first_step
  replay ← last_step first
  Ok (record { rules = rules; map_file = map_file; first = first; script = None; replay = replay })

pair_is :
    (rules_step : Step (List (List ℕ))) (map_step first_step : Step (Option (List ℕ))) (last_step : Option (List ℕ) → Step (Option (List ℕ))) →
    pair_gathered rules_step map_step first_step last_step ≡ then_read (first_gathered rules_step map_step first_step) (λ given. last_step given.first) put_replay
pair_is (Ok rules) (Ok m) (Ok first) last_step = refl
pair_is (Ok rules) (Ok m) (Err reply) last_step = refl
pair_is (Ok rules) (Err reply) first_step last_step = refl
pair_is (Err reply) map_step first_step last_step = refl

-- The replay comes after a save.
pub replay_after :
    (save replay : List ℕ) (names : List (List ℕ)) (map_file : Option (List ℕ)) →
    IsAfter (with_first (save_file save) (rules_and_map names map_file)) (replay_file replay) (λ given. Some (replay_file replay)) (paired_files save replay names map_file) put_replay
replay_after save replay names map_file = record {
  order = and_then_more (map rule_file names) (option_map rule_file map_file) (save_file save ∷ []) (replay_file replay ∷ []);
  named = λ given. refl;
  reads = λ files. pair_is (read_after [] (map rule_file names) files) (read_optional (option_map rule_file map_file) files)
      (read_optional (Some (save_file save)) files) (λ first. read_optional (Some (replay_file replay)) files);
  are = λ given bytes are short. record { rules = are.rules; map_file = are.map_file; first = are.first; script = are.script; replay = short };
}

-- The second of two files that are compared comes after the first.
second_named : (name : List ℕ) (first : Option (List ℕ)) → IfSome (second_file name first) (λ file. file.name ≡ name)
second_named name None = refl
second_named name (Some first) = go (second_limit first)
  where
    go : (limit : Option ℕ) → IfSome {T = Wanted} (option_map (λ limit. record { name = name; limit = limit }) limit) (λ file. file.name ≡ name)
    go None = tt
    go (Some limit) = refl

pub second_after :
    (first second : List ℕ) (names : List (List ℕ)) (map_file : Option (List ℕ)) →
    IsAfter (with_first (replay_file first) (rules_and_map names map_file)) (replay_file second) (λ given. second_file second given.first) (compared_files first second names map_file) put_replay
second_after first second names map_file = record {
  order = and_then_more (map rule_file names) (option_map rule_file map_file) (replay_file first ∷ []) (replay_file second ∷ []);
  named = λ given. second_named second given.first;
  reads = λ files. pair_is (read_after [] (map rule_file names) files) (read_optional (option_map rule_file map_file) files)
      (read_optional (Some (replay_file first)) files) (λ first. read_optional (second_file second first) files);
  are = λ given bytes are short. record { rules = are.rules; map_file = are.map_file; first = are.first; script = are.script; replay = short };
}
