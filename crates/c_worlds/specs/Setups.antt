-- What the calls of a setup answer, of what the objects hold.
use Rattle.std.specs.Prelude.{ℕ, ◌==◌, nat_lt, Bool, true, false, is_some, if◌then◌else◌}
use Rattle.std.specs.Prelude.{List, length, Option, None, Some, Result, Ok, Err}
use Rattle.setup_files.specs.declared.limits.TheConstants.{MAX_RULE_FILES}
use Rattle.setup_files.specs.declared.making.Made.{Made}
use Rattle.setup_files.specs.Reading.{Read, made_of}
use Rattle.setup_files.specs.Stage.{StageState, no_files, stage_read, with_map, with_rules}
use Rattle.c_objects.specs.declared.code.TheConstants.{OK, FULL, FAULT, BAD_ARGUMENT}
use Rattle.c_objects.specs.declared.code.TheConstants.{WRONG_OBJECT, NO_MEMORY}
use Rattle.c_objects.specs.declared.kept.Kept.{Kept}
use Rattle.c_objects.specs.declared.kept.Kept.TheVariants.{Setup, World, Peer, Server}
use Rattle.c_worlds.specs.declared.fault_at.CFault.{CFault}
use Rattle.c_worlds.specs.declared.setups.TheConstants.{RULES, MAP}
use Rattle.c_worlds.specs.Faults.{fault_of}

-- ---- making one

abbrev pub create_code : Option Kept → ℕ
create_code None = OK
create_code (Some kept) = WRONG_OBJECT

abbrev pub created : Option Kept → Option Kept
created None = Some (Setup no_files)
created (Some kept) = Some kept

-- ---- adding a file

abbrev pub added_code : {E : Type 0} → Result Bool E → ℕ
added_code (Ok true) = OK
added_code (Ok false) = FULL
added_code (Err error) = NO_MEMORY

abbrev pub map_code : Option (List ℕ) → ℕ
map_code None = OK
map_code (Some bytes) = FULL

abbrev pub stage_add_code : StageState → (what : ℕ) → ℕ
stage_add_code stage what =
    if is_some stage.made then WRONG_OBJECT
    else (if what == RULES
    then (if nat_lt (length stage.rules) MAX_RULE_FILES then OK else FULL)
    else (if what == MAP then map_code stage.map_file else BAD_ARGUMENT))

abbrev pub stage_added : StageState → (what : ℕ) → (bytes : List ℕ) → StageState
stage_added stage what bytes =
    if is_some stage.made then stage
    else (if what == RULES then with_rules stage bytes
    else (if what == MAP then with_map stage bytes else stage))

abbrev pub add_code : Option Kept → (what : ℕ) → ℕ
add_code None what = WRONG_OBJECT
add_code (Some (Setup stage)) what = stage_add_code stage what
add_code (Some (World game)) what = WRONG_OBJECT
add_code (Some (Peer peer)) what = WRONG_OBJECT
add_code (Some (Server server)) what = WRONG_OBJECT

abbrev pub added : Option Kept → (what : ℕ) → (bytes : List ℕ) → Option Kept
added None what bytes = None
added (Some (Setup stage)) what bytes = Some (Setup (stage_added stage what bytes))
added (Some (World game)) what bytes = Some (World game)
added (Some (Peer peer)) what bytes = Some (Peer peer)
added (Some (Server server)) what bytes = Some (Server server)

-- ---- reading the files

abbrev pub outcome_code : Read Made → ℕ
outcome_code (Ok made) = OK
outcome_code (Err fault) = FAULT

abbrev pub outcome_at : Read Made → (rule_files : ℕ) → CFault → CFault
outcome_at (Ok made) rule_files old = old
outcome_at (Err fault) rule_files old = fault_of fault rule_files

abbrev pub stage_code : StageState → ℕ
stage_code stage =
    if is_some stage.made then WRONG_OBJECT
    else outcome_code (made_of stage.rules stage.map_file)

abbrev pub stage_after : StageState → StageState
stage_after stage = if is_some stage.made then stage else stage_read stage

abbrev pub stage_at : StageState → CFault → CFault
stage_at stage old =
    if is_some stage.made then old
    else outcome_at (made_of stage.rules stage.map_file) (length stage.rules) old

abbrev pub read_answer : Option Kept → ℕ
read_answer None = WRONG_OBJECT
read_answer (Some (Setup stage)) = stage_code stage
read_answer (Some (World game)) = WRONG_OBJECT
read_answer (Some (Peer peer)) = WRONG_OBJECT
read_answer (Some (Server server)) = WRONG_OBJECT

abbrev pub read_after : Option Kept → Option Kept
read_after None = None
read_after (Some (Setup stage)) = Some (Setup (stage_after stage))
read_after (Some (World game)) = Some (World game)
read_after (Some (Peer peer)) = Some (Peer peer)
read_after (Some (Server server)) = Some (Server server)

abbrev pub read_at : Option Kept → CFault → CFault
read_at None old = old
read_at (Some (Setup stage)) old = stage_at stage old
read_at (Some (World game)) old = old
read_at (Some (Peer peer)) old = old
read_at (Some (Server server)) old = old

-- ---- sharing one

abbrev pub share_by : Option Made → ℕ
share_by None = WRONG_OBJECT
share_by (Some made) = OK

abbrev pub shared_by : Option Made → StageState → Option Kept
shared_by None stage = None
shared_by (Some made) stage = Some (Setup stage)

abbrev pub share_from : Option Kept → ℕ
share_from None = WRONG_OBJECT
share_from (Some (Setup stage)) = share_by stage.made
share_from (Some (World game)) = WRONG_OBJECT
share_from (Some (Peer peer)) = WRONG_OBJECT
share_from (Some (Server server)) = WRONG_OBJECT

abbrev pub shared_from : Option Kept → Option Kept
shared_from None = None
shared_from (Some (Setup stage)) = shared_by stage.made stage
shared_from (Some (World game)) = None
shared_from (Some (Peer peer)) = None
shared_from (Some (Server server)) = None

abbrev pub share_code : (copy setup : Option Kept) → ℕ
share_code None setup = share_from setup
share_code (Some kept) setup = WRONG_OBJECT

abbrev pub shared : (copy setup : Option Kept) → Option Kept
shared None setup = shared_from setup
shared (Some kept) setup = Some kept
