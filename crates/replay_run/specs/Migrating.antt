-- What a migration comes to, and a part of it.
use Rattle.std.specs.Prelude.{◌≡◌, ℕ, Some, None}
use Rattle.replay_file.specs.declared.part.Part.{Part}
use Rattle.replay_file.specs.declared.part.Part.TheVariants.{Frame, Mark}
use Rattle.replay_file.specs.declared.replay.Replay.{Replay}
use Rattle.replay_file.specs.FirstFault.{Spells}
use Rattle.replay_run.specs.declared.migration.Migration.{Migration}
use Rattle.replay_run.specs.declared.migration.Migration.TheVariants.{Differs, Migrated}
use Rattle.replay_run.specs.Rerun.{Rerun, difference_of, frame_count, mark_count, migrated_over}

-- A part with this hash, if it is a mark.
abbrev pub marked_part : ℕ → Part → Part
marked_part hash (Frame entries) = Frame entries
marked_part hash (Mark file) = Mark hash

-- How many marks a part is.
abbrev pub marks_in : Part → ℕ
marks_in (Frame entries) = 0
marks_in (Mark file) = 1

-- A mark differs, or none does and the bytes are the spelling of the migrated replay.
abbrev pub Migrates : {W : Type 0} → Rerun W → Replay → Migration → Type 0
Migrates run r (Differs difference) = difference_of run r ≡ Some difference
Migrates run r (Migrated bytes frames marks) =
    (difference_of run r ≡ None)
    × Spells r.rules bytes.items (migrated_over run r)
    × (frames ≡ frame_count r)
    × (marks ≡ mark_count r)
