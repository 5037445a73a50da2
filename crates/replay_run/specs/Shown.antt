-- The printed lines of a replay.
use Rattle.std.specs.Prelude.{ℕ, List, [], ◌++◌, Option, Some, None, codes}
use Rattle.std.specs.Fmt.{decimal}
use Rattle.frame_core.specs.declared.summary.Summary.{Summary}
use Rattle.drill.specs.Text.{end_line, world_text}
use Rattle.drill_words.specs.Hash.{hash_digits}
use Rattle.replay_run.specs.declared.difference.Difference.{Difference}
use Rattle.replay_run.specs.declared.replayed.Replayed.{Replayed}

-- The line of a differing mark: the number of frames before it, its hash in the file, and the hash
-- of the world here.
unfoldable pub mark_line : Difference → List ℕ
mark_line d =
    codes "mark " ++ decimal d.frames ++ codes " file " ++ hash_digits d.file
    ++ codes " here " ++ hash_digits d.here ++ codes "\n"

abbrev pub mark_lines : Option Difference → List ℕ
mark_lines None = []
mark_lines (Some d) = mark_line d

-- The beginning of a replay's line: its number of frames.
unfoldable pub replay_head : ℕ → List ℕ
replay_head frames = codes "replay frames " ++ decimal frames

-- The lines of a replay: the differing mark, if there is one, the world in the end, and `end`.
abbrev pub replay_lines :
    {W : Type 0} → (W → ℕ) → (W → Summary) → Replayed W → List ℕ
replay_lines hash summary r =
    mark_lines r.difference ++ replay_head r.frames ++ world_text hash summary r.world ++ end_line

-- The lines of a migration that finds a differing mark.
abbrev pub refused_lines : Difference → List ℕ
refused_lines d = mark_line d ++ end_line

unfoldable pub migrated_line : (frames marks : ℕ) → List ℕ
migrated_line frames marks =
    codes "migrated frames " ++ decimal frames ++ codes " marks " ++ decimal marks ++ codes "\n"

-- The lines of one that finds none.
abbrev pub migrated_lines : (frames marks : ℕ) → List ℕ
migrated_lines frames marks = migrated_line frames marks ++ end_line
