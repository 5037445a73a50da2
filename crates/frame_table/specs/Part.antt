-- What a pass has to do with one column.
use Rattle.std.specs.Prelude.{◌≡◌, ◌≢◌, ℕ, Bool, false, List, [], length}
use Rattle.std.specs.Prelude.{slice_index_or}
use Rattle.frame_core.specs.Column.{Column}
use Rattle.frame_table.specs.declared.seen.Seen.{Seen}
use Rattle.frame_table.specs.declared.planned.Planned.{Planned}
use Rattle.frame_table.specs.declared.planned.Planned.TheVariants.{Free}
use Rattle.frame_table.specs.declared.view.View.{View}
use Rattle.frame_table.specs.declared.view.Mark.{Mark}

-- The pass's share of the right to know the whole, and of one column: what is planned for it; how
-- far it was seen; the entries that are known; how often its word was loaded; whether plays may be
-- added; how many departures were fixed; while its lock is held, what the column is; and what a
-- pass that was joined knew.
pub record Part : Type 0 where
  pub share : ℕ
  pub planned : Planned
  pub reach : Seen
  pub known : Column
  pub loads : ℕ
  pub feeds : Bool
  pub made : ℕ
  pub held : List Column
  pub met : Column

-- A pass that has nothing to do with a column.
abbrev pub no_mark : Mark
no_mark =
    record {
      planned = Free;
      reach = record { plays = 0; left = false };
      known_plays = [];
      knows_leave = false;
      loads = 0;
      feeds = false;
      made = 0;
      held = [];
      met_plays = [];
      met_leave = false;
    }

abbrev pub part_in : ℕ → Mark → Part
part_in share mark =
    record {
      share = share;
      planned = mark.planned;
      reach = mark.reach;
      known = record { plays = mark.known_plays; left = mark.knows_leave };
      loads = mark.loads;
      feeds = mark.feeds;
      made = mark.made;
      held = mark.held;
      met = record { plays = mark.met_plays; left = mark.met_leave };
    }

-- What a pass has to do with column c.
abbrev pub part_of : ℕ → View → Part
part_of c view = part_in view.share (slice_index_or view.marks c no_mark)

-- The pass has as much to do with the columns as before, save column c.
abbrev pub OthersStay : ℕ → View → View → Type 0
OthersStay c old new =
    (new.share ≡ old.share) × (length new.marks ≡ length old.marks)
    × ((d : ℕ) → d ≢ c → part_of d new ≡ part_of d old)
