-- Activities and queues are compared by their values.
use Rattle.std.specs.Prelude.{◌==◌, ◌&&◌, Bool, false, List}
use Rattle.std.specs.Cmp.Lexicographic.{pointwise}
use Rattle.world_units.specs.Cells.{same_cell}
use Rattle.activities.specs.declared.activity.Activity.{Activity}
use Rattle.activities.specs.declared.activity.Activity.TheVariants.{Move, Attack, Harvest, Deliver}

-- The two are the same activity.
abbrev pub same_activity : Activity → Activity → Bool
same_activity (Move goal waits) (Move other_goal other_waits) =
    same_cell goal other_goal && (waits == other_waits)
same_activity (Move goal waits) (Attack other_target other_waits) = false
same_activity (Move goal waits) (Harvest other_cell other_timer other_waits) = false
same_activity (Move goal waits) (Deliver other_home other_timer other_waits) = false
same_activity (Attack target waits) (Move other_goal other_waits) = false
same_activity (Attack target waits) (Attack other_target other_waits) =
    (target == other_target) && (waits == other_waits)
same_activity (Attack target waits) (Harvest other_cell other_timer other_waits) = false
same_activity (Attack target waits) (Deliver other_home other_timer other_waits) = false
same_activity (Harvest cell timer waits) (Move other_goal other_waits) = false
same_activity (Harvest cell timer waits) (Attack other_target other_waits) = false
same_activity (Harvest cell timer waits) (Harvest other_cell other_timer other_waits) =
    same_cell cell other_cell && (timer == other_timer) && (waits == other_waits)
same_activity (Harvest cell timer waits) (Deliver other_home other_timer other_waits) = false
same_activity (Deliver home timer waits) (Move other_goal other_waits) = false
same_activity (Deliver home timer waits) (Attack other_target other_waits) = false
same_activity (Deliver home timer waits) (Harvest other_cell other_timer other_waits) = false
same_activity (Deliver home timer waits) (Deliver other_home other_timer other_waits) =
    same_cell home other_home && (timer == other_timer) && (waits == other_waits)

-- The two queues have the same activities in the same order.
abbrev pub same_queue : List Activity → List Activity → Bool
same_queue = pointwise same_activity
