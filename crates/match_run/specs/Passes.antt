-- What the passes of a local match know while it runs.
use Rattle.std.specs.Prelude.{◌≡◌, ℕ, ◌+◌, ◌<◌, ◌≤◌, ◌⊎◌, true, false, List, [], ◌∷◌, ◌++◌}
use Rattle.std.specs.Prelude.{length, map, take, replicate}
use Rattle.game_orders.specs.declared.order.Order.{Order}
use Rattle.frame_core.specs.Column.{no_column}
use Rattle.drill_words.specs.Scripts.{plays_of}
use Rattle.frame_table.specs.declared.planned.Planned.{Planned}
use Rattle.frame_table.specs.declared.planned.Planned.TheVariants.{Free, Plays}
use Rattle.frame_table.specs.declared.pass.Pass.{Pass}
use Rattle.frame_table.specs.declared.table.FrameTable.{FrameTable}
use Rattle.frame_table.specs.Part.{Part}
use Rattle.frame_table.specs.declared.view.Mark.{Mark}
use Rattle.frame_table.specs.Word.{one_if}
use Rattle.frame_table.specs.Rule.{planned_of}
use Rattle.frame_table.specs.Steps.{IsWithinPlan}
use Rattle.frame_table.specs.Calls.{plan_of, view_of, standing, IsPassOf}
use Rattle.match_run.specs.declared.client_pass.ClientPass.{ClientPass}
use Rattle.match_run.specs.Bots.{BotMatch, world_after}

-- Each client of a script is planned to play it.
abbrev pub script_plan : List (List (List Order)) → List Planned
script_plan scripts = map Plays scripts

-- The columns of the bots, who come after them, are free.
abbrev pub match_plan : List (List (List Order)) → (bots : ℕ) → List Planned
match_plan scripts bots = script_plan scripts ++ replicate bots Free

-- Nothing was seen of the column, and nothing done to it.
pub record IsUntouched (plan : Planned) (part : Part) : Type 0 where
  pub planned : part.planned ≡ plan
  pub reach : part.reach ≡ record { plays = 0; left = false }
  pub known : part.known ≡ no_column
  pub made : part.made ≡ 0

-- Nothing was done with the pass.
pub record IsUnused (table : FrameTable) (pass : Pass) : Type 0 where
  pub of_table : IsPassOf table pass
  pub columns : (c : ℕ) → c < length (plan_of table) →
      IsUntouched (planned_of (plan_of table) c) (standing pass c)

-- Nor with any of these.
abbrev pub AreUnused : FrameTable → List ClientPass → Type 0
AreUnused table [] = Unit {0}
AreUnused table (own ∷ passes) = IsUnused table own.pass × AreUnused table passes

-- They are of the clients from one on.
abbrev pub AreFrom : (first : ℕ) → List ClientPass → Type 0
AreFrom first [] = Unit {0}
AreFrom first (own ∷ passes) = (own.client ≡ first) × AreFrom (first + 1) passes

-- In how many columns a pass may add plays.
abbrev pub rights_of : List Mark → ℕ
rights_of [] = 0
rights_of (mark ∷ marks) = one_if mark.feeds + rights_of marks

-- One of these passes may add plays to the column.
abbrev pub OneFeeds : List ClientPass → (c : ℕ) → Type 0
OneFeeds [] c = ⊥
OneFeeds (own ∷ passes) c = ((standing own.pass c).feeds ≡ true) ⊎ OneFeeds passes c

-- What a pass has seen of a column that is planned so is of the plan.
pub record FollowsScript (plays : List (List Order)) (part : Part) : Type 0 where
  pub planned : part.planned ≡ Plays plays
  pub within : IsWithinPlan (Plays plays) part.reach

-- The pass is of a table whose first columns are planned as these scripts have it. All others are of
-- bots.
pub record IsLocalPass (scripts : List (List (List Order))) (table : FrameTable) (pass : Pass) :
    Type 0 where
  pub of_table : IsPassOf table pass
  pub clients : length scripts ≤ length (plan_of table)
  pub columns : (c : ℕ) → c < length scripts →
      FollowsScript (plays_of scripts c) (standing pass c)

-- The pass knows just what it has seen of the column.
abbrev pub KnowsSeen : List (List Order) → Part → Type 0
KnowsSeen plays part =
    part.known ≡ record { plays = take part.reach.plays plays; left = part.reach.left }

-- It does of each script's column.
abbrev pub KnowsAllSeen : List (List (List Order)) → Pass → Type 0
KnowsAllSeen scripts pass =
    (c : ℕ) → c < length scripts → KnowsSeen (plays_of scripts c) (standing pass c)

-- What the thread of a client of these scripts has. It fixes no departure of a bot.
pub record IsClientPass (scripts : List (List (List Order))) (table : FrameTable)
    (own : ClientPass) :
    Type 0 where
  pub pass : IsLocalPass scripts table own.pass
  pub client : own.client < length scripts
  pub made : (c : ℕ) → length scripts ≤ c → c < length (plan_of table) →
      (standing own.pass c).made ≡ 0

-- The shares of all passes.
abbrev pub shares_of : List ClientPass → ℕ
shares_of [] = 0
shares_of (own ∷ passes) = (view_of own.pass).share + shares_of passes

-- The world has made n steps, by the first frames of the match.
pub record IsStepped {W : Type 0} (m : BotMatch W) (clients_of steps : W → ℕ) (world : W) (n : ℕ) :
    Type 0 where
  pub world_is : world ≡ world_after m n
  pub clients : clients_of world ≡ length m.scripts + m.bots
  pub steps_are : steps world ≡ n
