-- What the ticking thread's pass knows of the bots' columns, which it feeds. Any pass may leave a free
-- column, so what it knows holds only where it knows of no departure, until it has the whole share.
use Rattle.std.specs.Prelude.{◌≡◌, ℕ, ◌<◌, ◌≤◌, true, false, List, length}
use Rattle.game_orders.specs.declared.order.Order.{Order}
use Rattle.frame_core.specs.Column.{Column}
use Rattle.frame_table.specs.declared.planned.Planned.TheVariants.{Free}
use Rattle.frame_table.specs.declared.pass.Pass.{Pass}
use Rattle.frame_table.specs.declared.table.FrameTable.{FrameTable}
use Rattle.frame_table.specs.Part.{Part}
use Rattle.frame_table.specs.Calls.{plan_of, standing}

-- Something holds of each bot's column, as the pass has to do with it. The bots' columns are those
-- after so many clients.
abbrev pub OfBots : (clients : ℕ) → FrameTable → (ℕ → Part → Type 0) → Pass → Type 0
OfBots clients table P pass =
    (c : ℕ) → clients ≤ c → c < length (plan_of table) → P c (standing pass c)

-- The pass may add plays to the column.
pub record MayFeed (part : Part) : Type 0 where
  pub free : part.planned ≡ Free
  pub feeds : part.feeds ≡ true

-- It has fixed no departure of the column. If it knows of none, it knows just these plays.
pub record HasFed (plays : List (List Order)) (part : Part) : Type 0 where
  pub may : MayFeed part
  pub made : part.made ≡ 0
  pub known : part.known.left ≡ false → part.known.plays ≡ plays

abbrev pub MayFeedAll : (clients : ℕ) → FrameTable → Pass → Type 0
MayFeedAll clients table pass = OfBots clients table (λ c part. MayFeed part) pass

abbrev pub HasFedAll : (clients : ℕ) → FrameTable → (ℕ → List (List Order)) → Pass → Type 0
HasFedAll clients table plays pass = OfBots clients table (λ c part. HasFed (plays c) part) pass

-- A departure of the column is known. If the pass fixed it, the column is this.
pub record HasEnded (column : Column) (part : Part) : Type 0 where
  pub free : part.planned ≡ Free
  pub left : part.known.left ≡ true
  pub known : part.made ≡ 1 → part.known ≡ column

abbrev pub HasEndedAll : (clients : ℕ) → FrameTable → (ℕ → Column) → Pass → Type 0
HasEndedAll clients table columns pass =
    OfBots clients table (λ c part. HasEnded (columns c) part) pass
