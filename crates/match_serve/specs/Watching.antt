-- How the console of a server is read, piece by piece.
use Rattle.std.specs.Prelude.{◌≡◌, ℕ, ◌<◌, ◌≤◌, ◌==◌, ◌⊎◌, ◌||◌, Bool, true, false}
use Rattle.std.specs.Prelude.{List, [], ◌∷◌, ◌++◌, length, take, replicate, slice_index_or}
use Rattle.std.specs.Prelude.{Option, Some, None}
use Rattle.std.specs.List.{list_any}
use Rattle.base.specs.Cause.{Increased}
use Rattle.game_io.specs.SourceState.{SourceState}
use Rattle.frame_table.specs.declared.view.View.{View}
use Rattle.frame_table.specs.declared.pass.Pass.{Pass}
use Rattle.frame_table.specs.declared.table.FrameTable.{FrameTable}
use Rattle.frame_core.specs.Grows.{GrowsTo}
use Rattle.frame_table.specs.Part.{part_of}
use Rattle.frame_table.specs.Calls.{view_of, standing}
use Rattle.match_net.specs.PieceTaking.{Took, NoneLeft}
use Rattle.match_serve.specs.declared.kicks.Kicks.{Kicks}
use Rattle.match_serve.specs.declared.kicks.TheConstants.{LINE_ROOM}
use Rattle.match_serve.specs.Passes.{IsKicking, SeesLeft, StayLeft}
use Rattle.match_serve.specs.Console.{lines_of, kicks_client, AreKicked, EndsLine, HaveEnded}
use Rattle.match_serve.specs.Console.{ConsoleRead}

-- Nothing was read, and nobody was kicked.
pub record AreNewKicks (clients : ℕ) (kicks : Kicks) : Type 0 where
  pub line_is : kicks.line.items ≡ []
  pub nobody : kicks.kicked.items ≡ replicate clients false

-- The client is the one that is named.
abbrev pub names_client : ℕ → Option ℕ → Bool
names_client c None = false
names_client c (Some d) = d == c

-- Of each client below this number the line kicks the one that is named alone.
abbrev pub NamesKicked : ℕ → List ℕ → Option ℕ → Type 0
NamesKicked clients line named =
    (c : ℕ) → c < clients → kicks_client c line ≡ names_client c named

-- The clients that the line kicks were listed as kicked too, and have left. No others were let go,
-- nor one that was seen to have left.
pub record KicksBy (clients : ℕ) (line : List ℕ) (old new : List Bool) (before after : View) :
    Type 0 where
  pub count : length new ≡ clients
  pub share : after.share ≡ before.share
  pub kicked : (c : ℕ) → c < clients →
      slice_index_or new c false ≡ (slice_index_or old c false || kicks_client c line)
  pub stays : (c : ℕ) → c < clients → slice_index_or new c false ≡ false →
      (part_of c after).made ≡ (part_of c before).made
  pub known : (c : ℕ) → GrowsTo (part_of c before).known (part_of c after).known
  pub gone : (c : ℕ) → c < clients → kicks_client c line ≡ true →
      (part_of c after).known.left ≡ true
  pub left : StayLeft before after

-- These bytes were read. The lines among them that have ended kick the clients that are listed, and
-- the line that goes on is kept as far as there is room. The pass let no others go.
pub record WatchedSoFar (clients : ℕ) (table : FrameTable) (bytes : List ℕ) (start now : Pass)
    (kicks : Kicks) : Type 0 where
  pub ended : List (List ℕ)
  pub last : List ℕ
  pub lines : lines_of bytes ≡ ended ++ last ∷ []
  pub line_is : kicks.line.items ≡ take LINE_ROOM last
  pub count : length kicks.kicked.items ≡ clients
  pub kicked_are : (c : ℕ) → c < clients →
      slice_index_or kicks.kicked.items c false ≡ list_any (kicks_client c) ended
  pub pass : IsKicking clients table kicks.kicked.items start now

-- A line was ended where these bytes were read: all lines of them kick the clients that are listed.
pub record WatchedLines (clients : ℕ) (table : FrameTable) (bytes : List ℕ) (start now : Pass)
    (kicks : Kicks) : Type 0 where
  pub line_is : kicks.line.items ≡ []
  pub count : length kicks.kicked.items ≡ clients
  pub kicked_are : AreKicked clients bytes kicks.kicked.items
  pub pass : IsKicking clients table kicks.kicked.items start now

-- What was taken from the console since it was in the first of these states was read.
pub record TakenSoFar (clients : ℕ) (table : FrameTable) (first now : SourceState)
    (start pass : Pass) (kicks : Kicks) : Type 0 where
  pub bytes : List ℕ
  pub took : Took first.left now.left bytes
  pub later : first.faults ≤ now.faults
  pub watched : WatchedSoFar clients table bytes start pass kicks

-- The pass has let no client go that none of these lines kicks.
abbrev pub LetGoBy : ℕ → List (List ℕ) → Pass → Pass → Type 0
LetGoBy clients lines old new =
    (c : ℕ) → c < clients → list_any (kicks_client c) lines ≡ false →
    (standing new c).made ≡ (standing old c).made

-- The pass sees that every client has left. The lines of these bytes are in two parts: one of the
-- second has ended, and the pass has let no clients go but by those of the first.
pub record EndsAfterAll (clients : ℕ) (bytes : List ℕ) (start now : Pass) : Type 0 where
  pub before : List (List ℕ)
  pub since : List (List ℕ)
  pub lines : lines_of bytes ≡ before ++ since
  pub ends : EndsLine bytes
  pub ended : HaveEnded since
  pub left : SeesLeft clients (view_of now) true
  pub by : LetGoBy clients before start now

-- Where the answer is true, that is all.
abbrev pub IsAllIf :
    ℕ → List ℕ → SourceState → SourceState → Pass → Pass → Bool → Type 0
IsAllIf clients bytes first now start pass false = Unit {0}
IsAllIf clients bytes first now start pass true =
    Increased first.faults now.faults ⊎ (EndsAfterAll clients bytes start pass ⊎ NoneLeft now.left)

-- A call took from the console what came next.
abbrev pub AfterTake :
    ℕ → FrameTable → SourceState → SourceState → Pass → Pass → Kicks → Bool → Type 0
AfterTake clients table first now start pass kicks all =
    (taken : TakenSoFar clients table first now start pass kicks)
    × IsAllIf clients taken.bytes first now start pass all

-- The console was watched: of what was taken from it each line is known, and each client that these
-- lines kick has left. The pass has let no clients go but by the lines of the first part. A line of
-- the second part has ended only where the pass sees that every client has left.
pub record WatchesConsole (clients : ℕ) (table : FrameTable) (old new : SourceState)
    (before after : Pass) (kicked : List Bool) : Type 0 where
  pub read : ConsoleRead old new
  pub count : length kicked ≡ clients
  pub kicked_are : AreKicked clients read.bytes kicked
  pub pass : IsKicking clients table kicked before after
  pub by : LetGoBy clients read.before before after
  pub left : HaveEnded read.since → SeesLeft clients (view_of after) true
