-- How bytes are taken from a link into a feeder.
use Rattle.std.specs.Prelude.{◌≡◌, ℕ, ◌+◌, ◌<◌, ◌≤◌, List, [], ◌++◌, length, Option, IfSome}
use Rattle.std.specs.Option.{option_map}
use Rattle.base.specs.Cause.{Increased}
use Rattle.game_io.specs.SourceState.{SourceState}
use Rattle.order_packets.specs.Feed.{Fed, more_fed}
use Rattle.match_net.specs.declared.limits.TheConstants.{PIECE_BYTES}
use Rattle.match_net.specs.declared.piece.Piece.{Piece}
use Rattle.match_net.specs.declared.piece.Piece.TheVariants as piece

-- What a link had left is the bytes that were taken from it and then what it has left now, where it
-- is observable. An observable link stays observable, and an opaque one opaque.
abbrev pub Took : Option (List ℕ) → Option (List ℕ) → List ℕ → Type 0
Took old new taken = old ≡ option_map (λ left. taken ++ left) new

-- A count of taken bytes rose by the number of these.
abbrev pub Counts : ℕ → ℕ → List ℕ → Type 0
Counts old new taken = new ≡ old + length taken

-- A link whose bytes are observable has none left.
abbrev pub NoneLeft : Option (List ℕ) → Type 0
NoneLeft left = IfSome left (λ bytes. bytes ≡ [])

-- At most so many bytes were taken from a link.
pub record TookAtMost (room : ℕ) (old new : SourceState) : Type 0 where
  pub taken : List ℕ
  pub few : length taken ≤ room
  pub took : Took old.left new.left taken
  pub later : old.faults ≤ new.faults

-- What an answer says of the bytes that were taken for it and of the link: there are some; or there
-- are none, since the bytes end, or since the link failed.
abbrev pub PieceMeans : SourceState → SourceState → List ℕ → Piece → Type 0
PieceMeans old new taken piece.Some = 0 < length taken
PieceMeans old new taken piece.End = (taken ≡ []) × NoneLeft new.left
PieceMeans old new taken piece.Lost = (taken ≡ []) × Increased old.faults new.faults

-- One piece of at most so many bytes was taken from a link, and the feeder was fed just that.
pub record TakesPiece (room : ℕ) (old new : SourceState) (before after : Fed) (piece : Piece) :
    Type 0 where
  pub taken : List ℕ
  pub few : length taken ≤ room
  pub short : length taken ≤ PIECE_BYTES
  pub took : Took old.left new.left taken
  pub later : old.faults ≤ new.faults
  pub fed : after ≡ more_fed before.fault before taken
  pub means : PieceMeans old new taken piece
