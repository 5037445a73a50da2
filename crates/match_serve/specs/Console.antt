-- The console of a server: its lines, and which clients they kick.
use Rattle.std.specs.Prelude.{◌≡◌, ℕ, ◌<◌, ◌≤◌, ◌==◌, ◌⊎◌, Bool, true, false, List, ◌++◌, codes}
use Rattle.std.specs.Prelude.{slice_index_or, length}
use Rattle.std.specs.List.{list_any, slice_split}
use Rattle.std.specs.Str.{bytes_eq}
use Rattle.std.specs.Fmt.{decimal}
use Rattle.base.specs.Cause.{Increased}
use Rattle.game_io.specs.SourceState.{SourceState}
use Rattle.match_net.specs.PieceTaking.{Took, NoneLeft}
use Rattle.match_serve.specs.declared.kicks.TheConstants.{LINE_END}

abbrev pub ends_line : ℕ → Bool
ends_line byte = byte == LINE_END

-- The lines of the console's bytes. What comes after the last byte that ends a line is a line too;
-- where nothing does, that is the empty line, which kicks nobody.
abbrev pub lines_of : List ℕ → List (List ℕ)
lines_of bytes = slice_split ends_line bytes

-- The line that kicks client c.
abbrev pub kick_line : ℕ → List ℕ
kick_line c = codes "kick " ++ decimal c

abbrev pub kicks_client : ℕ → List ℕ → Bool
kicks_client c line = bytes_eq line (kick_line c)

-- One of the lines of these bytes kicks client c.
abbrev pub holds_kick : List ℕ → ℕ → Bool
holds_kick bytes c = list_any (kicks_client c) (lines_of bytes)

-- Of each client it is listed whether the bytes kick it.
abbrev pub AreKicked : ℕ → List ℕ → List Bool → Type 0
AreKicked clients bytes kicked =
    (c : ℕ) → c < clients → slice_index_or kicked c false ≡ holds_kick bytes c

-- A byte that ends a line is among these.
abbrev pub EndsLine : List ℕ → Type 0
EndsLine bytes = list_any ends_line bytes ≡ true

-- One of these lines has ended: another one follows it.
abbrev pub HaveEnded : List (List ℕ) → Type 0
HaveEnded lines = 1 < length lines

-- The bytes that were taken from the console, and their lines in two parts. It failed, or a line of
-- the second part has ended, or a console whose bytes are observable has none left.
pub record ConsoleRead (old new : SourceState) : Type 0 where
  pub bytes : List ℕ
  pub before : List (List ℕ)
  pub since : List (List ℕ)
  pub lines : lines_of bytes ≡ before ++ since
  pub took : Took old.left new.left bytes
  pub later : old.faults ≤ new.faults
  pub done :
      Increased old.faults new.faults ⊎ ((EndsLine bytes × HaveEnded since) ⊎ NoneLeft new.left)
