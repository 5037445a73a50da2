use Rattle.std.proofs.Common.{◌≡◌, ℕ, List, ◌++◌, length, take}
use Rattle.std.specs.List.{list_any}
use Rattle.frame_table.specs.declared.pass.Pass.{Pass}
use Rattle.frame_table.specs.Calls.{view_of}
use Rattle.match_serve.specs.Passes.{IsServePass, StayLeft}
use Rattle.match_serve.specs.Console.{ends_line}
use Rattle.match_serve.specs.Watching.{WatchedSoFar}
use Rattle.match_serve.proofs.console.read_bytes.Given as goal

abbrev pub invariant-loop-byte : goal.invariant-loop-byte
invariant-loop-byte g l =
    IsServePass l.clients l.table l.pass
    × (length l.kicks.kicked.items ≡ l.clients)
    × (l.ended ≡ list_any ends_line (take l.byte-index l.bytes))
    × StayLeft (view_of l.initial.pass) (view_of l.pass)
    × ((before : List ℕ) (start : Pass) → WatchedSoFar l.clients l.table before start l.initial.pass l.initial.kicks → WatchedSoFar l.clients l.table (before ++ take l.byte-index l.bytes) start l.pass l.kicks)
