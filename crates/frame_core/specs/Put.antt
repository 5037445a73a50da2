-- What the answer to a put means for the column afterwards.
use Rattle.std.specs.Prelude.{◌≡◌, ◌≢◌, ℕ, ◌<◌, true, false, Some}
use Rattle.game_orders.specs.declared.entry.Entry.{Entry}
use Rattle.game_orders.specs.declared.limits.TheConstants.{MAX_FRAMES}
use Rattle.game_orders.specs.Entry.{is_play}
use Rattle.frame_core.specs.Column.{Column, length_of, entry_at}
use Rattle.frame_core.specs.declared.put.Put.{Put}
use Rattle.frame_core.specs.declared.put.Put.TheVariants.{Fixed, Repeat, Conflict, Left, Ahead}
use Rattle.frame_core.specs.declared.put.Put.TheVariants.{Full}

-- After a put of e at frame n that answers so: e stands there; or another entry does; or the client
-- has left before n; or frames before n are missing; or all the plays that a match may have stand
-- before n.
abbrev pub PutMeans : Column → ℕ → Entry → Put → Type 0
PutMeans column n e Fixed = entry_at column n ≡ Some e
PutMeans column n e Repeat = entry_at column n ≡ Some e
PutMeans column n e (Conflict kept) = (entry_at column n ≡ Some kept) × (kept ≢ e)
PutMeans column n e (Left at) = (column.left ≡ true) × (length_of column ≡ at) × (at < n)
PutMeans column n e (Ahead plays) = (column.left ≡ false) × (length_of column ≡ plays) × (plays < n)
PutMeans column n e Full =
    (column.left ≡ false) × (length_of column ≡ n) × (n ≡ MAX_FRAMES) × (is_play e ≡ true)
