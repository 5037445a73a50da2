use Rattle.std.proofs.Common.{◌≡◌, ℕ, ◌*◌, length, ap₂, arith}
use Rattle.shroud.specs.Spots.{row_of}
use Rattle.shroud.proofs.PlaceLemmas.{row_room}
use Rattle.shroud.proofs.spots.row_start.Goals as goal

pub returns-clause-room : goal.returns-clause-room
returns-clause-room c =
    let a = c.args in
    let start : c.row_of.result * c.from.result ≡ row_of a.height a.client a.y * a.width =
    ap₂ (λ (m n : ℕ). m * n) c.row_of.ensures c.from.ensures in
    let room = row_room a.width a.height a.clients a.client a.y (length a.cells.now)
    c.requires.whole c.requires.client c.requires.row in
    omega (arith, start, room)
