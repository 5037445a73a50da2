-- The places of cells, and the cells of places.
use Rattle.std.proofs.Common.{◌≡◌, ℕ, ◌+◌, ◌*◌, ◌/◌, ◌%◌, ◌<◌, ◌≤◌, zero, suc, ap, ap₂, subst, ◌∙◌, arith}
use Rattle.std.proofs.Math.Nat.{mul_comm, mul-le-mul_right}
use Rattle.std.proofs.lemmas.Nat.{div-mul-add, mod-mul-add, mul-add-lt, div_below, mod_below}
use Rattle.world_units.specs.declared.cell.CPos.{CPos}
use Rattle.game_model.specs.Grid.{IsOn}
use Rattle.shroud.specs.Spots.{cell_in, client_at, place_in, row_of}

-- A client's row is one of all clients' rows.
pub row_within :
    (height clients client y : ℕ) → client < clients → y < height →
    row_of height client y < clients * height
row_within height clients client y known row =
    subst (λ (n : ℕ). client * height + y < n) (mul_comm height clients)
    (mul-add-lt client height y clients known row)

-- A client's cell has a place.
pub place_within :
    (width height clients client : ℕ) (p : CPos) (n : ℕ) → n ≡ (clients * height) * width →
    client < clients → IsOn width height p → place_in width height client p < n
place_within width height clients client p n whole known on =
    let row = row_within height clients client p.y known on.row in
    let within = mul-add-lt (row_of height client p.y) width p.x (clients * height) row on.column in
    let turned : width * (clients * height) ≡ (clients * height) * width =
    mul_comm width (clients * height) in
    omega (arith, whole, within, turned)

-- A client's row has room.
pub row_room :
    (width height clients client y n : ℕ) → n ≡ (clients * height) * width →
    client < clients → y < height → row_of height client y * width + width ≤ n
row_room width height clients client y n whole known row =
    let within = row_within height clients client y known row in
    let room : (row_of height client y + 1) * width ≤ (clients * height) * width =
    mul-le-mul_right width (omega arith) in
    omega (arith, whole, room)

-- The parts of the place of a cell.
pub client_again :
    (width height client : ℕ) (p : CPos) → IsOn width height p →
    client_at width height (place_in width height client p) ≡ client
client_again width height client p on =
    ap (λ (q : ℕ). q / height) (div-mul-add (row_of height client p.y) width p.x on.column)
    ∙ div-mul-add client height p.y on.row

abbrev made : ℕ → ℕ → CPos
made x y = record { x = x; y = y }

pub cell_again :
    (width height client : ℕ) (p : CPos) → IsOn width height p →
    cell_in width height (place_in width height client p) ≡ p
cell_again width height client p on =
    ap₂ made (mod-mul-add (row_of height client p.y) width p.x on.column)
    (ap (λ (q : ℕ). q % height) (div-mul-add (row_of height client p.y) width p.x on.column)
    ∙ mod-mul-add client height p.y on.row)

-- Sides of a map that has places.
pub wide : (width height clients place n : ℕ) → n ≡ (clients * height) * width → place < n → 0 < width
wide zero height clients place n whole within = absurd (omega arith)
wide (suc less) height clients place n whole within = omega arith

pub high :
    (width height clients place n : ℕ) → n ≡ (clients * height) * width → place < n → 0 < height
high width zero clients place n whole within = absurd (omega arith)
high width (suc less) clients place n whole within = omega arith

-- The client of a place is one of the clients.
pub client_within :
    (width height clients place n : ℕ) → n ≡ (clients * height) * width → place < n →
    client_at width height place < clients
client_within width height clients place n whole within =
    let row : place / width < clients * height =
    div_below place width (clients * height) (wide width height clients place n whole within)
    (omega arith) in
    div_below (place / width) height clients (high width height clients place n whole within) row

-- The row of a place is one of the map.
pub row_on :
    (width height clients place n : ℕ) → n ≡ (clients * height) * width → place < n →
    (cell_in width height place).y < height
row_on width height clients place n whole within =
    mod_below (place / width) height (high width height clients place n whole within)
