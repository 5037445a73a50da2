-- The bytes of what a client sees.
use Rattle.std.proofs.Common.{arith, ◌≡◌, ◌<◌, ◌≤◌, ℕ, ◌*◌, Bool, false, List, ◌++◌, drop, map, length, Some, sym, ap, ap₂, ◌∙◌, zero-add}
use mir.Val.{bool_byte}
use Rattle.std.specs.Prelude.{if◌then◌else◌, nat_lt, slice_get, slice_index_or}
use Rattle.std.proofs.lemmas.Bool.{le-ltb}
use Rattle.std.specs.List.{range_with_len}
use Rattle.std.proofs.lemmas.List.FromFn.{length-map-range_with_len}
use Rattle.world_units.specs.declared.cell.CPos.{CPos}
use Rattle.rule_traits.specs.declared.kind.Kind.{Kind}
use Rattle.game_orders.specs.Order.{flag_number}
use Rattle.game_model.specs.declared.actor.Actor.{Actor}
use Rattle.game_model.specs.Grid.{place_of}
use Rattle.shroud.specs.Grids.{cell_at, flag_of, grid_of, grids_of, no_grid}
use Rattle.shroud.proofs.GridsLemmas.{cell_again, flag_is, same_grids}
use Rattle.shroud.specs.ShroudState.{ShroudState, shrouded, updated}
use Rattle.shroud.specs.Sights.{is_seen}
use Rattle.tick_core.specs.Game.{GameState}
use Rattle.c_worlds.specs.Sights.{flags_of, sight_of}
use Rattle.c_worlds.specs.Told.{written}
use Rattle.c_worlds.proofs.WriteLemmas.{byte_is, counted, mapped, ranged}

-- There is a byte for each cell.
pub flags_length : (s : ShroudState) (client : ℕ) → length (flags_of client s) ≡ s.width * s.height
unfolding grid_of
flags_length s client =
    counted flag_number (grid_of s.width s.height (flag_of s.seen client)).cells
    ∙ length-map-range_with_len (λ place. flag_of s.seen client (cell_at s.width place)) 0 (s.width * s.height)

pub sight_length : (client : ℕ) (game : GameState) →
    length (sight_of client game) ≡ game.setup.map.width * game.setup.map.height
unfolding grid_of
sight_length client game =
    let seen = is_seen game.setup.rules game.world.actors client in
    let width : ℕ = game.setup.map.width in
    let height : ℕ = game.setup.map.height in
    counted flag_number (grid_of width height seen).cells
    ∙ length-map-range_with_len (λ place. seen (cell_at width place)) 0 (width * height)

-- The byte of a cell.
pub flag_there : (s : ShroudState) (client i width byte : ℕ) (p : CPos) (seen : Bool) → i < s.width * s.height →
    width ≡ s.width → p.x < width → place_of width p ≡ i → seen ≡ flag_of s.seen client p → byte ≡ bool_byte seen →
    slice_get (flags_of client s) i ≡ Some byte
unfolding grid_of
flag_there s client i width byte p seen within same column place shown told =
    let test : ℕ → Bool = λ k. flag_of s.seen client (cell_at s.width k) in
    let cell : cell_at s.width i ≡ p =
    ap₂ cell_at (sym same) (sym place) ∙ cell_again width p column in
    let number : flag_number (test i) ≡ byte =
    ap (λ c. flag_number (flag_of s.seen client c)) cell ∙ ap flag_number (sym shown) ∙ sym (told ∙ byte_is seen) in
    mapped flag_number (grid_of s.width s.height (flag_of s.seen client)).cells i (test i)
    (mapped test (range_with_len 0 (s.width * s.height)) i i
    (ranged 0 (s.width * s.height) i within ∙ ap Some (zero-add i)))
    ∙ ap Some number

-- A shroud that was told these actors alone shows what they see.
shows_sight : (client : ℕ) (rules : List Kind) (actors : List Actor) (width height count : ℕ) (s : ShroudState) → client < count →
    s ≡ updated (shrouded rules width height count) actors s.touched →
    flags_of client s ≡ map flag_number (grid_of width height (is_seen rules actors client)).cells
unfolding grids_of
shows_sight client rules actors width height count s within is =
    let seen = is_seen rules actors in
    ap (flags_of client) is
    ∙ ap (λ grids. map flag_number (slice_index_or grids 0 no_grid).cells)
    (same_grids width height 1 (λ c. flag_of (grids_of width height count seen) client) (λ c. seen client)
    (λ c p below on. flag_is width height count seen client p within on))

fits : (values old : List ℕ) → length values ≤ length old → written values old ≡ values ++ drop (length values) old
fits values old room =
    let less : nat_lt (length old) (length values) ≡ false = le-ltb (length old) (length values) room in
    ap (λ b. if b then old else values ++ drop (length values) old) less

-- It is written where it has room.
pub writes_sight : (client : ℕ) (rules : List Kind) (actors : List Actor) (width height count : ℕ) (s : ShroudState) (old new : List ℕ) →
    client < count → s ≡ updated (shrouded rules width height count) actors s.touched → width * height ≤ length old →
    new ≡ flags_of client s ++ drop (s.width * s.height) old →
    new ≡ written (map flag_number (grid_of width height (is_seen rules actors client)).cells) old
writes_sight client rules actors width height count s old new within is room wrote =
    let sight : List ℕ = map flag_number (grid_of width height (is_seen rules actors client)).cells in
    let shown : flags_of client s ≡ sight = shows_sight client rules actors width height count s within is in
    let bytes : length (flags_of client s) ≡ s.width * s.height = flags_length s client in
    let size : s.width * s.height ≡ width * height = ap (λ (t : ShroudState). t.width * t.height) is in
    let same : length (flags_of client s) ≡ length sight = ap length shown in
    wrote ∙ ap (λ n. flags_of client s ++ drop n old) (sym bytes)
    ∙ ap (λ values. values ++ drop (length values) old) shown
    ∙ sym (fits sight old (omega (arith, room, bytes, size, same)))
