use Rattle.std.proofs.Common.{◌≡◌, ◌*◌, ◌+◌, ℕ, List, map, set, ap, ◌∙◌, sym, subst}
use Rattle.game_model.specs.Grid.{Grid, with_cell}
use Rattle.game_model.specs.Packed.{AreTerrains}
use Rattle.game_model.specs.Terrain.{number_of, terrain_of}
use Rattle.game_model.specs.declared.terrain.Terrain.{Terrain}
use Rattle.game_model.proofs.TilesLemmas.{set_terrain, set_stored}
use Rattle.game_model.proofs.tiles.Tiles.set.Goals as goal

pub invariant_of-self : goal.invariant_of-self
invariant_of-self c =
    let t = c.self.inside in
    let place : ℕ = c.args.p.y * t.width + c.args.p.x in
    let is : c.set.new.self ≡ set t.numbers place (number_of c.args.terrain) = cc (c.set.ensures, c.number_of.ensures.value, c.from.ensures, c.from-2.ensures, c.from-3.ensures) in
    subst (AreTerrains t.width t.height) (sym is)
    (set_stored t.width t.height t.numbers place c.args.terrain c.self.invariant)

pub returns : goal.returns
returns c =
    let t = c.self.inside in
    let place : ℕ = c.args.p.y * t.width + c.args.p.x in
    let is : c.set.new.self ≡ set t.numbers place (number_of c.args.terrain) = cc (c.set.ensures, c.number_of.ensures.value, c.from.ensures, c.from-2.ensures, c.from-3.ensures) in
    let grid : List Terrain → Grid Terrain = λ cells. record { width = t.width; height = t.height; cells = cells } in
    ap grid (ap (map terrain_of) is ∙ set_terrain t.numbers place c.args.terrain)
    ∙ ap (λ g. with_cell g c.args.p c.args.terrain) c.self.view_is
