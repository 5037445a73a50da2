use Rattle.std.proofs.Common.{◌≡◌, ◌*◌, List, map, replicate, ap, ◌∙◌, sym, subst, refl}
use Rattle.game_model.specs.Grid.{Grid}
use Rattle.game_model.specs.Packed.{AreTerrains}
use Rattle.game_model.specs.Terrain.{terrain_of}
use Rattle.game_model.specs.declared.terrain.Terrain.{Terrain}
use Rattle.game_model.proofs.TilesLemmas.{clear_stored, clear_terrains}
use Rattle.game_model.proofs.tiles.Tiles.create.Goals as goal

pub invariant_of-result : goal.invariant_of-result
invariant_of-result c =
    let is : c.in_ok-numbers.numbers ≡ replicate (c.args.w * c.args.h) 0 = cc (c.in_ok-numbers.ensures, c.from.ensures, c.from-2.ensures) in
    subst (AreTerrains c.args.w c.args.h) (sym is) (clear_stored c.args.w c.args.h (c.args.w * c.args.h) refl)

pub returns : goal.returns
returns c =
    let is : c.in_ok-numbers.numbers ≡ replicate (c.args.w * c.args.h) 0 = cc (c.in_ok-numbers.ensures, c.from.ensures, c.from-2.ensures) in
    let grid : List Terrain → Grid Terrain = λ cells. record { width = c.args.w; height = c.args.h; cells = cells } in
    ap grid (ap (map terrain_of) is ∙ clear_terrains (c.args.w * c.args.h))
