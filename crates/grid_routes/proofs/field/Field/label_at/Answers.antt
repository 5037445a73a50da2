use Rattle.std.proofs.Common.{◌≡◌, length, arith}
use Rattle.std.proofs.lemmas.List.{get_or_read}
use Rattle.game_model.specs.Grid.{IsOn, place_of}
use Rattle.grid_routes.specs.declared.field.TheConstants.{NONE}
use Rattle.grid_routes.proofs.Cells.{placed}
use Rattle.grid_routes.proofs.Lowering.{label-read}
use Rattle.grid_routes.proofs.field.Field.label_at.Goals as goal

pub returns : goal.returns
returns c =
    let field = c.self.inside in
    let read = label-read c.args.self.now.labels c.args.n.cell c.requires.on in
    let on : IsOn field.width field.height c.args.n.cell = rw (← c.self.view_is) at c.requires.on in
    let at : c.args.n.at ≡ place_of field.width c.args.n.cell = rw (← c.self.view_is) at c.requires.at in
    let within = placed field.width field.height c.args.n.cell (length field.labels.items) c.self.invariant.size on in
    rw (read, ← c.requires.at, ← c.self.view_is)
    (get_or_read field.labels.items c.args.n.at c.index.result.now (omega (arith, at, within)) c.index.ensures NONE)
