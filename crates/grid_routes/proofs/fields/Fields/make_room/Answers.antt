use Rattle.grid_routes.specs.Kept.{IsWidened}
use Rattle.grid_routes.proofs.Asking.{widened-asks}
use Rattle.grid_routes.proofs.Keeping.{widened-kept, widened-place}
use Rattle.grid_routes.proofs.fields.Fields.make_room.Goals as goal

pub returns-clause-fields : goal.returns-clause-fields
returns-clause-fields c =
    let f = c.requires.fields in
    let old = c.args.self.now in
    let w = old.search.entry_costs.terrain.width in
    let h = old.search.entry_costs.terrain.height in
    let widened : IsWidened w h old.kept.items c.widen.new.kept.items =
    rw (c.width-w.ensures, c.height-h.ensures, f.size.width, f.size.height) at c.widen.ensures in
    record {
      terrain = f.terrain;
      size = f.size;
      room = f.room;
      search = f.search;
      kept = widened-kept w h old.search.entry_costs.terrain old.search.entry_costs.built old.kept.items c.widen.new.kept.items widened f.kept;
      place = widened-place w h old.place old.kept.items c.widen.new.kept.items widened f.place;
    }

pub returns-clause-asks : goal.returns-clause-asks
returns-clause-asks c =
    let old = c.args.self.now in
    widened-asks c.width-w.result c.height-h.result old.ask old.kept.items c.widen.new.kept.items c.widen.ensures
