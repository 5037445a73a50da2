use Rattle.std.proofs.Common.{refl, sym, subst, length-set}
use Rattle.game_model.specs.Grid.{HasSize}
use Rattle.grid_routes.specs.Labels.{Distances}
use Rattle.grid_routes.specs.declared.fields.Kept.{Kept}
use Rattle.grid_routes.proofs.Asking.{back-asks}
use Rattle.grid_routes.proofs.Keeping.{own-going, kept-set}
use Rattle.grid_routes.proofs.fields.Fields.put_back.Goals as goal

pub returns-clause-fields : goal.returns-clause-fields
returns-clause-fields c =
    let f = c.requires.fields in
    let old = c.args.self.now in
    let w = old.search.entry_costs.terrain.width in
    let h = old.search.entry_costs.terrain.height in
    let mine : Kept = record { ask = old.ask; field = old.search.field } in
    let there = f.kept old.place mine f.place in
    record {
      terrain = f.terrain;
      size = subst (λ (d : Distances). HasSize w h d.labels) (sym (c.exchange-self.ensures.field mine)) there.size;
      room = f.room;
      search = tt;
      kept = kept-set w h old.search.entry_costs.terrain old.search.entry_costs.built old.kept.items c.exchange-self.new.kept.items
          old.place mine f.kept (record { size = f.size; going = own-going old.search old.ask f.search })
          c.exchange-self.ensures.kept;
      place = rw (c.exchange-self.ensures.kept, length-set old.kept.items old.place mine) f.place;
    }

pub returns-clause-asks : goal.returns-clause-asks
returns-clause-asks c =
    let old = c.args.self.now in
    back-asks old.ask old.kept.items c.exchange-self.new.kept.items old.place
    (record { ask = old.ask; field = old.search.field }) c.exchange-self.ensures.kept refl
