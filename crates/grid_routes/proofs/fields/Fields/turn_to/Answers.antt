use Rattle.grid_routes.specs.Asked.{asks_of}
use Rattle.grid_routes.proofs.Asking.{contained, through}
use Rattle.grid_routes.proofs.fields.Fields.turn_to.Goals as goal

pub returns-else-is_asked-clause-begun : goal.returns-else-is_asked-clause-begun
returns-else-is_asked-clause-begun c = λ kept.
    let old = c.args.self.now in
    let back = c.put_back.new.self in
    let wide = c.make_room.new.self in
    contained (asks_of old.ask old.kept.items) (asks_of back.ask back.kept.items) c.args.ask.now c.put_back.ensures.asks
    (contained (asks_of back.ask back.kept.items) (asks_of wide.ask wide.kept.items) c.args.ask.now
    c.make_room.ensures.asks (c.take_up.ensures.begun kept))

pub returns-else-is_asked-clause-asks : goal.returns-else-is_asked-clause-asks
returns-else-is_asked-clause-asks c =
    let old = c.args.self.now in
    let back = c.put_back.new.self in
    let wide = c.make_room.new.self in
    let new = c.take_up.new.self in
    through (asks_of old.ask old.kept.items) (asks_of back.ask back.kept.items) (asks_of new.ask new.kept.items)
    c.args.ask.now c.put_back.ensures.asks
    (through (asks_of back.ask back.kept.items) (asks_of wide.ask wide.kept.items) (asks_of new.ask new.kept.items)
    c.args.ask.now c.make_room.ensures.asks c.take_up.ensures.asks)
