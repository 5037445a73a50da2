-- The actors that a map begins with.
use Rattle.std.specs.Prelude.{ℕ, nat_lt, nat_le, List, [], ◌∷◌, ◌++◌, length, if◌then◌else◌, Bool}
use Rattle.std.specs.Prelude.{Option, Some, None, Result, Ok, Err, codes}
use Rattle.std.specs.List.{list_any}
use Rattle.std.specs.Str.{bytes_eq}
use Rattle.base.specs.Numbers.{number_of}
use Rattle.base.specs.Steps.{◌>>=◌}
use Rattle.rule_traits.specs.declared.kind.Kind.{Kind}
use Rattle.rule_traits.specs.Rules as rules
use Rattle.rule_values.specs.Cells.{cell_of}
use Rattle.yaml_lines.specs.declared.place.Place.{Place}
use Rattle.yaml_lines.specs.Trees.{Trees}
use Rattle.world_units.specs.declared.angle.TheConstants.{FULL_TURN}
use Rattle.world_units.specs.declared.cell.CPos.{CPos}
use Rattle.world_units.specs.Cells.{same_cell}
use Rattle.game_orders.specs.declared.limits.TheConstants.{MAX_CLIENTS}
use Rattle.game_model.specs.Grid.{is_on}
use Rattle.game_model.specs.declared.limits.TheConstants.{MAX_ACTORS, NEUTRAL}
use Rattle.game_model.specs.declared.map.Start.{Start}
use Rattle.map_grid.specs.declared.fault.MapFault.{MapFault}
use Rattle.map_grid.specs.declared.fault.MapFault.TheVariants.{BadField, UnknownKind, CellTaken}
use Rattle.map_grid.specs.declared.fault.MapFault.TheVariants.{BadOwner, TooManyActors}
use Rattle.map_grid.specs.Each.{each}
use Rattle.map_grid.specs.Fields.{Field, field, below}

abbrev pub known_kind : Place → Option ℕ → Result ℕ MapFault
known_kind place None = Err (UnknownKind place)
known_kind place (Some kind) = Ok kind

-- The number of the kind of this name.
unfoldable pub kind_of : List Kind → List ℕ → Place → Result ℕ MapFault
kind_of kinds name place = known_kind place (rules.number_named kinds name)

abbrev pub client_of : Place → Option ℕ → Result ℕ MapFault
client_of place None = Err (BadOwner place)
client_of place (Some n) = if nat_lt n MAX_CLIENTS then Ok n else Err (BadOwner place)

abbrev pub owner_in : Option Field → Result ℕ MapFault
owner_in None = Ok NEUTRAL
owner_in (Some f) =
    if bytes_eq f.value (codes "Neutral") then Ok NEUTRAL
    else client_of f.place (number_of f.value)

-- The owner: a client's number below `MAX_CLIENTS`, or nobody, also where it isn't said.
unfoldable pub owner_of : Trees → Result ℕ MapFault
owner_of fields = owner_in (field (codes "Owner") fields)

abbrev pub on_map : (width height : ℕ) → Place → Option (ℕ × ℕ) → Result CPos MapFault
on_map width height place None = Err (BadField place)
on_map width height place (Some at) =
    if is_on width height (record { x = at.0; y = at.1 }) then Ok (record { x = at.0; y = at.1 })
    else Err (BadField place)

abbrev pub location_in : (width height : ℕ) → Place → Option Field → Result CPos MapFault
location_in width height place None = Err (BadField place)
location_in width height place (Some f) = on_map width height f.place (cell_of f.value)

-- The cell, which is on the map. Where it isn't said, the fault is the actor's.
unfoldable pub location_of : (width height : ℕ) → Place → Trees → Result CPos MapFault
location_of width height place fields =
    location_in width height place (field (codes "Location") fields)

abbrev pub within_turn : Place → Option ℕ → Result ℕ MapFault
within_turn place None = Err (BadField place)
within_turn place (Some n) = if nat_lt n FULL_TURN then Ok n else Err (BadField place)

abbrev pub facing_in : Option Field → Result ℕ MapFault
facing_in None = Ok 0
facing_in (Some f) = within_turn f.place (number_of f.value)

-- The facing, below a full turn: 0 where it isn't said.
unfoldable pub facing_of : Trees → Result ℕ MapFault
facing_of fields = facing_in (field (codes "Facing") fields)

-- The actor of a node: its kind, its owner, its cell and its facing, read in this order.
unfoldable pub start_of :
    List Kind → (width height : ℕ) → (name : List ℕ) → Place → Trees → Result Start MapFault
start_of kinds width height name place fields =
    kind_of kinds name place >>= λ kind.
    owner_of fields >>= λ owner.
    location_of width height place fields >>= λ cell.
    facing_of fields >>= λ facing.
    Ok (record { kind = kind; owner = owner; cell = cell; facing = facing })

-- One of these actors has the cell.
abbrev pub has_cell : List Start → CPos → Bool
has_cell starts cell = list_any (λ (s : Start). same_cell s.cell cell) starts

-- Another actor, whose cell no earlier one has.
abbrev pub joined : List Start → Place → Start → Result (List Start) MapFault
joined starts place start =
    if has_cell starts start.cell then Err (CellTaken place) else Ok (starts ++ start ∷ [])

-- The actors after those of one more node.
unfoldable pub start_taken :
    List Kind → (width height : ℕ) → List Start → (key value : List ℕ) → Place → Trees →
    Result (List Start) MapFault
start_taken kinds width height starts key value place fields =
    if nat_le MAX_ACTORS (length starts) then Err (TooManyActors place)
    else start_of kinds width height value place fields >>= λ start. joined starts place start

-- The actors of a map: its field `Actors`.
unfoldable pub starts_of : List Kind → (width height : ℕ) → Trees → Result (List Start) MapFault
starts_of kinds width height top =
    each (start_taken kinds width height) [] (below (field (codes "Actors") top))
