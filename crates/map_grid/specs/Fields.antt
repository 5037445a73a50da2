-- The fields of a list of nodes, and the size and the cash of a map.
use Rattle.std.specs.Prelude.{ℕ, nat_le, Bool, ◌&&◌, List, if◌then◌else◌, Option, Some, None}
use Rattle.std.specs.Prelude.{Result, Ok, Err, codes}
use Rattle.std.specs.Str.{bytes_eq}
use Rattle.base.specs.Numbers.{number_of}
use Rattle.rule_values.specs.Cells.{cell_of}
use Rattle.yaml_lines.specs.declared.place.Place.{Place}
use Rattle.yaml_lines.specs.declared.forest.Node.{Node}
use Rattle.yaml_lines.specs.declared.forest.Forest.TheViews.{out-Node}
use Rattle.yaml_lines.specs.Trees.{Trees, none, more, trees_of}
use Rattle.game_model.specs.declared.limits.TheConstants.{BARE_CASH, MAX_CASH, MAX_SIDE}
use Rattle.map_grid.specs.declared.fault.MapFault.{MapFault}
use Rattle.map_grid.specs.declared.fault.MapFault.TheVariants.{BadField}

-- A field: what a node has besides its key.
pub record Field : Type 0 where
  pub value : List ℕ
  pub place : Place
  pub below : Trees

-- The field that a node is.
abbrev pub field_at : Node → Field
field_at node =
    record {
      value = (out-Node node).value;
      place = (out-Node node).place;
      below = trees_of (out-Node node).children;
    }

-- The first field of this name. In a resolved forest there is at most one.
abbrev pub field : List ℕ → Trees → Option Field
field name none = None
field name (more key value place children rest) =
    if bytes_eq key name then Some (record { value = value; place = place; below = children })
    else field name rest

-- What stands below a field, if it is there.
abbrev pub below : Option Field → Trees
below None = none
below (Some f) = f.below

-- The place of what is not there: line 0.
abbrev pub no_place : Place
no_place = record { file = 0; line = 0 }

abbrev pub is_side : ℕ → Bool
is_side n = nat_le 1 n && nat_le n MAX_SIDE

-- Width and height, both from 1 to `MAX_SIDE`.
abbrev pub sides : Place → Option (ℕ × ℕ) → Result (ℕ × ℕ) MapFault
sides place None = Err (BadField place)
sides place (Some size) =
    if is_side size.0 && is_side size.1 then Ok size else Err (BadField place)

abbrev pub size_in : Option Field → Result (ℕ × ℕ) MapFault
size_in None = Err (BadField no_place)
size_in (Some f) = sides f.place (cell_of f.value)

-- The size of a map: its field `Size`.
unfoldable pub size_of : Trees → Result (ℕ × ℕ) MapFault
size_of top = size_in (field (codes "Size") top)

abbrev pub cash_within : Place → Option ℕ → Result ℕ MapFault
cash_within place None = Err (BadField place)
cash_within place (Some cash) = if nat_le cash MAX_CASH then Ok cash else Err (BadField place)

abbrev pub cash_in : Option Field → Result ℕ MapFault
cash_in None = Ok BARE_CASH
cash_in (Some f) = cash_within f.place (number_of f.value)

-- The cash of each client at the start: its field `Cash`, or `BARE_CASH` without it.
unfoldable pub cash_of : Trees → Result ℕ MapFault
cash_of top = cash_in (field (codes "Cash") top)
