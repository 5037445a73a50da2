-- A map that is read keeps what a map keeps for its rules.
use Rattle.std.proofs.Common.{◌≡◌, ℕ, ◌≤◌, nat_le, ◌&&◌, true, List, subst, Option, Some, None, Result, Ok, Err, arith, codes}
use Rattle.std.proofs.lemmas.Bool.Decides.{nat_tests}
use Rattle.std.proofs.lemmas.List.Elements.{All-weaker}
use Rattle.std.specs.Result.{IfOk}
use Rattle.base.specs.Numbers.{number_of}
use Rattle.base.specs.Steps.{◌>>=◌}
use Rattle.rule_traits.specs.declared.kind.Kind.{Kind}
use Rattle.rule_values.specs.Cells.{cell_of}
use Rattle.yaml_lines.specs.declared.place.Place.{Place}
use Rattle.yaml_lines.specs.Trees.{Trees}
use Rattle.game_model.specs.Grid.{Grid}
use Rattle.game_model.specs.ValidMap.{IsMapFor, IsStartFor}
use Rattle.game_model.specs.declared.limits.TheConstants.{MAX_CASH, MAX_SIDE}
use Rattle.game_model.specs.declared.map.Map.{Map}
use Rattle.game_model.specs.declared.map.Start.{Start}
use Rattle.game_model.specs.declared.terrain.Terrain.{Terrain}
use Rattle.map_grid.specs.declared.fault.MapFault.{MapFault}
use Rattle.map_grid.specs.declared.fault.MapFault.TheVariants.{BadField}
use Rattle.map_grid.specs.Fields.{Field, field, is_side, sides, size_in, size_of, cash_within, cash_in, cash_of}
use Rattle.map_grid.specs.MapOf.{map_of, map_sized}
use Rattle.map_grid.specs.Rows.{tiles_of, ore_grid}
use Rattle.map_grid.specs.Starts.{starts_of}
use Rattle.map_grid.proofs.OutcomeLemmas.{checked, followed}
use Rattle.map_grid.proofs.RowLemmas.{Kept, Anything, IsLittle, tiles_keep, ore_keeps}
use Rattle.map_grid.proofs.StartLemmas.{IsStart, AreStarts, starts_keep}

record AreSides (size : ℕ × ℕ) : Type 0 where
  least_width : 1 ≤ size.0
  most_width : size.0 ≤ MAX_SIDE
  least_height : 1 ≤ size.1
  most_height : size.1 ≤ MAX_SIDE

are_sides : (w h : ℕ) → (is_side w && is_side h) ≡ true → AreSides (w, h)
are_sides w h t =
    record { least_width = grind (arith, nat_tests); most_width = grind (arith, nat_tests); least_height = grind (arith, nat_tests); most_height = grind (arith, nat_tests) }

sides_keep : (place : Place) (o : Option (ℕ × ℕ)) → IfOk (sides place o) AreSides
sides_keep place None = tt
sides_keep place (Some size) = checked AreSides (is_side size.0 && is_side size.1) size (BadField place) (λ t. are_sides size.0 size.1 t)

size_found : (f : Option Field) → IfOk (size_in f) AreSides
size_found None = tt
size_found (Some f) = sides_keep f.place (cell_of f.value)

size_keeps : (top : Trees) → IfOk (size_of top) AreSides
unfolding size_of
size_keeps top = size_found (field (codes "Size") top)

abbrev IsCash : ℕ → Type 0
IsCash n = n ≤ MAX_CASH

within_keeps : (place : Place) (o : Option ℕ) → IfOk (cash_within place o) IsCash
within_keeps place None = tt
within_keeps place (Some n) = checked IsCash (nat_le n MAX_CASH) n (BadField place) (λ t. let most : n ≤ MAX_CASH = grind (arith, nat_tests) in most)

cash_found : (f : Option Field) → IfOk (cash_in f) IsCash
cash_found None = omega arith
cash_found (Some f) = within_keeps f.place (number_of f.value)

cash_keeps : (top : Trees) → IfOk (cash_of top) IsCash
unfolding cash_of
cash_keeps top = cash_found (field (codes "Cash") top)

abbrev made : (w h : ℕ) → ℕ → Grid Terrain → Grid ℕ → List Start → Map
made w h cash terrain ore starts = record { width = w; height = h; terrain = terrain; ore = ore; starts = starts; cash = cash }

made_valid : (kinds : List Kind) (w h cash : ℕ) (terrain : Grid Terrain) (ore : Grid ℕ) (starts : List Start) → AreSides (w, h) → IsCash cash → Kept w h Anything terrain → Kept w h IsLittle ore → AreStarts kinds w h starts → IsMapFor kinds (made w h cash terrain ore starts)
made_valid kinds w h cash terrain ore starts size c t o a =
    record {
      least_width = size.least_width;
      most_width = size.most_width;
      least_height = size.least_height;
      most_height = size.most_height;
      terrain = record { width = t.width; height = t.height };
      whole_terrain = record { cells = rw (t.width, t.height) t.cells };
      ore = record { size = record { width = o.width; height = o.height }; whole = record { cells = rw (o.width, o.height) o.cells }; most = o.each };
      count = a.count;
      starts = All-weaker (IsStart kinds w h) (IsStartFor kinds (made w h cash terrain ore starts)) (λ s is. record { kind = is.kind; owner = is.owner; cell = is.cell; facing = is.facing }) starts a.starts;
      apart = a.apart;
      cash = c;
    }

sized_valid : (kinds : List Kind) (top : Trees) (w h : ℕ) → AreSides (w, h) → IfOk (map_sized kinds top w h) (IsMapFor kinds)
unfolding map_sized
sized_valid kinds top w h size =
    let P = IsMapFor kinds in
    followed IsCash P (cash_of top)
    (λ cash. tiles_of w h top >>= λ terrain. ore_grid w h top >>= λ ore. starts_of kinds w h top >>= λ starts. Ok (made w h cash terrain ore starts))
    (cash_keeps top) (λ cash c.
    followed (Kept w h Anything) P (tiles_of w h top)
    (λ terrain. ore_grid w h top >>= λ ore. starts_of kinds w h top >>= λ starts. Ok (made w h cash terrain ore starts))
    (tiles_keep w h top) (λ terrain t.
    followed (Kept w h IsLittle) P (ore_grid w h top)
    (λ ore. starts_of kinds w h top >>= λ starts. Ok (made w h cash terrain ore starts))
    (ore_keeps w h top) (λ ore o.
    followed (AreStarts kinds w h) P (starts_of kinds w h top)
    (λ starts. Ok (made w h cash terrain ore starts))
    (starts_keep kinds w h top) (λ starts a. made_valid kinds w h cash terrain ore starts size c t o a))))

map_valid : (kinds : List Kind) (top : Trees) → IfOk (map_of kinds top) (IsMapFor kinds)
unfolding map_of
map_valid kinds top =
    followed AreSides (IsMapFor kinds) (size_of top) (λ size. map_sized kinds top size.0 size.1) (size_keeps top)
    (λ size s. sized_valid kinds top size.0 size.1 s)

-- What the definition gives is valid.
pub valid_told : (kinds : List Kind) (top : Trees) (outcome : Result Map MapFault) → IfOk outcome (λ map. map_of kinds top ≡ Ok map) → IfOk outcome (IsMapFor kinds)
valid_told kinds top (Ok map) told = subst (λ o. IfOk o (IsMapFor kinds)) told (map_valid kinds top)
valid_told kinds top (Err fault) told = tt
