-- What the actors that are read keep.
use Rattle.std.proofs.Common.{◌≡◌, ◌≢◌, ℕ, zero, suc, ◌+◌, ◌<◌, ◌≤◌, ◌||◌, nat_lt, nat_le, Bool, true, false, cond, List, [], ◌∷◌, ◌++◌}
use Rattle.std.proofs.Common.{length, get_or, refl, Option, Some, None, Ok, arith, codes, inl, inr}
use Rattle.std.proofs.lemmas.Bool.Decides.{nat_tests}
use Rattle.std.proofs.lemmas.List.{length_push}
use Rattle.std.proofs.lemmas.List.Elements.{All-push, All-nil}
use Rattle.std.proofs.lemmas.List.Quantifiers.{all_pairs_push}
use Rattle.std.specs.List.{All, AllPairs, position_from}
use Rattle.std.specs.Option.{IfSome}
use Rattle.std.specs.Result.{IfOk}
use Rattle.std.specs.Str.{bytes_eq}
use Rattle.base.specs.Numbers.{number_of}
use Rattle.base.specs.Steps.{◌>>=◌}
use Rattle.rule_traits.specs.declared.kind.Kind.{Kind}
use Rattle.rule_traits.specs.Rules as rules
use Rattle.rule_values.specs.Cells.{cell_of}
use Rattle.yaml_lines.specs.declared.place.Place.{Place}
use Rattle.yaml_lines.specs.Trees.{Trees}
use Rattle.world_units.specs.declared.angle.TheConstants.{FULL_TURN}
use Rattle.world_units.specs.declared.cell.CPos.{CPos}
use Rattle.world_units.specs.Cells.{same_cell}
use Rattle.world_units.specs.CellEquality.{cell_decides}
use Rattle.game_orders.specs.declared.limits.TheConstants.{MAX_CLIENTS}
use Rattle.game_model.specs.Grid.{IsOn, is_on}
use Rattle.game_model.specs.ValidMap.{IsOwner}
use Rattle.game_model.specs.declared.limits.TheConstants.{MAX_ACTORS, NEUTRAL}
use Rattle.game_model.specs.declared.map.Start.{Start}
use Rattle.map_grid.specs.declared.fault.MapFault.TheVariants.{BadField, CellTaken, BadOwner, TooManyActors}
use Rattle.map_grid.specs.Fields.{Field, field, below}
use Rattle.map_grid.specs.Starts.{known_kind, kind_of, client_of, owner_in, owner_of, on_map, location_in, location_of}
use Rattle.map_grid.specs.Starts.{within_turn, facing_in, facing_of, start_of, has_cell, joined, start_taken, starts_of}
use Rattle.map_grid.proofs.OutcomeLemmas.{either, checked, unless, followed, each_keeps}

first_or : (P Q : ℕ → Type 0) (test : Bool) (n : ℕ) (o : Option ℕ) → Q n → IfSome o P → ((k : ℕ) → P k → Q k) → IfSome (cond test (Some n) o) Q
first_or P Q true n o here there weaker = here
first_or P Q false n (Some k) here there weaker = weaker k there
first_or P Q false n None here there weaker = tt

position_within : {K : Type 0} (test : K → Bool) (n : ℕ) (xs : List K) → IfSome (position_from test n xs) (λ k. k < n + length xs)
position_within test n [] = tt
position_within test n (x ∷ xs) =
    first_or (λ k. k < (n + 1) + length xs) (λ k. k < n + length (x ∷ xs)) (test x) n (position_from test (n + 1) xs) (omega arith) (position_within test (n + 1) xs) (λ k h. omega (arith, h))

from_zero : (n : ℕ) (o : Option ℕ) → IfSome o (λ k. k < 0 + n) → IfSome o (λ k. k < n)
from_zero n None h = tt
from_zero n (Some k) h = omega (arith, h)

known_keeps : (P : ℕ → Type 0) (place : Place) (o : Option ℕ) → IfSome o P → IfOk (known_kind place o) P
known_keeps P place None h = tt
known_keeps P place (Some k) h = h

kind_keeps : (kinds : List Kind) (name : List ℕ) (place : Place) → IfOk (kind_of kinds name place) (λ k. k < length kinds)
unfolding kind_of
kind_keeps kinds name place =
    known_keeps (λ k. k < length kinds) place (rules.number_named kinds name)
    (from_zero (length kinds) (rules.number_named kinds name) (position_within (λ (kind : Kind). bytes_eq kind.name name) 0 kinds))

client_keeps : (place : Place) (o : Option ℕ) → IfOk (client_of place o) (IsOwner MAX_CLIENTS)
client_keeps place None = tt
client_keeps place (Some n) =
    checked (IsOwner MAX_CLIENTS) (nat_lt n MAX_CLIENTS) n (BadOwner place) (λ t. let less : n < MAX_CLIENTS = grind (arith, nat_tests) in inl less)

owner_found : (f : Option Field) → IfOk (owner_in f) (IsOwner MAX_CLIENTS)
owner_found None = inr refl
owner_found (Some f) =
    either (IsOwner MAX_CLIENTS) (bytes_eq f.value (codes "Neutral")) (Ok NEUTRAL) (client_of f.place (number_of f.value))
    (inr refl) (client_keeps f.place (number_of f.value))

owner_keeps : (fields : Trees) → IfOk (owner_of fields) (IsOwner MAX_CLIENTS)
unfolding owner_of
owner_keeps fields = owner_found (field (codes "Owner") fields)

is_on-on : (w h : ℕ) (p : CPos) → is_on w h p ≡ true → IsOn w h p
is_on-on w h p on = record { column = grind (arith, nat_tests); row = grind (arith, nat_tests) }

on_map_keeps : (w h : ℕ) (place : Place) (o : Option (ℕ × ℕ)) → IfOk (on_map w h place o) (IsOn w h)
on_map_keeps w h place None = tt
on_map_keeps w h place (Some at) =
    let p : CPos = record { x = at.0; y = at.1 } in
    checked (IsOn w h) (is_on w h p) p (BadField place) (λ t. is_on-on w h p t)

location_found : (w h : ℕ) (place : Place) (f : Option Field) → IfOk (location_in w h place f) (IsOn w h)
location_found w h place None = tt
location_found w h place (Some f) = on_map_keeps w h f.place (cell_of f.value)

location_keeps : (w h : ℕ) (place : Place) (fields : Trees) → IfOk (location_of w h place fields) (IsOn w h)
unfolding location_of
location_keeps w h place fields = location_found w h place (field (codes "Location") fields)

abbrev IsFacing : ℕ → Type 0
IsFacing n = n < FULL_TURN

turn_keeps : (place : Place) (o : Option ℕ) → IfOk (within_turn place o) IsFacing
turn_keeps place None = tt
turn_keeps place (Some n) =
    checked IsFacing (nat_lt n FULL_TURN) n (BadField place) (λ t. let less : n < FULL_TURN = grind (arith, nat_tests) in less)

facing_found : (f : Option Field) → IfOk (facing_in f) IsFacing
facing_found None = omega arith
facing_found (Some f) = turn_keeps f.place (number_of f.value)

facing_keeps : (fields : Trees) → IfOk (facing_of fields) IsFacing
unfolding facing_of
facing_keeps fields = facing_found (field (codes "Facing") fields)

-- An actor that is read, on a map of this size.
pub record IsStart (kinds : List Kind) (w h : ℕ) (s : Start) : Type 0 where
  pub kind : s.kind < length kinds
  pub owner : IsOwner MAX_CLIENTS s.owner
  pub cell : IsOn w h s.cell
  pub facing : s.facing < FULL_TURN

start_keeps : (kinds : List Kind) (w h : ℕ) (name : List ℕ) (place : Place) (fields : Trees) → IfOk (start_of kinds w h name place fields) (IsStart kinds w h)
unfolding start_of
start_keeps kinds w h name place fields =
    let P = IsStart kinds w h in
    followed (λ k. k < length kinds) P (kind_of kinds name place)
    (λ kind. owner_of fields >>= λ owner. location_of w h place fields >>= λ cell. facing_of fields >>= λ facing. Ok (record { kind = kind; owner = owner; cell = cell; facing = facing }))
    (kind_keeps kinds name place) (λ kind k.
    followed (IsOwner MAX_CLIENTS) P (owner_of fields)
    (λ owner. location_of w h place fields >>= λ cell. facing_of fields >>= λ facing. Ok (record { kind = kind; owner = owner; cell = cell; facing = facing }))
    (owner_keeps fields) (λ owner o.
    followed (IsOn w h) P (location_of w h place fields)
    (λ cell. facing_of fields >>= λ facing. Ok (record { kind = kind; owner = owner; cell = cell; facing = facing }))
    (location_keeps w h place fields) (λ cell c.
    followed IsFacing P (facing_of fields)
    (λ facing. Ok (record { kind = kind; owner = owner; cell = cell; facing = facing }))
    (facing_keeps fields) (λ facing f. record { kind = k; owner = o; cell = c; facing = f }))))

-- Actors that are read.
pub record AreStarts (kinds : List Kind) (w h : ℕ) (list : List Start) : Type 0 where
  pub count : length list ≤ MAX_ACTORS
  pub starts : All (IsStart kinds w h) list
  pub apart : AllPairs (λ (a b : Start). a.cell ≢ b.cell) list

neither : (a b : Bool) → (a || b) ≡ false → (a ≡ false) × (b ≡ false)
neither true b e = absurd (cc)
neither false b e = (refl, e)

none_has : (starts : List Start) (cell : CPos) → has_cell starts cell ≡ false → (k : ℕ) (d : Start) → k < length starts → (get_or starts k d).cell ≢ cell
none_has [] cell free k d h = absurd (omega (arith, h))
none_has (s ∷ rest) cell free zero d h = λ same.
    let no' : same_cell s.cell cell ≡ false = (neither (same_cell s.cell cell) (has_cell rest cell) free).0 in
    let yes' : same_cell s.cell cell ≡ true = (cell_decides s.cell cell).1 same in
    absurd (cc)
none_has (s ∷ rest) cell free (suc k) d h =
    none_has rest cell (neither (same_cell s.cell cell) (has_cell rest cell) free).1 k d (omega (arith, h))

joined_keeps : (kinds : List Kind) (w h : ℕ) (starts : List Start) (place : Place) (s : Start) → length starts < MAX_ACTORS → AreStarts kinds w h starts → IsStart kinds w h s → IfOk (joined starts place s) (AreStarts kinds w h)
joined_keeps kinds w h starts place s room are is =
    unless (AreStarts kinds w h) (has_cell starts s.cell) (CellTaken place) (Ok (starts ++ s ∷ [])) (λ free.
    record {
      count = omega (arith, room, length_push starts s);
      starts = All-push (IsStart kinds w h) starts s are.starts is;
      apart = all_pairs_push (λ (a b : Start). a.cell ≢ b.cell) starts s are.apart (none_has starts s.cell free);
    })

taken_keeps : (kinds : List Kind) (w h : ℕ) (starts : List Start) (key value : List ℕ) (place : Place) (fields : Trees) → AreStarts kinds w h starts → IfOk (start_taken kinds w h starts key value place fields) (AreStarts kinds w h)
unfolding start_taken
taken_keeps kinds w h starts key value place fields are =
    unless (AreStarts kinds w h) (nat_le MAX_ACTORS (length starts)) (TooManyActors place)
    (start_of kinds w h value place fields >>= λ start. joined starts place start) (λ t.
    let room : length starts < MAX_ACTORS = grind (arith, nat_tests) in
    followed (IsStart kinds w h) (AreStarts kinds w h) (start_of kinds w h value place fields) (λ start. joined starts place start)
    (start_keeps kinds w h value place fields) (λ s is. joined_keeps kinds w h starts place s room are is))

pub starts_keep : (kinds : List Kind) (w h : ℕ) (top : Trees) → IfOk (starts_of kinds w h top) (AreStarts kinds w h)
unfolding starts_of
starts_keep kinds w h top =
    each_keeps (AreStarts kinds w h) (start_taken kinds w h) (taken_keeps kinds w h) [] (below (field (codes "Actors") top))
    (record { count = omega arith; starts = All-nil (IsStart kinds w h); apart = λ i j d less within. absurd (omega (arith, within)) })
