-- What an order's spelling reads as, whatever follows it.
use Rattle.std.specs.Prelude.{◌≡◌, ℕ, ◌<◌, ◌^◌, Bool, true, false, List, ◌++◌, Ok}
use Rattle.std.proofs.Common.{refl, ap, ◌∙◌, arith, append_assoc, length, ◌+◌}
use Rattle.world_units.specs.declared.cell.CPos.{CPos}
use Rattle.std.proofs.lemmas.List.{length-append}
use Rattle.wire_bytes.specs.Field.{field_bytes}
use Rattle.wire_bytes.proofs.FieldLemmas.{field_length}
use Rattle.wire_bytes.proofs.ReadLemmas.{written_is_read}
use Rattle.game_orders.specs.declared.order.Order.{Order}
use Rattle.game_orders.specs.declared.order.Order.TheVariants.{Move, Attack, Harvest, Stop}
use Rattle.game_orders.specs.declared.order.Order.TheVariants.{Produce, Cancel, Donate, Pace}
use Rattle.game_orders.specs.Order.{flag_number}
use Rattle.game_orders.specs.OrderBytes.{tag_of, way_bytes, fields_bytes, order_bytes, FitsOrder}
use Rattle.game_orders.specs.OrderReading.{flag_at, cell_at, way_at, attack_at, pair_at, single_at}
use Rattle.game_orders.specs.OrderReading.{fields_at, order_at}

flag_again : (flag : Bool) (rest : List ℕ) →
    flag_at (field_bytes 1 (flag_number flag) ++ rest) ≡ Ok (flag, rest)
unfolding flag_at
flag_again true rest = rw (written_is_read 1 1 rest (omega arith)) refl
flag_again false rest = rw (written_is_read 1 0 rest (omega arith)) refl

cell_again : (cell : CPos) (rest : List ℕ) → cell.x < 256 → cell.y < 256 →
    cell_at (field_bytes 1 cell.x ++ (field_bytes 1 cell.y ++ rest)) ≡ Ok (cell, rest)
unfolding cell_at
cell_again cell rest x_fits y_fits =
    rw (
      written_is_read 1 cell.x (field_bytes 1 cell.y ++ rest) x_fits,
      written_is_read 1 cell.y rest y_fits,
    ) refl

-- Parts in a row, and what follows them.
regroup_4 : (a b c d rest : List ℕ) →
    a ++ b ++ c ++ d ++ rest ≡ a ++ (b ++ (c ++ (d ++ rest)))
regroup_4 a b c d rest = simp append_assoc

regroup_3 : (a b c rest : List ℕ) → a ++ b ++ c ++ rest ≡ a ++ (b ++ (c ++ rest))
regroup_3 a b c rest = simp append_assoc

regroup_2 : (a b rest : List ℕ) → a ++ b ++ rest ≡ a ++ (b ++ rest)
regroup_2 a b rest = append_assoc a b rest

way_again :
    (order : ℕ → CPos → Bool → Order) (actor : ℕ) (cell : CPos) (queued : Bool) (rest : List ℕ) →
    actor < 2 ^ 32 → cell.x < 256 → cell.y < 256 →
    way_at order (way_bytes actor cell queued ++ rest) ≡ Ok (order actor cell queued, rest)
unfolding way_at
way_again order actor cell queued rest fits x_fits y_fits =
    let flag = field_bytes 1 (flag_number queued) in
    ap (way_at order)
    (regroup_4 (field_bytes 4 actor) (field_bytes 1 cell.x) (field_bytes 1 cell.y) flag rest)
    ∙ rw (
      written_is_read 4 actor
          (field_bytes 1 cell.x ++ (field_bytes 1 cell.y ++ (flag ++ rest))) fits,
      cell_again cell (flag ++ rest) x_fits y_fits,
      flag_again queued rest,
    ) refl

attack_again :
    (actor target : ℕ) (queued : Bool) (rest : List ℕ) → actor < 2 ^ 32 → target < 2 ^ 32 →
    attack_at (fields_bytes (Attack actor target queued) ++ rest)
    ≡ Ok (Attack actor target queued, rest)
unfolding attack_at
attack_again actor target queued rest fits target_fits =
    let flag = field_bytes 1 (flag_number queued) in
    ap attack_at (regroup_3 (field_bytes 4 actor) (field_bytes 4 target) flag rest)
    ∙ rw (
      written_is_read 4 actor (field_bytes 4 target ++ (flag ++ rest)) fits,
      written_is_read 4 target (flag ++ rest) target_fits,
      flag_again queued rest,
    ) refl

pair_again :
    (order : ℕ → ℕ → Order) (width next_width first second : ℕ) (rest : List ℕ) →
    first < 256 ^ width → second < 256 ^ next_width →
    pair_at order width next_width
    ((field_bytes width first ++ field_bytes next_width second) ++ rest)
    ≡ Ok (order first second, rest)
unfolding pair_at
pair_again order width next_width first second rest fits next_fits =
    ap (pair_at order width next_width)
    (regroup_2 (field_bytes width first) (field_bytes next_width second) rest)
    ∙ rw (
      written_is_read width first (field_bytes next_width second ++ rest) fits,
      written_is_read next_width second rest next_fits,
    ) refl

single_again :
    (order : ℕ → Order) (width number : ℕ) (rest : List ℕ) → number < 256 ^ width →
    single_at order width (field_bytes width number ++ rest) ≡ Ok (order number, rest)
unfolding single_at
single_again order width number rest fits =
    rw (written_is_read width number rest fits) refl

fields_again : (order : Order) (rest : List ℕ) → FitsOrder order →
    fields_at (tag_of order) (fields_bytes order ++ rest) ≡ Ok (order, rest)
unfolding fields_at
fields_again (Move actor cell queued) rest fits =
    way_again Move actor cell queued rest fits.0 fits.1 fits.2
fields_again (Attack actor target queued) rest fits =
    attack_again actor target queued rest fits.0 fits.1
fields_again (Harvest actor cell queued) rest fits =
    way_again Harvest actor cell queued rest fits.0 fits.1 fits.2
fields_again (Stop actor) rest fits = single_again Stop 4 actor rest fits
fields_again (Produce actor kind) rest fits =
    pair_again Produce 4 2 actor kind rest fits.0 fits.1
fields_again (Cancel actor) rest fits = single_again Cancel 4 actor rest fits
fields_again (Donate to amount) rest fits = pair_again Donate 1 4 to amount rest fits.0 fits.1
fields_again (Pace ticks) rest fits = single_again Pace 1 ticks rest fits

tag_fits : (order : Order) → tag_of order < 256 ^ 1
tag_fits (Move actor cell queued) = omega arith
tag_fits (Attack actor target queued) = omega arith
tag_fits (Harvest actor cell queued) = omega arith
tag_fits (Stop actor) = omega arith
tag_fits (Produce actor kind) = omega arith
tag_fits (Cancel actor) = omega arith
tag_fits (Donate to amount) = omega arith
tag_fits (Pace ticks) = omega arith

-- An order's spelling reads as the order, whatever follows it.
pub order_again : (order : Order) (rest : List ℕ) → FitsOrder order →
    order_at (order_bytes order ++ rest) ≡ Ok (order, rest)
unfolding order_at order_bytes
order_again order rest fits =
    ap order_at (regroup_2 (field_bytes 1 (tag_of order)) (fields_bytes order) rest)
    ∙ rw (written_is_read 1 (tag_of order) (fields_bytes order ++ rest) (tag_fits order))
    (fields_again order rest fits)

-- How many bytes an order's spelling has.
abbrev pub order_size : Order → ℕ
order_size (Move actor cell queued) = 8
order_size (Attack actor target queued) = 10
order_size (Harvest actor cell queued) = 8
order_size (Stop actor) = 5
order_size (Produce actor kind) = 7
order_size (Cancel actor) = 5
order_size (Donate to amount) = 6
order_size (Pace ticks) = 2

length_2 : (a b : List ℕ) → length (a ++ b) ≡ length a + length b
length_2 a b = length-append a b

length_3 : (a b c : List ℕ) → length (a ++ b ++ c) ≡ length a + length b + length c
length_3 a b c = length-append (a ++ b) c ∙ ap (λ (n : ℕ). n + length c) (length-append a b)

length_4 : (a b c d : List ℕ) →
    length (a ++ b ++ c ++ d) ≡ length a + length b + length c + length d
length_4 a b c d =
    length-append (a ++ b ++ c) d ∙ ap (λ (n : ℕ). n + length d) (length_3 a b c)

way_size : (actor : ℕ) (cell : CPos) (queued : Bool) → length (way_bytes actor cell queued) ≡ 7
way_size actor cell queued =
    length_4 (field_bytes 4 actor) (field_bytes 1 cell.x) (field_bytes 1 cell.y)
    (field_bytes 1 (flag_number queued))
    ∙ rw (
      field_length 4 actor,
      field_length 1 cell.x,
      field_length 1 cell.y,
      field_length 1 (flag_number queued),
    ) refl

fields_size : (order : Order) → length (fields_bytes order) + 1 ≡ order_size order
fields_size (Move actor cell queued) = rw (way_size actor cell queued) refl
fields_size (Attack actor target queued) =
    ap (λ (n : ℕ). n + 1) (length_3 (field_bytes 4 actor) (field_bytes 4 target)
    (field_bytes 1 (flag_number queued)))
    ∙ rw (field_length 4 actor, field_length 4 target, field_length 1 (flag_number queued)) refl
fields_size (Harvest actor cell queued) = rw (way_size actor cell queued) refl
fields_size (Stop actor) = rw (field_length 4 actor) refl
fields_size (Produce actor kind) =
    ap (λ (n : ℕ). n + 1) (length_2 (field_bytes 4 actor) (field_bytes 2 kind))
    ∙ rw (field_length 4 actor, field_length 2 kind) refl
fields_size (Cancel actor) = rw (field_length 4 actor) refl
fields_size (Donate to amount) =
    ap (λ (n : ℕ). n + 1) (length_2 (field_bytes 1 to) (field_bytes 4 amount))
    ∙ rw (field_length 1 to, field_length 4 amount) refl
fields_size (Pace ticks) = rw (field_length 1 ticks) refl

pub order_bytes_size : (order : Order) → length (order_bytes order) ≡ order_size order
unfolding order_bytes
order_bytes_size order =
    length_2 (field_bytes 1 (tag_of order)) (fields_bytes order)
    ∙ rw (field_length 1 (tag_of order)) (omega (arith, fields_size order))
