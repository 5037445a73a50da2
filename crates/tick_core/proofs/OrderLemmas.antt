-- An order changes at most the actor to which it is given, and leaves kinds and cells.
use Rattle.std.proofs.Common.{◌≡◌, ℕ, ◌+◌, Bool, true, false, List, [], ◌∷◌, map, Option, Some, None, inl, inr, refl, sym, ap, ap₂, subst, ◌∙◌}
use Rattle.std.specs.Prelude.{◌==◌, if◌then◌else◌, is_some, ◌⊎◌, ◌&&◌, ◌||◌, ◌*◌, ◌-◌, slice_get, slice_set}
use Rattle.std.specs.List.{range_with_len}
use Rattle.std.proofs.lemmas.Bool.{cond-true}
use Rattle.std.proofs.lemmas.Bool.Decides.{eqb_tells}
use Rattle.std.proofs.lemmas.Option.{get_or_from_slice_get}
use Rattle.twister.specs.Place.{Place}
use Rattle.world_units.specs.declared.cell.CPos.{CPos}
use Rattle.world_units.specs.Cells.{same_cell}
use Rattle.rule_traits.specs.declared.kind.Kind.{Kind}
use Rattle.game_orders.specs.declared.order.Order.{Order}
use Rattle.game_orders.specs.declared.order.Order.TheVariants.{Move, Attack, Harvest, Stop, Produce, Cancel, Donate, Pace}
use Rattle.game_model.specs.declared.actor.Actor.{Actor}
use Rattle.game_model.specs.declared.builds.Build.{Build}
use Rattle.game_model.specs.declared.world.World.{World}
use Rattle.game_model.specs.ActorChanges.{changed_at}
use Rattle.game_model.specs.Buildings.{has_building, is_building}
use Rattle.game_model.specs.Grid.{Grid}
use Rattle.game_model.specs.Setup.{Setup}
use Rattle.game_model.specs.World.{living_of}
use Rattle.game_model.specs.Kinds.{kind_of}
use Rattle.game_tick.proofs.ChangesLemmas.{id_of_living}
use Rattle.game_tick.specs.Nearest.{cell_of}
use Rattle.game_tick.specs.Orders.{Doing, Goods, after_donation, after_order, attacking, cancelled, changed_if, donation_fits, goods_of, harvesting, last_of, moving, own_of, pace_fits, produce_fits, produced, stopping, with_cancel, with_produce}
use Rattle.game_tick.proofs.OrdersLemmas.{order_valid}
use Rattle.game_tick.proofs.OwnActorLemmas.{owned_living}
use Rattle.game_tick.specs.Turn.{blocks_of, dice_of}
use Rattle.game_tick.proofs.TurnLemmas.{mid_from_valid}
use Rattle.actor_table.specs.Table.{Table}
use Rattle.grid_routes.specs.Routing.{Routing}
use Rattle.sync_hash.specs.declared.actor_number.ActorNumber.{ActorNumber}
use Rattle.sync_hash.specs.Kept.{Kept, numbered}
use Rattle.tick_core.specs.Ordered.{IsChange, IsReady, KeepsShape, subject_of}
use Rattle.tick_core.specs.Scene.{IsScene}
use Rattle.tick_core.specs.Touched.{KeptBut, SameBut, is_among}
use Rattle.tick_core.specs.Telling.{IsKeptButIf, IsKeptIf, IsToldIf, with_some}
use Rattle.tick_core.proofs.ChoiceLemmas.{by_if}
use Rattle.tick_core.proofs.SceneLemmas.{same_sight, scene_with}
use Rattle.tick_core.proofs.TouchedLemmas.{kept_from, same_all, same_changed, same_grows}

own_id :
    (actors : List Actor) (client id : ℕ) (a : Actor) → own_of actors client id ≡ Some a → a.id ≡ id
own_id actors client id a found =
    id_of_living actors id a (owned_living client (living_of actors id) a found).0

change_of :
    (actors : List Actor) (client id : ℕ) (a : Actor) (f : Actor → Actor) → own_of actors client id ≡ Some a →
    KeepsShape f → IsChange (Some id) actors (changed_at actors a.id f)
change_of actors client id a f found keeps =
    inr (f, keeps, ap (λ i. changed_at actors i f) (own_id actors client id a found))

doing_change :
    (rules : List Kind) (actors : List Actor) (doing : Doing) (client id : ℕ) (found : Option Actor) →
    own_of actors client id ≡ found → KeepsShape doing.change →
    IsChange (Some id) actors (changed_if rules actors doing found)
doing_change rules actors doing client id None found keeps = inl refl
doing_change rules actors doing client id (Some a) found keeps =
    by_if (λ (l : List Actor). IsChange (Some id) actors l) (doing.fits (kind_of rules a.kind) a)
    (changed_at actors a.id doing.change) actors (change_of actors client id a doing.change found keeps) (inl refl)

abbrev OfGoods : ℕ → List Actor → Goods → Type 0
OfGoods id actors goods = IsChange (Some id) actors goods.actors

produce_change :
    (rules : List Kind) (goods : Goods) (client id number : ℕ) (found : Option Actor) →
    own_of goods.actors client id ≡ found →
    OfGoods id goods.actors (with_produce rules goods client number found)
produce_change rules goods client id number None found = inl refl
produce_change rules goods client id number (Some a) found =
    by_if (OfGoods id goods.actors) (produce_fits rules goods client number a)
    (produced rules goods client number a) goods
    (change_of goods.actors client id a _ found (λ x. (refl, refl, refl))) (inl refl)

cancelled_change :
    (rules : List Kind) (goods : Goods) (client id : ℕ) (a : Actor) (last : Option Build) →
    own_of goods.actors client id ≡ Some a → OfGoods id goods.actors (cancelled rules goods client a last)
cancelled_change rules goods client id a None found = inl refl
cancelled_change rules goods client id a (Some build) found =
    change_of goods.actors client id a _ found (λ x. (refl, refl, refl))

cancel_change :
    (rules : List Kind) (goods : Goods) (client id : ℕ) (found : Option Actor) →
    own_of goods.actors client id ≡ found → OfGoods id goods.actors (with_cancel rules goods client found)
cancel_change rules goods client id None found = inl refl
cancel_change rules goods client id (Some a) found =
    by_if (OfGoods id goods.actors) (is_some (kind_of rules a.kind).production)
    (cancelled rules goods client a (last_of a.body.builds)) goods
    (cancelled_change rules goods client id a (last_of a.body.builds) found) (inl refl)

-- An order changes at most the actor to which it is given.
pub order_change :
    (setup : Setup) (w : World) (client : ℕ) (order : Order) →
    IsChange (subject_of order) w.actors (after_order setup w client order).actors
order_change setup w client (Move actor cell queued) =
    doing_change setup.rules w.actors (moving setup cell queued) client actor (own_of w.actors client actor) refl (λ x. (refl, refl, refl))
order_change setup w client (Attack actor target queued) =
    doing_change setup.rules w.actors (attacking setup w.actors target queued) client actor (own_of w.actors client actor) refl (λ x. (refl, refl, refl))
order_change setup w client (Harvest actor cell queued) =
    doing_change setup.rules w.actors (harvesting setup cell queued) client actor (own_of w.actors client actor) refl (λ x. (refl, refl, refl))
order_change setup w client (Stop actor) =
    doing_change setup.rules w.actors stopping client actor (own_of w.actors client actor) refl (λ x. (refl, refl, refl))
order_change setup w client (Produce actor kind) =
    produce_change setup.rules (goods_of w) client actor kind (own_of w.actors client actor) refl
order_change setup w client (Cancel actor) =
    cancel_change setup.rules (goods_of w) client actor (own_of w.actors client actor) refl
order_change setup w client (Donate to amount) =
    by_if (λ (v : World). v.actors ≡ w.actors) (donation_fits w client to amount) (after_donation w client to amount) w refl refl
order_change setup w client (Pace ticks) =
    by_if (λ (v : World). v.actors ≡ w.actors) (pace_fits client ticks) (record w { pace = ticks }) w refl refl

-- The others are the same.
pub change_same :
    (subject : Option ℕ) (old new : List Actor) → IsChange subject old new →
    SameBut (with_some subject []) old new
change_same None old new is = subst (λ l. SameBut [] old l) (sym is) (same_all [] old)
change_same (Some id) old new (inl is) =
    subst (λ l. SameBut (id ∷ []) old l) (sym is) (same_all (id ∷ []) old)
change_same (Some id) old new (inr (f, keeps, is)) =
    subst (λ l. SameBut (id ∷ []) old l) (sym is) (same_changed (id ∷ []) old id f (first_among id) (λ x. (keeps x).0)) where
      first_among : (i : ℕ) → is_among (i ∷ []) i ≡ true
      first_among i = elim (eqb_tells i i) [
        | inl here ↦ rw here.0 refl
        | inr there ↦ absurd (there.1 refl)
      ]

-- The buildings stay.
building_changed :
    (rules : List Kind) (actors : List Actor) (id : ℕ) (f : Actor → Actor) (p : CPos) → KeepsShape f →
    has_building rules (changed_at actors id f) p ≡ has_building rules actors p
building_changed rules [] id f p keeps = refl
building_changed rules (a ∷ actors) id f p keeps =
    ap₂ (λ (b c : Bool). b || c)
    (by_if (λ (x : Actor). (is_building rules x && same_cell x.cell p) ≡ (is_building rules a && same_cell a.cell p)) (a.id == id) (f a) a
    (rw ((keeps a).1, (keeps a).2) refl) refl)
    (building_changed rules actors id f p keeps)

map_same :
    (f g : ℕ → Bool) (xs : List ℕ) → ((x : ℕ) → f x ≡ g x) → map f xs ≡ map g xs
map_same f g [] same = refl
map_same f g (x ∷ xs) same = ap₂ (λ (b : Bool) (bs : List Bool). b ∷ bs) (same x) (map_same f g xs same)

pub blocks_same :
    (setup : Setup) (old new : List Actor) →
    ((p : CPos) → has_building setup.rules new p ≡ has_building setup.rules old p) →
    blocks_of setup new ≡ blocks_of setup old
blocks_same setup old new same =
    let grid : List Bool → Grid Bool =
    λ cells. record { width = setup.map.width; height = setup.map.height; cells = cells } in
    ap grid
    (map_same (λ place. has_building setup.rules new (cell_of setup.map.width place))
    (λ place. has_building setup.rules old (cell_of setup.map.width place))
    (range_with_len 0 (setup.map.width * setup.map.height)) (λ place. same (cell_of setup.map.width place)))

pub change_blocks :
    (setup : Setup) (subject : Option ℕ) (old new : List Actor) → IsChange subject old new →
    blocks_of setup new ≡ blocks_of setup old
change_blocks setup None old new is = ap (blocks_of setup) is
change_blocks setup (Some id) old new (inl is) = ap (blocks_of setup) is
change_blocks setup (Some id) old new (inr (f, keeps, is)) =
    ap (blocks_of setup) is
    ∙ blocks_same setup old (changed_at old id f) (λ p. building_changed setup.rules old id f p keeps)

-- The dice stay.
pub order_dice :
    (setup : Setup) (w : World) (client : ℕ) (order : Order) → dice_of (after_order setup w client order) ≡ dice_of w
order_dice setup w client (Move actor cell queued) = refl
order_dice setup w client (Attack actor target queued) = refl
order_dice setup w client (Harvest actor cell queued) = refl
order_dice setup w client (Stop actor) = refl
order_dice setup w client (Produce actor kind) = refl
order_dice setup w client (Cancel actor) = refl
order_dice setup w client (Donate to amount) =
    by_if (λ (v : World). dice_of v ≡ dice_of w) (donation_fits w client to amount) (after_donation w client to amount) w refl refl
order_dice setup w client (Pace ticks) =
    by_if (λ (v : World). dice_of v ≡ dice_of w) (pace_fits client ticks) (record w { pace = ticks }) w refl refl

-- An order keeps what holds of the parts of a valid world.
pub order_scene :
    (setup : Setup) (w new : World) (table after : Table) (built : Grid Bool) (router : Routing) (dice : Place) (client : ℕ) (order : Order) →
    IsScene setup w table built router dice → IsReady setup w w → new ≡ after_order setup w client order →
    after.width ≡ table.width → after.height ≡ table.height → IsScene setup new after built router dice
order_scene setup w new table after built router dice client order is ready same wide high =
    let next : World = after_order setup w client order in
    subst (λ n. IsScene setup n after built router dice) (sym same)
    (scene_with setup 0 w.tick w.drawn w next table after built router router dice dice is
    (mid_from_valid setup 0 w.tick w.drawn next (order_valid setup 0 w.tick w.drawn w client order ready)) wide high (same_sight router)
    (change_blocks setup (subject_of order) w.actors next.actors (order_change setup w client order))
    (is.thrown ∙ sym (order_dice setup w client order)))

-- A donation that fits, by the cash that is read and written.
pub donation_is :
    (w : World) (client to amount left more : ℕ) (paid got : List ℕ) → donation_fits w client to amount ≡ true →
    slice_get w.cash client ≡ Some left → slice_get w.cash to ≡ Some more →
    paid ≡ slice_set w.cash client (left - amount) → got ≡ slice_set paid to (more + amount) →
    record w { cash = got } ≡ (if donation_fits w client to amount then after_donation w client to amount else w)
donation_is w client to amount left more paid got fits here there pays gets =
    let gives = pays ∙ ap (λ (n : ℕ). slice_set w.cash client (n - amount)) (sym (get_or_from_slice_get w.cash client left 0 here)) in
    let takes = gets ∙ ap₂ (λ (cash : List ℕ) (n : ℕ). slice_set cash to (n + amount)) gives (sym (get_or_from_slice_get w.cash to more 0 there)) in
    ap (λ (cash : List ℕ). record w { cash = cash }) takes ∙ sym (cond-true _ _ _ fits)

-- An order that fits, and one that does not.
pub order_is :
    (rules : List Kind) (actors : List Actor) (doing : Doing) (client id : ℕ) (a : Actor) →
    Some a ≡ own_of actors client id → doing.fits (kind_of rules a.kind) a ≡ true →
    changed_at actors id doing.change ≡ changed_if rules actors doing (own_of actors client id)
order_is rules actors doing client id a owned fits =
    rw (← owned) (rw fits (ap (λ i. changed_at actors i doing.change) (sym (own_id actors client id a (sym owned)))))

pub order_not :
    (rules : List Kind) (actors : List Actor) (doing : Doing) (client id : ℕ) (a : Actor) →
    Some a ≡ own_of actors client id → doing.fits (kind_of rules a.kind) a ≡ false →
    actors ≡ changed_if rules actors doing (own_of actors client id)
order_not rules actors doing client id a owned fits = rw (← owned) (rw fits refl)

-- The table with these actors.
abbrev pub with_actors : Table → List Actor → Table
with_actors t actors = record t { actors = actors }

-- The world after a deal.
abbrev pub with_deal : World → List Actor → List ℕ → World
with_deal w actors cash = record w { actors = actors; cash = cash }

-- After an order the numbers are right, but for the actor to which it was given.
pub order_told :
    (setup : Setup) (w : World) (client : ℕ) (order : Order) (kept : List ActorNumber) → kept ≡ map numbered w.actors →
    KeptBut (with_some (subject_of order) []) kept (after_order setup w client order).actors
order_told setup w client order kept is =
    let new : List Actor = (after_order setup w client order).actors in
    let ids : List ℕ = with_some (subject_of order) [] in
    subst (λ k. KeptBut ids k new) (sym is)
    (kept_from ids w.actors new (same_grows ids w.actors new (change_same (subject_of order) w.actors new (order_change setup w client order))))

pub order_told_if :
    (setup : Setup) (w : World) (client : ℕ) (order : Order) (kept : Option Kept) → IsKeptIf kept w.actors w.ore →
    IsKeptButIf (with_some (subject_of order) []) kept (after_order setup w client order).actors
order_told_if setup w client order None is = tt
order_told_if setup w client order (Some kept) is = order_told setup w client order kept.actors is.numbers

-- What is kept, if anything is, after it was told of actors, where the ore stays.
pub told_kept_if :
    (old new : Option Kept) (before after : List Actor) (ore now : Grid ℕ) → IsKeptIf old before ore → IsToldIf old new after →
    now ≡ ore → IsKeptIf new after now
told_kept_if None None before after ore now is told same = tt
told_kept_if None (Some new) before after ore now is told same = absurd told
told_kept_if (Some old) None before after ore now is told same = absurd told
told_kept_if (Some old) (Some new) before after ore now is told same =
    rw same (record {
      width = told.width ∙ is.width;
      height = told.height ∙ is.height;
      numbers = told.numbers;
      cells = told.cells ∙ is.cells;
    })
