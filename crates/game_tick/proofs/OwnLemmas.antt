-- Proofs of what an order changes only.
use Rattle.std.specs.Prelude.{◌≡◌, ◌≢◌, ℕ, zero, suc, ◌+◌, ◌-◌, ◌==◌, nat_lt, Bool, true, false}
use Rattle.std.specs.Prelude.{if◌then◌else◌, List, [], ◌∷◌, ◌++◌, length, Option, Some, None}
use Rattle.std.specs.Prelude.{is_some, refl, slice_get, slice_index, slice_set, nat_le, ◌&&◌}
use Rattle.std.proofs.Common.{sym, ◌∙◌, ap, arith}
use Rattle.std.proofs.lemmas.Bool.{eqb-true, and_parts}
use Rattle.game_orders.specs.declared.order.Order.{Order}
use Rattle.game_orders.specs.declared.order.Order.TheVariants.{Move, Attack, Harvest, Stop, Produce}
use Rattle.game_orders.specs.declared.order.Order.TheVariants.{Cancel, Donate, Pace}
use Rattle.rule_traits.specs.Rules.{cost_of}
use Rattle.game_model.specs.declared.actor.Actor.{Actor}
use Rattle.game_model.specs.declared.builds.Build.{Build}
use Rattle.game_model.specs.declared.world.World.{World}
use Rattle.game_model.specs.declared.limits.TheConstants.{MAX_PACE}
use Rattle.game_model.specs.ActorChanges.{changed_at}
use Rattle.game_model.specs.Setup.{Setup}
use Rattle.game_model.specs.Kinds.{duration_in, kind_of}
use Rattle.game_model.specs.World.{ids_of, living_of}
use Rattle.game_model.proofs.StartLemmas.{all_at}
use Rattle.game_tick.specs.Building.{with_builds}
use Rattle.game_tick.specs.Harvesting.{paid_to}
use Rattle.game_tick.specs.Keeps.{ChangesOnlyOwn}
use Rattle.game_tick.specs.Orders.{Doing, after_cancel, after_order, after_produce, attacking}
use Rattle.game_tick.specs.Orders.{but_last, cancelled, changed_if, harvesting, last_of, moving}
use Rattle.game_tick.specs.Orders.{own_of, produce_fits, produced, stopping, goods_of, with_goods}
use Rattle.game_tick.specs.Orders.{donation_fits, pace_fits, after_donation}
use Rattle.game_tick.proofs.CashLemmas.{paid_others, price_keeps, paid_keeps, donated_keeps}
use Rattle.game_tick.proofs.CashLemmas.{others_stay}
use Rattle.game_tick.proofs.ChangesLemmas.{IsOnly, is_only}
use Rattle.game_model.proofs.FoundLemmas.{IdsRise}
use Rattle.game_tick.proofs.OwnActorLemmas.{owned_living}

id_kept :
    (here : Bool) (a c : Actor) (ids others : List ℕ) → c.id ≡ a.id → ids ≡ others →
    (if here then c else a).id ∷ ids ≡ a.id ∷ others
id_kept true a c ids others same rest =
    ap (λ (i : ℕ). i ∷ ids) same ∙ ap (λ (is : List ℕ). a.id ∷ is) rest
id_kept false a c ids others same rest = ap (λ (is : List ℕ). a.id ∷ is) rest

first_kept :
    (here : Bool) (a b : Actor) (id : ℕ) (change : Actor → Actor) → (a.id == id) ≡ here →
    Some a ≡ Some b → b.id ≢ id → Some (if here then change a else a) ≡ Some b
first_kept true a b id change is found other =
    let same : a ≡ b = grind arith in
    absurd (other (sym (ap (λ (e : Actor). e.id) same) ∙ eqb-true a.id id is))
first_kept false a b id change is found other = found

-- Ids stay, and so does each actor of another id.
ids_kept :
    (actors : List Actor) (id : ℕ) (change : Actor → Actor) → ((b : Actor) → (change b).id ≡ b.id) →
    ids_of (changed_at actors id change) ≡ ids_of actors
ids_kept [] id change same = refl
ids_kept (a ∷ actors) id change same =
    id_kept (a.id == id) a (change a) (ids_of (changed_at actors id change)) (ids_of actors)
    (same a) (ids_kept actors id change same)

pub other_kept :
    (actors : List Actor) (id : ℕ) (change : Actor → Actor) (k : ℕ) (b : Actor) →
    slice_get actors k ≡ Some b → b.id ≢ id → slice_get (changed_at actors id change) k ≡ Some b
other_kept [] id change k b found other = absurd cc
other_kept (a ∷ actors) id change zero b found other =
    first_kept (a.id == id) a b id change refl found other
other_kept (a ∷ actors) id change (suc k) b found other =
    other_kept actors id change k b found other

-- The client's own living actor may change, and cash of the client's own.
own_change :
    (client : ℕ) (order : Order) (w : World) (a : Actor) (change : Actor → Actor) (cash : List ℕ) →
    IsOnly w.actors a → a.body.owner ≡ client → ((b : Actor) → (change b).id ≡ b.id) →
    length cash ≡ length w.cash →
    ((c : ℕ) → c ≢ client → slice_index cash c ≡ slice_index w.cash c) →
    ChangesOnlyOwn client order w
    (record w { actors = changed_at w.actors a.id change; cash = cash })
own_change client order w a change cash only owner same count others =
    record {
      tick = refl;
      seed = refl;
      drawn = refl;
      next_id = refl;
      pace = λ guest. refl;
      clients = count;
      cash = λ c other gives. others c other;
      gone = refl;
      ids = ids_kept w.actors a.id change same;
      others =
          λ i b found other.
          other_kept w.actors a.id change i b found
          (λ is.
          let here : b ≡ a =
          all_at (λ (e : Actor). e.id ≡ a.id → e ≡ a) w.actors i b only found is in
          other (ap (λ (e : Actor). e.body.owner) here ∙ owner));
      ore = refl;
    }

nothing_changes : (client : ℕ) (order : Order) (w : World) → ChangesOnlyOwn client order w w
nothing_changes client order w =
    record {
      tick = refl;
      seed = refl;
      drawn = refl;
      next_id = refl;
      pace = λ guest. refl;
      clients = refl;
      cash = λ c other gives. refl;
      gone = refl;
      ids = refl;
      others = λ i a found other. found;
      ore = refl;
    }

own_only :
    (w : World) (client id : ℕ) (a : Actor) → IdsRise w.actors →
    own_of w.actors client id ≡ Some a →
    IsOnly w.actors a × (a.body.owner ≡ client)
own_only w client id a rise found =
    let (living, owner) = owned_living client (living_of w.actors id) a found in
    (is_only w.actors id a rise living, owner)

done_only :
    (fits : Bool) (client : ℕ) (order : Order) (w : World) (a : Actor) (doing : Doing) →
    IsOnly w.actors a → a.body.owner ≡ client → ((b : Actor) → (doing.change b).id ≡ b.id) →
    ChangesOnlyOwn client order w
    (record w { actors = if fits then changed_at w.actors a.id doing.change else w.actors })
done_only true client order w a doing only owner same =
    own_change client order w a doing.change w.cash only owner same refl (λ c other. refl)
done_only false client order w a doing only owner same = nothing_changes client order w

doing_only :
    (setup : Setup) (client id : ℕ) (order : Order) (w : World) (doing : Doing)
    (found : Option Actor) →
    own_of w.actors client id ≡ found → IdsRise w.actors →
    ((b : Actor) → (doing.change b).id ≡ b.id) →
    ChangesOnlyOwn client order w
    (record w { actors = changed_if setup.rules w.actors doing found })
doing_only setup client id order w doing None found rise same = nothing_changes client order w
doing_only setup client id order w doing (Some a) found rise same =
    let (only, owner) = own_only w client id a rise found in
    done_only (doing.fits (kind_of setup.rules a.kind) a) client order w a doing only owner same

produced_only :
    (fits : Bool) (setup : Setup) (order : Order) (w : World) (client number : ℕ) (a : Actor) →
    IsOnly w.actors a → a.body.owner ≡ client →
    ChangesOnlyOwn client order w
    (with_goods w (if fits then produced setup.rules (goods_of w) client number a else goods_of w))
produced_only true setup order w client number a only owner =
    let price : ℕ = cost_of (kind_of setup.rules number) in
    own_change client order w a
    (with_builds
    (a.body.builds ++ record
    { kind = number; left = duration_in (kind_of setup.rules number).buildable } ∷ []))
    (slice_set w.cash client (slice_index w.cash client - price)) only owner (λ b. refl)
    (price_keeps w.cash client price).clients
    (λ c other. others_stay w.cash client (slice_index w.cash client - price) c other)
produced_only false setup order w client number a only owner = nothing_changes client order w

produce_only :
    (setup : Setup) (order : Order) (w : World) (client id number : ℕ) (found : Option Actor) →
    own_of w.actors client id ≡ found → IdsRise w.actors →
    ChangesOnlyOwn client order w (after_produce setup w client number found)
produce_only setup order w client id number None found rise = nothing_changes client order w
produce_only setup order w client id number (Some a) found rise =
    let (only, owner) = own_only w client id a rise found in
    produced_only (produce_fits setup.rules (goods_of w) client number a) setup order w client
    number a only owner

cancelled_only :
    (setup : Setup) (order : Order) (w : World) (client : ℕ) (a : Actor) (last : Option Build) →
    IsOnly w.actors a → a.body.owner ≡ client →
    ChangesOnlyOwn client order w (with_goods w (cancelled setup.rules (goods_of w) client a last))
cancelled_only setup order w client a None only owner = nothing_changes client order w
cancelled_only setup order w client a (Some build) only owner =
    let cost : ℕ = cost_of (kind_of setup.rules build.kind) in
    own_change client order w a (with_builds (but_last a.body.builds)) (paid_to w.cash client cost)
    only owner (λ b. refl)
    (paid_keeps w.cash client cost).clients
    (λ c other. paid_others (nat_lt client (length w.cash)) w.cash client cost c other)

cancel_by_only :
    (can : Bool) (setup : Setup) (order : Order) (w : World) (client : ℕ) (a : Actor) →
    IsOnly w.actors a → a.body.owner ≡ client →
    ChangesOnlyOwn client order w
    (with_goods w
    (if can then cancelled setup.rules (goods_of w) client a (last_of a.body.builds) else
    goods_of w))
cancel_by_only true setup order w client a only owner =
    cancelled_only setup order w client a (last_of a.body.builds) only owner
cancel_by_only false setup order w client a only owner = nothing_changes client order w

cancel_only :
    (setup : Setup) (order : Order) (w : World) (client id : ℕ) (found : Option Actor) →
    own_of w.actors client id ≡ found → IdsRise w.actors →
    ChangesOnlyOwn client order w (after_cancel setup w client found)
cancel_only setup order w client id None found rise = nothing_changes client order w
cancel_only setup order w client id (Some a) found rise =
    let (only, owner) = own_only w client id a rise found in
    cancel_by_only (is_some (kind_of setup.rules a.kind).production) setup order w client a only
    owner

donation_only :
    (w : World) (client to amount : ℕ) → donation_fits w client to amount ≡ true →
    ChangesOnlyOwn client (Donate to amount) w (after_donation w client to amount)
donation_only w client to amount fits =
    let paid : List ℕ = slice_set w.cash client (slice_index w.cash client - amount) in
    record {
      tick = refl;
      seed = refl;
      drawn = refl;
      next_id = refl;
      pace = λ guest. refl;
      clients = (donated_keeps w client to amount fits).clients;
      cash =
          λ c other gives.
          others_stay paid to (slice_index w.cash to + amount) c
          (λ same. gives (ap Some (sym same)))
          ∙ others_stay w.cash client (slice_index w.cash client - amount) c other;
      gone = refl;
      ids = refl;
      others = λ i a found other. found;
      ore = refl;
    }

pace_only :
    (w : World) (client ticks : ℕ) → pace_fits client ticks ≡ true →
    ChangesOnlyOwn client (Pace ticks) w (record w { pace = ticks })
pace_only w client ticks fits =
    let high = and_parts ((client == 0) && nat_le 1 ticks) (nat_le ticks MAX_PACE) fits in
    let low = and_parts (client == 0) (nat_le 1 ticks) high.0 in
    record {
      tick = refl;
      seed = refl;
      drawn = refl;
      next_id = refl;
      pace = λ guest. absurd (guest (eqb-true client 0 low.0));
      clients = refl;
      cash = λ c other gives. refl;
      gone = refl;
      ids = refl;
      others = λ i a found other. found;
      ore = refl;
    }

either_only :
    (fits : Bool) (client : ℕ) (order : Order) (w v : World) →
    (fits ≡ true → ChangesOnlyOwn client order w v) →
    ChangesOnlyOwn client order w (if fits then v else w)
either_only true client order w v only = only refl
either_only false client order w v only = nothing_changes client order w

pub order_only :
    (setup : Setup) (w : World) (client : ℕ) (order : Order) → IdsRise w.actors →
    ChangesOnlyOwn client order w (after_order setup w client order)
order_only setup w client (Move actor cell queued) rise =
    doing_only setup client actor (Move actor cell queued) w (moving setup cell queued)
    (own_of w.actors client actor) refl rise (λ b. refl)
order_only setup w client (Attack actor target queued) rise =
    doing_only setup client actor (Attack actor target queued) w
    (attacking setup w.actors target queued) (own_of w.actors client actor) refl rise (λ b. refl)
order_only setup w client (Harvest actor cell queued) rise =
    doing_only setup client actor (Harvest actor cell queued) w (harvesting setup cell queued)
    (own_of w.actors client actor) refl rise (λ b. refl)
order_only setup w client (Stop actor) rise =
    doing_only setup client actor (Stop actor) w stopping (own_of w.actors client actor) refl rise
    (λ b. refl)
order_only setup w client (Produce actor kind) rise =
    produce_only setup (Produce actor kind) w client actor kind (own_of w.actors client actor) refl
    rise
order_only setup w client (Cancel actor) rise =
    cancel_only setup (Cancel actor) w client actor (own_of w.actors client actor) refl rise
order_only setup w client (Donate to amount) rise =
    either_only (donation_fits w client to amount) client (Donate to amount) w
    (after_donation w client to amount)
    (donation_only w client to amount)
order_only setup w client (Pace ticks) rise =
    either_only (pace_fits client ticks) client (Pace ticks) w (record w { pace = ticks })
    (pace_only w client ticks)
