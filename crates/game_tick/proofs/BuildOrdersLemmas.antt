-- Proofs that orders to build keep a world valid.
use Rattle.std.specs.Prelude.{◌≡◌, ℕ, ◌-◌, ◌<◌, ◌≤◌, ◌&&◌, nat_lt, nat_le, Bool, true, false}
use Rattle.std.specs.Prelude.{if◌then◌else◌, List, [], ◌∷◌, ◌++◌, length, Option, Some, None}
use Rattle.std.specs.Prelude.{IsSomeAnd, is_some, refl, slice_index, slice_set}
use Rattle.std.specs.List.{All}
use Rattle.std.specs.Option.{unwrap_or}
use Rattle.std.proofs.Common.{inl, arith}
use Rattle.std.proofs.lemmas.Bool.{and_parts, ltb-true}
use Rattle.std.proofs.lemmas.List.{length-append, length-take}
use Rattle.std.proofs.lemmas.List.Elements.{All-push, All-take}
use Rattle.rule_traits.specs.declared.kind.Kind.{Kind}
use Rattle.rule_traits.specs.Rules.{builds, cost_of, kind_at}
use Rattle.rule_traits.specs.Typed.{plain_kind}
use Rattle.game_model.specs.declared.actor.Actor.{Actor}
use Rattle.game_model.specs.declared.builds.Build.{Build}
use Rattle.game_model.specs.declared.limits.TheConstants.{MAX_BUILDS}
use Rattle.game_model.specs.declared.world.World.{World}
use Rattle.game_model.specs.ActorChanges.{changed_at}
use Rattle.game_model.specs.Setup.{Setup}
use Rattle.game_model.specs.ValidWorld.{IsBuildOf, IsHealthy, IsUnderWay, IsWorldWithin}
use Rattle.game_model.specs.Kinds.{duration_in, is_unit, kind_of}
use Rattle.game_model.specs.World.{clients_of}
use Rattle.game_tick.specs.Building.{with_builds}
use Rattle.game_tick.specs.Harvesting.{paid_to}
use Rattle.game_tick.specs.Keeps.{KeepsCash}
use Rattle.game_tick.specs.Orders.{after_cancel, after_produce, but_last, cancelled, has_needs}
use Rattle.game_tick.specs.Orders.{last_of, own_of, produce_fits, produced, goods_of, with_goods}
use Rattle.game_tick.proofs.CashLemmas.{price_keeps, paid_keeps}
use Rattle.game_tick.proofs.ChangesLemmas.{changed}
use Rattle.game_tick.proofs.OwnActorLemmas.{Lives, own_lives, valid_with}
use Rattle.game_tick.proofs.SoundLemmas.{body_of, sound_builds}

-- Another list of builds, and other cash.
builds_valid :
    (setup : Setup) (least most draws : ℕ) (w : World) (a : Actor) (list : List Build)
    (cash : List ℕ) →
    Lives setup w a → KeepsCash w.cash cash → length list ≤ MAX_BUILDS →
    All (IsBuildOf setup.rules (kind_of setup.rules a.kind)) list →
    IsWorldWithin setup least most draws w →
    IsWorldWithin setup least most draws
    (record w { actors = changed_at w.actors a.id (with_builds list); cash = cash })
builds_valid setup least most draws w a list cash lives keeps count each valid =
    let after =
    changed setup (clients_of w) w.next_id (IsHealthy setup.rules) w.actors a (with_builds list)
    lives refl (inl refl)
    (sound_builds setup (clients_of w) w.next_id a list lives.sound count each) lives.fine in
    valid_with setup least most draws w (changed_at w.actors a.id (with_builds list)) cash valid
    keeps after.ready after.all

unit_there :
    (found : Option Kind) → is_unit (unwrap_or found (plain_kind [])) ≡ true →
    IsSomeAnd found (IsUnderWay (duration_in (unwrap_or found (plain_kind [])).buildable))
unit_there None unit = absurd cc
unit_there (Some kind) unit = record { unit = unit; rest = omega arith }

-- What it takes to produce.
pub record FitsProduce (setup : Setup) (number : ℕ) (a : Actor) : Type 0 where
  pub producer : is_some (kind_of setup.rules a.kind).production ≡ true
  pub unit : is_unit (kind_of setup.rules number) ≡ true
  pub room : length a.body.builds < MAX_BUILDS

produce_parts :
    (setup : Setup) (w : World) (client number : ℕ) (a : Actor) →
    produce_fits setup.rules (goods_of w) client number a ≡ true → FitsProduce setup number a
produce_parts setup w client number a fits =
    let product : Kind = kind_of setup.rules number in
    let p : Bool = is_some (kind_of setup.rules a.kind).production in
    let u : Bool = is_unit product in
    let b : Bool = builds setup.rules a.kind number in
    let n : Bool = has_needs w.actors client product in
    let l : Bool = nat_lt (length a.body.builds) MAX_BUILDS in
    let c : Bool = nat_le (cost_of product) (slice_index w.cash client) in
    let one = and_parts (p && u && b && n && l) c fits in
    let two = and_parts (p && u && b && n) l one.0 in
    let three = and_parts (p && u && b) n two.0 in
    let four = and_parts (p && u) b three.0 in
    let five = and_parts p u four.0 in
    record
    { producer = five.0; unit = five.1; room = ltb-true (length a.body.builds) MAX_BUILDS two.1 }

produced_by :
    (fits : Bool) (setup : Setup) (least most draws : ℕ) (w : World) (client number : ℕ)
    (a : Actor) →
    produce_fits setup.rules (goods_of w) client number a ≡ fits → Lives setup w a →
    IsWorldWithin setup least most draws w →
    IsWorldWithin setup least most draws
    (with_goods w (if fits then produced setup.rules (goods_of w) client number a else goods_of w))
produced_by true setup least most draws w client number a fits lives valid =
    let product : Kind = kind_of setup.rules number in
    let build : Build = record { kind = number; left = duration_in product.buildable } in
    let is = produce_parts setup w client number a fits in
    let body = body_of setup (clients_of w) w.next_id a lives.sound in
    builds_valid setup least most draws w a (a.body.builds ++ build ∷ [])
    (slice_set w.cash client (slice_index w.cash client - cost_of product)) lives
    (price_keeps w.cash client (cost_of product))
    (omega (arith, is.room, length-append a.body.builds (build ∷ [])))
    (All-push (IsBuildOf setup.rules (kind_of setup.rules a.kind)) a.body.builds build body.builds
    (record { producer = is.producer; product = unit_there (kind_at setup.rules number) is.unit }))
    valid
produced_by false setup least most draws w client number a fits lives valid = valid

pub produce_valid :
    (setup : Setup) (least most draws : ℕ) (w : World) (client id number : ℕ)
    (found : Option Actor) →
    own_of w.actors client id ≡ found → IsWorldWithin setup least most draws w →
    IsWorldWithin setup least most draws (after_produce setup w client number found)
produce_valid setup least most draws w client id number None found valid = valid
produce_valid setup least most draws w client id number (Some a) found valid =
    produced_by (produce_fits setup.rules (goods_of w) client number a) setup least most draws w
    client number a refl
    (own_lives setup least most draws w client id a valid found).0 valid

cancelled_valid :
    (setup : Setup) (least most draws : ℕ) (w : World) (client : ℕ) (a : Actor)
    (last : Option Build) →
    Lives setup w a → IsWorldWithin setup least most draws w →
    IsWorldWithin setup least most draws
    (with_goods w (cancelled setup.rules (goods_of w) client a last))
cancelled_valid setup least most draws w client a None lives valid = valid
cancelled_valid setup least most draws w client a (Some build) lives valid =
    let body = body_of setup (clients_of w) w.next_id a lives.sound in
    let cost : ℕ = cost_of (kind_of setup.rules build.kind) in
    builds_valid setup least most draws w a (but_last a.body.builds) (paid_to w.cash client cost)
    lives
    (paid_keeps w.cash client cost)
    (omega (arith, body.build_count, length-take (length a.body.builds - 1) a.body.builds))
    (All-take (IsBuildOf setup.rules (kind_of setup.rules a.kind)) (length a.body.builds - 1)
    a.body.builds body.builds)
    valid

cancel_by :
    (can : Bool) (setup : Setup) (least most draws : ℕ) (w : World) (client : ℕ) (a : Actor) →
    Lives setup w a → IsWorldWithin setup least most draws w →
    IsWorldWithin setup least most draws
    (with_goods w
    (if can then cancelled setup.rules (goods_of w) client a (last_of a.body.builds) else
    goods_of w))
cancel_by true setup least most draws w client a lives valid =
    cancelled_valid setup least most draws w client a (last_of a.body.builds) lives valid
cancel_by false setup least most draws w client a lives valid = valid

pub cancel_valid :
    (setup : Setup) (least most draws : ℕ) (w : World) (client id : ℕ) (found : Option Actor) →
    own_of w.actors client id ≡ found → IsWorldWithin setup least most draws w →
    IsWorldWithin setup least most draws (after_cancel setup w client found)
cancel_valid setup least most draws w client id None found valid = valid
cancel_valid setup least most draws w client id (Some a) found valid =
    cancel_by (is_some (kind_of setup.rules a.kind).production) setup least most draws w client a
    (own_lives setup least most draws w client id a valid found).0 valid
