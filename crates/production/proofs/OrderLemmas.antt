-- What orders to build make of the actors and the cash.
use Rattle.std.proofs.Common.{◌≡◌, ◌≢◌, ℕ, zero, suc, ◌-◌, true, List, [], ◌∷◌, ◌++◌, length, get_or, take, set, Some, is_some, slice_get, refl, sym, ap, ap₂, ◌∙◌, arith}
use Rattle.std.specs.List.{remove}
use Rattle.game_model.specs.declared.actor.Actor.{Actor}
use Rattle.game_model.specs.declared.builds.Build.{Build}
use Rattle.game_model.specs.ActorChanges.{changed_at}
use Rattle.game_model.specs.World.{actor_of}
use Rattle.game_tick.specs.Building.{with_builds}
use Rattle.game_tick.specs.Harvesting.{paid_to}
use Rattle.game_tick.specs.Orders.{Goods, own_of, produce_fits, with_produce, but_last, last_of, cancelled, with_cancel}
use Rattle.rule_traits.specs.declared.kind.Kind.{Kind}
use Rattle.rule_traits.specs.Rules.{cost_of}
use Rattle.game_model.specs.Kinds.{duration_in, kind_of}
use Rattle.game_model.proofs.FoundLemmas.{found_id}

remove_last : {T : Type 0} (n : ℕ) (xs : List T) → length xs ≡ suc n → remove xs n ≡ take n xs
remove_last n [] long = absurd (omega (arith, long))
remove_last zero (x ∷ []) long = refl
remove_last zero (x ∷ y ∷ xs) long = absurd (omega (arith, long))
remove_last (suc n) (x ∷ xs) long = ap (λ ys. x ∷ ys) (remove_last n xs (omega (arith, long)))

index_at : (xs : List ℕ) (i n : ℕ) → slice_get xs i ≡ Some n → get_or xs i 0 ≡ n
index_at [] i n at = absurd (cc)
index_at (x ∷ xs) zero n at = cc
index_at (x ∷ xs) (suc i) n at = index_at xs i n at

-- the last build is dropped
last_dropped : (rules : List Kind) (goods : Goods) (client : ℕ) (a : Actor) (builds : List Build) (last : Build) → slice_get builds (length builds - 1) ≡ Some last → cancelled rules goods client a (last_of builds) ≡ cancelled rules goods client a (Some last)
last_dropped rules goods client a builds last at = rw at refl

pub cancel_done : (rules : List Kind) (goods : Goods) (client id : ℕ) (a : Actor) (held builds : List Build) (last : Build) → Some a ≡ own_of goods.actors client id → Some a ≡ actor_of goods.actors id → is_some (kind_of rules a.kind).production ≡ true → held ≡ a.body.builds → held ≢ [] → slice_get held (length held - 1) ≡ Some last → builds ≡ remove held (length held - 1) → with_cancel rules goods client (own_of goods.actors client id) ≡ record { actors = changed_at goods.actors id (with_builds builds); cash = paid_to goods.cash client (cost_of (kind_of rules last.kind)) }
cancel_done rules goods client id a held builds last own found producer is_held some at made =
    let at' : last_of a.body.builds ≡ Some last = rw is_held at at in
    let made' : builds ≡ but_last a.body.builds = rw is_held at (made ∙ remove_last (length held - 1) held (counted held some)) in
    rw (← own, producer, at') (ap₂ (λ n (bs : List Build). record { actors = changed_at goods.actors n (with_builds bs); cash = paid_to goods.cash client (cost_of (kind_of rules last.kind)) }) (found_id goods.actors id a (sym found)) (sym made'))
  where
    counted : (xs : List Build) → xs ≢ [] → length xs ≡ suc (length xs - 1)
    counted [] some = absurd (some refl)
    counted (x ∷ xs) some = omega arith

pub produce_done : (rules : List Kind) (goods : Goods) (client number id left price cash : ℕ) (a : Actor) (held builds : List Build) → Some a ≡ own_of goods.actors client id → Some a ≡ actor_of goods.actors id → produce_fits rules goods client number a ≡ true → held ≡ a.body.builds → left ≡ duration_in (kind_of rules number).buildable → price ≡ cost_of (kind_of rules number) → slice_get goods.cash client ≡ Some cash → builds ≡ held ++ (record { kind = number; left = left }) ∷ [] → with_produce rules goods client number (own_of goods.actors client id) ≡ record { actors = changed_at goods.actors id (with_builds builds); cash = set goods.cash client (cash - price) }
produce_done rules goods client number id left price cash a held builds own found fits is_held is_left is_price at made =
    let made' : builds ≡ a.body.builds ++ (record { kind = number; left = duration_in (kind_of rules number).buildable }) ∷ [] = rw (is_held, is_left) at made in
    let paid : get_or goods.cash client 0 - cost_of (kind_of rules number) ≡ cash - price = ap₂ (λ x y. x - y) (index_at goods.cash client cash at) (sym is_price) in
    let changed : changed_at goods.actors a.id (with_builds (a.body.builds ++ (record { kind = number; left = duration_in (kind_of rules number).buildable }) ∷ [])) ≡ changed_at goods.actors id (with_builds builds) = ap₂ (λ n (bs : List Build). changed_at goods.actors n (with_builds bs)) (found_id goods.actors id a (sym found)) (sym made') in
    rw (← own, fits) (ap₂ (λ actors n. record { actors = actors; cash = set goods.cash client n }) changed paid)
