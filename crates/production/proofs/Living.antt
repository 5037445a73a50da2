-- The living actors of a kind.
use Rattle.std.proofs.Common.{◌≡◌, ℕ, suc, ◌<◌, ◌==◌, ◌&&◌, Bool, true, false, cond, List, []}
use Rattle.std.proofs.Common.{◌∷◌, length, get_or, Some, None, is_some, refl, sym, ap, ◌∙◌, arith}
use Rattle.std.specs.List.{list_any}
use Rattle.game_model.specs.declared.actor.Actor.{Actor}
use Rattle.game_model.proofs.FoundLemmas.{IdsRise}
use Rattle.game_model.proofs.LivingLemmas.{found_at, living_found}
use Rattle.game_model.specs.World.{is_alive, living_of}
use Rattle.game_tick.specs.Orders.{has_kind}
use Rattle.actor_table.specs.Kinds.{is_of, listed_of}
use Rattle.actor_table.specs.declared.listed.Listed.{Listed}

lives_at : (actors : List Actor) (i : ℕ) (d : Actor) → IdsRise actors → i < length actors → is_some (living_of actors (get_or actors i d).id) ≡ is_alive (get_or actors i d)
lives_at actors i d rise within =
    ap is_some (living_found actors (get_or actors i d).id (get_or actors i d) rise (sym (found_at actors i d rise within))) ∙ some_if (is_alive (get_or actors i d)) (get_or actors i d)
  where
    some_if : (b : Bool) (a : Actor) → is_some (cond b (Some a) None) ≡ b
    some_if true a = refl
    some_if false a = refl

any_of_kind : (test : ℕ → Bool) (actors : List Actor) (client kind : ℕ) → ((i : ℕ) (d : Actor) → i < length actors → test (get_or actors i d).id ≡ is_alive (get_or actors i d)) → list_any (λ (e : Listed). test e.id) (listed_of actors client kind) ≡ has_kind actors client kind
any_of_kind test [] client kind lives = refl
any_of_kind test (a ∷ actors) client kind lives = cases (any_of_kind test actors client kind (λ i d within. lives (suc i) d (omega arith))) (is_of client kind a) refl (is_alive a) refl
  where
    first : test a.id ≡ is_alive a
    first = lives 0 a (omega arith)

    joined : (x o k : Bool) → ((x && o) && k) ≡ (x && (o && k))
    joined true o k = refl
    joined false o k = refl

    cases : list_any (λ (e : Listed). test e.id) (listed_of actors client kind) ≡ has_kind actors client kind → (of : Bool) → is_of client kind a ≡ of → (alive : Bool) → is_alive a ≡ alive → list_any (λ (e : Listed). test e.id) (listed_of (a ∷ actors) client kind) ≡ has_kind (a ∷ actors) client kind
    cases rest true is_one true lives = rw (joined (is_alive a) (a.body.owner == client) (a.kind == kind), is_one, first, lives) refl
    cases rest true is_one false dead = rw (joined (is_alive a) (a.body.owner == client) (a.kind == kind), is_one, first, dead) rest
    cases rest false is_none true lives = rw (joined (is_alive a) (a.body.owner == client) (a.kind == kind), is_none, lives) rest
    cases rest false is_none false dead = rw (joined (is_alive a) (a.body.owner == client) (a.kind == kind), is_none, dead) rest

-- some actor of an owner and a kind lives exactly where the owner has one
pub any_living : (actors : List Actor) (client kind : ℕ) → IdsRise actors → list_any (λ (e : Listed). is_some (living_of actors e.id)) (listed_of actors client kind) ≡ has_kind actors client kind
any_living actors client kind rise =
    any_of_kind (λ id. is_some (living_of actors id)) actors client kind (λ i d within. lives_at actors i d rise within)
