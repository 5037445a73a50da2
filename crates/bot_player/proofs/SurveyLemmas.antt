-- What is found among all actors.
use Rattle.std.proofs.Common.{◌≡◌, ℕ, ◌<◌, eqb, Bool, false, ◌&&◌, ◌||◌, List, [], ◌∷◌, length, replicate, ap, ◌∙◌}
use Rattle.std.specs.Prelude.{fold}
use Rattle.std.proofs.lemmas.List.{get_or-replicate, length-replicate}
use Rattle.rule_traits.specs.declared.TheConstants.{MAX_KINDS}
use Rattle.game_model.specs.declared.actor.Actor.{Actor}
use Rattle.game_tick.specs.Orders.{has_kind}
use Rattle.bot_player.specs.BotOrders.{is_own}
use Rattle.bot_player.specs.KindFlags.{flag_of, no_flags}
use Rattle.bot_player.proofs.FlagLemmas.{flag_with, or_assoc, or_false, size_with}
use Rattle.bot_player.specs.Survey.{owned_of, owned_with}

owned_by_all :
    (c : ℕ) (owned : List Bool) (actors : List Actor) (k : ℕ) → length owned ≡ MAX_KINDS →
    k < MAX_KINDS →
    flag_of (fold (owned_with c) owned actors) k ≡ flag_of owned k || has_kind actors c k
owned_by_all c owned [] k size below = or_false (flag_of owned k)
owned_by_all c owned (a ∷ actors) k size below =
    owned_by_all c (owned_with c owned a) actors k (size_with owned a.kind (is_own c a) size) below
    ∙ ap (λ (x : Bool). x || has_kind actors c k) (flag_with owned a.kind k (is_own c a) size below)
    ∙ or_assoc (flag_of owned k) (is_own c a && eqb a.kind k) (has_kind actors c k)

-- The flags of the kinds that the client owns tell which it has.
pub owned_are :
    (actors : List Actor) (c k : ℕ) → k < MAX_KINDS →
    flag_of (owned_of c actors) k ≡ has_kind actors c k
owned_are actors c k below =
    owned_by_all c no_flags actors k (size_of MAX_KINDS) below
    ∙ ap (λ (x : Bool). x || has_kind actors c k) (get_or-replicate MAX_KINDS k false false below)
  where
    size_of : (n : ℕ) → length (replicate n false) ≡ n
    size_of n = length-replicate n false
