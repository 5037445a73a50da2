use Rattle.std.proofs.Common.{cond, ap, subst, ◌∙◌, List, ℕ, length, Some}
use Rattle.std.specs.HashMap.{get}
use Rattle.std.specs.Prelude.{MatchOption}
use Rattle.std.specs.Str.{bytes_eq}
use Rattle.yaml_merge.specs.Slots.{IsFound}
use Rattle.yaml_merge.proofs.IndexSteps.{added_key}
use Rattle.yaml_merge.proofs.index.Index.add.Goals as goal

pub returns-in_ok-insert-in-Some-clause-added : goal.returns-in_ok-insert-in-Some-clause-added
returns-in_ok-insert-in-Some-clause-added c = λ slot k y.
    let slots = c.args.slots.now in
    let finds = subst (λ p. MatchOption p (Unit {0}) (λ held. (key : List ℕ) → IsFound key slots (get bytes_eq held.value key))) c.in-Some.is c.requires.finds in
    added_key slots slot c.args.key.now c.in_ok-copy-in-Some.field-0 (get bytes_eq c.in-Some.places.value) (get bytes_eq c.insert.new.self) k y c.requires.lacks (c.in_ok-copy-in-Some.ensures {u = tt})
    (λ q. (c.in_ok-insert-in-Some.ensures {u = tt}).updates.0 q ∙ ap (λ m. cond (bytes_eq c.in_ok-copy-in-Some.field-0 q) (Some (length slots)) (get bytes_eq m q)) c.deref_mut.ensures.value)
    finds

pub returns-in_ok-new-in-None-clause-added : goal.returns-in_ok-new-in-None-clause-added
returns-in_ok-new-in-None-clause-added c = λ slot k y.
    let slots = c.args.slots.now in
    added_key slots slot c.args.key.now c.in_ok-copy-in-None.field-0 (get bytes_eq c.in_ok-places-in-None.places) (get bytes_eq c.in_ok-new-in-None.field-0.value) k y c.requires.lacks
    (c.in_ok-copy-in-None.ensures {u = tt})
    (λ q. ap (λ m. get bytes_eq m q) (c.in_ok-new-in-None.ensures {u = tt}).ok ∙ (c.in_ok-insert-in-None.ensures {u = tt}).updates.0 q)
    (c.in_ok-places-in-None.ensures {u = tt})
