-- Entries by owner and kind, after an entry more and one less, and the actors that they list.
use Rattle.std.proofs.Common.{◌≡◌, ℕ, zero, suc, ◌+◌, ◌<◌, ◌≤◌, eqb, Bool, true, false, not, ◌&&◌, cond, List, [], ◌∷◌, ◌++◌, length, take, drop, Option, Some, None, inl, inr, refl, sym, subst, ap, ◌∙◌, arith}
use Rattle.std.specs.List.{filter, insert, list_any, All, AllByRecursion}
use Rattle.std.specs.Option.{option_map}
use Rattle.std.proofs.lemmas.Bool.Decides.{eqb_tells, nat_tests}
use Rattle.std.proofs.lemmas.List.{length-append}
use Rattle.std.proofs.lemmas.Option.{some_pair_parts}
use Rattle.world_units.specs.declared.cell.CPos.{CPos}
use Rattle.std.proofs.lemmas.List.Elements.{recursion_from_All}
use Rattle.game_model.specs.declared.actor.Actor.{Actor}
use Rattle.game_model.specs.declared.actor.Body.{Body}
use Rattle.game_model.specs.World.{actor_of}
use Rattle.actor_table.specs.ActorList.{without_id}
use Rattle.game_model.specs.ActorChanges.{changed_at, with_body, moved_to}
use Rattle.actor_table.specs.Kinds.{is_of, owner_and_kind_of, ids_of_kind, is_listed, ids_listed, rank_of, id_inserted, GainsId, MovesId, ListsActors}
use Rattle.actor_table.specs.declared.listed.Listed.{Listed}
use Rattle.actor_table.proofs.Holders.{bool_cases, ActorsRise, rising_absent}
use Rattle.actor_table.proofs.Places.{without_absent, changed_absent}

-- both of two tests hold, or they fail together
listed_owner : (owner kind : ℕ) (e : Listed) → is_listed owner kind e ≡ true → (e.owner ≡ owner) × (e.kind ≡ kind)
listed_owner owner kind e met = (grind (arith, nat_tests), grind (arith, nat_tests))

-- two entries of one owner and kind: their ranks compare as their ids
ids_below : (owner kind : ℕ) (x e : Listed) → is_listed owner kind x ≡ true → is_listed owner kind e ≡ true → rank_of x < rank_of e → x.id < e.id
ids_below owner kind x e mx me lt =
    let fx = listed_owner owner kind x mx in
    let fe = listed_owner owner kind e me in
    omega (arith, fx.0, fx.1, fe.0, fe.1)

pub ids_not_below : (owner kind : ℕ) (x e : Listed) → is_listed owner kind x ≡ true → is_listed owner kind e ≡ true → rank_of e ≤ rank_of x → e.id ≤ x.id
ids_not_below owner kind x e mx me le =
    let fx = listed_owner owner kind x mx in
    let fe = listed_owner owner kind e me in
    omega (arith, fx.0, fx.1, fe.0, fe.1)

inserted_below : (id n : ℕ) (ids : List ℕ) → n < id → id_inserted id (n ∷ ids) ≡ n ∷ id_inserted id ids
inserted_below id n ids lt = grind (arith, nat_tests)

inserted_first : (id n : ℕ) (ids : List ℕ) → id ≤ n → id_inserted id (n ∷ ids) ≡ id ∷ n ∷ ids
inserted_first id n ids le = grind (arith, nat_tests)

-- an entry that ranks at most as all of a list goes first
front : (owner kind : ℕ) (e : Listed) (xs : List Listed) → is_listed owner kind e ≡ true → AllByRecursion (λ (x : Listed). rank_of e ≤ rank_of x) xs → id_inserted e.id (ids_listed xs owner kind) ≡ e.id ∷ ids_listed xs owner kind
front owner kind e [] me above = refl
front owner kind e (x ∷ xs) me above = elim (bool_cases (is_listed owner kind x)) [
  | inl met ↦ rw met (inserted_first e.id x.id (ids_listed xs owner kind) (ids_not_below owner kind x e met me above.0))
  | inr fails ↦ rw fails (front owner kind e xs me above.1)
]

-- the entries before a place rank below the new one, and those from it on do not
pub record IsRankGap (e : Listed) (xs : List Listed) (at : ℕ) : Type 0 where
  pub before : AllByRecursion (λ (x : Listed). rank_of x < rank_of e) (take at xs)
  pub after : AllByRecursion (λ (x : Listed). rank_of e ≤ rank_of x) (drop at xs)

pub ids_after_insert : (owner kind : ℕ) (e : Listed) (xs : List Listed) (at : ℕ) → IsRankGap e xs at → ids_listed (insert xs at e) owner kind ≡ cond (is_listed owner kind e) (id_inserted e.id (ids_listed xs owner kind)) (ids_listed xs owner kind)
ids_after_insert owner kind e xs zero gap = elim (bool_cases (is_listed owner kind e)) [
  | inl met ↦ rw met (sym (front owner kind e xs met gap.after))
  | inr fails ↦ rw fails refl
]
ids_after_insert owner kind e [] (suc at) gap = elim (bool_cases (is_listed owner kind e)) [
  | inl met ↦ rw met refl
  | inr fails ↦ rw fails refl
]
ids_after_insert owner kind e (x ∷ xs) (suc at) gap =
    let rest = ids_after_insert owner kind e xs at (record { before = gap.before.1; after = gap.after }) in
    elim (bool_cases (is_listed owner kind x)) [
      | inl mx ↦ elim (bool_cases (is_listed owner kind e)) [
        | inl me ↦ rw (mx, me) (ap (λ ids. x.id ∷ ids) (rest ∙ sum me) ∙ sym (inserted_below e.id x.id (ids_listed xs owner kind) (ids_below owner kind x e mx me gap.before.0)))
        | inr fe ↦ rw (mx, fe) (ap (λ ids. x.id ∷ ids) (rest ∙ none fe))
      ]
      | inr fx ↦ rw fx rest
    ]
  where
    sum : is_listed owner kind e ≡ true → cond (is_listed owner kind e) (id_inserted e.id (ids_listed xs owner kind)) (ids_listed xs owner kind) ≡ id_inserted e.id (ids_listed xs owner kind)
    sum met = rw met refl

    none : is_listed owner kind e ≡ false → cond (is_listed owner kind e) (id_inserted e.id (ids_listed xs owner kind)) (ids_listed xs owner kind) ≡ ids_listed xs owner kind
    none fails = rw fails refl

-- without one id
pub ids_after_remove : (owner kind id : ℕ) (xs : List Listed) → ids_listed (filter (λ (e : Listed). not (eqb e.id id)) xs) owner kind ≡ filter (λ n. not (eqb n id)) (ids_listed xs owner kind)
ids_after_remove owner kind id [] = refl
ids_after_remove owner kind id (x ∷ xs) =
    let rest = ids_after_remove owner kind id xs in
    elim (bool_cases (is_listed owner kind x)) [
      | inl mx ↦ elim (bool_cases (eqb x.id id)) [
        | inl hit ↦ rw (mx, hit) rest
        | inr miss ↦ rw (mx, miss, mx) (ap (λ ids. x.id ∷ ids) rest)
      ]
      | inr fx ↦ elim (bool_cases (eqb x.id id)) [
        | inl hit ↦ rw (fx, hit) rest
        | inr miss ↦ rw (fx, miss, fx) rest
      ]
    ]

pub kept_without : (owner kind id : ℕ) (actors : List Actor) → ids_of_kind (without_id actors id) owner kind ≡ filter (λ n. not (eqb n id)) (ids_of_kind actors owner kind)
kept_without owner kind id [] = refl
kept_without owner kind id (a ∷ actors) =
    let rest = kept_without owner kind id actors in
    elim (bool_cases (is_of owner kind a)) [
      | inl ma ↦ elim (bool_cases (eqb a.id id)) [
        | inl hit ↦ rw (ma, hit) rest
        | inr miss ↦ rw (ma, miss, ma) (ap (λ ids. a.id ∷ ids) rest)
      ]
      | inr fa ↦ elim (bool_cases (eqb a.id id)) [
        | inl hit ↦ rw (fa, hit) rest
        | inr miss ↦ rw (fa, miss, fa) rest
      ]
    ]

-- an actor more, whose id is above all
pub ids_push : (owner kind : ℕ) (actors : List Actor) (a : Actor) → AllByRecursion (λ (x : Actor). x.id < a.id) actors → ids_of_kind (actors ++ a ∷ []) owner kind ≡ cond (is_of owner kind a) (id_inserted a.id (ids_of_kind actors owner kind)) (ids_of_kind actors owner kind)
ids_push owner kind [] a above = elim (bool_cases (is_of owner kind a)) [
  | inl met ↦ rw met refl
  | inr fails ↦ rw fails refl
]
ids_push owner kind (b ∷ actors) a above =
    let rest = ids_push owner kind actors a above.1 in
    elim (bool_cases (is_of owner kind b)) [
      | inl mb ↦ elim (bool_cases (is_of owner kind a)) [
        | inl ma ↦ rw (mb, ma) (ap (λ ids. b.id ∷ ids) (rest ∙ some ma) ∙ sym (inserted_below a.id b.id (ids_of_kind actors owner kind) above.0))
        | inr fa ↦ rw (mb, fa) (ap (λ ids. b.id ∷ ids) (rest ∙ none fa))
      ]
      | inr fb ↦ rw fb rest
    ]
  where
    some : is_of owner kind a ≡ true → cond (is_of owner kind a) (id_inserted a.id (ids_of_kind actors owner kind)) (ids_of_kind actors owner kind) ≡ id_inserted a.id (ids_of_kind actors owner kind)
    some met = rw met refl

    none : is_of owner kind a ≡ false → cond (is_of owner kind a) (id_inserted a.id (ids_of_kind actors owner kind)) (ids_of_kind actors owner kind) ≡ ids_of_kind actors owner kind
    none fails = rw fails refl

-- one moved
pub ids_moved : (owner kind id : ℕ) (actors : List Actor) (to : CPos) → ids_of_kind (moved_to actors id to) owner kind ≡ ids_of_kind actors owner kind
ids_moved owner kind id [] to = refl
ids_moved owner kind id (a ∷ actors) to =
    let rest = ids_moved owner kind id actors to in
    elim (bool_cases (eqb a.id id)) [
      | inl hit ↦ rw hit (elim (bool_cases (is_of owner kind a)) [ inl ma ↦ rw ma (ap (λ ids. a.id ∷ ids) rest) | inr fa ↦ rw fa rest ])
      | inr miss ↦ rw miss (elim (bool_cases (is_of owner kind a)) [ inl ma ↦ rw ma (ap (λ ids. a.id ∷ ids) rest) | inr fa ↦ rw fa rest ])
    ]

-- later ids are all above
later_above : (owner kind id least : ℕ) (actors : List Actor) → id < least → ActorsRise least actors → (filter (λ n. not (eqb n id)) (ids_of_kind actors owner kind) ≡ ids_of_kind actors owner kind) × (id_inserted id (ids_of_kind actors owner kind) ≡ id ∷ ids_of_kind actors owner kind)
later_above owner kind id least [] lt rises = (refl, refl)
later_above owner kind id least (a ∷ actors) lt rises =
    let rest = later_above owner kind id (a.id + 1) actors (omega (arith, rises.0)) rises.1 in
    let other : eqb a.id id ≡ false = apart a.id id (omega (arith, rises.0)) in
    elim (bool_cases (is_of owner kind a)) [
      | inl ma ↦ rw ma (rw other (ap (λ ids. a.id ∷ ids) rest.0), inserted_first id a.id (ids_of_kind actors owner kind) (omega (arith, rises.0)))
      | inr fa ↦ rw fa rest
    ]
  where
    apart : (n m : ℕ) → m < n → eqb n m ≡ false
    apart n m lt = grind (arith, nat_tests)

-- another body: the actor leaves its list and enters that of the new owner
pub ids_body : (owner kind id least : ℕ) (actors : List Actor) (a : Actor) (body : Body) → ActorsRise least actors → actor_of actors id ≡ Some a → ids_of_kind (with_body actors id body) owner kind ≡ cond ((eqb body.owner owner) && (eqb a.kind kind)) (id_inserted id (filter (λ n. not (eqb n id)) (ids_of_kind actors owner kind))) (filter (λ n. not (eqb n id)) (ids_of_kind actors owner kind))
ids_body owner kind id least [] a body rises found = absurd (cc)
ids_body owner kind id least (b ∷ actors) a body rises found = elim (eqb_tells b.id id) [
  | inl hit ↦ here hit.0 hit.1 (some_here hit.0 found)
  | inr miss ↦ passed miss.0 (found_later (b.id + 1) actors id a rises.1 (rw miss.0 at found)) (ids_body owner kind id (b.id + 1) actors a body rises.1 (rw miss.0 at found))
]
  where
    ids : List ℕ
    ids = ids_of_kind actors owner kind

    left : List ℕ
    left = filter (λ n. not (eqb n id)) ids

    some_here : eqb b.id id ≡ true → cond (eqb b.id id) (Some b) (actor_of actors id) ≡ Some a → b ≡ a
    some_here met found = let some : Some b ≡ Some a = rw met at found in cc

    found_later : (least : ℕ) (xs : List Actor) (id : ℕ) (x : Actor) → ActorsRise least xs → actor_of xs id ≡ Some x → least ≤ id
    found_later least [] id x rises found = absurd (cc)
    found_later least (y ∷ xs) id x rises found = elim (eqb_tells y.id id) [
      | inl hit ↦ omega (arith, rises.0, hit.1)
      | inr miss ↦ omega (arith, rises.0, found_later (y.id + 1) xs id x rises.1 (rw miss.0 at found))
    ]

    here : eqb b.id id ≡ true → b.id ≡ id → b ≡ a → ids_of_kind (with_body (b ∷ actors) id body) owner kind ≡ cond ((eqb body.owner owner) && (eqb a.kind kind)) (id_inserted id (filter (λ n. not (eqb n id)) (ids_of_kind (b ∷ actors) owner kind))) (filter (λ n. not (eqb n id)) (ids_of_kind (b ∷ actors) owner kind))
    here met same is =
        let later = later_above owner kind id (b.id + 1) actors (omega arith) rises.1 in
        let tail : with_body actors id body ≡ actors = changed_absent actors id _ (rising_absent id (b.id + 1) actors (omega arith) rises.1) in
        let gone : filter (λ n. not (eqb n id)) (ids_of_kind (b ∷ actors) owner kind) ≡ ids = dropped (later.0) met in
        subst (λ (x : Actor). ids_of_kind (with_body (b ∷ actors) id body) owner kind ≡ cond ((eqb body.owner owner) && (eqb x.kind kind)) (id_inserted id (filter (λ n. not (eqb n id)) (ids_of_kind (b ∷ actors) owner kind))) (filter (λ n. not (eqb n id)) (ids_of_kind (b ∷ actors) owner kind))) is
        (rw (gone, met, tail) (elim (bool_cases ((eqb body.owner owner) && (eqb b.kind kind))) [
          | inl mb ↦ rw mb (ap (λ n. n ∷ ids) same ∙ sym later.1)
          | inr fb ↦ rw fb refl
        ]))
      where
        dropped : filter (λ n. not (eqb n id)) ids ≡ ids → eqb b.id id ≡ true → filter (λ n. not (eqb n id)) (ids_of_kind (b ∷ actors) owner kind) ≡ ids
        dropped later met = elim (bool_cases (is_of owner kind b)) [
          | inl mb ↦ rw (mb, met) later
          | inr fb ↦ rw fb later
        ]

    passed : eqb b.id id ≡ false → b.id + 1 ≤ id → ids_of_kind (with_body actors id body) owner kind ≡ cond ((eqb body.owner owner) && (eqb a.kind kind)) (id_inserted id left) left → ids_of_kind (with_body (b ∷ actors) id body) owner kind ≡ cond ((eqb body.owner owner) && (eqb a.kind kind)) (id_inserted id (filter (λ n. not (eqb n id)) (ids_of_kind (b ∷ actors) owner kind))) (filter (λ n. not (eqb n id)) (ids_of_kind (b ∷ actors) owner kind))
    passed miss below rest = rw miss (elim (bool_cases (is_of owner kind b)) [
      | inr fb ↦ rw fb rest
      | inl mb ↦ rw (mb, miss) (elim (bool_cases ((eqb body.owner owner) && (eqb a.kind kind))) [
        | inl mn ↦ rw mn (ap (λ ids. b.id ∷ ids) (rest ∙ taken mn) ∙ sym (inserted_below id b.id left (omega arith)))
        | inr fn ↦ rw fn (ap (λ ids. b.id ∷ ids) (rest ∙ passed_by fn))
      ])
    ])
      where
        taken : ((eqb body.owner owner) && (eqb a.kind kind)) ≡ true → cond ((eqb body.owner owner) && (eqb a.kind kind)) (id_inserted id left) left ≡ id_inserted id left
        taken mn = rw mn refl

        passed_by : ((eqb body.owner owner) && (eqb a.kind kind)) ≡ false → cond ((eqb body.owner owner) && (eqb a.kind kind)) (id_inserted id left) left ≡ left
        passed_by fn = rw fn refl

-- another body of the same owner changes no list
pub ids_same_owner : (owner kind id : ℕ) (actors : List Actor) (a : Actor) (body : Body) (least : ℕ) → ActorsRise least actors → actor_of actors id ≡ Some a → a.body.owner ≡ body.owner → ids_of_kind (with_body actors id body) owner kind ≡ ids_of_kind actors owner kind
ids_same_owner owner kind id [] a body least rises found same = absurd (cc)
ids_same_owner owner kind id (b ∷ actors) a body least rises found same = elim (eqb_tells b.id id) [
  | inl hit ↦ here hit.0 hit.1 (some_here hit.0 found)
  | inr miss ↦ rw miss.0 (elim (bool_cases (is_of owner kind b)) [
    | inl mb ↦ rw mb (ap (λ ids. b.id ∷ ids) (ids_same_owner owner kind id actors a body (b.id + 1) rises.1 (rw miss.0 at found) same))
    | inr fb ↦ rw fb (ids_same_owner owner kind id actors a body (b.id + 1) rises.1 (rw miss.0 at found) same)
  ])
]
  where
    some_here : eqb b.id id ≡ true → cond (eqb b.id id) (Some b) (actor_of actors id) ≡ Some a → b ≡ a
    some_here met found = let some : Some b ≡ Some a = rw met at found in cc

    here : eqb b.id id ≡ true → b.id ≡ id → b ≡ a → ids_of_kind (with_body (b ∷ actors) id body) owner kind ≡ ids_of_kind (b ∷ actors) owner kind
    here met named is =
        let tail : with_body actors id body ≡ actors = changed_absent actors id _ (rising_absent id (b.id + 1) actors (omega arith) rises.1) in
        let owned : body.owner ≡ b.body.owner = sym same ∙ ap (λ (x : Actor). x.body.owner) (sym is) in
        let tests : is_of owner kind (record b { body = body }) ≡ is_of owner kind b = ap (λ o. eqb o owner && eqb b.kind kind) owned in
        rw (met, tail, tests) (elim (bool_cases (is_of owner kind b)) [
          | inl mb ↦ rw mb refl
          | inr fb ↦ rw fb refl
        ])

-- an id that is listed is dropped by its removal
shorter : (test : Listed → Bool) (xs : List Listed) → length (filter test xs) ≤ length xs
shorter test [] = omega arith
shorter test (x ∷ xs) = elim (bool_cases (test x)) [
  | inl met ↦ rw met (omega (arith, shorter test xs))
  | inr fails ↦ rw fails (omega (arith, shorter test xs))
]

pub fewer : (id : ℕ) (xs : List Listed) → list_any (λ (e : Listed). eqb e.id id) xs ≡ true → length (filter (λ (e : Listed). not (eqb e.id id)) xs) + 1 ≤ length xs
fewer id [] there = absurd (cc)
fewer id (x ∷ xs) there = elim (bool_cases (eqb x.id id)) [
  | inl hit ↦ rw hit (omega (arith, shorter (λ (e : Listed). not (eqb e.id id)) xs))
  | inr miss ↦ rw miss (omega (arith, fewer id xs (rw miss at there)))
]

in_kind : (actors : List Actor) (id : ℕ) (a : Actor) → actor_of actors id ≡ Some a → list_any (λ n. eqb n id) (ids_of_kind actors a.body.owner a.kind) ≡ true
in_kind [] id a found = absurd (cc)
in_kind (b ∷ actors) id a found = elim (bool_cases (eqb b.id id)) [
  | inl hit ↦ subst (λ (x : Actor). list_any (λ n. eqb n id) (ids_of_kind (b ∷ actors) x.body.owner x.kind) ≡ true) (some_here hit found) (here hit)
  | inr miss ↦ later miss (in_kind actors id a (rw miss at found))
]
  where
    some_here : eqb b.id id ≡ true → cond (eqb b.id id) (Some b) (actor_of actors id) ≡ Some a → b ≡ a
    some_here met found = let some : Some b ≡ Some a = rw met at found in cc

    self_same : (n : ℕ) → eqb n n ≡ true
    self_same n = grind (arith, nat_tests)

    here : eqb b.id id ≡ true → list_any (λ n. eqb n id) (ids_of_kind (b ∷ actors) b.body.owner b.kind) ≡ true
    here hit = rw (self_same b.body.owner, self_same b.kind, hit) refl

    later : eqb b.id id ≡ false → list_any (λ n. eqb n id) (ids_of_kind actors a.body.owner a.kind) ≡ true → list_any (λ n. eqb n id) (ids_of_kind (b ∷ actors) a.body.owner a.kind) ≡ true
    later miss rest = elim (bool_cases (is_of a.body.owner a.kind b)) [
      | inl mb ↦ rw (mb, miss) rest
      | inr fb ↦ rw fb rest
    ]

in_list : (owner kind id : ℕ) (xs : List Listed) → list_any (λ n. eqb n id) (ids_listed xs owner kind) ≡ true → list_any (λ (e : Listed). eqb e.id id) xs ≡ true
in_list owner kind id [] there = absurd (cc)
in_list owner kind id (x ∷ xs) there = elim (bool_cases (eqb x.id id)) [
  | inl hit ↦ rw hit refl
  | inr miss ↦ rw miss (in_list owner kind id xs (rest miss there))
]
  where
    rest : eqb x.id id ≡ false → list_any (λ n. eqb n id) (ids_listed (x ∷ xs) owner kind) ≡ true → list_any (λ n. eqb n id) (ids_listed xs owner kind) ≡ true
    rest miss there = elim (bool_cases (is_listed owner kind x)) [
      | inl mx ↦ rw (mx, miss) at there
      | inr fx ↦ rw fx at there
    ]

-- an actor that is there is listed
pub is_in_index : (entries : List Listed) (actors : List Actor) (id : ℕ) (a : Actor) → ListsActors entries actors → actor_of actors id ≡ Some a → list_any (λ (e : Listed). eqb e.id id) entries ≡ true
is_in_index entries actors id a lists found =
    in_list a.body.owner a.kind id entries (rw lists.ids (in_kind actors id a found))

length_changed : (actors : List Actor) (id : ℕ) (change : Actor → Actor) → length (changed_at actors id change) ≡ length actors
length_changed [] id change = refl
length_changed (a ∷ actors) id change = ap suc (length_changed actors id change)

length_without : (least : ℕ) (actors : List Actor) (id : ℕ) (a : Actor) → ActorsRise least actors → actor_of actors id ≡ Some a → length (without_id actors id) + 1 ≡ length actors
length_without least [] id a rises found = absurd (cc)
length_without least (b ∷ actors) id a rises found = elim (eqb_tells b.id id) [
  | inl hit ↦ rw (hit.0, without_absent actors id (rising_absent id (b.id + 1) actors (omega (arith, hit.1)) rises.1)) (omega arith)
  | inr miss ↦ rw miss.0 (omega (arith, length_without (b.id + 1) actors id a rises.1 (rw miss.0 at found)))
]

-- the index after each call
pub lists_none : ListsActors [] []
lists_none = record { count = omega arith; ids = λ o k. refl }

pub lists_push : (old new : List Listed) (actors : List Actor) (a : Actor) → ListsActors old actors → All (λ (x : Actor). x.id < a.id) actors → length new ≡ length old + 1 → GainsId old new a.body.owner a.kind a.id → ListsActors new (actors ++ a ∷ [])
lists_push old new actors a lists above count gains =
    record {
      count = omega (arith, lists.count, length-append actors (a ∷ []));
      ids = λ o k. gains o k ∙ ap (λ ids. cond (is_of o k a) (id_inserted a.id ids) ids) (lists.ids o k) ∙ sym (ids_push o k actors a (recursion_from_All (λ (x : Actor). x.id < a.id) actors above));
    }

pub lists_without : (old : List Listed) (actors : List Actor) (id : ℕ) (a : Actor) → ListsActors old actors → ActorsRise 0 actors → actor_of actors id ≡ Some a → ListsActors (filter (λ (e : Listed). not (eqb e.id id)) old) (without_id actors id)
lists_without old actors id a lists rises found =
    let gone = fewer id old (is_in_index old actors id a lists found) in
    let left = length_without 0 actors id a rises found in
    record {
      count = omega (arith, lists.count);
      ids = λ o k. ids_after_remove o k id old ∙ ap (λ ids. filter (λ n. not (eqb n id)) ids) (lists.ids o k) ∙ sym (kept_without o k id actors);
    }

pub lists_moved : (old : List Listed) (actors : List Actor) (id : ℕ) (to : CPos) → ListsActors old actors → ListsActors old (moved_to actors id to)
lists_moved old actors id to lists =
    record {
      count = omega (arith, lists.count, length_changed actors id (λ (a : Actor). record a { cell = to }));
      ids = λ o k. lists.ids o k ∙ sym (ids_moved o k id actors to);
    }

-- the owner and the kind that were read
pub is_read : (o : Option Actor) (owner kind : ℕ) → option_map owner_and_kind_of o ≡ Some (owner, kind) → (a : Actor) × (o ≡ Some a) × (a.body.owner ≡ owner) × (a.kind ≡ kind)
is_read None owner kind read = absurd (cc)
is_read (Some a) owner kind read =
    let parts = some_pair_parts a.body.owner owner a.kind kind read in
    (a, refl, parts.0, parts.1)

pub lists_body : (old new : List Listed) (actors : List Actor) (id : ℕ) (body : Body) (owner kind : ℕ) → ListsActors old actors → ActorsRise 0 actors → option_map owner_and_kind_of (actor_of actors id) ≡ Some (owner, kind) → length new ≤ length old → MovesId old new owner body.owner kind id → ListsActors new (with_body actors id body)
lists_body old new actors id body owner kind lists rises read least moves =
    let a = is_read (actor_of actors id) owner kind read in
    record {
      count = omega (arith, lists.count, length_changed actors id (λ (a : Actor). record a { body = body }));
      ids = λ o k. moves o k ∙ after a.0 a.1 a.2 a.3 o k;
    }
  where
    after : (a : Actor) → actor_of actors id ≡ Some a → a.body.owner ≡ owner → a.kind ≡ kind → (o k : ℕ) → cond (eqb owner body.owner) (ids_listed old o k) (cond ((eqb body.owner o) && (eqb kind k)) (id_inserted id (filter (λ n. not (eqb n id)) (ids_listed old o k))) (filter (λ n. not (eqb n id)) (ids_listed old o k))) ≡ ids_of_kind (with_body actors id body) o k
    after a found owned kinded o k = elim (eqb_tells owner body.owner) [
      | inl hit ↦ rw (hit.0, lists.ids o k) (sym (ids_same_owner o k id actors a body 0 rises found (owned ∙ hit.1)))
      | inr miss ↦ rw (miss.0, lists.ids o k, ← kinded) (sym (ids_body o k id 0 actors a body rises found))
    ]
