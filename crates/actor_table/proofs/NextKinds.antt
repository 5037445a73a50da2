-- The actors of an owner and a kind as they are listed, and the kinds of an owner.
use Rattle.std.proofs.Common.{◌≡◌, ◌≢◌, ℕ, zero, suc, ◌+◌, ◌*◌, ◌<◌, ◌≤◌, ltb, true, false, List, [], ◌∷◌, length, map, get_or, Option, Some, None, inl, inr, refl, sym, subst, ap, ap₂, ◌∙◌, arith}
use Rattle.std.specs.List.{filter, AllByRecursion}
use Rattle.std.proofs.lemmas.Bool.Decides.{nat_tests}
use Rattle.game_model.specs.declared.actor.Actor.{Actor}
use Rattle.actor_table.specs.Kinds.{is_of, ids_of_kind, is_listed, ids_listed, listed_as, listed_of, rank_of, IsEntry, IsNextKind, IsNextListed, IsSortedIndex, ListsActors}
use Rattle.actor_table.specs.declared.listed.Listed.{Listed}
use Rattle.actor_table.proofs.Holders.{bool_cases}
use Rattle.std.proofs.lemmas.List.Elements.{recursion_from_All}
use Rattle.actor_table.proofs.KindCalls.{EndsAt, ltb_true, ltb_false}

-- an entry of an owner and a kind
abbrev named : (owner kind id : ℕ) → Listed
named owner kind id = record { owner = owner; kind = kind; id = id }

is_named : (owner kind : ℕ) (e : Listed) → is_listed owner kind e ≡ true → e ≡ named owner kind e.id
is_named owner kind e met =
    let owners : e.owner ≡ owner = grind (arith, nat_tests) in
    let kinds : e.kind ≡ kind = grind (arith, nat_tests) in
    let made : ℕ → ℕ → Listed = λ o k. named o k e.id in
    ap₂ made owners kinds

entries_named : (owner kind : ℕ) (entries : List Listed) → filter (is_listed owner kind) entries ≡ map (named owner kind) (ids_listed entries owner kind)
entries_named owner kind [] = refl
entries_named owner kind (e ∷ entries) = elim (bool_cases (is_listed owner kind e)) [
  | inl met ↦ rw met (ap₂ (λ (x : Listed) (xs : List Listed). x ∷ xs) (is_named owner kind e met) (entries_named owner kind entries))
  | inr fails ↦ rw fails (entries_named owner kind entries)
]

actors_named : (owner kind : ℕ) (actors : List Actor) → listed_of actors owner kind ≡ map (named owner kind) (ids_of_kind actors owner kind)
actors_named owner kind [] = refl
actors_named owner kind (a ∷ actors) = elim (bool_cases (is_of owner kind a)) [
  | inl met ↦ rw met (ap₂ (λ (x : Listed) (xs : List Listed). x ∷ xs) (is_named owner kind (listed_as a) met) (actors_named owner kind actors))
  | inr fails ↦ rw fails (actors_named owner kind actors)
]

pub entries_are_actors : (entries : List Listed) (actors : List Actor) (owner kind : ℕ) → ListsActors entries actors → filter (is_listed owner kind) entries ≡ listed_of actors owner kind
entries_are_actors entries actors owner kind lists =
    entries_named owner kind entries
    ∙ ap (map (named owner kind)) (lists.ids owner kind)
    ∙ sym (actors_named owner kind actors)

pub next_of_actors : (entries : List Listed) (actors : List Actor) (owner from : ℕ) (found : Option ℕ) → ListsActors entries actors → IsNextListed entries owner from found → IsNextKind actors owner from found
next_of_actors entries actors owner from (Some kind) lists next =
    (next.0, (λ none. next.1 (lists.ids owner kind ∙ none)), (λ k low high. sym (lists.ids owner k) ∙ next.2 k low high))
next_of_actors entries actors owner from None lists next = λ k low. sym (lists.ids owner k) ∙ next k low

-- no entry of these is listed
none_listed : (owner kind : ℕ) (xs : List Listed) → ((i : ℕ) (d : Listed) → i < length xs → is_listed owner kind (get_or xs i d) ≡ false) → ids_listed xs owner kind ≡ []
none_listed owner kind [] fails = refl
none_listed owner kind (x ∷ xs) fails =
    let first : is_listed owner kind x ≡ false = fails 0 x (omega arith) in
    rw first (none_listed owner kind xs (λ i d within. fails (suc i) d (omega arith)))

-- one that is listed
one_listed : (xs : List Listed) (i : ℕ) (d : Listed) → i < length xs → ids_listed xs (get_or xs i d).owner (get_or xs i d).kind ≢ []
one_listed [] i d within none = omega (arith, within)
one_listed (x ∷ xs) zero d within none = let met : is_listed x.owner x.kind x ≡ true = grind (arith, nat_tests) in let some = rw met at none in absurd (cc)
one_listed (x ∷ xs) (suc i) d within none = elim (bool_cases (is_listed (get_or xs i d).owner (get_or xs i d).kind x)) [
  | inl met ↦ (let some = rw met at none in absurd (cc))
  | inr fails ↦ one_listed xs i d (omega (arith, within)) (rw fails at none)
]

-- an entry below a rank, or from one on, is none of an owner and a kind
fields_listed : (owner kind : ℕ) (e : Listed) → is_listed owner kind e ≡ true → (e.owner ≡ owner) × (e.kind ≡ kind)
fields_listed owner kind e met = (grind (arith, nat_tests), grind (arith, nat_tests))

not_below : (owner from k : ℕ) (e : Listed) → from ≤ k → rank_of e < (owner * 65536 + from) * 4294967296 → is_listed owner k e ≡ false
not_below owner from k e low below = elim (bool_cases (is_listed owner k e)) [
  | inl met ↦ (let is = fields_listed owner k e met in absurd (omega (arith, is.0, is.1)))
  | inr fails ↦ fails
]

not_from : (owner k : ℕ) (e first : Listed) → k < first.kind → first.owner ≡ owner → IsEntry e → rank_of first ≤ rank_of e → is_listed owner k e ≡ false
not_from owner k e first below same fits above = elim (bool_cases (is_listed owner k e)) [
  | inl met ↦ (let is = fields_listed owner k e met in absurd (omega (arith, is.0, is.1, fits.id)))
  | inr fails ↦ fails
]

not_later : (owner k : ℕ) (e first : Listed) → owner < first.owner → IsEntry e → rank_of first ≤ rank_of e → is_listed owner k e ≡ false
not_later owner k e first above fits le = elim (bool_cases (is_listed owner k e)) [
  | inl met ↦ (let is = fields_listed owner k e met in absurd (omega (arith, is.0, is.1, fits.id, fits.kind)))
  | inr fails ↦ fails
]

fits_at : (xs : List Listed) (i : ℕ) (d : Listed) → AllByRecursion IsEntry xs → i < length xs → IsEntry (get_or xs i d)
fits_at [] i d fit within = absurd (omega arith)
fits_at (x ∷ xs) zero d fit within = fit.0
fits_at (x ∷ xs) (suc i) d fit within = fits_at xs i d fit.1 (omega arith)

pub at_place : (xs : List Listed) (i : ℕ) (e d : Listed) → i < length xs → e ≡ get_or xs i e → get_or xs i d ≡ e
at_place [] i e d within is = absurd (omega (arith, within))
at_place (x ∷ xs) zero e d within is = sym is
at_place (x ∷ xs) (suc i) e d within is = at_place xs i e d (omega (arith, within)) is

-- before the place, or from it on
by_place : (at i : ℕ) (P : Type 0) → (i < at → P) → (at ≤ i → P) → P
by_place at i P before after = elim (bool_cases (ltb i at)) [
  | inl met ↦ before (ltb_true i at met)
  | inr fails ↦ after (ltb_false i at fails)
]

abbrev pub EndsFrom : (owner from : ℕ) → List Listed → ℕ → Type 0
EndsFrom owner from entries at = EndsAt ((owner * 65536 + from) * 4294967296) entries at

pub next_found : (room : ℕ) (entries : List Listed) (owner from at : ℕ) (e : Listed) → IsSortedIndex room entries → EndsFrom owner from entries at → at < length entries → e ≡ get_or entries at e → e.owner ≡ owner → IsNextListed entries owner from (Some e.kind)
next_found room entries owner from at e held ends inside is same =
    (low, there, between)
  where
    fits : AllByRecursion IsEntry entries
    fits = recursion_from_All IsEntry entries held.fit

    above : (owner * 65536 + from) * 4294967296 ≤ rank_of e
    above = subst (λ (x : Listed). (owner * 65536 + from) * 4294967296 ≤ rank_of x) (sym is) (ends.after at e (omega arith) inside)

    low : from ≤ e.kind
    low = (let entry : IsEntry e = subst IsEntry (sym is) (fits_at entries at e fits inside) in omega (arith, above, same, entry.id))

    there : ids_listed entries owner e.kind ≢ []
    there none = one_listed entries at e inside (subst (λ (x : Listed). ids_listed entries x.owner x.kind ≡ []) is (rw same none))

    between : (k : ℕ) → from ≤ k → k < e.kind → ids_listed entries owner k ≡ []
    between k low high =
        none_listed owner k entries (λ i d within. by_place at i (is_listed owner k (get_or entries i d) ≡ false)
        (λ before. not_below owner from k (get_or entries i d) low (ends.before i d before within))
        (λ after. not_from owner k (get_or entries i d) e high same (fits_at entries i d fits within)
        (subst (λ (x : Listed). rank_of x ≤ rank_of (get_or entries i d)) (at_place entries at e d inside is) (held.sorted at i d after within))))

pub next_passed : (room : ℕ) (entries : List Listed) (owner from at : ℕ) (e : Listed) → IsSortedIndex room entries → EndsFrom owner from entries at → at < length entries → e ≡ get_or entries at e → e.owner ≢ owner → IsNextListed entries owner from None
next_passed room entries owner from at e held ends inside is other k low =
    none_listed owner k entries (λ i d within. by_place at i (is_listed owner k (get_or entries i d) ≡ false)
    (λ before. not_below owner from k (get_or entries i d) low (ends.before i d before within))
    (λ after. not_later owner k (get_or entries i d) e later (fits_at entries i d fits within)
    (subst (λ (x : Listed). rank_of x ≤ rank_of (get_or entries i d)) (at_place entries at e d inside is) (held.sorted at i d after within))))
  where
    fits : AllByRecursion IsEntry entries
    fits = recursion_from_All IsEntry entries held.fit

    above : (owner * 65536 + from) * 4294967296 ≤ rank_of e
    above = subst (λ (x : Listed). (owner * 65536 + from) * 4294967296 ≤ rank_of x) (sym is) (ends.after at e (omega arith) inside)

    later : owner < e.owner
    later = (let entry : IsEntry e = subst IsEntry (sym is) (fits_at entries at e fits inside) in omega (arith, above, other, entry.id, entry.kind))

pub next_ended : (entries : List Listed) (owner from at : ℕ) → EndsFrom owner from entries at → length entries ≤ at → IsNextListed entries owner from None
next_ended entries owner from at ends past k low =
    none_listed owner k entries (λ i d within. not_below owner from k (get_or entries i d) low (ends.before i d (omega arith) within))
