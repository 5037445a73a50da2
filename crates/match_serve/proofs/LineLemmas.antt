-- The lines of a console that is read byte by byte.
use Rattle.std.proofs.Common.{◌≡◌, ℕ, zero, suc, append_assoc, append-nil, length-append, ◌+◌, ◌/◌, ◌%◌, ◌<◌, ◌≤◌, Bool, true, false, cond, ltb, List, [], ◌∷◌, ◌++◌, length, take, drop, ◌^◌, ◌==◌, codes, Some, refl, sym, ap, ◌∙◌, map, ◌&&◌, ◌||◌, nat_eq, ◌⊎◌, inl, inr, ⊎_elim, subst, arith}
use Rattle.std.specs.List.{list_any, onto_first}
use Rattle.std.specs.Str.{bytes_eq}
use Rattle.std.specs.Fmt.{decimal}
use Rattle.std.proofs.lemmas.Bool.{false≢true}
use Rattle.std.proofs.lemmas.Bool.Decides.{Decides-eqb, Decides-ltb, not_from_Decides, same_from_decides}
use Rattle.std.specs.Int.Digits.{digits_of}
use Rattle.std.proofs.lemmas.Int.Digits.{digits_of_step}
use Rattle.std.proofs.lemmas.Fmt.{decimal_digit, decimal_injective, decimal-digits_of}
use Rattle.std.proofs.lemmas.Slice.Eq.{bytes_eq-Decides}
use Rattle.match_serve.specs.Console.{ends_line, lines_of, kick_line, kicks_client}
use Rattle.match_serve.specs.Watching.{names_client}

-- The number of a client as it is written.
one_digit : (n : ℕ) → 0 < n → n < 10 → digits_of 10 n ≡ n ∷ []
one_digit n least most =
    let high : n / 10 ≡ 0 = omega arith in
    let low : n % 10 ≡ n = omega arith in
    digits_of_step 10 n (omega arith) least
    ∙ ap (λ h. digits_of 10 h ++ (n % 10 ∷ [])) high ∙ ap (λ r. r ∷ []) low

pub two_digits : (c : ℕ) → 10 ≤ c → c < 100 → decimal c ≡ (48 + c / 10) ∷ (48 + c % 10) ∷ []
two_digits c least most =
    decimal-digits_of c (omega arith) (omega arith)
    ∙ ap (λ (ds : List ℕ). map (λ d. 48 + d) ds)
    (digits_of_step 10 c (omega arith) (omega arith)
    ∙ ap (λ (ds : List ℕ). ds ++ (c % 10 ∷ [])) (one_digit (c / 10) (omega arith) (omega arith)))

pub kick_one : (c : ℕ) → c < 10 → kick_line c ≡ 107 ∷ 105 ∷ 99 ∷ 107 ∷ 32 ∷ (48 + c) ∷ []
kick_one c low = ap (λ (n : List ℕ). codes "kick " ++ n) (decimal_digit c low)

pub kick_two : (c : ℕ) → 10 ≤ c → c < 100 → kick_line c ≡ 107 ∷ 105 ∷ 99 ∷ 107 ∷ 32 ∷ (48 + c / 10) ∷ (48 + c % 10) ∷ []
kick_two c least most = ap (λ (n : List ℕ). codes "kick " ++ n) (two_digits c least most)

-- A line kicks one client.
pub kicks_once : (c d : ℕ) (line : List ℕ) → c < 2 ^ 64 → d < 2 ^ 64 → kicks_client c line ≡ true → kicks_client d line ≡ true → c ≡ d
kicks_once c d line small low first second =
    decimal_injective c d small low
    (cancel (decimal c) (decimal d) (sym ((bytes_eq-Decides line (kick_line c)).0 first) ∙ (bytes_eq-Decides line (kick_line d)).0 second))
  where
    cancel : (a b : List ℕ) → codes "kick " ++ a ≡ codes "kick " ++ b → a ≡ b
    cancel a b same = ap (λ (l : List ℕ). drop 5 l) same

-- The line kicks the client that is named, and no other.
pub names_it : (c : ℕ) (line : List ℕ) → c < 2 ^ 64 → kicks_client c line ≡ true → (d : ℕ) → d < 2 ^ 64 → kicks_client d line ≡ names_client d (Some c)
names_it c line small kicks d low =
    same_from_decides (kicks_client d line) (c == d)
    (λ more. kicks_once c d line small low kicks more, λ same. subst (λ e. kicks_client e line ≡ true) same kicks)
    (Decides-eqb c d)

-- Lines that grow at their end.
parts_some : (xs : List ℕ) → (l : List ℕ) × (ls : List (List ℕ)) × (lines_of xs ≡ l ∷ ls)
parts_some [] = ([], [], refl)
parts_some (x ∷ xs) = by_end (ends_line x) (parts_some xs)
  where
    by_end : (b : Bool) → ((l : List ℕ) × (ls : List (List ℕ)) × (lines_of xs ≡ l ∷ ls)) → (l : List ℕ) × (ls : List (List ℕ)) × (cond b ([] ∷ lines_of xs) (onto_first x (lines_of xs)) ≡ l ∷ ls)
    by_end true some = ([], lines_of xs, refl)
    by_end false (l, ls, is) = (x ∷ l, ls, ap (onto_first x) is)

-- The last part with a byte more.
abbrev longer_last : ℕ → List (List ℕ) → List (List ℕ)
longer_last b [] = []
longer_last b (l ∷ []) = (l ++ (b ∷ [])) ∷ []
longer_last b (l ∷ m ∷ ls) = l ∷ longer_last b (m ∷ ls)

longer_under : (b : ℕ) (l : List ℕ) (parts : List (List ℕ)) (m : List ℕ) (ls : List (List ℕ)) → parts ≡ m ∷ ls → longer_last b (l ∷ parts) ≡ l ∷ longer_last b parts
longer_under b l parts m ls is = subst (λ k. longer_last b (l ∷ k) ≡ l ∷ longer_last b k) (sym is) refl

longer_onto_some : (b x : ℕ) (m : List ℕ) (ls : List (List ℕ)) → longer_last b (onto_first x (m ∷ ls)) ≡ onto_first x (longer_last b (m ∷ ls))
longer_onto_some b x m [] = refl
longer_onto_some b x m (n ∷ ls) = refl

longer_onto : (b x : ℕ) (parts : List (List ℕ)) (m : List ℕ) (ls : List (List ℕ)) → parts ≡ m ∷ ls → longer_last b (onto_first x parts) ≡ onto_first x (longer_last b parts)
longer_onto b x parts m ls is = subst (λ k. longer_last b (onto_first x k) ≡ onto_first x (longer_last b k)) (sym is) (longer_onto_some b x m ls)

longer_at : (b : ℕ) (ended : List (List ℕ)) (last : List ℕ) → longer_last b (ended ++ last ∷ []) ≡ ended ++ (last ++ b ∷ []) ∷ []
longer_at b [] last = refl
longer_at b (l ∷ []) last = refl
longer_at b (l ∷ m ∷ ended) last = ap (λ k. l ∷ k) (longer_at b (m ∷ ended) last)

lines_longer : (xs : List ℕ) (b : ℕ) → ends_line b ≡ false → lines_of (xs ++ b ∷ []) ≡ longer_last b (lines_of xs)
lines_longer [] b goes = ap (λ e. cond e ([] ∷ [] ∷ []) ((b ∷ []) ∷ [])) goes
lines_longer (x ∷ xs) b goes = by_end (ends_line x) (parts_some xs) (lines_longer xs b goes)
  where
    by_end : (e : Bool) → ((l : List ℕ) × (ls : List (List ℕ)) × (lines_of xs ≡ l ∷ ls)) → lines_of (xs ++ b ∷ []) ≡ longer_last b (lines_of xs) →
        cond e ([] ∷ lines_of (xs ++ b ∷ [])) (onto_first x (lines_of (xs ++ b ∷ []))) ≡ longer_last b (cond e ([] ∷ lines_of xs) (onto_first x (lines_of xs)))
    by_end true (l, ls, is) more = ap (λ k. [] ∷ k) more ∙ sym (longer_under b [] (lines_of xs) l ls is)
    by_end false (l, ls, is) more = ap (onto_first x) more ∙ sym (longer_onto b x (lines_of xs) l ls is)

onto_append : (x : ℕ) (parts : List (List ℕ)) (m : List ℕ) (ls more : List (List ℕ)) → parts ≡ m ∷ ls → onto_first x (parts ++ more) ≡ onto_first x parts ++ more
onto_append x parts m ls more is = subst (λ k. onto_first x (k ++ more) ≡ onto_first x k ++ more) (sym is) refl

pub lines_ended : (xs : List ℕ) (b : ℕ) → ends_line b ≡ true → lines_of (xs ++ b ∷ []) ≡ lines_of xs ++ [] ∷ []
lines_ended [] b ends = ap (λ e. cond e ([] ∷ [] ∷ []) ((b ∷ []) ∷ [])) ends
lines_ended (x ∷ xs) b ends = by_end (ends_line x) (parts_some xs) (lines_ended xs b ends)
  where
    by_end : (e : Bool) → ((l : List ℕ) × (ls : List (List ℕ)) × (lines_of xs ≡ l ∷ ls)) → lines_of (xs ++ b ∷ []) ≡ lines_of xs ++ [] ∷ [] →
        cond e ([] ∷ lines_of (xs ++ b ∷ [])) (onto_first x (lines_of (xs ++ b ∷ []))) ≡ cond e ([] ∷ lines_of xs) (onto_first x (lines_of xs)) ++ [] ∷ []
    by_end true (l, ls, is) more = ap (λ k. [] ∷ k) more
    by_end false (l, ls, is) more = ap (onto_first x) more ∙ onto_append x (lines_of xs) l ls ([] ∷ []) is

pub lines_grow : (xs : List ℕ) (b : ℕ) (ended : List (List ℕ)) (last : List ℕ) → ends_line b ≡ false → lines_of xs ≡ ended ++ last ∷ [] → lines_of (xs ++ b ∷ []) ≡ ended ++ (last ++ b ∷ []) ∷ []
lines_grow xs b ended last goes is = lines_longer xs b goes ∙ ap (longer_last b) is ∙ longer_at b ended last

-- Lines since some that have ended.
longer_past : (b : ℕ) (ended since : List (List ℕ)) → 0 < length since → longer_last b (ended ++ since) ≡ ended ++ longer_last b since
longer_past b [] since some = refl
longer_past b (l ∷ ended) [] some = absurd (omega arith)
longer_past b (l ∷ []) (m ∷ since) some = refl
longer_past b (l ∷ k ∷ ended) (m ∷ since) some = ap (λ r. l ∷ r) (longer_past b (k ∷ ended) (m ∷ since) some)

longer_count : (b : ℕ) (since : List (List ℕ)) → length (longer_last b since) ≡ length since
longer_count b [] = refl
longer_count b (l ∷ []) = refl
longer_count b (l ∷ m ∷ since) = ap suc (longer_count b (m ∷ since))

abbrev Since : List ℕ → List ℕ → List (List ℕ) → ℕ → Type 0
Since more bytes ended count =
    (after : List (List ℕ)) × (lines_of (bytes ++ more) ≡ ended ++ after) × (list_any ends_line more ≡ true → count < length after) × (count ≤ length after)

pub lines_since : (more bytes : List ℕ) (ended since : List (List ℕ)) → lines_of bytes ≡ ended ++ since → 0 < length since → Since more bytes ended (length since)
lines_since [] bytes ended since is some = (since, ap lines_of (append-nil bytes) ∙ is, (λ ends. absurd (false≢true ends)), omega arith)
lines_since (b ∷ more) bytes ended since is some =
    by_end (ends_line b) refl (λ next here any. lines_since more (bytes ++ b ∷ []) ended next here any)
  where
    Again : Type 0
    Again =
        (next : List (List ℕ)) → lines_of (bytes ++ b ∷ []) ≡ ended ++ next → 0 < length next →
        Since more (bytes ++ b ∷ []) ended (length next)

    joined : (bytes ++ (b ∷ [])) ++ more ≡ bytes ++ (b ∷ more)
    joined = append_assoc bytes (b ∷ []) more

    by_end : (e : Bool) → ends_line b ≡ e → Again → Since (b ∷ more) bytes ended (length since)
    by_end true ends again =
        let next : lines_of (bytes ++ b ∷ []) ≡ ended ++ (since ++ [] ∷ []) = lines_ended bytes b ends ∙ ap (λ l. l ++ [] ∷ []) is ∙ append_assoc ended since ([] ∷ []) in
        let count : length (since ++ [] ∷ []) ≡ length since + 1 = length-append since ([] ∷ []) in
        let rest = again (since ++ [] ∷ []) next (omega arith) in
        let most = rest.3 in
        (rest.0, ap lines_of (sym joined) ∙ rest.1, (λ any. omega arith), omega arith)
    by_end false goes again =
        let next : lines_of (bytes ++ b ∷ []) ≡ ended ++ longer_last b since = lines_longer bytes b goes ∙ ap (longer_last b) is ∙ longer_past b ended since some in
        let count = longer_count b since in
        let rest = again (longer_last b since) next (omega arith) in
        let most = rest.3 in
        (rest.0, ap lines_of (sym joined) ∙ rest.1, (λ any. let ends = rest.2 (sym (ap (λ e. e || list_any ends_line more) goes) ∙ any) in omega arith), omega arith)

-- The first bytes of a line.
pub first_more : (n : ℕ) (xs : List ℕ) (b : ℕ) → take n (take n xs ++ b ∷ []) ≡ take n (xs ++ b ∷ [])
first_more zero xs b = refl
first_more (suc n) [] b = refl
first_more (suc n) (x ∷ xs) b = ap (λ k. x ∷ k) (first_more n xs b)

eq_first : (n : ℕ) (xs line : List ℕ) → length line < n → bytes_eq (take n xs) line ≡ bytes_eq xs line
eq_first zero xs line short = absurd (omega arith)
eq_first (suc n) [] line short = refl
eq_first (suc n) (x ∷ xs) [] short = refl
eq_first (suc n) (x ∷ xs) (y ∷ line) short = ap (λ r. nat_eq x y && r) (eq_first n xs line (omega arith))

kick_short : (c : ℕ) → c < 100 → length (kick_line c) < 8
kick_short c few = ⊎_elim (λ low. subst (λ (k : List ℕ). length k < 8) (sym (kick_one c low)) (omega arith)) (λ high. subst (λ (k : List ℕ). length k < 8) (sym (kick_two c high few)) (omega arith)) (either_digit c)
  where
    either_digit : (c : ℕ) → (c < 10) ⊎ (10 ≤ c)
    either_digit c = by_test (ltb c 10) refl
      where
        by_test : (b : Bool) → ltb c 10 ≡ b → (c < 10) ⊎ (10 ≤ c)
        by_test true is = inl ((Decides-ltb c 10).0 is)
        by_test false is = inr (let no = not_from_Decides (ltb c 10) (Decides-ltb c 10) is in omega arith)

pub kicks_first : (c : ℕ) (last : List ℕ) → c < 100 → kicks_client c (take 8 last) ≡ kicks_client c last
kicks_first c last few = eq_first 8 last (kick_line c) (kick_short c few)
