-- What the ticking thread has taken.
use Rattle.std.proofs.Common.{◌≡◌, ◌≢◌, ℕ, zero, suc, ◌+◌, ◌-◌, ◌<◌, ◌≤◌, Bool, true, false, true≢false, List, [], ◌∷◌, ◌++◌, length, take, drop, set, get_or, refl, sym, ap, ap₂, ◌∙◌, subst, inl, inr, ⊎_elim, arith}
use Rattle.std.proofs.lemmas.List.{length-drop, length-take}
use Rattle.std.proofs.lemmas.Option.{slice_get_past}
use Rattle.std.specs.Prelude.{slice_get}
use native.Mathlib.Decide.{ℕ_discrete}
use mathlib.Core.Logic.{dite}
use Rattle.game_orders.specs.declared.order.Order.{Order}
use Rattle.game_orders.specs.declared.limits.TheConstants.{MAX_FRAMES}
use Rattle.frame_core.specs.Column.{Column, length_of, entry_from, has_at}
use Rattle.frame_core.specs.Ready.{or_leave}
use Rattle.drill_words.specs.Scripts.{plays_of}
use Rattle.frame_table.specs.Part.{Part}
use Rattle.frame_table.specs.Steps.{IsFound}
use Rattle.frame_table.specs.Calls.{HasSeen}
use Rattle.match_run.specs.declared.taken.Taken.{Taken}
use Rattle.match_run.specs.Local.{script_column}
use Rattle.match_run.specs.Passes.{FollowsScript}
use Rattle.match_run.specs.Taken.{IsTaken, HasEntry, entry_taken, AreTaken, HasFrame}
use Rattle.match_run.proofs.LocalPasses.{found_follows}
use Rattle.match_run.proofs.Splitting.{Scripts}

get_take_drop : (xs : List (List Order)) (k n i at : ℕ) → i < k → n + i ≡ at → slice_get (take k (drop n xs)) i ≡ slice_get xs at
get_take_drop xs zero n i at below is = absurd (omega arith)
get_take_drop [] (suc k) zero i at below is = refl
get_take_drop [] (suc k) (suc n) i at below is = refl
get_take_drop (x ∷ xs) (suc k) zero zero zero below is = refl
get_take_drop (x ∷ xs) (suc k) zero zero (suc at) below is = absurd (omega arith)
get_take_drop (x ∷ xs) (suc k) zero (suc i) zero below is = absurd (omega arith)
get_take_drop (x ∷ xs) (suc k) zero (suc i) (suc at) below is = get_take_drop xs k zero i at (omega arith) (omega arith)
get_take_drop (x ∷ xs) (suc k) (suc n) i zero below is = absurd (omega arith)
get_take_drop (x ∷ xs) (suc k) (suc n) i (suc at) below is = get_take_drop xs (suc k) n i at below (omega arith)

-- Where a play of the script stands in what was taken.
in_taken : (plays : List (List Order)) (own : Taken) (n : ℕ) → IsTaken plays own → own.from ≤ n → HasEntry own n → slice_get plays n ≡ slice_get own.plays (n - own.from)
in_taken plays own n is from (inl there) =
    sym (ap (λ l. slice_get l (n - own.from)) is.plays_are ∙ get_take_drop plays (length own.plays) own.from (n - own.from) n there (omega arith))
in_taken plays own n is from (inr left) =
    let past = is.left left in
    let none = length-drop own.from plays in
    let few = length-take (length own.plays) (drop own.from plays) in
    let same = ap length is.plays_are in
    slice_get_past plays n (omega arith)
    ∙ sym (slice_get_past own.plays (n - own.from) (let so : length own.plays ≤ 0 = grind (arith, past, none, few, same) in omega arith))

pub entry_is : (plays : List (List Order)) (own : Taken) (n : ℕ) → IsTaken plays own → own.from ≤ n → HasEntry own n → or_leave (has_at (script_column plays) n) ≡ entry_taken own n
entry_is plays own n is from has = ap (λ at. or_leave (entry_from at true)) (in_taken plays own n is from has)

-- What a take of many plays gives.
from_start : (later K : List (List Order)) (most : ℕ) (xs : List (List Order)) → xs ≡ take most K → xs ≡ take (length xs) (K ++ later)
from_start [] [] zero [] is = refl
from_start (l ∷ later) [] zero [] is = refl
from_start [] [] (suc most) [] is = refl
from_start (l ∷ later) [] (suc most) [] is = refl
from_start later [] zero (x ∷ xs) is = absurd cc
from_start later [] (suc most) (x ∷ xs) is = absurd cc
from_start later (k ∷ K) zero [] is = refl
from_start later (k ∷ K) zero (x ∷ xs) is = absurd cc
from_start later (k ∷ K) (suc most) [] is = absurd cc
from_start later (k ∷ K) (suc most) (x ∷ xs) is =
    let same : x ≡ k = cc in
    let rest : xs ≡ take most K = cc in
    ap₂ (λ y l. y ∷ l) same (from_start later K most xs rest)

none_front : (l : List (List Order)) → [] ≡ take 0 l
none_front [] = refl
none_front (x ∷ l) = refl

take_front_drop : (later K : List (List Order)) (n most : ℕ) (xs : List (List Order)) → xs ≡ take most (drop n K) → xs ≡ take (length xs) (drop n (K ++ later))
take_front_drop later K zero most xs is = from_start later K most xs is
take_front_drop later [] (suc n) most [] is = none_front (drop (suc n) later)
take_front_drop later [] (suc n) zero (x ∷ xs) is = absurd cc
take_front_drop later [] (suc n) (suc most) (x ∷ xs) is = absurd cc
take_front_drop later (k ∷ K) (suc n) most xs is = take_front_drop later K n most xs is

pub taken_so : (plays : List (List Order)) (part : Part) (n most : ℕ) (xs : List (List Order)) (left : Bool) (K : Column) → FollowsScript plays part → HasSeen part.reach n → 0 < most → IsFound part K →
    xs ≡ take most (drop n K.plays) → (left ≡ true → length xs ≡ 0) → (own : Taken) → own.from ≡ n → own.plays ≡ xs → own.left ≡ left → IsTaken plays own
taken_so plays part n most xs left K so seen some found is ends own from_is plays_are left_is =
    let follows = found_follows plays part K so found in
    let front : xs ≡ take (length xs) (drop n plays) = take_front_drop follows.0.0 K.plays n most xs is ∙ ap (λ l. take (length xs) (drop n l)) (sym follows.0.1) in
    let none = length-drop n K.plays in
    let few = length-take most (drop n K.plays) in
    let same = ap length is in
    let frames = found.frames in
    let long = ap length plays_are in
    record {
      plays_are = plays_are ∙ front ∙ (λ i. take (length (sym plays_are i)) (drop (sym from_is i) plays));
      left = λ gone.
          let empty = ends (sym left_is ∙ gone) in
          let short : length_of K ≤ n = grind (arith, some, none, few, same, empty) in
          let whole : length plays ≤ length_of K = ⊎_elim (λ before. let there = found.reach.plays in absurd (omega arith)) (λ past. let end = follows.1 (found.reach.left past.0).0 in omega arith) seen in
          omega arith;
      limit = λ there. let so : n + length xs ≤ MAX_FRAMES = grind (arith, none, few, same, frames, there, long) in omega arith;
    }

-- Each of the first i clients has the entry.
abbrev pub HadSoFar : List Taken → ℕ → ℕ → Type 0
HadSoFar taken n i = (c : ℕ) (d : Taken) → c < i → HasEntry (get_or taken c d) n

pub had_none : (taken : List Taken) (n : ℕ) → HadSoFar taken n 0
had_none taken n c d below = absurd (omega arith)

any_default : (taken : List Taken) (c : ℕ) (d e : Taken) → c < length taken → get_or taken c d ≡ get_or taken c e
any_default [] c d e below = absurd (omega arith)
any_default (x ∷ taken) zero d e below = refl
any_default (x ∷ taken) (suc c) d e below = any_default taken c d e (omega arith)

pub had_more : (taken : List Taken) (n i : ℕ) (d : Taken) → i < length taken → HasEntry (get_or taken i d) n → HadSoFar taken n i → HadSoFar taken n (i + 1)
had_more taken n i d here has each c e below = dite (ℕ_discrete c i)
    (λ same. subst (λ (k : ℕ). HasEntry (get_or taken k e) n) (sym same) (subst (λ (o : Taken). HasEntry o n) (any_default taken i d e here) has))
    (λ apart. each c e (omega arith))

pub had_all : (taken : List Taken) (n i : ℕ) → length taken ≤ i → HadSoFar taken n i → HasFrame taken n
had_all taken n i end far c d below = far c d (omega arith)

-- Nothing was taken yet.
pub record IsNothing (own : Taken) : Type 0 where
  pub from : own.from ≡ 0
  pub plays : own.plays ≡ []
  pub left : own.left ≡ false

abbrev pub AllNothing : List Taken → Type 0
AllNothing taken = (c : ℕ) (d : Taken) → c < length taken → IsNothing (get_or taken c d)

pub nothing_more : (taken : List Taken) (own : Taken) → IsNothing own → AllNothing taken → AllNothing (taken ++ own ∷ [])
nothing_more [] own is all zero d below = is
nothing_more [] own is all (suc c) d below = absurd (omega arith)
nothing_more (x ∷ taken) own is all zero d below = all 0 d (omega arith)
nothing_more (x ∷ taken) own is all (suc c) d below = nothing_more taken own is (λ k e here. all (suc k) e (omega arith)) c d (omega arith)

nothing_taken : (plays : List (List Order)) (own : Taken) → IsNothing own → IsTaken plays own
nothing_taken plays own is =
    record {
      plays_are = is.plays ∙ none_front (drop own.from plays) ∙ ap (λ l. take (length l) (drop own.from plays)) (sym is.plays);
      left = λ left. absurd (true≢false (sym left ∙ is.left));
      limit = λ some. let none = ap length is.plays in absurd (omega arith);
    }

pub all_nothing : (scripts : Scripts) (taken : List Taken) → length taken ≡ length scripts → AllNothing taken → AreTaken scripts taken 0
all_nothing scripts taken clients all =
    record {
      clients = clients;
      each = λ c d below. nothing_taken (plays_of scripts c) (get_or taken c d) (all c d (omega arith));
      from = λ c d below. let is = (all c d (omega arith)).from in omega arith;
    }

-- One client's was taken anew.
set_length : (taken : List Taken) (c : ℕ) (own : Taken) → length (set taken c own) ≡ length taken
set_length [] c own = refl
set_length (x ∷ taken) zero own = refl
set_length (x ∷ taken) (suc c) own = ap suc (set_length taken c own)

set_here : (taken : List Taken) (c : ℕ) (own d : Taken) → c < length taken → get_or (set taken c own) c d ≡ own
set_here [] c own d below = absurd (omega arith)
set_here (x ∷ taken) zero own d below = refl
set_here (x ∷ taken) (suc c) own d below = set_here taken c own d (omega arith)

set_other : (taken : List Taken) (c k : ℕ) (own d : Taken) → k ≢ c → get_or (set taken c own) k d ≡ get_or taken k d
set_other [] c k own d apart = refl
set_other (x ∷ taken) zero zero own d apart = absurd (apart refl)
set_other (x ∷ taken) zero (suc k) own d apart = refl
set_other (x ∷ taken) (suc c) zero own d apart = refl
set_other (x ∷ taken) (suc c) (suc k) own d apart = set_other taken c k own d (λ e. apart (ap suc e))

pub taken_anew : (scripts : Scripts) (taken : List Taken) (n c : ℕ) (own : Taken) → c < length scripts → AreTaken scripts taken n → IsTaken (plays_of scripts c) own → own.from ≤ n → AreTaken scripts (set taken c own) n
taken_anew scripts taken n c own here are is from =
    let clients = are.clients in
    record {
      clients = set_length taken c own ∙ are.clients;
      each = λ k d below. dite (ℕ_discrete k c)
          (λ same. subst (λ (e : ℕ). IsTaken (plays_of scripts e) (get_or (set taken c own) e d)) (sym same) (subst (IsTaken (plays_of scripts c)) (sym (set_here taken c own d (omega arith))) is))
          (λ apart. subst (IsTaken (plays_of scripts k)) (sym (set_other taken c k own d apart)) (are.each k d below));
      from = λ k d below. dite (ℕ_discrete k c)
          (λ same. subst (λ (e : ℕ). (get_or (set taken c own) e d).from ≤ n) (sym same) (subst (λ (o : Taken). o.from ≤ n) (sym (set_here taken c own d (omega arith))) from))
          (λ apart. subst (λ (o : Taken). o.from ≤ n) (sym (set_other taken c k own d apart)) (are.from k d below));
    }
