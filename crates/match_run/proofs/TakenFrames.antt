-- The agreed frame, put together of what was taken.
use Rattle.std.proofs.Common.{◌≡◌, ℕ, zero, suc, ◌+◌, ◌<◌, ◌≤◌, List, [], ◌∷◌, ◌++◌, length, take, get_or, refl, sym, ap, ap₂, ◌∙◌, subst, arith, append_assoc}
use Rattle.std.specs.Prelude.{slice_get, Option as Maybe}
use Rattle.game_orders.specs.declared.entry.Entry.{Entry}
use Rattle.frame_core.specs.Column.{has_at}
use Rattle.frame_core.specs.Ready.{or_leave, frame_at}
use Rattle.drill_words.specs.Scripts.{plays_of}
use Rattle.match_run.specs.declared.taken.Taken.{Taken}
use Rattle.match_run.specs.Local.{script_column, script_columns}
use Rattle.match_run.specs.Taken.{IsTaken, HasEntry, entry_taken, AreTaken, HasFrame}
use Rattle.match_run.proofs.Splitting.{Scripts}
use Rattle.match_run.proofs.Taking.{entry_is}

-- The agreed frame, client by client.
frame_next : (scripts : Scripts) (n c : ℕ) → c < length scripts →
    take (suc c) (frame_at (script_columns scripts) n) ≡ take c (frame_at (script_columns scripts) n) ++ or_leave (has_at (script_column (plays_of scripts c)) n) ∷ []
frame_next [] n c below = absurd (omega arith)
frame_next (s ∷ scripts) n zero below = refl
frame_next (s ∷ scripts) n (suc c) below = ap (λ l. or_leave (has_at (script_column s) n) ∷ l) (frame_next scripts n c (omega arith))

take_end : (scripts : Scripts) (n c : ℕ) → c ≡ length scripts → take c (frame_at (script_columns scripts) n) ≡ frame_at (script_columns scripts) n
take_end [] n zero is = refl
take_end [] n (suc c) is = absurd (omega arith)
take_end (s ∷ scripts) n zero is = absurd (omega arith)
take_end (s ∷ scripts) n (suc c) is = ap (λ l. or_leave (has_at (script_column s) n) ∷ l) (take_end scripts n c (omega arith))

pub frame_whole : (scripts : Scripts) (n c : ℕ) (frame : List Entry) → frame ≡ take c (frame_at (script_columns scripts) n) → c ≡ length scripts → frame ≡ frame_at (script_columns scripts) n
frame_whole scripts n c frame is end = is ∙ take_end scripts n c end

pub frame_none : (scripts : Scripts) (n : ℕ) → [] ≡ take 0 (frame_at (script_columns scripts) n)
frame_none [] n = refl
frame_none (s ∷ scripts) n = refl

pub frame_more : (scripts : Scripts) (n c : ℕ) (frame after : List Entry) (e : Entry) → c < length scripts → frame ≡ take c (frame_at (script_columns scripts) n) →
    or_leave (has_at (script_column (plays_of scripts c)) n) ≡ e → after ≡ frame ++ e ∷ [] → after ≡ take (c + 1) (frame_at (script_columns scripts) n)
frame_more scripts n c frame after e below is entry pushed =
    pushed
    ∙ ap₂ (λ l x. l ++ x ∷ []) is (sym entry)
    ∙ sym (frame_next scripts n c below)
    ∙ ap (λ k. take k (frame_at (script_columns scripts) n)) (let one : suc c ≡ c + 1 = omega arith in one)

pub frame_length : (scripts : Scripts) (n : ℕ) → length (frame_at (script_columns scripts) n) ≡ length scripts
frame_length [] n = refl
frame_length (s ∷ scripts) n = ap suc (frame_length scripts n)

pub taken_later : (scripts : Scripts) (taken : List Taken) (n : ℕ) → AreTaken scripts taken n → AreTaken scripts taken (n + 1)
taken_later scripts taken n are = record { clients = are.clients; each = are.each; from = λ c d below. let is = are.from c d below in omega arith }

-- The frame that was taken, client by client.
pub frame_step : (scripts : Scripts) (taken : List Taken) (n i : ℕ) (frame after : List Entry) (e : Entry) (own : Taken) → own ≡ get_or taken i own → i < length taken → AreTaken scripts taken n → HasFrame taken n →
    frame ≡ take i (frame_at (script_columns scripts) n) → e ≡ entry_taken own n → after ≡ frame ++ e ∷ [] → after ≡ take (i + 1) (frame_at (script_columns scripts) n)
frame_step scripts taken n i frame after e own at here are has is entry pushed =
    let clients = are.clients in
    let in_scripts : i < length scripts = omega arith in
    let so = subst (IsTaken (plays_of scripts i)) (sym at) (are.each i own in_scripts) in
    let from = subst (λ (o : Taken). o.from ≤ n) (sym at) (are.from i own in_scripts) in
    let there = subst (λ (o : Taken). HasEntry o n) (sym at) (has i own here) in
    frame_more scripts n i frame after e in_scripts is (entry_is (plays_of scripts i) own n so from there ∙ sym entry) pushed

-- Entries of a frame that are added to another.
pub entries_more : (before entries frame after : List Entry) (i : ℕ) (at : Maybe Entry) → i < length entries → frame ≡ before ++ take i entries → at ≡ slice_get entries i → after ≡ frame ++ or_leave at ∷ [] → after ≡ before ++ take (i + 1) entries
entries_more before entries frame after i at below is there pushed =
    pushed
    ∙ ap₂ (λ (l : List Entry) (e : Maybe Entry). l ++ or_leave e ∷ []) is there
    ∙ append_assoc before (take i entries) (or_leave (slice_get entries i) ∷ [])
    ∙ ap (λ (l : List Entry). before ++ l) (next entries i below)
  where
    next : (xs : List Entry) (k : ℕ) → k < length xs → take k xs ++ or_leave (slice_get xs k) ∷ [] ≡ take (k + 1) xs
    next [] k below = absurd (omega arith)
    next (x ∷ []) zero below = refl
    next (x ∷ y ∷ xs) zero below = refl
    next (x ∷ xs) (suc k) below = ap (λ (l : List Entry). x ∷ l) (next xs k (omega arith)) ∙ ap (λ n. take n (x ∷ xs)) (let same : suc (k + 1) ≡ suc k + 1 = omega arith in same)
