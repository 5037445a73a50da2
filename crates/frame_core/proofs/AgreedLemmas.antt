-- What keeps a world agreed: a tick of a ready frame, and columns that grow.
use Rattle.std.specs.Prelude.{◌≡◌, ℕ, ◌+◌, ◌<◌, Bool, true, false, ◌⊎◌, List, [], ◌∷◌, Option, Some}
use Rattle.std.specs.Prelude.{None, is_some}
use Rattle.std.specs.List.{AllByRecursion}
use Rattle.std.proofs.Common.{refl, sym, ap, subst, ◌∙◌, inl, inr, arith, add-one}
use Rattle.game_orders.specs.declared.entry.Entry.{Entry}
use Rattle.game_orders.specs.declared.entry.Entry.TheVariants.{Play, Leave}
use Rattle.frame_core.specs.Column.{Column}
use Rattle.frame_core.specs.declared.ready.Ready.{Ready}
use Rattle.frame_core.specs.declared.ready.Ready.TheVariants.{Yes, NotYet, Over}
use Rattle.frame_core.specs.Input.{ready_from, ready_of}
use Rattle.frame_core.specs.Ready.{frame_of, inputs_of, each_at, ready_at, frame_at}
use Rattle.frame_core.specs.Grows.{Grows, AllHave}
use Rattle.frame_core.proofs.GrowsLemmas.{each_grows, frame_stays, world_grows}
use Rattle.frame_core.specs.Tick.{ticked_after, stepped}
use Rattle.frame_core.specs.Agreed.{AreReady, IsAt}

-- Where a frame is ready, each client has an entry for it.
pub ready_all :
    (c : ℕ) (played : Bool) (each : List (Option Entry)) →
    ready_from c played (inputs_of each) ≡ Yes →
    AllByRecursion (λ has. is_some has ≡ true) each
ready_all c played [] ready = tt
ready_all c played (None ∷ rest) ready = absurd cc
ready_all c played (Some (Play orders) ∷ rest) ready = (refl, ready_all (c + 1) true rest ready)
ready_all c played (Some Leave ∷ rest) ready = (refl, ready_all (c + 1) played rest ready)

-- So each client has something for a frame that is ready by the columns.
pub ready_have : (columns : List Column) (n : ℕ) → ready_at columns n ≡ Yes → AllHave columns n
ready_have columns n ready = ready_all 0 false (each_at columns n) ready

-- A frame that is ready stays so when the columns grow.
pub ready_grows :
    (olds news : List Column) (n : ℕ) → Grows olds news → ready_at olds n ≡ Yes →
    ready_at news n ≡ Yes
ready_grows olds news n grows ready =
    ap (λ each. ready_of (inputs_of each)) (each_grows olds news n grows (ready_have olds n ready))
    ∙ ready

-- All frames below n that are ready stay so.
pub AreReady-grow :
    (olds news : List Column) (n : ℕ) → Grows olds news → AreReady olds n → AreReady news n
AreReady-grow olds news n grows ready k below = ready_grows olds news k grows (ready k below)

-- The agreed frames below n are the same after the columns have grown.
pub frames_stay :
    (olds news : List Column) (n : ℕ) → Grows olds news → AreReady olds n →
    (k : ℕ) → k < n → frame_at news k ≡ frame_at olds k
frames_stay olds news n grows ready k below =
    frame_stays olds news k grows (ready_have olds k (ready k below))

-- Before the first tick.
pub no_frames_ready : (columns : List Column) → AreReady columns 0
no_frames_ready columns k below = absurd (omega arith)

-- The opening is the agreed world of no frames.
pub opening_is_at :
    {W : Type 0} (after : W → List Entry → W) (start : W) (columns : List Column) →
    IsAt after start columns 0 start
opening_is_at after start columns = record { ready = no_frames_ready columns; is = refl }

last_or_before :
    (columns : List Column) (n k : ℕ) → AreReady columns n → ready_at columns n ≡ Yes →
    (k < n) ⊎ (k ≡ n) → ready_at columns k ≡ Yes
last_or_before columns n k ready here (inl before) = ready k before
last_or_before columns n k ready here (inr same) =
    let P : ℕ → Type 0 = λ m. ready_at columns m ≡ Yes in
    subst P (sym same) here

-- One more frame that is ready.
pub one_more_ready :
    (columns : List Column) (n : ℕ) → AreReady columns n → ready_at columns n ≡ Yes →
    AreReady columns (n + 1)
one_more_ready columns n ready here k below = last_or_before columns n k ready here (grind arith)

-- After a tick of frame n, by whether it is ready, the ticked frames are ready.
pub ticked_ready :
    (columns : List Column) (n : ℕ) (ready : Ready) → ready_at columns n ≡ ready →
    AreReady columns n →
    AreReady columns (ticked_after ready n)
ticked_ready columns n Yes is all = one_more_ready columns n all is
ticked_ready columns n (NotYet c) is all = all
ticked_ready columns n Over is all = all

-- One step by the agreed frame leads from the agreed world of n frames to that of one more.
step_is_at :
    {W : Type 0} (after : W → List Entry → W) (start : W) (columns : List Column) (n : ℕ) (world : W) →
    ready_at columns n ≡ Yes → IsAt after start columns n world →
    IsAt after start columns (n + 1) (after world (frame_of (each_at columns n)))
step_is_at after start columns n world here at =
    record {
      ready = one_more_ready columns n at.ready here;
      is = rw add-one (ap (λ w. after w (frame_of (each_at columns n))) at.is);
    }

-- A tick by what each client has, where that is what the columns have, leads from an agreed world
-- to an agreed world.
pub tick_is_at :
    {W : Type 0} (after : W → List Entry → W) (start : W) (columns : List Column) (n : ℕ) (world : W)
    (each : List (Option Entry)) (ready : Ready) → ready_of (inputs_of each) ≡ ready →
    (AllByRecursion (λ has. is_some has ≡ true) each → each ≡ each_at columns n) →
    IsAt after start columns n world →
    IsAt after start columns (ticked_after ready n) (stepped ready after world (frame_of each))
tick_is_at after start columns n world each Yes is same at =
    let agreed : each ≡ each_at columns n = same (ready_all 0 false each is) in
    let here : ready_at columns n ≡ Yes = ap (λ xs. ready_of (inputs_of xs)) (sym agreed) ∙ is in
    let Q : List (Option Entry) →
    Type 0 = λ xs. IsAt after start columns (n + 1) (after world (frame_of xs)) in
    subst Q (sym agreed) (step_is_at after start columns n world here at)
tick_is_at after start columns n world each (NotYet c) is same at = at
tick_is_at after start columns n world each Over is same at = at

-- Agreed worlds stay so when the columns grow.
pub grow_is_at :
    {W : Type 0} (after : W → List Entry → W) (start : W) (olds news : List Column) (n : ℕ) (world : W) →
    Grows olds news → IsAt after start olds n world → IsAt after start news n world
grow_is_at after start olds news n world grows at =
    record {
      ready = AreReady-grow olds news n grows at.ready;
      is =
          at.is
          ∙ sym (world_grows after start olds news n grows (λ k below. ready_have olds k (at.ready k below)));
    }

-- Two worlds that are agreed worlds of equally many frames are equal.
pub equal_counts :
    {W : Type 0} (after : W → List Entry → W) (start : W) (columns : List Column) (n : ℕ) (world other : W) →
    IsAt after start columns n world → IsAt after start columns n other → world ≡ other
equal_counts after start columns n world other at there = at.is ∙ sym there.is
