-- Frames that are gone over client by client.
use Rattle.std.specs.Prelude.{◌≡◌, ℕ, ◌+◌, not, Bool, true, false, List, [], ◌∷◌, ◌++◌}
use Rattle.std.specs.Prelude.{take, drop, Some, slice_get}
use Rattle.std.specs.List.{AllByRecursion, list_any}
use Rattle.std.proofs.Common.{refl, sym, ap, subst, ◌∙◌, append_assoc}
use Rattle.std.proofs.lemmas.List.{take_more, drop_more, map-append}
use Rattle.std.proofs.lemmas.Option.{slice_get_within, get_or_from_slice_get}
use Rattle.wire_bytes.proofs.WriteLemmas.{extends_once, extends_further}
use Rattle.game_orders.specs.declared.entry.Entry.{Entry}
use Rattle.game_orders.specs.Entry.{is_play}
use Rattle.replay_file.proofs.EntriesLemmas.{each_more}
use Rattle.replay_file.proofs.OrdersLemmas.{all_added}
use Rattle.replay_file.specs.PartBytes.{entry_bytes, entries_bytes, FitsEntry}
use Rattle.replay_file.specs.PartRules.{departed_in}

took : (frame : List Entry) (i : ℕ) (entry : Entry) → slice_get frame i ≡ Some entry →
    take (i + 1) frame ≡ take i frame ++ entry ∷ []
took frame i entry at =
    take_more frame i entry (slice_get_within frame i entry at)
    ∙ ap (λ (last : Entry). take i frame ++ last ∷ []) (get_or_from_slice_get frame i entry entry at)

left : (frame : List Entry) (i : ℕ) (entry : Entry) → slice_get frame i ≡ Some entry →
    drop i frame ≡ entry ∷ drop (i + 1) frame
left frame i entry at =
    drop_more frame i entry (slice_get_within frame i entry at)
    ∙ ap (λ (first : Entry). first ∷ drop (i + 1) frame)
    (get_or_from_slice_get frame i entry entry at)

-- One more flag.
pub departed_more :
    (frame : List Entry) (i : ℕ) (entry : Entry) (held : List Bool) →
    slice_get frame i ≡ Some entry → held ≡ departed_in (take i frame) →
    held ++ not (is_play entry) ∷ [] ≡ departed_in (take (i + 1) frame)
departed_more frame i entry held at so_far =
    ap (λ (flags : List Bool). flags ++ not (is_play entry) ∷ []) so_far
    ∙ sym (map-append (λ e. not (is_play e)) (take i frame) (entry ∷ []))
    ∙ ap departed_in (sym (took frame i entry at))

-- The next client plays.
pub play_here :
    (frame : List Entry) (i : ℕ) (entry : Entry) → slice_get frame i ≡ Some entry →
    is_play entry ≡ true → list_any is_play (drop i frame) ≡ list_any is_play frame →
    list_any is_play frame ≡ true
play_here frame i entry at plays so_far =
    let here : list_any is_play (drop i frame) ≡ true = rw (left frame i entry at, plays) refl in
    sym so_far ∙ here

-- The next client doesn't.
pub play_later :
    (frame : List Entry) (i : ℕ) (entry : Entry) → slice_get frame i ≡ Some entry →
    is_play entry ≡ false → list_any is_play (drop i frame) ≡ list_any is_play frame →
    list_any is_play (drop (i + 1) frame) ≡ list_any is_play frame
play_later frame i entry at waits so_far =
    let here : list_any is_play (drop i frame) ≡ list_any is_play (drop (i + 1) frame) =
    rw (left frame i entry at, waits) refl in
    sym here ∙ so_far

pub ruleset play_steps = (play_here, play_later)

-- One more entry was written.
pub entry_written :
    (frame : List Entry) (i : ℕ) (entry : Entry) (old mid new : List ℕ) →
    slice_get frame i ≡ Some entry → mid ≡ old ++ entries_bytes (take i frame) →
    new ≡ mid ++ entry_bytes entry → new ≡ old ++ entries_bytes (take (i + 1) frame)
entry_written frame i entry old mid new at so_far is =
    is ∙ ap (λ (front : List ℕ). front ++ entry_bytes entry) so_far
    ∙ append_assoc old (entries_bytes (take i frame)) (entry_bytes entry)
    ∙ ap (λ (tail : List ℕ). old ++ tail)
    (sym (each_more (take i frame) entry) ∙ ap entries_bytes (sym (took frame i entry at)))

pub ruleset writing_steps = (extends_once, extends_further, entry_written)

-- One more entry fits.
pub entry_fits_too :
    (frame : List Entry) (i : ℕ) (entry : Entry) → slice_get frame i ≡ Some entry →
    AllByRecursion FitsEntry (take i frame) → FitsEntry entry →
    AllByRecursion FitsEntry (take (i + 1) frame)
entry_fits_too frame i entry at so_far fits =
    subst (AllByRecursion FitsEntry) (sym (took frame i entry at))
    (all_added FitsEntry (take i frame) entry so_far fits)
