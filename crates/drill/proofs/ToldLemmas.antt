-- Who was dropped, or said farewell, has left: proofs.
use Rattle.std.proofs.Common.{◌≡◌, ℕ, true, suc, ◌<◌, List, length}
use Rattle.std.proofs.Common.{ap, subst, ◌∙◌, sym, inl, inr}
use Rattle.std.specs.Prelude.{◌⊎◌, Option, slice_set}
use Rattle.frame_core.specs.Column.{Column, no_column, left_column, column_of}
use Rattle.frame_core.proofs.GrowsLemmas.{Grows-column}
use Rattle.frame_core.specs.Match.{Match}
use Rattle.order_packets.specs.declared.up.Up.TheVariants as packet
use Rattle.drill_words.specs.declared.event.Event.{Event}
use Rattle.drill_words.specs.declared.event.Event.TheVariants.{Up, DropClient}
use Rattle.drill.specs.declared.sent.Sent.{Sent}
use Rattle.drill.specs.Record.{columns_after_up}
use Rattle.drill.specs.Agreement.{record_after, ColumnsOnlyGrow, WasDropped, SaidFarewell}
use Rattle.drill.proofs.GrownLemmas.{columns_only_grow, length_columns}
use Rattle.drill.proofs.RecordLemmas.{next_record, set_here}

-- A departure that is put into the column of a client of the match stands there.
left_here :
    (columns : List Column) (c : ℕ) → c < length columns →
    (column_of (slice_set columns c (left_column (column_of columns c))) c).left ≡ true
left_here columns c below =
    ap (λ (x : Column). x.left)
    (set_here columns c (left_column (column_of columns c)) no_column below)

-- Who has left after an event has left after all later ones.
left_stays :
    {W : Type 0} (m : Match W) (events : List Event) (e i c : ℕ) → e < i →
    (column_of (record_after m events (suc e)).columns c).left ≡ true →
    (column_of (record_after m events i).columns c).left ≡ true
left_stays m events e i c before left =
    let grown : ColumnsOnlyGrow m events (suc e) i = columns_only_grow m events (suc e) i before in
    let own = Grows-column (record_after m events (suc e)).columns (record_after m events i).columns c
    grown.grow in
    ap (λ (x : Column). x.left) (own.closed left) ∙ left

-- Once a client of the match was dropped, it has left.
dropped_has_left :
    {W : Type 0} (m : Match W) (events : List Event) (i c : ℕ) → c < m.clients →
    WasDropped m events i c → (column_of (record_after m events i).columns c).left ≡ true
dropped_has_left m events i c own dropped =
    let columns : List Column = (record_after m events dropped.event).columns in
    let below : c < length columns =
    subst (λ n. c < n) (sym (length_columns m events dropped.event)) own in
    left_stays m events dropped.event i c dropped.before
    (ap (λ progress. (column_of progress.columns c).left)
    (next_record m events dropped.event (DropClient c) dropped.told)
    ∙ left_here columns c below)

-- Once its farewell was handed up, too.
farewell_has_left :
    {W : Type 0} (m : Match W) (events : List Event) (i c : ℕ) → c < m.clients →
    SaidFarewell m events i c → (column_of (record_after m events i).columns c).left ≡ true
farewell_has_left m events i c own said =
    let columns : List Column = (record_after m events said.up).columns in
    let below : c < length columns =
    subst (λ n. c < n) (sym (length_columns m events said.up)) own in
    left_stays m events said.up i c said.before
    (ap (λ progress. (column_of progress.columns c).left)
    (next_record m events said.up (Up said.number) said.handed)
    ∙ ap (λ (found : Option Sent). (column_of (columns_after_up found columns) c).left) said.packet
    ∙ left_here columns c below)

-- Once an event dropped a client of the match, or handed up its farewell, it has left.
pub the_told_have_left :
    {W : Type 0} (m : Match W) (events : List Event) (i c : ℕ) → c < m.clients →
    WasDropped m events i c ⊎ SaidFarewell m events i c →
    (column_of (record_after m events i).columns c).left ≡ true
the_told_have_left m events i c own (inl dropped) = dropped_has_left m events i c own dropped
the_told_have_left m events i c own (inr said) = farewell_has_left m events i c own said
