-- No column is longer than a match may be.
use Rattle.std.proofs.Common.{◌≡◌, ℕ, Bool, true, false, zero, suc, ◌≤◌, List, [], ◌∷◌, replicate}
use Rattle.std.proofs.Common.{refl, arith, inl, inr}
use Rattle.std.specs.Prelude.{Option, Some, None, slice_get, ◌==◌, nat_lt, ◌&&◌, if◌then◌else◌}
use Rattle.std.specs.List.{AllByRecursion}
use Rattle.std.proofs.lemmas.Bool.{eqb-false, ltb-false}
use Rattle.std.proofs.lemmas.List.{length_push}
use Rattle.std.proofs.lemmas.Option.{slice_get_cases}
use Rattle.game_orders.specs.declared.limits.TheConstants.{MAX_FRAMES}
use Rattle.game_orders.specs.declared.order.Order.{Order}
use Rattle.game_orders.specs.declared.entry.Entry.{Entry}
use Rattle.game_orders.specs.declared.entry.Entry.TheVariants.{Play, Leave}
use Rattle.game_orders.specs.Entry.{same_entry, is_play}
use Rattle.frame_core.specs.declared.put.Put.TheVariants.{Fixed, Repeat, Conflict, Left, Ahead}
use Rattle.frame_core.specs.declared.put.Put.TheVariants.{Full}
use Rattle.frame_core.specs.Column.{Column, no_column, length_of, entry_from, entry_at, put_by}
use Rattle.frame_core.specs.Column.{put_column, after_answer, with_entry, column_of, IsWithinFrames}
use Rattle.server_core.specs.Server.{columns_after_drop, columns_after_packet}
use Rattle.order_packets.specs.declared.up.Up.{Up as Packet}
use Rattle.order_packets.specs.declared.up.Up.TheVariants.{Hello, Orders, Sync, Bye}
use Rattle.drill.proofs.RunningMatchLemmas.{all_set}

-- Where no entry stands, no play does.
no_play : (found : Option (List Order)) (orders : List Order) (left : Bool) → found ≡ Some orders → entry_from found left ≡ None → ⊥
no_play (Some held) orders left is none = absurd cc
no_play None orders left is none = absurd cc

pub past_plays : (column : Column) (n : ℕ) → entry_at column n ≡ None → length_of column ≤ n
past_plays column n none =
    elim (slice_get_cases column.plays n).1 [ inl at ↦ absurd (no_play (slice_get column.plays n) at.0 _ at.2 none) | inr past ↦ past.0 ]

-- A put adds a play only below the last frame.
put_in_frames : (column : Column) (n : ℕ) (entry : Entry) → IsWithinFrames column → IsWithinFrames (put_column column n entry)
put_in_frames column n entry within = by_kept (entry_at column n) refl where
  added :
      (entry : Entry) → (is_play entry && (n == MAX_FRAMES)) ≡ false → nat_lt (length_of column) n ≡ false → length_of column ≤ n →
      IsWithinFrames (with_entry column entry)
  added (Play orders) full ahead past =
      omega (arith, eqb-false n MAX_FRAMES full, ltb-false (length_of column) n ahead, past, within, length_push column.plays orders)
  added Leave full ahead past = within

  by_same : (kept : Entry) (same : Bool) → IsWithinFrames (after_answer (if same then Repeat else Conflict kept) column entry)
  by_same kept true = within
  by_same kept false = within

  by_tests :
      (gone ahead full : Bool) → nat_lt (length_of column) n ≡ ahead → (is_play entry && (n == MAX_FRAMES)) ≡ full → length_of column ≤ n →
      IsWithinFrames (after_answer (if gone then Left (length_of column) else (if ahead then Ahead (length_of column) else (if full then Full else Fixed))) column entry)
  by_tests true ahead full ahead_is full_is past = within
  by_tests false true full ahead_is full_is past = within
  by_tests false false true ahead_is full_is past = within
  by_tests false false false ahead_is full_is past = added entry full_is ahead_is past

  by_kept : (kept : Option Entry) → entry_at column n ≡ kept → IsWithinFrames (after_answer (put_by kept column n entry) column entry)
  by_kept (Some kept) is = by_same kept (same_entry entry kept)
  by_kept None is = by_tests _ _ _ refl refl (past_plays column n is)

pub columns_in_frames : (columns : List Column) (c : ℕ) → AllByRecursion IsWithinFrames columns → IsWithinFrames (column_of columns c)
columns_in_frames [] c all = omega arith
columns_in_frames (column ∷ columns) zero all = all.0
columns_in_frames (column ∷ columns) (suc c) all = columns_in_frames columns c all.1

pub fresh_in_frames : (clients : ℕ) → AllByRecursion IsWithinFrames (replicate clients no_column)
fresh_in_frames zero = tt
fresh_in_frames (suc clients) = (omega arith, fresh_in_frames clients)

pub left_in_frames : (columns : List Column) (c : ℕ) → AllByRecursion IsWithinFrames columns → AllByRecursion IsWithinFrames (columns_after_drop columns c)
left_in_frames columns c all = all_set IsWithinFrames columns c _ all (columns_in_frames columns c all)

pub packet_in_frames :
    (columns : List Column) (c : ℕ) (packet : Packet) → AllByRecursion IsWithinFrames columns →
    AllByRecursion IsWithinFrames (columns_after_packet columns c packet)
packet_in_frames columns c (Hello version rules) all = all
packet_in_frames columns c (Orders frame orders) all =
    all_set IsWithinFrames columns c _ all (put_in_frames (column_of columns c) frame (Play orders) (columns_in_frames columns c all))
packet_in_frames columns c (Sync frame hash) all = all
packet_in_frames columns c Bye all = left_in_frames columns c all
