-- A world that is stepped by the bytes of agreed frames.
use Rattle.std.proofs.Common.{arith, ◌≡◌, ◌<◌, ◌≤◌, ◌⊎◌, ℕ, zero, suc, ◌+◌, List, [], ◌∷◌, ◌++◌, length, replicate, Bool, true, false, Option, Some, None, inl, inr, refl, sym, ap, ap₂, subst, ◌∙◌}
use Rattle.std.specs.Prelude.{nat_lt, slice_get, slice_index_or, if◌then◌else◌}
use Rattle.std.specs.List.{AllByRecursion}
use Rattle.std.proofs.lemmas.Bool.Decides.{nat_tests}
use Rattle.std.proofs.lemmas.List.{append-nil, length-replicate, length-set}
use Rattle.std.proofs.lemmas.Option.{slice_get_within}
use Rattle.game_orders.specs.declared.entry.Entry.{Entry}
use Rattle.game_orders.specs.declared.entry.Entry.TheVariants.{Play, Leave}
use Rattle.game_orders.specs.declared.limits.TheConstants.{MAX_FRAMES}
use Rattle.game_orders.specs.declared.order.Order.{Order}
use Rattle.frame_core.specs.declared.sim.TheConstants.{MAX_STEPS}
use Rattle.frame_core.specs.Column.{Column, column_of, entry_from, left_column, no_column, put_column}
use Rattle.frame_core.specs.Match.{agreed_hash}
use Rattle.frame_core.specs.Ready.{frame_at, or_leave}
use Rattle.frame_core.specs.World.{world_at}
use Rattle.order_packets.specs.declared.up.Up.{Up}
use Rattle.order_packets.specs.declared.up.Up.TheVariants.{Hello, Orders, Sync, Bye}
use Rattle.game_model.specs.declared.world.World.{World}
use Rattle.game_model.specs.World.{start_of}
use Rattle.game_tick.specs.Keeps.{TickKeeps}
use Rattle.game_tick.proofs.KeepsLemmas.{tick_keeps}
use Rattle.replay_file.specs.declared.limits.TheConstants.{GREATEST_TAG}
use Rattle.replay_file.proofs.EntriesLemmas.{entries_again, entries_known}
use Rattle.replay_file.specs.PartBytes.{FitsEntry, entries_bytes}
use Rattle.replay_file.specs.PartReading.{entries_after}
use Rattle.replay_file.specs.PartRules.{EntryFollows, StayDeparted}
use Rattle.server_core.specs.Served.{IsServed, marks_by}
use Rattle.server_core.specs.Server.{columns_after_packet, after_drop}
use Rattle.setup_files.specs.declared.making.Made.{Made}
use Rattle.tick_core.specs.Game.{GameState, game_start, game_after, game_hash}
use Rattle.c_objects.specs.declared.code.TheConstants.{OK, FULL}
use Rattle.c_worlds.specs.Worlds.{frame_code, game_by, game_code, game_stepped, whole}
use Rattle.c_worlds.specs.Worlds as worlds
use Rattle.c_matches.specs.Histories.{ServerCall, Take, Drop, TickServer, server_after, server_after_all, match_of}
use Rattle.c_matches.specs.Histories.{bytes_at, stepped_along, IsAlong, FitFrames, WorldsFollow}
use Rattle.c_matches.specs.Packets.{up_in}
use Rattle.c_matches.specs.Servers.{GameServer, fresh_of, packet_taken}
use Rattle.c_matches.proofs.HistoryLemmas.{servers_agree}

-- ---- a server has as many columns all along

packet_count : (columns : List Column) (c : ℕ) (packet : Up) → length (columns_after_packet columns c packet) ≡ length columns
packet_count columns c (Hello version rules) = refl
packet_count columns c (Orders frame orders) = length-set columns c (put_column (column_of columns c) frame (Play orders))
packet_count columns c (Sync frame hash) = refl
packet_count columns c Bye = length-set columns c (left_column (column_of columns c))

up_count : (c : ℕ) (packet : Option Up) (server : GameServer) (inside : Bool) →
    length (if inside then packet_taken c packet server else server).columns ≡ length server.columns
up_count c None server true = refl
up_count c (Some packet) server true = packet_count server.columns c packet
up_count c packet server false = refl

drop_count : (c : ℕ) (server : GameServer) (inside : Bool) →
    length (if inside then after_drop server c else server).columns ≡ length server.columns
drop_count c server true = length-set server.columns c (left_column (column_of server.columns c))
drop_count c server false = refl

call_count : (call : ServerCall) (server : GameServer) → length (server_after call server).columns ≡ length server.columns
call_count (Take c bytes) server = up_count c (up_in bytes) server (nat_lt c (length server.columns))
call_count (Drop c) server = drop_count c server (nat_lt c (length server.columns))
call_count TickServer server = refl

all_count : (calls : List ServerCall) (server : GameServer) → length (server_after_all calls server).columns ≡ length server.columns
all_count [] server = refl
all_count (call ∷ calls) server = all_count calls (server_after call server) ∙ call_count call server

-- ---- who has departed stays away

past_too : (xs : List (List Order)) (k : ℕ) → slice_get xs k ≡ None → slice_get xs (suc k) ≡ None
past_too [] k none = refl
past_too (x ∷ xs) zero none = absurd cc
past_too (x ∷ xs) (suc k) none = past_too xs k none

left_once :
    (plays : List (List Order)) (left : Bool) (n : ℕ) (found : Option (List Order)) → slice_get plays n ≡ found →
    Some (or_leave (entry_from found left)) ≡ Some Leave → Some (or_leave (entry_from (slice_get plays (suc n)) left)) ≡ Some Leave
left_once plays left n (Some orders) at is = absurd cc
left_once plays true n None at is = rw (past_too plays n at) refl
left_once plays false n None at is = rw (past_too plays n at) refl

stays_left :
    (columns : List Column) (n c : ℕ) → slice_get (frame_at columns n) c ≡ Some Leave →
    slice_get (frame_at columns (suc n)) c ≡ Some Leave
stays_left [] n c is = absurd cc
stays_left (column ∷ columns) n zero is = left_once column.plays column.left n (slice_get column.plays n) refl is
stays_left (column ∷ columns) n (suc c) is = stays_left columns n c is

-- Who is gone departs in the frame.
abbrev GoneLeave : List Bool → List Entry → Type 0
GoneLeave gone frame = (c : ℕ) → slice_get gone c ≡ Some true → slice_get frame c ≡ Some Leave

told_gone : (gone : List Bool) (c : ℕ) → slice_get gone c ≡ Some true → slice_index_or gone c true ≡ true
told_gone [] c is = refl
told_gone (b ∷ gone) zero is = let e : b ≡ true = cc in e
told_gone (b ∷ gone) (suc c) is = told_gone gone c is

found_gone : (gone : List Bool) (c : ℕ) → c < length gone → slice_index_or gone c true ≡ true → slice_get gone c ≡ Some true
found_gone [] c lt is = absurd (omega (arith, lt))
found_gone (b ∷ gone) zero lt is = ap Some is
found_gone (b ∷ gone) (suc c) lt is = found_gone gone c (omega (arith, lt)) is

gone_next :
    (old new : World) (frame next : List Entry) → TickKeeps old frame new → GoneLeave old.gone frame →
    ((c : ℕ) → slice_get frame c ≡ Some Leave → slice_get next c ≡ Some Leave) → GoneLeave new.gone next
gone_next old new frame next keeps before on c is =
    let within : c < length new.gone = slice_get_within new.gone c true is in
    let lt : c < length old.gone = omega (arith, within, keeps.flags) in
    on c (either c lt ((keeps.gone c).0 (told_gone new.gone c is))) where
      either : (c : ℕ) → c < length old.gone → ((slice_index_or old.gone c true ≡ true) ⊎ (slice_get frame c ≡ Some Leave)) →
          slice_get frame c ≡ Some Leave
      either c lt (inl was) = before c (found_gone old.gone c lt was)
      either c lt (inr leaves) = leaves

nobody : (clients c : ℕ) → slice_get (replicate clients false) c ≡ Some true → ⊥
nobody zero c is = absurd cc
nobody (suc n) zero is = absurd cc
nobody (suc n) (suc c) is = nobody n c is

-- ---- the agreed worlds

abbrev agreed : Made → (clients seed : ℕ) → List Column → ℕ → GameState
agreed made clients seed columns n = world_at game_after (game_start made.maker seed clients) columns n

steps_are : (made : Made) (clients seed : ℕ) (columns : List Column) (n : ℕ) → (agreed made clients seed columns n).steps ≡ n
steps_are made clients seed columns zero = refl
steps_are made clients seed columns (suc n) = omega (arith, steps_are made clients seed columns n)

flags_are : (made : Made) (clients seed : ℕ) (columns : List Column) (n : ℕ) → length (agreed made clients seed columns n).world.gone ≡ clients
unfolding start_of
flags_are made clients seed columns zero = length-replicate clients false
flags_are made clients seed columns (suc n) =
    let before = agreed made clients seed columns n in
    (tick_keeps before.setup before.world (frame_at columns n)).flags ∙ flags_are made clients seed columns n

gone_are : (made : Made) (clients seed : ℕ) (columns : List Column) (n : ℕ) →
    GoneLeave (agreed made clients seed columns n).world.gone (frame_at columns n)
unfolding start_of
gone_are made clients seed columns zero = λ c is. absurd (nobody clients c is)
gone_are made clients seed columns (suc n) =
    let before = agreed made clients seed columns n in
    gone_next before.world (game_after before (frame_at columns n)).world (frame_at columns n) (frame_at columns (suc n))
    (tick_keeps before.setup before.world (frame_at columns n)) (gone_are made clients seed columns n) (stays_left columns n)

-- ---- the bytes of a frame spell it to the world

follows_here : (gone : Bool) (entry : Entry) → (Some gone ≡ Some true → Some entry ≡ Some Leave) → EntryFollows gone entry
follows_here true (Play orders) left = let is : Some (Play orders) ≡ Some Leave = left refl in absurd cc
follows_here true Leave left = refl
follows_here false entry left = refl

stay_by : (flags : List Bool) (frame : List Entry) → length frame ≡ length flags → GoneLeave flags frame → StayDeparted flags frame
stay_by [] [] same left = tt
stay_by [] (entry ∷ entries) same left = absurd (omega arith)
stay_by (gone ∷ more) [] same left = absurd (omega arith)
stay_by (gone ∷ more) (entry ∷ entries) same left = (follows_here gone entry (left 0), stay_by more entries (omega arith) (λ c. left (suc c)))

spells : (gone : List Bool) (entries : List Entry) → StayDeparted gone entries → AllByRecursion FitsEntry entries →
    worlds.frame_at gone (entries_bytes entries) ≡ Some entries
unfolding whole
spells gone entries stay fits =
    ap whole (ap (entries_after GREATEST_TAG [] gone) (sym (append-nil (entries_bytes entries)))
    ∙ entries_again GREATEST_TAG gone [] entries [] stay fits (entries_known entries))

code_is : (game : GameState) (bytes : List ℕ) (entries : List Entry) → nat_lt game.steps MAX_STEPS ≡ true →
    worlds.frame_at game.world.gone bytes ≡ Some entries → game_code game bytes ≡ OK
code_is game bytes entries few reads =
    ap (λ b. if b then frame_code (worlds.frame_at game.world.gone bytes) else FULL) few ∙ ap frame_code reads

step_is : (game : GameState) (bytes : List ℕ) (entries : List Entry) → nat_lt game.steps MAX_STEPS ≡ true →
    worlds.frame_at game.world.gone bytes ≡ Some entries → game_stepped game bytes ≡ game_after game entries
step_is game bytes entries few reads =
    ap (λ b. if b then game_by game (worlds.frame_at game.world.gone bytes) else game) few ∙ ap (game_by game) reads

frame_count : (columns : List Column) (n : ℕ) → length (frame_at columns n) ≡ length columns
frame_count [] n = refl
frame_count (column ∷ columns) n = ap suc (frame_count columns n)

reads_at : (made : Made) (clients seed : ℕ) (columns : List Column) (n : ℕ) → length columns ≡ clients →
    AllByRecursion FitsEntry (frame_at columns n) →
    worlds.frame_at (agreed made clients seed columns n).world.gone (bytes_at columns n) ≡ Some (frame_at columns n)
reads_at made clients seed columns n same fits =
    spells (agreed made clients seed columns n).world.gone (frame_at columns n)
    (stay_by (agreed made clients seed columns n).world.gone (frame_at columns n)
    (frame_count columns n ∙ same ∙ sym (flags_are made clients seed columns n)) (gone_are made clients seed columns n))
    fits

few_steps : (made : Made) (clients seed : ℕ) (columns : List Column) (n : ℕ) → n < MAX_STEPS →
    nat_lt (agreed made clients seed columns n).steps MAX_STEPS ≡ true
few_steps made clients seed columns n few =
    ap (λ k. nat_lt k MAX_STEPS) (steps_are made clients seed columns n) ∙ (let is : nat_lt n MAX_STEPS ≡ true = grind (arith, nat_tests, few) in is)

-- ---- a world along the frames

along : (made : Made) (clients seed : ℕ) (columns : List Column) (n : ℕ) → length columns ≡ clients → n ≤ MAX_FRAMES → FitFrames columns n →
    stepped_along columns n (game_start made.maker seed clients) ≡ agreed made clients seed columns n
along made clients seed columns zero same few fits = refl
along made clients seed columns (suc n) same few fits =
    ap (λ (game : GameState). game_stepped game (bytes_at columns n))
    (along made clients seed columns n same (omega (arith, few)) (λ k lt. fits k (omega (arith, lt))))
    ∙ step_is (agreed made clients seed columns n) (bytes_at columns n) (frame_at columns n)
    (few_steps made clients seed columns n (omega (arith, few))) (reads_at made clients seed columns n same (fits n (omega arith)))

same_marks : (f g : ℕ → ℕ) (n : ℕ) → ((k : ℕ) → k ≤ n → f k ≡ g k) → marks_by f n ≡ marks_by g n
same_marks f g zero same = refl
same_marks f g (suc n) same =
    ap₂ (λ (marks : List ℕ) (mark : ℕ). marks ++ mark ∷ []) (same_marks f g n (λ k most. same k (omega (arith, most)))) (same (suc n) (omega arith))

follows :
    (made : Made) (clients seed : ℕ) (server : GameServer) → length server.columns ≡ clients → IsServed (match_of made clients seed 1) server →
    server.ticked ≤ MAX_FRAMES → FitFrames server.columns server.ticked → IsAlong (game_start made.maker seed clients) server
follows made clients seed server same served few fits =
    let start = game_start made.maker seed clients in
    let columns = server.columns in
    let at : (k : ℕ) → k ≤ server.ticked → stepped_along columns k start ≡ agreed made clients seed columns k =
    λ k most. along made clients seed columns k same (omega (arith, most, few)) (λ j lt. fits j (omega (arith, lt, most))) in
    record {
      codes = λ k lt.
          ap (λ (game : GameState). game_code game (bytes_at columns k)) (at k (omega (arith, lt)))
          ∙ code_is (agreed made clients seed columns k) (bytes_at columns k) (frame_at columns k)
          (few_steps made clients seed columns k (omega (arith, lt, few))) (reads_at made clients seed columns k same (fits k lt));
      world = at server.ticked (omega arith) ∙ sym served.at.is;
      marks =
          served.marks
          ∙ same_marks (agreed_hash (match_of made clients seed 1) columns) (λ k. game_hash (stepped_along columns k start)) server.ticked
          (λ k most. ap game_hash (sym (at k most)));
    }

pub worlds_follow : WorldsFollow
worlds_follow made clients seed calls server is few fits =
    let count : length server.columns ≡ clients =
    ap (λ (s : GameServer). length s.columns) is ∙ all_count calls (fresh_of made clients seed) ∙ length-replicate clients no_column in
    follows made clients seed server count (subst (λ (s : GameServer). IsServed (match_of made clients seed 1) s) (sym is) (servers_agree made clients seed 1 calls)) few fits
