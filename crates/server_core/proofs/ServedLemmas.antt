-- A server stays one that serves its match, whatever call it takes, and its alarms are those of the
-- agreed worlds.
use Rattle.std.specs.Prelude.{◌≡◌, ℕ, zero, suc, ◌+◌, ◌<◌, ◌≤◌, ◌⊎◌}
use Rattle.std.specs.Prelude.{List, [], ◌∷◌, ◌++◌, length, Option, Some, None, slice_get}
use Rattle.std.proofs.Common.{refl, sym, ap, ap₂, subst, ◌∙◌, arith, add-one, inl, inr}
use Rattle.std.proofs.Common.{get_or, length-append}
use Rattle.std.proofs.lemmas.Option.{slice_get_cases}
use Rattle.game_orders.specs.declared.entry.Entry.{Entry}
use Rattle.game_orders.specs.declared.entry.Entry.TheVariants.{Play}
use Rattle.frame_core.specs.declared.ready.Ready.{Ready}
use Rattle.frame_core.specs.declared.ready.Ready.TheVariants.{Yes, NotYet, Over}
use Rattle.frame_core.specs.Column.{Column, column_of, put_column, left_column}
use Rattle.frame_core.specs.Ready.{ready_at, each_at, frame_at}
use Rattle.frame_core.specs.Grows.{Grows}
use Rattle.frame_core.proofs.GrowsLemmas.{Grows-refl, Grows-set, put_grows, left_grows, world_grows}
use Rattle.frame_core.specs.Tick.{ticked_after, stepped}
use Rattle.frame_core.specs.Agreed.{AreReady, IsAt}
use Rattle.frame_core.proofs.AgreedLemmas.{ready_have, opening_is_at, grow_is_at, tick_is_at}
use Rattle.frame_core.specs.Match.{Match, agreed_hash}
use Rattle.order_packets.specs.declared.up.Up.{Up}
use Rattle.order_packets.specs.declared.up.Up.TheVariants.{Hello, Orders, Sync, Bye}
use Rattle.server_core.specs.declared.alarm.Alarm.{Alarm}
use Rattle.server_core.specs.Board.{reports_of}
use Rattle.server_core.specs.Alarm.{alarm_of, DiffersAt, IsAlarm}
use Rattle.server_core.proofs.AlarmLemmas.{least_alarm}
use Rattle.server_core.specs.Server.{ServerState, fresh_server, after_packet, after_drop}
use Rattle.server_core.specs.Server.{columns_after_packet, columns_after_drop}
use Rattle.server_core.specs.Server.{marks_after_tick, after_tick}
use Rattle.server_core.specs.Served.{marks_by, agreed_marks, IsServed, DesyncAt, IsAgreedAlarm}

-- A packet grows the columns.
pub packet_grows :
    (columns : List Column) (c : ℕ) (packet : Up) →
    Grows columns (columns_after_packet columns c packet)
packet_grows columns c (Hello version rules) = Grows-refl columns
packet_grows columns c (Orders frame orders) =
    Grows-set columns c (put_column (column_of columns c) frame (Play orders))
    (put_grows (column_of columns c) frame (Play orders))
packet_grows columns c (Sync frame hash) = Grows-refl columns
packet_grows columns c Bye =
    Grows-set columns c (left_column (column_of columns c)) (left_grows (column_of columns c))

-- A drop grows the columns.
pub drop_grows : (columns : List Column) (c : ℕ) → Grows columns (columns_after_drop columns c)
drop_grows columns c =
    Grows-set columns c (left_column (column_of columns c)) (left_grows (column_of columns c))

-- The marks of ready frames stay as they are when the columns grow.
pub marks_stay :
    {W : Type 0} (m : Match W) (olds news : List Column) (n : ℕ) → Grows olds news →
    AreReady olds n → agreed_marks m news n ≡ agreed_marks m olds n
marks_stay m olds news zero grows ready = refl
marks_stay m olds news (suc n) grows ready =
    ap₂ (λ marks mark. marks ++ mark ∷ [])
    (marks_stay m olds news n grows (λ k below. ready k (omega arith)))
    (ap m.hash
    (world_grows m.after m.start olds news (suc n) grows
    (λ k below. ready_have olds k (ready k below))))

-- A server before its first call, in the opening world.
pub fresh_is_served :
    {W : Type 0} (m : Match W) (clients : ℕ) → IsServed m (fresh_server clients m.start)
fresh_is_served m clients =
    record {
      at = opening_is_at m.after m.start (fresh_server clients m.start).columns;
      marks = refl;
    }

-- Columns that grow, and any reports.
pub grow_is_served :
    {W : Type 0} (m : Match W) (server : ServerState W) (news : List Column)
    (reports : List (List (Option ℕ))) → Grows server.columns news → IsServed m server →
    IsServed m (record server { columns = news; reports = reports })
grow_is_served m server news reports grows served =
    record {
      at =
          grow_is_at m.after m.start server.columns news server.ticked server.world grows served.at;
      marks =
          served.marks
          ∙ sym (marks_stay m server.columns news server.ticked grows served.at.ready);
    }

-- A packet.
pub packet_is_served :
    {W : Type 0} (m : Match W) (server : ServerState W) (c : ℕ) (packet : Up) →
    IsServed m server → IsServed m (after_packet server c packet)
packet_is_served m server c packet served =
    grow_is_served m server (after_packet server c packet).columns
    (after_packet server c packet).reports (packet_grows server.columns c packet) served

-- A drop.
pub drop_is_served :
    {W : Type 0} (m : Match W) (server : ServerState W) (c : ℕ) →
    IsServed m server → IsServed m (after_drop server c)
drop_is_served m server c served =
    grow_is_served m server (columns_after_drop server.columns c) server.reports
    (drop_grows server.columns c) served

tick_marks :
    {W : Type 0} (m : Match W) (columns : List Column) (n : ℕ) (world : W) (frame : List Entry)
    (marks : List ℕ) (ready : Ready) →
    IsAt m.after m.start columns (ticked_after ready n) (stepped ready m.after world frame) →
    marks ≡ agreed_marks m columns n →
    marks_after_tick ready marks (m.hash (stepped ready m.after world frame))
    ≡ agreed_marks m columns (ticked_after ready n)
tick_marks m columns n world frame marks Yes at are =
    rw add-one (ap₂ (λ held mark. held ++ mark ∷ []) are (ap m.hash (rw add-one at at.is)))
tick_marks m columns n world frame marks (NotYet c) at are = are
tick_marks m columns n world frame marks Over at are = are

-- A tick.
pub tick_is_served :
    {W : Type 0} (m : Match W) (server : ServerState W) →
    IsServed m server → IsServed m (after_tick m.after m.hash server)
tick_is_served m server served =
    let ready = ready_at server.columns server.ticked in
    let frame = frame_at server.columns server.ticked in
    let at :
    IsAt m.after m.start server.columns (ticked_after ready server.ticked)
    (stepped ready m.after server.world frame) =
    tick_is_at m.after m.start server.columns server.ticked server.world
    (each_at server.columns server.ticked) ready refl (λ some. refl) served.at in
    record {
      at = at;
      marks =
          tick_marks m server.columns server.ticked server.world frame server.marks ready at
          served.marks;
    }

-- There is one mark for each frame.
length-marks_by : (hash_at : ℕ → ℕ) (n : ℕ) → length (marks_by hash_at n) ≡ n
length-marks_by hash_at zero = refl
length-marks_by hash_at (suc n) =
    let whole = length-append (marks_by hash_at n) (hash_at (suc n) ∷ []) in
    omega (arith, whole, length-marks_by hash_at n)

pub length-agreed_marks :
    {W : Type 0} (m : Match W) (columns : List Column) (n : ℕ) →
    length (agreed_marks m columns n) ≡ n
length-agreed_marks m columns n = length-marks_by (agreed_hash m columns) n

get_before :
    (xs : List ℕ) (y k : ℕ) → k < length xs → slice_get (xs ++ y ∷ []) k ≡ slice_get xs k
get_before [] y k below = absurd (omega arith)
get_before (x ∷ xs) y zero below = refl
get_before (x ∷ xs) y (suc k) below = get_before xs y k (omega arith)

get_last : (xs : List ℕ) (y : ℕ) → slice_get (xs ++ y ∷ []) (length xs) ≡ Some y
get_last [] y = refl
get_last (x ∷ xs) y = get_last xs y

next_mark :
    (hash_at : ℕ → ℕ) (n k : ℕ) →
    (k < n → slice_get (marks_by hash_at n) k ≡ Some (hash_at (k + 1))) → (k < n) ⊎ (k ≡ n) →
    slice_get (marks_by hash_at (suc n)) k ≡ Some (hash_at (k + 1))
next_mark hash_at n k before (inl less) =
    get_before (marks_by hash_at n) (hash_at (suc n)) k (omega (arith, length-marks_by hash_at n))
    ∙ before less
next_mark hash_at n k before (inr same) =
    let last : k ≡ length (marks_by hash_at n) = omega (arith, length-marks_by hash_at n) in
    ap (slice_get (marks_by hash_at (suc n))) last
    ∙ get_last (marks_by hash_at n) (hash_at (suc n))
    ∙ ap (λ i. Some (hash_at i)) (omega (arith, same))

mark_by :
    (hash_at : ℕ → ℕ) (n k : ℕ) → k < n → slice_get (marks_by hash_at n) k ≡ Some (hash_at (k + 1))
mark_by hash_at zero k below = absurd (omega arith)
mark_by hash_at (suc n) k below = next_mark hash_at n k (mark_by hash_at n k) (grind arith)

-- The mark of frame k is the hash of the agreed world after it.
pub agreed_mark :
    {W : Type 0} (m : Match W) (columns : List Column) (n k : ℕ) → k < n →
    slice_get (agreed_marks m columns n) k ≡ Some (agreed_hash m columns (k + 1))
agreed_mark m columns n k below = mark_by (agreed_hash m columns) n k below

-- Where there is a mark, it is that of a frame below the count.
mark_tells :
    (hash_at : ℕ → ℕ) (n k want : ℕ) → slice_get (marks_by hash_at n) k ≡ Some want →
    (k < n) × (want ≡ hash_at (k + 1))
mark_tells hash_at n k want at = by_place ((slice_get_cases marks k).1) where
  marks : List ℕ
  marks = marks_by hash_at n

  by_place :
      ((x : ℕ) × (k < length marks) × (slice_get marks k ≡ Some x) × (get_or marks k x ≡ x))
      ⊎ ((length marks ≤ k) × (slice_get marks k ≡ None)) → (k < n) × (want ≡ hash_at (k + 1))
  by_place (inl (x, below, found, is)) =
      let ticked : k < n = omega (arith, length-marks_by hash_at n) in
      let mark : slice_get marks k ≡ Some (hash_at (k + 1)) = mark_by hash_at n k ticked in
      let same : Some want ≡ Some (hash_at (k + 1)) = sym at ∙ mark in
      (ticked, cc)
  by_place (inr (past, none)) = absurd (let never : None ≡ Some want = sym none ∙ at in cc)

differs_of :
    (reports : List (Option ℕ)) (hash_at : ℕ → ℕ) (count n got : ℕ) →
    DesyncAt reports count hash_at n got →
    DiffersAt reports (marks_by hash_at count) n got (hash_at (n + 1))
differs_of reports hash_at count n got desync =
    record {
      reported = desync.reported;
      wanted = mark_by hash_at count n desync.ticked;
      differ = desync.differ;
    }

desync_of :
    (reports : List (Option ℕ)) (hash_at : ℕ → ℕ) (count n got want : ℕ) →
    DiffersAt reports (marks_by hash_at count) n got want →
    DesyncAt reports count hash_at n got × (want ≡ hash_at (n + 1))
desync_of reports hash_at count n got want differs =
    let tells = mark_tells hash_at count n want differs.wanted in (
      record {
        ticked = tells.0;
        reported = differs.reported;
        differ = λ same. differs.differ (same ∙ sym tells.1);
      },
      tells.1,
    )

-- The least difference from the marks is the least difference from the agreed worlds.
alarm_by :
    (reports : List (Option ℕ)) (hash_at : ℕ → ℕ) (count : ℕ) (alarm : Option Alarm) →
    IsAlarm reports (marks_by hash_at count) alarm → IsAgreedAlarm reports count hash_at alarm
alarm_by reports hash_at count None none =
    λ n got desync. none n got (hash_at (n + 1)) (differs_of reports hash_at count n got desync)
alarm_by reports hash_at count (Some alarm) least =
    let here = desync_of reports hash_at count alarm.frame alarm.got alarm.want least.0 in (
      here.0,
      here.1,
      λ n got desync.
          least.1 n got (hash_at (n + 1)) (differs_of reports hash_at count n got desync),
    )

-- The alarm of a client is the least frame below the server's ticked count whose kept report
-- differs from the hash of the agreed world after that frame.
pub agreed_alarm :
    {W : Type 0} (m : Match W) (server : ServerState W) → IsServed m server → (c : ℕ) →
    IsAgreedAlarm (reports_of server.reports c) server.ticked (agreed_hash m server.columns)
    (alarm_of (reports_of server.reports c) server.marks)
agreed_alarm m server served c =
    let reports = reports_of server.reports c in
    let P : List ℕ → Type 0 = λ marks. IsAlarm reports marks (alarm_of reports server.marks) in
    alarm_by reports (agreed_hash m server.columns) server.ticked (alarm_of reports server.marks)
    (subst P served.marks (least_alarm reports server.marks))
