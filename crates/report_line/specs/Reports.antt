-- What contracts see of the ends of the queue of reports and of its receiver.
use Rattle.std.specs.Prelude.{◌≡◌, ℕ, ◌<◌, List, [], length, slice_index_or}
use Rattle.std.specs.declared.alloc.Global.{Global}
use Rattle.std.specs.Arc.{arc_value}
use Rattle.crossbeam_queue.specs.SegTies.{SegId}
use Rattle.report_line.specs.declared.heard.Heard.{Heard}
use Rattle.report_line.specs.declared.report_receiver.ReportReceiver.{ReportReceiver}
use Rattle.report_line.specs.declared.reports.Reports.{Reports}
use Rattle.report_line.specs.Order.{AreOf}

-- What the end pushed, in order.
abbrev pub pushed : Reports → List Heard
pushed end = end.pass.me.view.client.pushed

-- Its number among the ends of its queue, the first of which is 0.
abbrev pub number_of : Reports → ℕ
number_of end = end.pass.me.view.client.number

-- The queue of which it is an end.
abbrev pub queue_of : Reports → SegId Global
queue_of end = (arc_value end.line).queue

-- What the receiver popped, in order.
abbrev pub heard : ReportReceiver → List Heard
heard receiver = receiver.pass.me.view.client.heard

-- What each of the ends that were joined to it had pushed: by number, that of end k at place k.
abbrev pub joined : ReportReceiver → List (List Heard)
joined receiver = receiver.pass.me.view.client.joined

-- How many ends its queue has.
abbrev pub ends_of : ReportReceiver → ℕ
ends_of receiver = receiver.pass.me.view.client.ends

-- The queue that it hears.
abbrev pub queue_heard : ReportReceiver → SegId Global
queue_heard receiver = (arc_value receiver.line).queue

-- It is the same end, whatever it has pushed in between.
pub record IsSameEnd (old new : Reports) : Type 0 where
  pub queue : queue_of new ≡ queue_of old
  pub number : number_of new ≡ number_of old

-- It is the same receiver, whatever it has heard and whatever was joined to it in between.
pub record IsSameReceiver (old new : ReportReceiver) : Type 0 where
  pub queue : queue_heard new ≡ queue_heard old
  pub ends : ends_of new ≡ ends_of old

-- A new end of this queue, with this number: it has pushed nothing.
pub record IsNewEnd (queue : SegId Global) (number : ℕ) (end : Reports) : Type 0 where
  pub queue_is : queue_of end ≡ queue
  pub number_is : number_of end ≡ number
  pub unpushed : pushed end ≡ []

-- So many new ends of the receiver's queue, by number, which has no others. Nothing was heard, and
-- none was joined.
pub record AreNewEnds (count : ℕ) (ends : List Reports) (receiver : ReportReceiver) : Type 0 where
  pub count_is : length ends ≡ count
  pub each : (k : ℕ) (d : Reports) → k < length ends →
      IsNewEnd (queue_heard receiver) k (slice_index_or ends k d)
  pub ends_are : ends_of receiver ≡ count
  pub unheard : heard receiver ≡ []
  pub unjoined : joined receiver ≡ []

-- It is the same end, and if it had pushed reports of client c alone, it still has.
pub record StaysOf (c : ℕ) (old new : Reports) : Type 0 where
  pub same : IsSameEnd old new
  pub own : AreOf c (pushed old) → AreOf c (pushed new)
