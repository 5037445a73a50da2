-- The rule of the queue of reports: what it says of the reports that the queue holds, and of what
-- its ends and its receiver know.
use Rattle.std.specs.Prelude.{◌≡◌, ℕ, ◌+◌, ◌<◌, ◌≤◌, true, false, List, [], ◌∷◌, ◌++◌}
use Rattle.std.specs.Prelude.{length, map, slice_index_or}
use mathlib.Core.Option.{some}
use lib.ListN.{get_elem?}
use Rattle.report_line.specs.declared.heard.Heard.{Heard}
use Rattle.report_line.specs.declared.known.Known.{Known}
use Rattle.report_line.specs.Order.{Numbered, report_of, of_end, IsInterleaving}

-- A receiver that has heard this, has so many ends, and was joined by those that had pushed this.
abbrev pub receiver : List Heard → ℕ → List (List Heard) → Known
receiver heard ends joined =
    record {
      pushes = false;
      number = 0;
      pushed = [];
      hears = true;
      heard = heard;
      ends = ends;
      joined = joined;
    }

-- The end of this number, which has pushed this.
abbrev pub pusher : ℕ → List Heard → Known
pusher number pushed =
    record {
      pushes = true;
      number = number;
      pushed = pushed;
      hears = false;
      heard = [];
      ends = 0;
      joined = [];
    }

-- The receiver of a new queue, which has no ends yet.
abbrev pub new_receiver : Known
new_receiver = receiver [] 0 []

-- The receiver after one more end was made, and this end.
abbrev pub with_end : Known → Known
with_end old = receiver old.heard (old.ends + 1) old.joined

abbrev pub new_end : Known → Known
new_end old = pusher old.ends []

-- An end after it pushed a report, and the receiver after it popped one.
abbrev pub after_push : Known → Heard → Known
after_push old report = pusher old.number (old.pushed ++ report ∷ [])

abbrev pub after_pop : Known → Heard → Known
after_pop old report = receiver (old.heard ++ report ∷ []) old.ends old.joined

-- The receiver after an end was joined to it, and what is left of the end.
abbrev pub after_join : Known → Known → Known
after_join old end = receiver old.heard old.ends (old.joined ++ end.pushed ∷ [])

abbrev pub spent : Known
spent = record new_receiver { hears = false }

-- What an end knows, the n-th pass of the queue: it is the end before this pass, it was not joined
-- yet, and it pushed what was pushed in its name.
pub record AgreesAsEnd (joined : ℕ) (all : List Numbered) (n : ℕ) (known : Known) : Type 0 where
  pub place : n ≡ known.number + 1
  pub unjoined : joined ≤ known.number
  pub pushed_are : known.pushed ≡ of_end known.number all

-- What the receiver knows, which is the first pass: what was popped, how many ends were made, and
-- what those that were joined had pushed.
pub record AgreesAsReceiver (ends : ℕ) (joined : List (List Heard)) (out : List Numbered) (n : ℕ)
    (known : Known) : Type 0 where
  pub first : n ≡ 0
  pub heard_are : known.heard ≡ map report_of out
  pub ends_are : known.ends ≡ ends
  pub joined_are : known.joined ≡ joined

-- What the n-th pass knows, of the reports that were popped and those that were pushed in all.
pub record Agrees (ends : ℕ) (joined : List (List Heard)) (out all : List Numbered) (n : ℕ)
    (known : Known) : Type 0 where
  pub as_end : known.pushes ≡ true → AgreesAsEnd (length joined) all n known
  pub as_receiver : known.hears ≡ true → AgreesAsReceiver ends joined out n known

-- What holds of the queue at any moment: so many ends were made, and those that were joined had
-- pushed this in all. The reports that were popped, and then those that the queue holds, can be
-- numbered by their ends so that each end pushed those of its number.
pub record IsReportQueue (items : List Heard) (views : List Known) : Type 0 where
  pub ends : ℕ
  pub joined : List (List Heard)
  pub out : List Numbered
  pub queued : List Numbered
  pub items_are : map report_of queued ≡ items
  pub passes : length views ≡ ends + 1
  pub fewer : length joined ≤ ends
  pub joined_are : (k : ℕ) → k < length joined →
      of_end k (out ++ queued) ≡ slice_index_or joined k []
  pub unmade : (k : ℕ) → ends ≤ k → of_end k (out ++ queued) ≡ []
  pub agrees : (n : ℕ) (known : Known) → get_elem? views n ≡ some known →
      Agrees ends joined out (out ++ queued) n known

-- What the receiver learns where the queue is empty: if all ends were joined, it has heard all.
abbrev pub HasHeardAll : Known → List Heard → Type 0
HasHeardAll known items =
    items ≡ [] → length known.joined ≡ known.ends → IsInterleaving known.heard known.joined
