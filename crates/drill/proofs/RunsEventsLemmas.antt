-- What runs of events print, over plain values.
use Rattle.std.proofs.Common.{◌≡◌, ℕ, Bool, true, zero, suc, ◌+◌, ◌≤◌, List, [], ◌∷◌, ◌++◌}
use Rattle.std.proofs.Common.{length, map, drop}
use Rattle.std.proofs.Common.{refl, sym, ap, ap₂, subst, ◌∙◌, arith, append-nil, append_assoc}
use Rattle.std.specs.Prelude.{Option, None, Some, Result, Ok, Err, OnOk, OnErr, slice_get}
use Rattle.std.specs.List.{AllByRecursion, list_all}
use Rattle.std.proofs.lemmas.Bool.{and_parts}
use Rattle.base.specs.Written.{Wrote, WrotePrefix, WroteUpTo}
use Rattle.base.proofs.WrittenLemmas.{nothing_yet, one_more, prefix_of}
use Rattle.base.proofs.WrittenLemmas.{prefix_put}
use Rattle.game_orders.specs.declared.entry.Entry.{Entry}
use Rattle.frame_core.specs.declared.summary.Summary.{Summary}
use Rattle.frame_core.specs.Column.{Column}
use Rattle.peer_core.specs.Peer.{PeerState}
use Rattle.peer_core.specs.Faithful.{IsFaithful}
use Rattle.drill_words.specs.declared.event.Event.{Event}
use Rattle.drill.specs.declared.outcome.Outcome.{Outcome}
use Rattle.frame_core.specs.Match.{Match, agreed_world}
use Rattle.drill.specs.Text.{outcome_line, outcome_lines}
use Rattle.drill.specs.Record.{Progress, outcome_of, after_event, after_events, outcomes}
use Rattle.drill.specs.Shown.{shown_server, shown_from}
use Rattle.drill.specs.RunningMatch.{RunState, reached_of, progress_of, match_from, AreNumbered}
use Rattle.drill.specs.RunningMatch.{IsWhole, IsSound, RunsEvent}
use Rattle.drill.specs.RunsEvents.{PrintsLines, CutsLines, RunsEvents, RanSoFar}

some_is : {X : Type 0} (x y : X) → Some x ≡ Some y → x ≡ y
some_is x y same = cc

-- Each event of a drill fits it.
pub fits_at :
    {X : Type 0} (p : X → Bool) (xs : List X) (i : ℕ) (x : X) → list_all p xs ≡ true → slice_get xs i ≡ Some x → p x ≡ true
fits_at p [] i x all at = absurd cc
fits_at p (y ∷ xs) zero x all at = ap p (sym (some_is y x at)) ∙ (and_parts (p y) (list_all p xs) all).0
fits_at p (y ∷ xs) (suc i) x all at = fits_at p xs i x (and_parts (p y) (list_all p xs) all).1 at

-- The events that are left begin with the next one.
pub next_event : {X : Type 0} (xs : List X) (i : ℕ) (x : X) → slice_get xs i ≡ Some x → drop i xs ≡ x ∷ drop (i + 1) xs
next_event [] i x at = absurd cc
next_event (y ∷ xs) zero x at = ap (λ z. z ∷ xs) (some_is y x at)
next_event (y ∷ xs) (suc i) x at =
    let same : suc (i + 1) ≡ suc i + 1 = omega arith in
    next_event xs i x at ∙ ap (λ n. x ∷ drop n (y ∷ xs)) same

pub none_left : {X : Type 0} (xs : List X) (i : ℕ) → length xs ≤ i → drop i xs ≡ []
none_left [] zero past = refl
none_left [] (suc i) past = refl
none_left (x ∷ xs) zero past = absurd (omega arith)
none_left (x ∷ xs) (suc i) past = none_left xs i (omega arith)

-- A text after another is a text after what the two are.
regroup :
    (first out : Option (List ℕ)) (text mid line line' rest whole : List ℕ) → mid ≡ text ++ line → line' ≡ line →
    WroteUpTo first out (text ++ (line' ++ rest)) whole → WroteUpTo first out (mid ++ rest) whole
regroup first out text mid line line' rest whole mid_is line_is upto =
    let P : List ℕ → Type 0 = λ left. WroteUpTo first out left whole in
    let same : text ++ (line' ++ rest) ≡ mid ++ rest =
    ap (λ l. text ++ (l ++ rest)) line_is ∙ sym (append_assoc text line rest) ∙ ap (λ m. m ++ rest) (sym mid_is) in
    subst P same upto

-- All that is kept back was written, or a prefix of it.
pub flush_prints :
    {E : Type 0} (out out' : Option (List ℕ)) (text text' : List ℕ) (result : Result (Unit {0}) E) →
    OnOk result (Wrote out out' text) → OnOk result (text' ≡ []) → OnOk result (PrintsLines out text out' text' [])
flush_prints out out' text text' (Ok done) wrote empty = λ first rest whole upto.
    let P : List ℕ → Type 0 = λ t. WroteUpTo first out' (t ++ rest) whole in
    subst P (sym empty) (one_more first out out' text rest whole upto wrote)
flush_prints out out' text text' (Err fault) wrote empty = tt

pub prints_nothing : (out : Option (List ℕ)) (text : List ℕ) → PrintsLines out text out text []
prints_nothing out text first rest whole upto = upto

line_is :
    {W : Type 0} (m : Match W) (number : ℕ) (event : Event) (progress : Progress) (outcome : Outcome) →
    outcome ≡ outcome_of m progress event → outcome_line number outcome ≡ outcome_lines number (outcomes m progress (event ∷ []))
line_is m number event progress outcome is = ap (outcome_line number) is ∙ sym (append-nil _)

-- A line after a text was printed.
pub line_prints :
    {E : Type 0} (out out' : Option (List ℕ)) (text mid text' line : List ℕ) (result : Result (Unit {0}) E) → mid ≡ text ++ line →
    OnOk result (PrintsLines out mid out' text' []) → OnOk result (PrintsLines out text out' text' line)
line_prints out out' text mid text' line (Ok done) mid_is prints = λ first rest whole upto.
    prints first rest whole (regroup first out text mid line line rest whole mid_is refl upto)
line_prints out out' text mid text' line (Err fault) mid_is prints = tt

told_nothing : (first : Option (List ℕ)) (old new : List ℕ) → Wrote first None old → Wrote first None new
told_nothing None old new wrote = refl
told_nothing (Some held) old new wrote = absurd cc

-- Where the sink tells nothing and nothing is kept back, no line need be made.
pub untold_prints : (line : List ℕ) → PrintsLines None [] None [] line
untold_prints line first rest whole upto =
    record {
      prefix = upto.prefix ++ line;
      joined = append_assoc upto.prefix line rest ∙ upto.joined;
      wrote = told_nothing first upto.prefix (upto.prefix ++ line) upto.wrote;
    }

-- An event that ran, and whose line was printed or cut off.
pub event_ran :
    {W E F : Type 0} (match_of : W → Match W) (number : ℕ) (event : Event) (run run' : RunState W)
    (out out' : Option (List ℕ)) (text text' : List ℕ) (outcome : Outcome) (result : Result (Unit {0}) E) →
    RunsEvent {E = F} match_of event run run' (Ok outcome) →
    OnOk result (PrintsLines out text out' text' (outcome_line number outcome)) →
    OnErr result (CutsLines out text out' (outcome_line number outcome)) →
    RunsEvents {E = E} match_of number (event ∷ []) run out text run' out' text' result
event_ran {W} {E} {F} match_of number event run run' out out' text text' outcome (Ok done) ran prints cut =
    record {
      whole = ran.whole;
      left = λ start sound. ((ran.follows start sound).0.left, (ran.follows start sound).1);
      printed = λ start sound.
          subst (PrintsLines out text out' text')
          (line_is (match_of start) number event (progress_of run) outcome (ran.follows start sound).0.outcome_is) prints;
      cut = tt;
    }
event_ran {W} {E} {F} match_of number event run run' out out' text text' outcome (Err fault) ran prints cut =
    record {
      whole = tt;
      left = tt;
      printed = tt;
      cut = λ start sound.
          subst (CutsLines out text out')
          (line_is (match_of start) number event (progress_of run) outcome (ran.follows start sound).0.outcome_is) cut;
    }

-- Memory ran out before anything was written.
pub events_stopped :
    {W E : Type 0} (match_of : W → Match W) (number : ℕ) (events : List Event) (run run' : RunState W)
    (out : Option (List ℕ)) (text text' : List ℕ) (fault : E) →
    RunsEvents {E = E} match_of number events run out text run' out text' (Err fault)
events_stopped match_of number events run run' out text text' fault =
    record {
      whole = tt;
      left = tt;
      printed = tt;
      cut = λ start sound first rest whole upto. prefix_of first out _ whole upto;
    }

-- Before the first event.
pub ran_none :
    {W : Type 0} (match_of : W → Match W) (events : List Event) (run : RunState W) (out : Option (List ℕ)) (text : List ℕ) →
    IsWhole run → RanSoFar match_of 0 events run out text events run out text
ran_none match_of events run out text whole =
    record {
      whole = whole;
      sound = λ start sound. sound;
      state = λ start sound. refl;
      written = λ start sound first rest all upto. upto;
    }

lines_step :
    {W : Type 0} (m : Match W) (number : ℕ) (now then : Progress) (event : Event) (left rest : List Event) (more : List ℕ) →
    left ≡ event ∷ rest → then ≡ after_event m now event →
    outcome_lines number (outcomes m now left) ++ more
    ≡ outcome_lines number (outcomes m now (event ∷ [])) ++ (outcome_lines (number + 1) (outcomes m then rest) ++ more)
lines_step m number now then event left rest more left_is then_is =
    ap (λ events. outcome_lines number (outcomes m now events) ++ more) left_is
    ∙ ap (λ p. line ++ outcome_lines (number + 1) (outcomes m p rest) ++ more) (sym then_is)
    ∙ append_assoc line (outcome_lines (number + 1) (outcomes m then rest)) more
    ∙ ap (λ l. l ++ (outcome_lines (number + 1) (outcomes m then rest) ++ more)) (sym (append-nil line)) where
      line : List ℕ
      line = outcome_line number (outcome_of m now event)

-- After one event more.
pub ran_one_more :
    {W E : Type 0} (match_of : W → Match W) (number : ℕ) (event : Event) (left rest : List Event)
    (run₀ : RunState W) (out₀ : Option (List ℕ)) (text₀ : List ℕ) (events : List Event)
    (run run' : RunState W) (out out' : Option (List ℕ)) (text text' : List ℕ) →
    left ≡ event ∷ rest →
    RanSoFar match_of number left run₀ out₀ text₀ events run out text →
    RunsEvents {E = E} match_of number (event ∷ []) run out text run' out' text' (Ok tt) →
    RanSoFar match_of (number + 1) rest run₀ out₀ text₀ events run' out' text'
ran_one_more match_of number event left rest run₀ out₀ text₀ events run run' out out' text text' left_is so_far ran =
    record {
      whole = ran.whole;
      sound = λ start sound. (ran.left start (so_far.sound start sound)).1;
      state = λ start sound.
          ap (λ p. after_events (match_of start) p rest) (ran.left start (so_far.sound start sound)).0
          ∙ ap (after_events (match_of start) (progress_of run)) (sym left_is)
          ∙ so_far.state start sound;
      written = λ start sound first more all upto.
          let P : List ℕ → Type 0 = λ bytes. WroteUpTo first out (text ++ bytes) all in
          ran.printed start (so_far.sound start sound) first _ all
          (subst P
          (lines_step (match_of start) number (progress_of run) (progress_of run') event left rest more left_is
          (ran.left start (so_far.sound start sound)).0)
          (so_far.written start sound first more all upto));
    }

-- A run that was cut at an event.
pub ran_cut :
    {W E : Type 0} (match_of : W → Match W) (number : ℕ) (event : Event) (left rest : List Event)
    (run₀ : RunState W) (out₀ : Option (List ℕ)) (text₀ : List ℕ) (events : List Event)
    (run run' : RunState W) (out out' : Option (List ℕ)) (text text' : List ℕ) (fault : E) →
    left ≡ event ∷ rest →
    RanSoFar match_of number left run₀ out₀ text₀ events run out text →
    RunsEvents {E = E} match_of number (event ∷ []) run out text run' out' text' (Err fault) →
    RunsEvents {E = E} match_of 0 events run₀ out₀ text₀ run' out' text' (Err fault)
ran_cut match_of number event left rest run₀ out₀ text₀ events run run' out out' text text' fault left_is so_far ran =
    record {
      whole = tt;
      left = tt;
      printed = tt;
      cut = λ start sound first more all upto.
          let P : List ℕ → Type 0 = λ bytes. WroteUpTo first out (text ++ bytes) all in
          ran.cut start (so_far.sound start sound) first _ all
          (subst P
          (lines_step (match_of start) number (progress_of run) (after_event (match_of start) (progress_of run) event)
          event left rest more left_is refl)
          (so_far.written start sound first more all upto));
    }

-- After all events.
pub ran_all :
    {W E : Type 0} (match_of : W → Match W) (number : ℕ) (left : List Event)
    (run₀ : RunState W) (out₀ : Option (List ℕ)) (text₀ : List ℕ) (events : List Event)
    (run : RunState W) (out : Option (List ℕ)) (text : List ℕ) → left ≡ [] →
    RanSoFar match_of number left run₀ out₀ text₀ events run out text →
    RunsEvents {E = E} match_of 0 events run₀ out₀ text₀ run out text (Ok tt)
ran_all match_of number left run₀ out₀ text₀ events run out text left_is so_far =
    record {
      whole = so_far.whole;
      left = λ start sound. (
        ap (after_events (match_of start) (progress_of run)) (sym left_is) ∙ so_far.state start sound,
        so_far.sound start sound,
      );
      printed = λ start sound first more all upto.
          let P : List Event → Type 0 =
          λ events'. WroteUpTo first out (text ++ (outcome_lines number (outcomes (match_of start) (progress_of run) events') ++ more)) all in
          subst P left_is (so_far.written start sound first more all upto);
      cut = tt;
    }

-- The last lines were printed, or a prefix of them.
pub finish_prints :
    {E : Type 0} (out out' : Option (List ℕ)) (text mid text' lines : List ℕ) (result : Result (Unit {0}) E) → mid ≡ text ++ lines →
    OnOk result (Wrote out out' mid) → OnOk result (text' ≡ []) → OnOk result (PrintsLines out text out' text' lines)
finish_prints out out' text mid text' lines (Ok done) mid_is wrote empty = λ first rest whole upto.
    let P : List ℕ → Type 0 = λ t. WroteUpTo first out' (t ++ rest) whole in
    subst P (sym empty)
    (one_more first out out' mid rest whole (regroup first out text mid lines lines rest whole mid_is refl upto) wrote)
finish_prints out out' text mid text' lines (Err fault) mid_is wrote empty = tt

pub finish_cuts :
    {E : Type 0} (out out' : Option (List ℕ)) (text mid lines : List ℕ) (result : Result (Unit {0}) E) → mid ≡ text ++ lines →
    OnErr result (WrotePrefix out out' mid) → OnErr result (CutsLines out text out' lines)
finish_cuts out out' text mid lines (Ok done) mid_is cut = tt
finish_cuts out out' text mid lines (Err fault) mid_is cut = λ first rest whole upto.
    prefix_put first out out' mid rest whole (regroup first out text mid lines lines rest whole mid_is refl upto) cut

pub stops_before : (out : Option (List ℕ)) (text lines : List ℕ) → CutsLines out text out lines
stops_before out text lines first rest whole upto = prefix_of first out _ whole upto

all_written : (old new : Option (List ℕ)) (whole : List ℕ) → WroteUpTo old new [] whole → Wrote old new whole
all_written old new whole upto =
    let P : List ℕ → Type 0 = Wrote old new in
    subst P (sym (append-nil upto.prefix) ∙ upto.joined) upto.wrote

-- The lines of the events, then the closing lines, are the whole report.
pub all_lines_wrote :
    (out mid out' : Option (List ℕ)) (text text' lines last whole : List ℕ) → whole ≡ lines ++ last → text' ≡ [] →
    PrintsLines out [] mid text lines → PrintsLines mid text out' text' last → Wrote out out' whole
all_lines_wrote out mid out' text text' lines last whole whole_is empty prints closes =
    let P : List ℕ → Type 0 = λ left. WroteUpTo out out left whole in
    let Q : List ℕ → Type 0 = λ t. WroteUpTo out out' (t ++ []) whole in
    let all : whole ≡ lines ++ (last ++ []) = whole_is ∙ ap (λ l. lines ++ l) (sym (append-nil last)) in
    all_written out out' whole
    (subst Q empty (closes out [] whole (prints out (last ++ []) whole (subst P all (nothing_yet out whole)))))

pub lines_cut :
    (out out' : Option (List ℕ)) (lines last whole : List ℕ) → whole ≡ lines ++ last → CutsLines out [] out' lines →
    WrotePrefix out out' whole
lines_cut out out' lines last whole whole_is cuts =
    let P : List ℕ → Type 0 = λ left. WroteUpTo out out left whole in
    cuts out last whole (subst P whole_is (nothing_yet out whole))

pub last_lines_cut :
    (out mid out' : Option (List ℕ)) (text lines last whole : List ℕ) → whole ≡ lines ++ last →
    PrintsLines out [] mid text lines → CutsLines mid text out' last → WrotePrefix out out' whole
last_lines_cut out mid out' text lines last whole whole_is prints cuts =
    let P : List ℕ → Type 0 = λ left. WroteUpTo out out left whole in
    let all : whole ≡ lines ++ (last ++ []) = whole_is ∙ ap (λ l. lines ++ l) (sym (append-nil last)) in
    cuts out [] whole (prints out (last ++ []) whole (subst P all (nothing_yet out whole)))

-- The server and the peers of what is sound are those that its record shows.
pub server_is :
    {W : Type 0} (m : Match W) (run : RunState W) → IsSound m run → run.server ≡ shown_server m (progress_of run)
server_is m run sound =
    ap₂ (λ ms w. record run.server { marks = ms; world = w }) sound.served.marks sound.served.at.is

pub peers_are :
    {W : Type 0} (m : Match W) (columns : List Column) (clients lag number : ℕ) (peers : List (PeerState W)) →
    AreNumbered clients lag number peers → AllByRecursion (IsFaithful m.after m.start columns) peers →
    peers ≡ shown_from clients lag (agreed_world m columns) number (map reached_of peers)
peers_are m columns clients lag number [] numbered faithful = refl
peers_are {W} m columns clients lag number (peer ∷ peers) numbered faithful =
    ap₂ (λ p ps. p ∷ ps) peer_is (peers_are m columns clients lag (number + 1) peers numbered.1 faithful.1) where
      with_numbers : ℕ → ℕ → ℕ → W → PeerState W
      with_numbers me all ahead world = record peer { me = me; clients = all; lag = ahead; world = world }

      peer_is : peer ≡ with_numbers number clients lag (agreed_world m columns peer.ticked)
      peer_is =
          ap₂ (λ me all. with_numbers me all peer.lag peer.world) numbered.0.me numbered.0.clients_are
          ∙ ap₂ (λ ahead world. with_numbers number clients ahead world) numbered.0.lag_is faithful.0.at.is

-- A run of events of a match with the clients and the lag of another is one of that match.
pub of_first_run :
    {W E : Type 0} (after : W → List Entry → W) (hash : W → ℕ) (summary : W → Summary) (run₀ : RunState W)
    (number : ℕ) (events : List Event) (run run' : RunState W) (out out' : Option (List ℕ)) (text text' : List ℕ)
    (result : Result (Unit {0}) E) → run.clients ≡ run₀.clients → run.lag ≡ run₀.lag →
    RunsEvents {E = E} (match_from after hash summary run) number events run out text run' out' text' result →
    RunsEvents {E = E} (match_from after hash summary run₀) number events run out text run' out' text' result
of_first_run {W} {E} after hash summary run₀ number events run run' out out' text text' result clients_are lag_is runs =
    let with_numbers : ℕ → ℕ → W → Match W =
    λ clients lag start. record {
      start = start;
      after = after;
      hash = hash;
      summary = summary;
      clients = clients;
      lag = lag;
    } in
    let P : (W → Match W) → Type 0 =
    λ of. RunsEvents {E = E} of number events run out text run' out' text' result in
    subst P (ap₂ with_numbers clients_are lag_is) runs
