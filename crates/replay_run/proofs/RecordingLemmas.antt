-- The replay of a match is valid, and its bytes are those that were written.
use Rattle.std.specs.Prelude.{◌≡◌, ℕ, zero, suc, ◌+◌, ◌<◌, ◌≤◌, ◌^◌, Bool, true, false, not, ◌&&◌}
use Rattle.std.specs.Prelude.{List, [], ◌∷◌, ◌++◌, length, replicate, slice_get}
use Rattle.std.specs.Prelude.{Option, Some, None, Result, Ok, Err, IfOk, slice_index_or}
use Rattle.std.specs.Global.{Vec}
use Rattle.std.specs.List.{AllByRecursion, list_any}
use Rattle.std.proofs.Common.{refl, sym, ap, ap₂, subst, ◌∙◌, arith, add-one, append_assoc}
use Rattle.std.proofs.lemmas.Option.{get_or_from_slice_get}
use Rattle.game_orders.specs.declared.order.Order.{Order}
use Rattle.game_orders.specs.declared.entry.Entry.{Entry}
use Rattle.game_orders.specs.declared.entry.Entry.TheVariants.{Play, Leave}
use Rattle.game_orders.specs.declared.limits.TheConstants.{MAX_CLIENTS, MAX_FRAMES}
use Rattle.game_orders.specs.Entry.{is_play}
use Rattle.frame_core.specs.declared.ready.Ready.TheVariants.{Yes}
use Rattle.frame_core.specs.Agreed.{AreReady}
use Rattle.frame_core.specs.Column.{Column, entry_from}
use Rattle.frame_core.specs.Input.{ready_from}
use Rattle.frame_core.specs.Match.{Match}
use Rattle.frame_core.specs.Ready.{each_at, frame_at, frame_of, inputs_of, or_leave}
use Rattle.server_core.specs.Served.{agreed_marks}
use Rattle.server_core.proofs.ServedLemmas.{agreed_mark}
use Rattle.replay_file.specs.declared.limits.TheConstants.{VERSION}
use Rattle.replay_file.specs.declared.part.Part.{Part}
use Rattle.replay_file.specs.declared.part.Part.TheVariants.{Frame, Mark}
use Rattle.replay_file.specs.declared.standing.Standing.{Standing}
use Rattle.replay_file.proofs.EntriesLemmas.{entries_known}
use Rattle.replay_file.specs.FirstFault.{Spells}
use Rattle.replay_file.proofs.OrdersLemmas.{all_added}
use Rattle.replay_file.specs.PartBytes.{part_bytes, parts_bytes, end_bytes, FitsPart}
use Rattle.replay_file.specs.PartRules.{after_part, after_parts, departed_in, opening}
use Rattle.replay_file.specs.PartRules.{EachMayFollow, FrameMayFollow, StayDeparted}
use Rattle.replay_file.specs.ReplayBytes.{header_bytes, replay_bytes}
use Rattle.replay_file.proofs.ReplayLemmas.{bytes_more, follow_more, standing_more}
use Rattle.replay_run.specs.Recording.{hash_after_frame, recorded, recorded_by, replay_of}

past_too :
    (xs : List (List Order)) (k : ℕ) → slice_get xs k ≡ None → slice_get xs (suc k) ≡ None
past_too [] k none = refl
past_too (x ∷ xs) zero none = absurd cc
past_too (x ∷ xs) (suc k) none = past_too xs k none

-- Who has departed in a frame has departed in the next.
entry_stays :
    (plays : List (List Order)) (left : Bool) (n : ℕ) (found : Option (List Order)) →
    slice_get plays n ≡ found →
    (not (is_play (or_leave (entry_from found left)))
    && is_play (or_leave (entry_from (slice_get plays (suc n)) left))) ≡ false
entry_stays plays left n (Some orders) at = refl
entry_stays plays true n None at = rw (past_too plays n at) refl
entry_stays plays false n None at = rw (past_too plays n at) refl

stay_departed :
    (columns : List Column) (n : ℕ) →
    StayDeparted (departed_in (frame_at columns n)) (frame_at columns (suc n))
stay_departed [] n = tt
stay_departed (column ∷ columns) n =
    (entry_stays column.plays column.left n (slice_get column.plays n) refl, stay_departed columns n)

nobody_departed :
    (columns : List Column) (n : ℕ) →
    StayDeparted (replicate (length columns) false) (frame_at columns n)
nobody_departed [] n = tt
nobody_departed (column ∷ columns) n = (refl, nobody_departed columns n)

-- In a ready frame a client plays.
someone_plays :
    (c : ℕ) (each : List (Option Entry)) → ready_from c false (inputs_of each) ≡ Yes →
    list_any is_play (frame_of each) ≡ true
someone_plays c [] ready = absurd cc
someone_plays c (None ∷ each) ready = absurd cc
someone_plays c (Some (Play orders) ∷ each) ready = refl
someone_plays c (Some Leave ∷ each) ready = someone_plays (c + 1) each ready

-- What stands after the first frames and their marks.
standing_after :
    (s : Standing) (frames : ℕ → List Entry) (hash : ℕ → ℕ) (n : ℕ) →
    after_parts s (recorded frames hash (suc n))
    ≡ after_part (after_part (after_parts s (recorded frames hash n)) (Frame (frames n)))
    (Mark (hash n))
standing_after s frames hash n =
    standing_more s (recorded frames hash n ++ Frame (frames n) ∷ []) (Mark (hash n))
    ∙ ap (λ (t : Standing). after_part t (Mark (hash n)))
    (standing_more s (recorded frames hash n) (Frame (frames n)))

frames_counted :
    (clients : ℕ) (frames : ℕ → List Entry) (hash : ℕ → ℕ) (n : ℕ) →
    (after_parts (opening clients) (recorded frames hash n)).frames ≡ n
frames_counted clients frames hash zero = refl
frames_counted clients frames hash (suc n) =
    ap (λ (s : Standing). s.frames) (standing_after (opening clients) frames hash n)
    ∙ omega (arith, frames_counted clients frames hash n)

departed_last :
    (columns : List Column) (hash : ℕ → ℕ) (n : ℕ) →
    StayDeparted (after_parts (opening (length columns)) (recorded (frame_at columns) hash n)).departed
    (frame_at columns n)
departed_last columns hash zero = nobody_departed columns 0
departed_last columns hash (suc n) =
    subst (λ (s : Standing). StayDeparted s.departed (frame_at columns (suc n)))
    (sym (standing_after (opening (length columns)) (frame_at columns) hash n))
    (stay_departed columns n)

-- The parts of a record may follow one another.
pub record_follows :
    (columns : List Column) (hash : ℕ → ℕ) (n : ℕ) → AreReady columns n → n ≤ MAX_FRAMES →
    EachMayFollow VERSION (opening (length columns)) (recorded (frame_at columns) hash n)
record_follows columns hash zero ready few = tt
record_follows columns hash (suc n) ready few =
    let s = opening (length columns) in
    let before = recorded (frame_at columns) hash n in
    let frame = frame_at columns n in
    let counted = frames_counted (length columns) (frame_at columns) hash n in
    let may : FrameMayFollow VERSION (after_parts s before) frame = record {
      room = omega (arith, counted, few);
      departed = departed_last columns hash n;
      play = someone_plays 0 (each_at columns n) (ready n (omega arith));
      orders = entries_known frame;
    } in
    let first =
    follow_more VERSION s before (Frame frame)
    (record_follows columns hash n (λ k below. ready k (omega (arith, below))) (omega (arith, few)))
    may in
    follow_more VERSION s (before ++ Frame frame ∷ []) (Mark (hash n)) first
    (ap (λ (t : Standing). t.marked) (standing_more s before (Frame frame)))

-- Other hashes that are the same so far make the same record.
pub record_same :
    (frames : ℕ → List Entry) (hash other : ℕ → ℕ) (n : ℕ) → ((k : ℕ) → k < n → hash k ≡ other k) →
    recorded frames hash n ≡ recorded frames other n
record_same frames hash other zero same = refl
record_same frames hash other (suc n) same =
    ap₂ (λ (parts : List Part) (mark : ℕ). (parts ++ Frame (frames n) ∷ []) ++ Mark mark ∷ [])
    (record_same frames hash other n (λ k below. same k (omega (arith, below))))
    (same n (omega arith))

-- The marks of a server are those of the match.
pub record_agreed :
    {W : Type 0} (m : Match W) (columns : List Column) (marks : List ℕ) (n : ℕ) →
    marks ≡ agreed_marks m columns n →
    recorded_by columns marks n ≡ recorded (frame_at columns) (hash_after_frame m columns) n
record_agreed m columns marks n are =
    record_same (frame_at columns) (λ k. slice_index_or marks k 0) (hash_after_frame m columns) n
    (λ k below. get_or_from_slice_get marks k (hash_after_frame m columns k) 0
    (ap (λ (xs : List ℕ). slice_get xs k) are ∙ agreed_mark m columns n k below))

-- One more frame and its mark are written.
pub frame_written :
    (columns : List Column) (marks : List ℕ) (n : ℕ) (frame : List Entry) (mark : ℕ)
    (old mid new after : List ℕ) → old ≡ after ++ parts_bytes (recorded_by columns marks n) →
    mid ≡ old ++ part_bytes (Frame frame) → new ≡ mid ++ part_bytes (Mark mark) →
    frame ≡ frame_at columns n → mark ≡ slice_index_or marks n 0 →
    new ≡ after ++ parts_bytes (recorded_by columns marks (n + 1))
frame_written columns marks n frame mark old mid new after so_far added marked is at =
    let before = recorded_by columns marks n in
    let f = Frame frame in
    let all : parts_bytes ((before ++ f ∷ []) ++ Mark mark ∷ [])
    ≡ (parts_bytes before ++ part_bytes f) ++ part_bytes (Mark mark) =
    bytes_more (before ++ f ∷ []) (Mark mark)
    ∙ ap (λ (xs : List ℕ). xs ++ part_bytes (Mark mark)) (bytes_more before f) in
    let grouped : new
    ≡ after ++ ((parts_bytes before ++ part_bytes f) ++ part_bytes (Mark mark)) =
    marked
    ∙ ap (λ (xs : List ℕ). xs ++ part_bytes (Mark mark))
    (added ∙ ap (λ (xs : List ℕ). xs ++ part_bytes f) so_far
    ∙ append_assoc after (parts_bytes before) (part_bytes f))
    ∙ append_assoc after (parts_bytes before ++ part_bytes f) (part_bytes (Mark mark)) in
    let last : (before ++ f ∷ []) ++ Mark mark ∷ [] ≡ recorded_by columns marks (suc n) =
    ap₂ (λ (e : List Entry) (h : ℕ). (before ++ Frame e ∷ []) ++ Mark h ∷ []) is at in
    grouped ∙ ap (λ (xs : List ℕ). after ++ xs) (sym all)
    ∙ ap (λ (ps : List Part). after ++ parts_bytes ps) last
    ∙ ap (λ (k : ℕ). after ++ parts_bytes (recorded_by columns marks k)) (sym (add-one n))

-- One more frame and its mark fit.
pub frame_fits_too :
    (columns : List Column) (marks : List ℕ) (n : ℕ) (frame : List Entry) (mark : ℕ) →
    AllByRecursion FitsPart (recorded_by columns marks n) → FitsPart (Frame frame) →
    mark < 2 ^ 64 → frame ≡ frame_at columns n → mark ≡ slice_index_or marks n 0 →
    AllByRecursion FitsPart (recorded_by columns marks (n + 1))
frame_fits_too columns marks n frame mark so_far fits below is at =
    let before = recorded_by columns marks n in
    let both =
    all_added FitsPart (before ++ Frame frame ∷ []) (Mark mark)
    (all_added FitsPart before (Frame frame) so_far fits) below in
    let last : (before ++ Frame frame ∷ []) ++ Mark mark ∷ [] ≡ recorded_by columns marks (suc n) =
    ap₂ (λ (e : List Entry) (h : ℕ). (before ++ Frame e ∷ []) ++ Mark h ∷ []) is at in
    subst (λ (k : ℕ). AllByRecursion FitsPart (recorded_by columns marks k)) (sym (add-one n))
    (subst (AllByRecursion FitsPart) last both)

-- What was written is the spelling of the match's replay.
pub record_spells :
    {W : Type 0} (m : Match W) (rules seed clients ticked : ℕ) (columns : List Column)
    (marks head parts bytes : List ℕ) → clients ≡ length columns → 1 ≤ clients →
    clients ≤ MAX_CLIENTS → rules < 2 ^ 64 → seed < 2 ^ 32 → ticked ≤ MAX_FRAMES →
    AreReady columns ticked →
    AllByRecursion FitsPart (recorded_by columns marks ticked) →
    head ≡ header_bytes VERSION rules seed clients →
    parts ≡ head ++ parts_bytes (recorded_by columns marks ticked) → bytes ≡ parts ++ end_bytes →
    m.clients ≡ length columns → marks ≡ agreed_marks m columns ticked →
    Spells rules bytes (replay_of m rules seed columns ticked)
unfolding replay_bytes
record_spells m rules seed clients ticked columns marks head parts bytes count least most rules_fit seed_fits few ready fits headed parted ended here are =
    let same = record_agreed m columns marks ticked are in
    let clients_here : clients ≡ m.clients = count ∙ sym here in
    let header = header_bytes VERSION rules seed m.clients in
    let all = recorded (frame_at columns) (hash_after_frame m columns) ticked in
    let head_is : head ≡ header =
    headed ∙ ap (header_bytes VERSION rules seed) clients_here in
    let follow : EachMayFollow VERSION (opening m.clients) all =
    subst (λ (k : ℕ). EachMayFollow VERSION (opening k) all) (sym here)
    (record_follows columns (hash_after_frame m columns) ticked ready few) in
    record {
      rules = refl;
      valid = record {
        version = refl;
        least = omega (arith, least, clients_here);
        most = omega (arith, most, clients_here);
        parts = follow;
      };
      fits = record {
        version = omega arith;
        rules = rules_fit;
        seed = seed_fits;
        clients = omega (arith, most, clients_here);
        parts = subst (AllByRecursion FitsPart) same fits;
      };
      spelled =
          ended
          ∙ ap (λ (xs : List ℕ). xs ++ end_bytes)
          (parted ∙ ap₂ (λ (h : List ℕ) (ps : List Part). h ++ parts_bytes ps) head_is same)
          ∙ append_assoc header (parts_bytes all) end_bytes;
    }

-- The same of a call that may be out of memory.
pub record_returns :
    {W E : Type 0} (m : Match W) (rules seed clients ticked : ℕ) (columns : List Column)
    (marks head parts : List ℕ) (result : Result (Vec ℕ) E) → clients ≡ length columns →
    1 ≤ clients → clients ≤ MAX_CLIENTS → rules < 2 ^ 64 → seed < 2 ^ 32 → ticked ≤ MAX_FRAMES →
    AreReady columns ticked → AllByRecursion FitsPart (recorded_by columns marks ticked) →
    head ≡ header_bytes VERSION rules seed clients →
    parts ≡ head ++ parts_bytes (recorded_by columns marks ticked) →
    IfOk result (λ bytes. bytes.items ≡ parts ++ end_bytes) →
    m.clients ≡ length columns → marks ≡ agreed_marks m columns ticked →
    IfOk result (λ bytes. Spells rules bytes.items (replay_of m rules seed columns ticked))
record_returns m rules seed clients ticked columns marks head parts (Ok bytes) count least most rules_fit seed_fits few ready fits headed parted ended here are =
    record_spells m rules seed clients ticked columns marks head parts bytes.items count least most
    rules_fit seed_fits few ready fits headed parted ended here are
record_returns m rules seed clients ticked columns marks head parts (Err error) count least most rules_fit seed_fits few ready fits headed parted ended here are =
    tt
