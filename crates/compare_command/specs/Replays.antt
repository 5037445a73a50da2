-- The differences of two replays.
use Rattle.std.specs.Prelude.{ℕ, ◌+◌, ◌==◌, min, if◌then◌else◌, List, [], ◌++◌, slice_get}
use Rattle.std.specs.Prelude.{Option, option_map}
use Rattle.std.specs.List.{find}
use Rattle.game_orders.specs.declared.entry.Entry.{Entry}
use Rattle.replay_file.specs.declared.part.Part.{Part}
use Rattle.replay_file.specs.declared.replay.Replay.{Replay}
use Rattle.replay_file.specs.Frames.{marks_of}
use Rattle.replay_run.specs.Rerun.{frame_count, frame_in}
use Rattle.compare_command.specs.declared.subject.Subject.TheVariants.{Frames, Seed, Clients}
use Rattle.compare_command.specs.declared.subject.Subject.TheVariants.{Entry as OfEntry, Mark}
use Rattle.compare_command.specs.Difference.{Difference, Numbers, Entries, Hashes, compared}
use Rattle.compare_command.specs.Difference.{compared_if}
use Rattle.compare_command.specs.Each.{each, least}

-- Those of seed, clients and frames.
abbrev pub match_differences : Replay → Replay → List Difference
match_differences r s =
    compared Seed (Numbers r.seed s.seed)
    ++ (compared Clients (Numbers r.clients s.clients)
    ++ compared Frames (Numbers (frame_count r) (frame_count s)))

-- That of a client's entries in two frames of this number.
abbrev pub entry_differences :
    (n : ℕ) → (frame other : List Entry) → (client : ℕ) → List Difference
entry_differences n frame other client =
    compared_if (OfEntry n client) Entries (slice_get frame client) (slice_get other client)

-- Those of two frames of this number and so many clients, by client.
abbrev pub frame_differences :
    (n clients : ℕ) → (frame other : List Entry) → List Difference
frame_differences n clients frame other = each (entry_differences n frame other) 0 clients

-- Those of frame n.
abbrev pub differences_in : Replay → Replay → (n : ℕ) → List Difference
differences_in r s n =
    frame_differences n r.clients (frame_in r.parts n) (frame_in s.parts n)

-- The frames that both have.
abbrev pub common_frames : Replay → Replay → ℕ
common_frames r s = min (frame_count r) (frame_count s)

-- Those of the least of so many frames that differs, where the two have as many clients.
abbrev pub entries_to : (count : ℕ) → Replay → Replay → List Difference
entries_to count r s =
    if r.clients == s.clients then least (differences_in r s) 0 count else []

-- Those of the least of all frames that both have.
abbrev pub entries_differences : Replay → Replay → List Difference
entries_differences r s = entries_to (common_frames r s) r s

-- The mark with so many frames before it, if there is one.
abbrev pub mark_at : List Part → (frames : ℕ) → Option ℕ
mark_at parts frames = option_map (λ mark. mark.1) (find (λ mark. mark.0 == frames) (marks_of parts))

-- That of the marks after so many frames, if both have one. They are compared as they are written.
abbrev pub mark_differences : Replay → Replay → (frames : ℕ) → List Difference
mark_differences r s frames =
    compared_if (Mark frames) Hashes (mark_at r.parts frames) (mark_at s.parts frames)

-- That of the marks with the fewest frames before them that differ.
abbrev pub marks_differences : Replay → Replay → List Difference
marks_differences r s = least (mark_differences r s) 0 (common_frames r s + 1)

-- Those of two replays.
abbrev pub replay_differences : Replay → Replay → List Difference
replay_differences r s =
    match_differences r s ++ (entries_differences r s ++ marks_differences r s)
