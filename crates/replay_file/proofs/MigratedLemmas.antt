-- A migrated replay is valid, and has the same frames and marks at the same places.
use Rattle.std.specs.Prelude.{◌≡◌, ℕ, ◌+◌}
use Rattle.std.specs.Prelude.{List, [], ◌∷◌, map}
use Rattle.std.proofs.Common.{refl, ap, arith}
use Rattle.game_orders.specs.declared.entry.Entry.{Entry}
use Rattle.replay_file.specs.declared.limits.TheConstants.{VERSION}
use Rattle.replay_file.specs.declared.part.Part.{Part}
use Rattle.replay_file.specs.declared.part.Part.TheVariants.{Frame, Mark}
use Rattle.replay_file.specs.declared.replay.Replay.{Replay}
use Rattle.replay_file.specs.declared.standing.Standing.{Standing}
use Rattle.replay_file.proofs.EntriesLemmas.{entries_known}
use Rattle.replay_file.specs.Frames.{frames_of, marks_after, marks_of, marked_anew}
use Rattle.replay_file.specs.Migrated.{anew, migrated}
use Rattle.replay_file.specs.PartRules.{after_part, opening, EachMayFollow}
use Rattle.replay_file.proofs.SoFarLemmas.{few_frames}
use Rattle.replay_file.specs.ValidReplay.{IsValidReplay}
use Rattle.replay_file.proofs.WholeLemmas.{few_clients}

follow_anew :
    (version : ℕ) (s : Standing) (hash_after : ℕ → ℕ) (frames : ℕ) (parts : List Part) →
    EachMayFollow version s parts → EachMayFollow VERSION s (marked_anew hash_after frames parts)
follow_anew version s hash_after frames [] follow = tt
follow_anew version s hash_after frames (Frame entries ∷ parts) follow = (
  record {
    room = omega (arith, follow.0.room, few_frames version);
    departed = follow.0.departed;
    play = follow.0.play;
    orders = entries_known entries;
  },
  follow_anew version (after_part s (Frame entries)) hash_after (frames + 1) parts follow.1,
)
follow_anew version s hash_after frames (Mark hash ∷ parts) follow =
    (follow.0, follow_anew version (after_part s (Mark hash)) hash_after frames parts follow.1)

pub migrated_valid : (hash_after : ℕ → ℕ) (r : Replay) → IsValidReplay r →
    IsValidReplay (migrated hash_after r)
migrated_valid hash_after r valid =
    record {
      version = refl;
      least = valid.least;
      most = omega (arith, valid.most, few_clients r.version);
      parts = follow_anew r.version (opening r.clients) hash_after 0 r.parts valid.parts;
    }

frames_anew : (hash_after : ℕ → ℕ) (frames : ℕ) (parts : List Part) →
    frames_of (marked_anew hash_after frames parts) ≡ frames_of parts
frames_anew hash_after frames [] = refl
frames_anew hash_after frames (Frame entries ∷ parts) =
    ap (λ (others : List (List Entry)). entries ∷ others)
    (frames_anew hash_after (frames + 1) parts)
frames_anew hash_after frames (Mark hash ∷ parts) = frames_anew hash_after frames parts

pub migrated_frames : (hash_after : ℕ → ℕ) (r : Replay) →
    frames_of (migrated hash_after r).parts ≡ frames_of r.parts
migrated_frames hash_after r = frames_anew hash_after 0 r.parts

marks_anew : (hash_after : ℕ → ℕ) (frames : ℕ) (parts : List Part) →
    marks_after frames (marked_anew hash_after frames parts)
    ≡ map (anew hash_after) (marks_after frames parts)
marks_anew hash_after frames [] = refl
marks_anew hash_after frames (Frame entries ∷ parts) =
    marks_anew hash_after (frames + 1) parts
marks_anew hash_after frames (Mark hash ∷ parts) =
    ap (λ (others : List (ℕ × ℕ)). (frames, hash_after frames) ∷ others)
    (marks_anew hash_after frames parts)

pub migrated_marks : (hash_after : ℕ → ℕ) (r : Replay) →
    marks_of (migrated hash_after r).parts ≡ map (anew hash_after) (marks_of r.parts)
migrated_marks hash_after r = marks_anew hash_after 0 r.parts

pub ruleset migrated_laws = (migrated_valid, migrated_frames, migrated_marks)
