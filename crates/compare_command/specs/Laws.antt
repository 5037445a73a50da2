-- What differences say of two saves, and of two replays.
use Rattle.std.specs.Prelude.{◌≡◌, ◌≢◌, ◌<◌, ◌%◌, ◌/◌, ℕ, List, [], ◌∷◌, slice_get, Some, None}
use Rattle.game_model.specs.declared.actor.Actor.{Actor}
use Rattle.game_model.specs.World.{actor_of, clients_of}
use Rattle.game_save.specs.declared.saved.Saved.{Saved}
use Rattle.replay_file.specs.declared.replay.Replay.{Replay}
use Rattle.replay_file.specs.Frames.{frames_of}
use Rattle.replay_run.specs.Rerun.{frame_count, frame_in}
use Rattle.compare_command.specs.declared.subject.Field.{Field}
use Rattle.compare_command.specs.declared.subject.Field.TheVariants as field
use Rattle.compare_command.specs.declared.subject.Subject.{Subject}
use Rattle.compare_command.specs.declared.subject.Subject.TheVariants as subject
use Rattle.compare_command.specs.Difference.{Difference, Differs, OnlyFirst, OnlySecond}
use Rattle.compare_command.specs.Difference.{Values, Numbers, Flags, Cells, Legs, Acts, Builds}
use Rattle.compare_command.specs.Difference.{Entries, Hashes}
use Rattle.compare_command.specs.Replays.{common_frames, differences_in, mark_at}

-- The two values are equal.
abbrev pub AreEqual : Values → Type 0
AreEqual (Numbers a b) = a ≡ b
AreEqual (Flags a b) = a ≡ b
AreEqual (Cells a b) = a ≡ b
AreEqual (Legs a b) = a ≡ b
AreEqual (Acts a b) = a ≡ b
AreEqual (Builds a b) = a ≡ b
AreEqual (Entries a b) = a ≡ b
AreEqual (Hashes a b) = a ≡ b

-- The two values are the items at a place of two lists.
abbrev pub AreItems :
    {T : Type 0} → (T → T → Values) → (items others : List T) → (place : ℕ) → Values → Type 0
AreItems {T} values items others place both =
    (a : T) × (b : T) × (slice_get items place ≡ Some a) × (slice_get others place ≡ Some b)
    × (both ≡ values a b)

-- ---- saves

-- The values of a field of two actors.
abbrev pub field_values : Field → Actor → Actor → Values
field_values field.Kind p q = Numbers p.kind q.kind
field_values field.Owner p q = Numbers p.body.owner q.body.owner
field_values field.Cell p q = Cells p.cell q.cell
field_values field.Facing p q = Numbers p.body.facing q.body.facing
field_values field.Leg p q = Legs p.body.leg q.body.leg
field_values field.Health p q = Numbers p.body.health q.body.health
field_values field.Load p q = Numbers p.body.load q.body.load
field_values field.Reload p q = Numbers p.body.reload q.body.reload
field_values field.Acts p q = Acts p.body.acts q.body.acts
field_values field.Builds p q = Builds p.body.builds q.body.builds

-- These are the values that two saves have of something.
abbrev pub SavesHave : Saved → Saved → Subject → Values → Type 0
SavesHave a b subject.Frames both = both ≡ Numbers a.frames b.frames
SavesHave a b subject.Tick both = both ≡ Numbers a.world.tick b.world.tick
SavesHave a b subject.Seed both = both ≡ Numbers a.world.seed b.world.seed
SavesHave a b subject.Drawn both = both ≡ Numbers a.world.drawn b.world.drawn
SavesHave a b subject.Next both = both ≡ Numbers a.world.next_id b.world.next_id
SavesHave a b subject.Pace both = both ≡ Numbers a.world.pace b.world.pace
SavesHave a b subject.Clients both = both ≡ Numbers (clients_of a.world) (clients_of b.world)
SavesHave a b (subject.Cash client) both = AreItems Numbers a.world.cash b.world.cash client both
SavesHave a b (subject.Gone client) both = AreItems Flags a.world.gone b.world.gone client both
SavesHave a b (subject.Actor id of) both =
    (p : Actor) × (q : Actor) × (actor_of a.world.actors id ≡ Some p)
    × (actor_of b.world.actors id ≡ Some q) × (both ≡ field_values of p q)
SavesHave a b (subject.Ore column row) both =
    (place : ℕ) × (column ≡ place % a.world.ore.width) × (row ≡ place / a.world.ore.width)
    × AreItems Numbers a.world.ore.cells b.world.ore.cells place both
SavesHave a b (subject.Entry frame client) both = ⊥
SavesHave a b (subject.Mark frames) both = ⊥

-- The difference is true of two saves: they have these values, which are not equal, or one of them
-- alone has the actor.
abbrev pub IsTrueOfSaves : Saved → Saved → Difference → Type 0
IsTrueOfSaves a b (Differs of both) = SavesHave a b of both × (AreEqual both → ⊥)
IsTrueOfSaves a b (OnlyFirst id) =
    (p : Actor) × (actor_of a.world.actors id ≡ Some p) × (actor_of b.world.actors id ≡ None)
IsTrueOfSaves a b (OnlySecond id) =
    (q : Actor) × (actor_of a.world.actors id ≡ None) × (actor_of b.world.actors id ≡ Some q)

-- ---- replays

-- These are the values that two replays have of something.
abbrev pub ReplaysHave : Replay → Replay → Subject → Values → Type 0
ReplaysHave r s subject.Frames both = both ≡ Numbers (frame_count r) (frame_count s)
ReplaysHave r s subject.Tick both = ⊥
ReplaysHave r s subject.Seed both = both ≡ Numbers r.seed s.seed
ReplaysHave r s subject.Drawn both = ⊥
ReplaysHave r s subject.Next both = ⊥
ReplaysHave r s subject.Pace both = ⊥
ReplaysHave r s subject.Clients both = both ≡ Numbers r.clients s.clients
ReplaysHave r s (subject.Cash client) both = ⊥
ReplaysHave r s (subject.Gone client) both = ⊥
ReplaysHave r s (subject.Actor id of) both = ⊥
ReplaysHave r s (subject.Ore column row) both = ⊥
ReplaysHave r s (subject.Entry frame client) both =
    AreItems Entries (frame_in r.parts frame) (frame_in s.parts frame) client both
ReplaysHave r s (subject.Mark frames) both =
    (a : ℕ) × (b : ℕ) × (mark_at r.parts frames ≡ Some a) × (mark_at s.parts frames ≡ Some b)
    × (both ≡ Hashes a b)

-- The difference is true of two replays: they have these values, which are not equal.
abbrev pub IsTrueOfReplays : Replay → Replay → Difference → Type 0
IsTrueOfReplays r s (Differs of both) = ReplaysHave r s of both × (AreEqual both → ⊥)
IsTrueOfReplays r s (OnlyFirst id) = ⊥
IsTrueOfReplays r s (OnlySecond id) = ⊥

-- The two are of one match: the same seed, clients and frames, and no marks that differ.
pub record AreOneMatch (r s : Replay) : Type 0 where
  pub seed : r.seed ≡ s.seed
  pub clients : r.clients ≡ s.clients
  pub frames : frames_of r.parts ≡ frames_of s.parts
  pub marks : (n a b : ℕ) → mark_at r.parts n ≡ Some a → mark_at s.parts n ≡ Some b → a ≡ b

-- Frame n is the first one in which the two differ.
pub record IsLeastFrame (r s : Replay) (n : ℕ) : Type 0 where
  pub within : n < common_frames r s
  pub differs : frame_in r.parts n ≢ frame_in s.parts n
  pub before : (m : ℕ) → m < n → frame_in r.parts m ≡ frame_in s.parts m

-- The differences are those of the first frame in which the two differ. There are none exactly
-- where they differ in no frame that both have.
abbrev pub AreOfLeastFrame : Replay → Replay → List Difference → Type 0
AreOfLeastFrame r s [] =
    (n : ℕ) → n < common_frames r s → frame_in r.parts n ≡ frame_in s.parts n
AreOfLeastFrame r s (difference ∷ differences) =
    (n : ℕ) × IsLeastFrame r s n × (difference ∷ differences ≡ differences_in r s n)
