-- What was read is spelled so: the world, the save.
use Rattle.std.proofs.Common.{◌≡◌, ℕ, zero, suc, ◌+◌, ◌*◌, ◌^◌, ◌<◌, ◌==◌, Bool, true, false, not, if◌then◌else◌}
use Rattle.std.proofs.Common.{List, [], ◌∷◌, ◌++◌, length, Result, Ok, Err, nat_lt}
use Rattle.std.proofs.Common.{refl, sym, ap, ap₂, subst, ◌∙◌, arith, append_assoc}
use Rattle.std.specs.List.{flat_map, zip}
use Rattle.std.proofs.lemmas.Bool.{eqb-true, ltb-false}
use Rattle.std.proofs.lemmas.List.{append-nil, length-append}
use Rattle.base.specs.Steps.{◌>>=◌}
use Rattle.wire_bytes.specs.Field.{field_bytes, AreBytes}
use Rattle.wire_bytes.specs.Read.{with_fault}
use Rattle.game_orders.specs.declared.limits.TheConstants.{MAX_CLIENTS, MAX_FRAMES}
use Rattle.game_model.specs.declared.actor.Actor.{Actor}
use Rattle.game_model.specs.declared.limits.TheConstants.{MAX_ACTORS, MAX_CASH, MAX_DRAWS, MAX_ORE, MAX_PACE}
use Rattle.game_model.specs.declared.map.Map.{Map}
use Rattle.game_model.specs.declared.world.Head.{Head}
use Rattle.game_model.specs.declared.world.World.{World}
use Rattle.game_model.specs.Grid.{Grid}
use Rattle.game_model.specs.Setup.{Setup}
use Rattle.game_model.specs.World.{world_with}
use Rattle.sync_hash.specs.HashedBytes.{actor_bytes, client_bytes, flag_byte}
use Rattle.game_save.specs.declared.clients.Clients.{Clients}
use Rattle.game_save.specs.declared.limits.TheConstants.{VERSION}
use Rattle.game_save.specs.declared.save_fault.SaveFault.{SaveFault}
use Rattle.game_save.specs.declared.save_fault.SaveFault.TheVariants.{BadMagic, BadVersion, OtherRules, TrailingBytes}
use Rattle.game_save.specs.declared.saved.Saved.{Saved}
use Rattle.game_save.specs.ActorReading.{actor_in}
use Rattle.game_save.specs.Fields.{Left, SaveRead, all_of, each_after, field_in, place_in, range_in}
use Rattle.game_save.specs.ReadSave.{at_end, magic_in, opening_in, read_save_of, version_in}
use Rattle.game_save.specs.SaveBytes.{magic_bytes, opening_bytes, save_bytes, world_bytes}
use Rattle.game_save.specs.WorldReading.{actors_in, cash_in, client_in, clients_after, clients_in, gone_in, head_in, next_ore}
use Rattle.game_save.specs.WorldReading.{no_clients, ore_in, size_in, with_client, world_in}
use Rattle.save_laws.proofs.SpelledBodyLemmas.{actor_spells}
use Rattle.save_laws.proofs.SpelledLemmas.{Spells, after_read, because, byte_range_spells, choose, done, each_spells, faulted}
use Rattle.save_laws.proofs.SpelledLemmas.{field_spells, first_of, fronted, next, refused, one_byte, range_spells, range_within}

-- A flag.
is_flag : (flag : ℕ) → flag < 2 → flag ≡ flag_byte (not (flag == 0))
is_flag zero few = refl
is_flag (suc zero) few = refl
is_flag (suc (suc flag)) few = absurd (omega arith)

gone_spells :
    (left : Left) → AreBytes left.bytes →
    Spells [] left (λ (gone : Bool). flag_byte gone ∷ []) (gone_in left)
unfolding gone_in
gone_spells left are =
    next [] left (range_in 1 0 2 left) _ one_byte (λ (gone : Bool). flag_byte gone ∷ [])
    (byte_range_spells 0 2 left are)
    (λ flag mid is more.
    done (flag ∷ []) mid (λ (gone : Bool). flag_byte gone ∷ []) (not (flag == 0))
    (ap (λ (n : ℕ). n ∷ []) (is_flag flag (range_within 1 0 2 left mid flag is).below)) more)

-- Clients, with their number.
abbrev all_clients : Clients → List ℕ
all_clients c = length c.cash ∷ flat_map client_bytes (zip c.cash c.gone)

one_client :
    (cash : List ℕ) (gone : List Bool) (x : ℕ) (g : Bool) → length gone ≡ length cash →
    flat_map client_bytes (zip cash gone) ++ field_bytes 4 x ++ flag_byte g ∷ []
    ≡ flat_map client_bytes (zip (cash ++ x ∷ []) (gone ++ g ∷ []))
one_client [] [] x g same = sym (append-nil (client_bytes (x, g)))
one_client [] (h ∷ gone) x g same = absurd (omega arith)
one_client (y ∷ cash) [] x g same = absurd (omega arith)
one_client (y ∷ cash) (h ∷ gone) x g same =
    let first : List ℕ = client_bytes (y, h) in
    let others : List ℕ = flat_map client_bytes (zip cash gone) in
    ap (λ (bs : List ℕ). bs ++ flag_byte g ∷ []) (append_assoc first others (field_bytes 4 x))
    ∙ append_assoc first (others ++ field_bytes 4 x) (flag_byte g ∷ [])
    ∙ ap (λ (bs : List ℕ). first ++ bs) (one_client cash gone x g (omega arith))

-- One more client.
client_spells :
    (held : Clients) (total : ℕ) (left : Left) → length held.gone ≡ length held.cash →
    AreBytes left.bytes →
    Spells (total ∷ flat_map client_bytes (zip held.cash held.gone)) left
    (λ (c : Clients). total ∷ flat_map client_bytes (zip c.cash c.gone)) (client_in held left)
unfolding client_in
client_spells held total left same are =
    let front : List ℕ = total ∷ flat_map client_bytes (zip held.cash held.gone) in
    let whole : Clients → List ℕ = λ c. total ∷ flat_map client_bytes (zip c.cash c.gone) in
    next front left (cash_in left) _ (field_bytes 4) whole
    (range_spells 4 0 (MAX_CASH + 1) left are)
    (λ cash mid is more.
    next (front ++ field_bytes 4 cash) mid (gone_in mid) _ (λ (gone : Bool). flag_byte gone ∷ [])
    whole (gone_spells mid more)
    (λ gone after found rest.
    done (front ++ field_bytes 4 cash ++ flag_byte gone ∷ []) after whole
    (with_client held cash gone)
    (ap (λ (bs : List ℕ). total ∷ bs) (one_client held.cash held.gone cash gone same)) rest))

abbrev grown_by : Clients → (cash : ℕ) → Bool × Left → SaveRead Clients
grown_by held cash gone = Ok (with_client held cash gone.0, gone.1)

client_grown :
    (held : Clients) (left after : Left) (grown : Clients) →
    client_in held left ≡ Ok (grown, after) →
    (length grown.cash ≡ length held.cash + 1) × (length grown.gone ≡ length held.gone + 1)
unfolding client_in
client_grown held left after grown is = by_cash (cash_in left) is
  where
    by_gone :
        (cash : ℕ) (r : SaveRead Bool) →
        (r >>= grown_by held cash)
        ≡ Ok (grown, after) →
        (length grown.cash ≡ length held.cash + 1) × (length grown.gone ≡ length held.gone + 1)
    by_gone cash (Ok gone) same =
        let one : with_client held cash gone.0 ≡ grown =
        first_of (with_client held cash gone.0, gone.1) (grown, after) same in (
          omega (
            arith,
            ap (λ (c : Clients). length c.cash) one,
            length-append held.cash (cash ∷ []),
          ),
          omega (
            arith,
            ap (λ (c : Clients). length c.gone) one,
            length-append held.gone (gone.0 ∷ []),
          ),
        )
    by_gone cash (Err fault) same = absurd cc

    by_cash :
        (r : SaveRead ℕ) →
        (r >>= (λ (cash : ℕ × Left). gone_in cash.1 >>= grown_by held cash.0))
        ≡ Ok (grown, after) →
        (length grown.cash ≡ length held.cash + 1) × (length grown.gone ≡ length held.gone + 1)
    by_cash (Ok cash) same = by_gone cash.0 (gone_in cash.1) same
    by_cash (Err fault) same = absurd cc

clients_after_spells :
    (held : Clients) (count total : ℕ) (left : Left) → length held.gone ≡ length held.cash →
    length held.cash + count ≡ total → AreBytes left.bytes →
    Spells (total ∷ flat_map client_bytes (zip held.cash held.gone)) left all_clients
    (clients_after held count left)
unfolding clients_after
clients_after_spells held zero total left same many are =
    let all : total ≡ length held.cash = omega arith in
    done (total ∷ flat_map client_bytes (zip held.cash held.gone)) left all_clients held
    (ap (λ (n : ℕ). n ∷ flat_map client_bytes (zip held.cash held.gone)) all) are
clients_after_spells held (suc count) total left same many are =
    let front : List ℕ = total ∷ flat_map client_bytes (zip held.cash held.gone) in
    after_read front left (client_in held left) _
    (λ (c : Clients). total ∷ flat_map client_bytes (zip c.cash c.gone)) all_clients
    (client_spells held total left same are)
    (λ grown after is rest.
    let more = client_grown held left after grown is in
    clients_after_spells grown count total after (omega (arith, more.0, more.1, same))
    (omega (arith, more.0, many)) rest)

clients_spells :
    (left : Left) → AreBytes left.bytes → Spells [] left all_clients (clients_in left)
unfolding clients_in
clients_spells left are =
    next [] left (range_in 1 1 (MAX_CLIENTS + 1) left) _ one_byte all_clients
    (byte_range_spells 1 (MAX_CLIENTS + 1) left are)
    (λ count mid is more. clients_after_spells no_clients count count mid refl (omega arith) more)

-- The head, without the number of actors.
abbrev head_bytes : Head → List ℕ
head_bytes h =
    field_bytes 4 h.tick ++ field_bytes 4 h.seed ++ field_bytes 8 h.drawn ++ field_bytes 4 h.next_id
    ++ (h.pace ∷ []) ++ (length h.cash ∷ flat_map client_bytes (zip h.cash h.gone))

head_spells :
    (frames : ℕ) (left : Left) → AreBytes left.bytes →
    Spells [] left head_bytes (head_in frames left)
unfolding head_in
head_spells frames left are =
    next [] left (range_in 4 frames (MAX_PACE * frames + 1) left) _ (field_bytes 4) head_bytes
    (range_spells 4 frames (MAX_PACE * frames + 1) left are)
    (λ tick at_seed is_tick b1.
    next (field_bytes 4 tick) at_seed (field_in 4 at_seed) _ (field_bytes 4) head_bytes
    (field_spells 4 at_seed b1)
    (λ seed at_drawn is_seed b2.
    next (field_bytes 4 tick ++ field_bytes 4 seed) at_drawn
    (range_in 8 0 (MAX_DRAWS * frames + 1) at_drawn) _ (field_bytes 8) head_bytes
    (range_spells 8 0 (MAX_DRAWS * frames + 1) at_drawn b2)
    (λ drawn at_next is_drawn b3.
    next (field_bytes 4 tick ++ field_bytes 4 seed ++ field_bytes 8 drawn) at_next
    (range_in 4 1 (2 ^ 32) at_next) _ (field_bytes 4) head_bytes
    (range_spells 4 1 (2 ^ 32) at_next b3)
    (λ next_id at_pace is_next b4.
    next (field_bytes 4 tick ++ field_bytes 4 seed ++ field_bytes 8 drawn ++ field_bytes 4 next_id)
    at_pace (range_in 1 1 (MAX_PACE + 1) at_pace) _ one_byte head_bytes
    (byte_range_spells 1 (MAX_PACE + 1) at_pace b4)
    (λ pace at_clients is_pace b5.
    next
    (field_bytes 4 tick ++ field_bytes 4 seed ++ field_bytes 8 drawn ++ field_bytes 4 next_id
    ++ pace ∷ [])
    at_clients (clients_in at_clients) _ all_clients head_bytes (clients_spells at_clients b5)
    (λ clients after is_clients b6.
    done
    (field_bytes 4 tick ++ field_bytes 4 seed ++ field_bytes 8 drawn ++ field_bytes 4 next_id
    ++ (pace ∷ []) ++ all_clients clients)
    after head_bytes
    (record {
      tick = tick;
      seed = seed;
      drawn = drawn;
      next_id = next_id;
      pace = pace;
      cash = clients.cash;
      gone = clients.gone;
    })
    refl b6))))))

-- Actors, with their number.
abbrev all_actors : List Actor → List ℕ
all_actors actors = field_bytes 4 (length actors) ++ flat_map actor_bytes actors

actors_spells :
    (setup : Setup) (head : Head) (left : Left) → AreBytes left.bytes →
    Spells [] left all_actors (actors_in setup head left)
unfolding actors_in
actors_spells setup head left are =
    next [] left (range_in 4 0 (MAX_ACTORS + 1) left) _ (field_bytes 4) all_actors
    (range_spells 4 0 (MAX_ACTORS + 1) left are)
    (λ count mid is more.
    subst (λ (bs : List ℕ). Spells bs mid all_actors
    (each_after (actor_in setup (length head.cash) head.next_id) [] count mid))
    (append-nil (field_bytes 4 count))
    (each_spells (actor_in setup (length head.cash) head.next_id) actor_bytes (field_bytes 4) count []
    count mid
    (λ xs at these. actor_spells setup (length head.cash) head.next_id xs at these)
    (omega arith) more))

-- The ore.
as_bytes : (cells : List ℕ) → flat_map one_byte cells ≡ cells
as_bytes [] = refl
as_bytes (byte ∷ cells) = ap (λ (bs : List ℕ). byte ∷ bs) (as_bytes cells)

ore_spells :
    (width height : ℕ) (left : Left) → AreBytes left.bytes →
    Spells [] left (λ (ore : Grid ℕ). ore.cells) (ore_in width height left)
unfolding ore_in
ore_spells width height left are =
    after_read [] left (each_after next_ore [] (width * height) left) _ (flat_map one_byte)
    (λ (ore : Grid ℕ). ore.cells)
    (each_spells next_ore one_byte (λ (n : ℕ). []) (width * height) [] (width * height) left
    (λ xs at these. byte_range_spells 0 (MAX_ORE + 1) at these) (omega arith) are)
    (λ cells after is rest.
    done (flat_map one_byte cells) after (λ (ore : Grid ℕ). ore.cells)
    (record { width = width; height = height; cells = cells }) (as_bytes cells) rest)

abbrev as_ore : (width height : ℕ) → List ℕ × Left → SaveRead (Grid ℕ)
as_ore width height cells = Ok (record { width = width; height = height; cells = cells.0 }, cells.1)

ore_size :
    (width height : ℕ) (left after : Left) (ore : Grid ℕ) →
    ore_in width height left ≡ Ok (ore, after) → (width ≡ ore.width) × (height ≡ ore.height)
unfolding ore_in
ore_size width height left after ore is = sized (each_after next_ore [] (width * height) left) is
  where
    sized :
        (r : SaveRead (List ℕ)) →
        (r >>= as_ore width height)
        ≡ Ok (ore, after) → (width ≡ ore.width) × (height ≡ ore.height)
    sized (Ok cells) same =
        let one = first_of (record { width = width; height = height; cells = cells.0 }, cells.1)
        (ore, after) same in
        (ap (λ (g : Grid ℕ). g.width) one, ap (λ (g : Grid ℕ). g.height) one)
    sized (Err fault) same = absurd cc

-- The size of the map.
exactly : (least number : ℕ) (left after : Left) →
    range_in 1 least (least + 1) left ≡ Ok (number, after) → number ≡ least
exactly least number left after is =
    let within = range_within 1 least (least + 1) left after number is in
    omega (arith, within.from, within.below)

size_spells :
    (map : Map) (left : Left) → AreBytes left.bytes →
    Spells [] left (λ (height : ℕ). map.width ∷ map.height ∷ []) (size_in map left)
unfolding size_in
size_spells map left are =
    next [] left (range_in 1 map.width (map.width + 1) left) _ one_byte
    (λ (height : ℕ). map.width ∷ map.height ∷ [])
    (byte_range_spells map.width (map.width + 1) left are)
    (λ width mid is more.
    because (width ∷ []) mid (λ (height : ℕ). map.width ∷ map.height ∷ [])
    (λ (height : ℕ). width ∷ height ∷ []) (range_in 1 map.height (map.height + 1) mid)
    (λ height after found.
    ap₂ (λ (a b : ℕ). a ∷ b ∷ []) (exactly map.width width left mid is)
    (exactly map.height height mid after found))
    (fronted (width ∷ []) mid one_byte (range_in 1 map.height (map.height + 1) mid)
    (byte_range_spells map.height (map.height + 1) mid more)))

-- The world.
world_whole :
    (width height : ℕ) (head : Head) (actors : List Actor) (ore : Grid ℕ) → width ≡ ore.width →
    height ≡ ore.height →
    (width ∷ height ∷ []) ++ head_bytes head ++ all_actors actors ++ ore.cells
    ≡ world_bytes (world_with head actors ore)
unfolding world_bytes
world_whole width height head actors ore across down =
    ap₂ (λ (a b : ℕ). (a ∷ b ∷ []) ++ head_bytes head ++ all_actors actors ++ ore.cells) across down
    ∙ simp append_assoc refl

world_spells :
    (setup : Setup) (frames : ℕ) (left : Left) → AreBytes left.bytes →
    Spells [] left world_bytes (world_in setup frames left)
unfolding world_in
world_spells setup frames left are =
    let width = setup.map.width in
    let height = setup.map.height in
    next [] left (size_in setup.map left) _ (λ (down : ℕ). width ∷ height ∷ []) world_bytes
    (size_spells setup.map left are)
    (λ down at_head is_size b1.
    next (width ∷ height ∷ []) at_head (head_in frames at_head) _ head_bytes world_bytes
    (head_spells frames at_head b1)
    (λ head at_actors is_head b2.
    next ((width ∷ height ∷ []) ++ head_bytes head) at_actors (actors_in setup head at_actors) _
    all_actors world_bytes (actors_spells setup head at_actors b2)
    (λ actors at_ore are_actors b3.
    next ((width ∷ height ∷ []) ++ head_bytes head ++ all_actors actors) at_ore
    (ore_in width height at_ore) _ (λ (ore : Grid ℕ). ore.cells) world_bytes
    (ore_spells width height at_ore b3)
    (λ ore after is_ore b4.
    let size = ore_size width height at_ore after ore is_ore in
    done ((width ∷ height ∷ []) ++ head_bytes head ++ all_actors actors ++ ore.cells) after
    world_bytes (world_with head actors ore)
    (world_whole width height head actors ore size.0 size.1) b4))))

-- What stands before the world.
magic_spells :
    (left : Left) → AreBytes left.bytes → Spells [] left (λ (n : ℕ). magic_bytes) (magic_in left)
unfolding magic_in
magic_spells left are =
    next [] left (with_fault BadMagic (field_in 4 left)) _ (field_bytes 4) (λ (n : ℕ). magic_bytes)
    (faulted [] left (field_bytes 4) BadMagic (field_in 4 left) (field_spells 4 left are))
    (λ start mid is more.
    choose (field_bytes 4 start) mid (λ (n : ℕ). magic_bytes) _ (Ok (start, mid))
    (Err BadMagic)
    (λ met.
    done (field_bytes 4 start) mid (λ (n : ℕ). magic_bytes) start
    (ap (field_bytes 4) (eqb-true start _ met)) more)
    (λ fails. refused (field_bytes 4 start) mid (λ (n : ℕ). magic_bytes) BadMagic))

version_spells :
    (left : Left) → AreBytes left.bytes →
    Spells [] left (λ (n : ℕ). field_bytes 2 VERSION) (version_in left)
unfolding version_in
version_spells left are =
    next [] left (field_in 2 left) _ (field_bytes 2) (λ (n : ℕ). field_bytes 2 VERSION)
    (field_spells 2 left are)
    (λ version mid is more.
    choose (field_bytes 2 version) mid (λ (n : ℕ). field_bytes 2 VERSION) (version == VERSION)
    (Ok (version, mid)) (Err BadVersion)
    (λ met.
    done (field_bytes 2 version) mid (λ (n : ℕ). field_bytes 2 VERSION) version
    (ap (field_bytes 2) (eqb-true version VERSION met)) more)
    (λ fails. refused (field_bytes 2 version) mid (λ (n : ℕ). field_bytes 2 VERSION) BadVersion))

opening_whole :
    (rules here frames : ℕ) → rules ≡ here →
    magic_bytes ++ field_bytes 2 VERSION ++ field_bytes 8 rules ++ field_bytes 4 frames
    ≡ opening_bytes here frames
unfolding opening_bytes
opening_whole rules here frames same =
    ap (λ (n : ℕ).
    magic_bytes ++ field_bytes 2 VERSION ++ field_bytes 8 n ++ field_bytes 4 frames) same
    ∙ simp append_assoc refl

opening_spells :
    (here : ℕ) (left : Left) → AreBytes left.bytes →
    Spells [] left (opening_bytes here) (opening_in here left)
unfolding opening_in
opening_spells here left are =
    next [] left (magic_in left) _ (λ (n : ℕ). magic_bytes) (opening_bytes here)
    (magic_spells left are)
    (λ start at_version is_magic b1.
    next magic_bytes at_version (version_in at_version) _ (λ (n : ℕ). field_bytes 2 VERSION)
    (opening_bytes here) (version_spells at_version b1)
    (λ version at_rules is_version b2.
    next (magic_bytes ++ field_bytes 2 VERSION) at_rules (field_in 8 at_rules) _ (field_bytes 8)
    (opening_bytes here) (field_spells 8 at_rules b2)
    (λ rules at_frames is_rules b3.
    let front : List ℕ = magic_bytes ++ field_bytes 2 VERSION ++ field_bytes 8 rules in
    choose front at_frames (opening_bytes here) (rules == here)
    (range_in 4 0 (MAX_FRAMES + 1) at_frames) (Err (OtherRules rules here))
    (λ met.
    because front at_frames (opening_bytes here) (λ (frames : ℕ). front ++ field_bytes 4 frames)
    (range_in 4 0 (MAX_FRAMES + 1) at_frames)
    (λ frames after found. opening_whole rules here frames (eqb-true rules here met))
    (fronted front at_frames (field_bytes 4) (range_in 4 0 (MAX_FRAMES + 1) at_frames)
    (range_spells 4 0 (MAX_FRAMES + 1) at_frames b3)))
    (λ fails. refused front at_frames (opening_bytes here) (OtherRules rules here)))))

-- The bytes of a save that was read.
no_more : (bytes : List ℕ) → nat_lt 0 (length bytes) ≡ false → bytes ≡ []
no_more [] none_left = refl
no_more (byte ∷ bytes) none_left =
    absurd (omega (arith, ltb-false 0 (length (byte ∷ bytes)) none_left))

abbrev answered : Saved → Result Saved SaveFault
answered saved = Ok saved

same_answer : (x y : Saved) → answered x ≡ answered y → x ≡ y
same_answer x y same = cc

pub save_spelled :
    (here : ℕ) (setup : Setup) (bytes : List ℕ) (saved : Saved) → AreBytes bytes →
    read_save_of here setup bytes ≡ Ok saved → bytes ≡ save_bytes here saved.frames saved.world
unfolding read_save_of save_bytes Spells
save_spelled here setup bytes saved are is =
    by_opening (opening_in here (all_of bytes)) (opening_spells here (all_of bytes) are) is
  where
    ended :
        (frames : ℕ) (w : World) (after : Left) (b : Bool) → nat_lt 0 (length after.bytes) ≡ b →
        bytes ≡ opening_bytes here frames ++ (world_bytes w ++ after.bytes) →
        (if b then Err (TrailingBytes (place_in after)) else Ok (record { frames = frames; world = w }))
        ≡ Ok saved → bytes ≡ opening_bytes here saved.frames ++ world_bytes saved.world
    ended frames w after true test whole same = absurd cc
    ended frames w after false test whole same =
        let all : bytes ≡ opening_bytes here frames ++ world_bytes w =
        whole ∙ ap (λ (bs : List ℕ). opening_bytes here frames ++ (world_bytes w ++ bs))
        (no_more after.bytes test)
        ∙ ap (λ (bs : List ℕ). opening_bytes here frames ++ bs) (append-nil (world_bytes w)) in
        subst (λ (s : Saved). bytes ≡ opening_bytes here s.frames ++ world_bytes s.world)
        (same_answer (record { frames = frames; world = w }) saved same) all

    by_world :
        (frames : ℕ) (mid : Left) (r : SaveRead World) → Spells [] mid world_bytes r →
        bytes ≡ opening_bytes here frames ++ mid.bytes →
        (r >>= (λ (world : World × Left).
        at_end (record { frames = frames; world = world.0 }) world.1))
        ≡ Ok saved → bytes ≡ opening_bytes here saved.frames ++ world_bytes saved.world
    by_world frames mid (Ok world) own front same =
        ended frames world.0 world.1 (nat_lt 0 (length world.1.bytes)) refl
        (front ∙ ap (λ (bs : List ℕ). opening_bytes here frames ++ bs) own.0) same
    by_world frames mid (Err fault) own front same = absurd cc

    by_opening :
        (r : SaveRead ℕ) → Spells [] (all_of bytes) (opening_bytes here) r →
        (r >>= (λ (frames : ℕ × Left). world_in setup frames.0 frames.1 >>= (λ (world : World × Left).
        at_end (record { frames = frames.0; world = world.0 }) world.1)))
        ≡ Ok saved → bytes ≡ opening_bytes here saved.frames ++ world_bytes saved.world
    by_opening (Ok frames) own same =
        by_world frames.0 frames.1 (world_in setup frames.0 frames.1)
        (world_spells setup frames.0 frames.1 own.1) own.0 same
    by_opening (Err fault) own same = absurd cc
