-- Entries that are read client by client.
use Rattle.std.specs.Prelude.{◌≡◌, ℕ, suc, ◌+◌, ◌<◌, ◌≤◌, Bool, true, false}
use Rattle.std.specs.Prelude.{List, [], ◌∷◌, ◌++◌, length, take, drop, replicate, Ok, Err}
use Rattle.std.specs.List.{AllByRecursion}
use Rattle.std.proofs.Common.{refl, sym, ap, subst, ◌∙◌, arith, append_assoc, get_or}
use Rattle.std.proofs.lemmas.List.{append-nil, drop_more, drop_all, take_more, take_all}
use Rattle.wire_bytes.specs.Field.{field_bytes}
use Rattle.wire_bytes.proofs.ReadLemmas.{written_is_read}
use Rattle.game_orders.specs.declared.order.Order.{Order}
use Rattle.game_orders.specs.declared.entry.Entry.{Entry}
use Rattle.game_orders.specs.declared.entry.Entry.TheVariants.{Play, Leave}
use Rattle.game_orders.specs.OrderBytes.{orders_bytes}
use Rattle.replay_file.specs.declared.limits.TheConstants.{GREATEST_TAG}
use Rattle.replay_file.specs.declared.part_fault.PartFault.{PartFault}
use Rattle.replay_file.proofs.OrdersLemmas.{orders_again_in, all_added, tag_known}
use Rattle.replay_file.specs.PartReading.{PartRead, play_in, entry_in, entries_after}
use Rattle.replay_file.specs.PartBytes.{entry_bytes, entries_bytes, FitsEntry}
use Rattle.replay_file.specs.PartRules.{EntryFollows, HasTagUpTo, HasTagsUpTo, StayDeparted}

-- One more entry was read.
pub entry_is_held :
    (greatest : ℕ) (held : List Entry) (departed : List Bool) (i : ℕ) (d : Bool)
    (bytes after : List ℕ) (entry : Entry) (total : PartRead (List Entry)) → i < length departed →
    entry_in greatest (get_or departed i d) bytes ≡ Ok (entry, after) →
    entries_after greatest held (drop i departed) bytes ≡ total →
    entries_after greatest (held ++ entry ∷ []) (drop (i + 1) departed) after ≡ total
unfolding entries_after
entry_is_held greatest held departed i d bytes after entry total within read so_far =
    let left : drop i departed ≡ get_or departed i d ∷ drop (i + 1) departed =
    drop_more departed i d within in
    let step : entries_after greatest held (drop i departed) bytes
    ≡ entries_after greatest (held ++ entry ∷ []) (drop (i + 1) departed) after =
    rw (left, read) refl in
    sym step ∙ so_far

-- The next entry is none.
pub entry_is_bad :
    (greatest : ℕ) (held : List Entry) (departed : List Bool) (i : ℕ) (d : Bool)
    (bytes : List ℕ) (fault : PartFault) (total : PartRead (List Entry)) → i < length departed →
    entry_in greatest (get_or departed i d) bytes ≡ Err fault →
    entries_after greatest held (drop i departed) bytes ≡ total → total ≡ Err fault
unfolding entries_after
entry_is_bad greatest held departed i d bytes fault total within read so_far =
    let left : drop i departed ≡ get_or departed i d ∷ drop (i + 1) departed =
    drop_more departed i d within in
    let step : entries_after greatest held (drop i departed) bytes ≡ Err fault =
    rw (left, read) refl in
    sym so_far ∙ step

-- All were read.
pub entries_are_held :
    (greatest : ℕ) (held : List Entry) (departed : List Bool) (i : ℕ) (bytes : List ℕ)
    (total : PartRead (List Entry)) → length departed ≤ i →
    entries_after greatest held (drop i departed) bytes ≡ total → total ≡ Ok (held, bytes)
unfolding entries_after
entries_are_held greatest held departed i bytes total past so_far =
    let none : drop i departed ≡ [] = drop_all i departed past in
    let end : entries_after greatest held (drop i departed) bytes ≡ Ok (held, bytes) =
    rw none refl in
    sym so_far ∙ end

-- The bytes of one entry more.
pub each_more : (held : List Entry) (entry : Entry) →
    entries_bytes (held ++ entry ∷ []) ≡ entries_bytes held ++ entry_bytes entry
each_more [] entry = append-nil (entry_bytes entry)
each_more (first ∷ held) entry =
    ap (λ (bytes : List ℕ). entry_bytes first ++ bytes) (each_more held entry)
    ∙ sym (append_assoc (entry_bytes first) (entries_bytes held) (entry_bytes entry))

pub entries_spelled :
    (held : List Entry) (entry : Entry) (all bytes after : List ℕ) →
    all ≡ entries_bytes held ++ bytes → bytes ≡ entry_bytes entry ++ after →
    all ≡ entries_bytes (held ++ entry ∷ []) ++ after
entries_spelled held entry all bytes after so_far spelled =
    so_far ∙ ap (λ (rest : List ℕ). entries_bytes held ++ rest) spelled
    ∙ sym (append_assoc (entries_bytes held) (entry_bytes entry) after)
    ∙ ap (λ (front : List ℕ). front ++ after) (sym (each_more held entry))

-- One more client stays departed, or had not departed.
stay_added : (departed : List Bool) (gone : Bool) (held : List Entry) (entry : Entry) →
    StayDeparted departed held → EntryFollows gone entry →
    StayDeparted (departed ++ gone ∷ []) (held ++ entry ∷ [])
stay_added [] gone [] entry stay follows = (follows, tt)
stay_added [] gone (first ∷ held) entry stay follows = elim stay [ ]
stay_added (first ∷ departed) gone [] entry stay follows = elim stay [ ]
stay_added (first ∷ departed) gone (other ∷ held) entry stay follows =
    (stay.0, stay_added departed gone held entry stay.1 follows)

pub one_more_stays :
    (departed : List Bool) (i : ℕ) (d : Bool) (held : List Entry) (entry : Entry) →
    i < length departed → StayDeparted (take i departed) held →
    EntryFollows (get_or departed i d) entry →
    StayDeparted (take (i + 1) departed) (held ++ entry ∷ [])
one_more_stays departed i d held entry within stay follows =
    let more : take (i + 1) departed ≡ take i departed ++ get_or departed i d ∷ [] =
    take_more departed i d within in
    subst (λ (all : List Bool). StayDeparted all (held ++ entry ∷ [])) (sym more)
    (stay_added (take i departed) (get_or departed i d) held entry stay follows)

pub all_stay :
    (departed items : List Bool) (i : ℕ) (held : List Entry) → items ≡ departed →
    length items ≤ i → StayDeparted (take i items) held → StayDeparted departed held
all_stay departed items i held same past stay =
    subst (λ (all : List Bool). StayDeparted all held) (take_all i items past ∙ same) stay

-- Who stays departed has one entry for each client.
pub stay_length : (departed : List Bool) (entries : List Entry) →
    StayDeparted departed entries → length entries ≡ length departed
stay_length [] [] stay = refl
stay_length [] (entry ∷ entries) stay = elim stay [ ]
stay_length (gone ∷ more) [] stay = elim stay [ ]
stay_length (gone ∷ more) (entry ∷ entries) stay = ap suc (stay_length more entries stay.1)

-- One more entry has known orders.
pub one_more_known :
    (greatest : ℕ) (held : List Entry) (entry : Entry) →
    AllByRecursion (HasTagsUpTo greatest) held → HasTagsUpTo greatest entry →
    AllByRecursion (HasTagsUpTo greatest) (held ++ entry ∷ [])
one_more_known greatest held entry known one = all_added (HasTagsUpTo greatest) held entry known one

pub ruleset reading_steps = (
  entry_is_held,
  entry_is_bad,
  entries_are_held,
  entries_spelled,
  one_more_stays,
  one_more_known,
)

entry_again :
    (greatest : ℕ) (gone : Bool) (entry : Entry) (rest : List ℕ) → EntryFollows gone entry →
    FitsEntry entry → HasTagsUpTo greatest entry →
    entry_in greatest gone (entry_bytes entry ++ rest) ≡ Ok (entry, rest)
unfolding entry_in play_in
entry_again greatest true (Play orders) rest follows fits known = absurd cc
entry_again greatest false (Play orders) rest follows fits known =
    ap (entry_in greatest false) (append_assoc (field_bytes 1 1) (orders_bytes orders) rest)
    ∙ rw (
      written_is_read 1 1 (orders_bytes orders ++ rest) (omega arith),
      orders_again_in greatest orders rest fits known,
    ) refl
entry_again greatest gone Leave rest follows fits known =
    rw (written_is_read 1 0 rest (omega arith)) refl

-- The spelling of the entries of a frame reads as the entries, whatever follows it.
pub entries_again :
    (greatest : ℕ) (departed : List Bool) (held entries : List Entry) (rest : List ℕ) →
    StayDeparted departed entries → AllByRecursion FitsEntry entries →
    AllByRecursion (HasTagsUpTo greatest) entries →
    entries_after greatest held departed (entries_bytes entries ++ rest)
    ≡ Ok (held ++ entries, rest)
unfolding entries_after
entries_again greatest [] held [] rest stay fits known =
    ap (λ (all : List Entry). Ok (all, rest)) (sym (append-nil held))
entries_again greatest [] held (entry ∷ entries) rest stay fits known = elim stay [ ]
entries_again greatest (gone ∷ more) held [] rest stay fits known = elim stay [ ]
entries_again greatest (gone ∷ more) held (entry ∷ entries) rest stay fits known =
    ap (entries_after greatest held (gone ∷ more))
    (append_assoc (entry_bytes entry) (entries_bytes entries) rest)
    ∙ rw (entry_again greatest gone entry (entries_bytes entries ++ rest) stay.0 fits.0 known.0)
    (entries_again greatest more (held ++ entry ∷ []) entries rest stay.1 fits.1 known.1
    ∙ ap (λ (all : List Entry). Ok (all, rest)) (append_assoc held (entry ∷ []) entries))

-- Where nobody has departed, all entries may follow.
follows_nobody : (entry : Entry) → EntryFollows false entry
follows_nobody entry = refl

pub nobody_stays : (entries : List Entry) →
    StayDeparted (replicate (length entries) false) entries
nobody_stays [] = tt
nobody_stays (entry ∷ entries) = (follows_nobody entry, nobody_stays entries)

-- All orders have known tags.
orders_known : (orders : List Order) → AllByRecursion (HasTagUpTo GREATEST_TAG) orders
orders_known [] = tt
orders_known (order ∷ orders) = (tag_known order, orders_known orders)

entry_known : (entry : Entry) → HasTagsUpTo GREATEST_TAG entry
entry_known (Play orders) = orders_known orders
entry_known Leave = tt

pub entries_known : (entries : List Entry) →
    AllByRecursion (HasTagsUpTo GREATEST_TAG) entries
entries_known [] = tt
entries_known (entry ∷ entries) = (entry_known entry, entries_known entries)
