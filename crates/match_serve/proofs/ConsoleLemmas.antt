-- What the reading of the console keeps of its pass, and what it knows of the lines.
use Rattle.std.proofs.Common.{◌≡◌, ◌≢◌, ℕ, ◌+◌, ◌-◌, ◌⊎◌, append-nil, ◌<◌, ◌≤◌, ◌==◌, ◌||◌, Bool, true, false, List, [], ◌∷◌, ◌++◌, length, take, drop, Option, Some, None, IfSome, inl, inr, refl, ap, sym, ◌∙◌, subst, arith}
use Rattle.std.specs.Prelude.{slice_index_or, slice_set}
use native.Mathlib.Decide.{ℕ_discrete}
use mathlib.Core.Logic.{dite}
use Rattle.std.specs.List.{list_any}
use Rattle.std.specs.Option.{option_map}
use Rattle.std.proofs.lemmas.List.{take-append-drop, length-replicate, get_or-replicate, get_or-set_same, get_or-set_other}
use Rattle.std.proofs.lemmas.List.Folds.{list_any-append}
use Rattle.std.proofs.lemmas.Bool.{false≢true}
use Rattle.std.proofs.lemmas.Bool.Decides.{Decides-eqb}
use Rattle.game_io.specs.SourceState.{SourceState}
use Rattle.game_orders.specs.declared.limits.TheConstants.{MAX_CLIENTS}
use Rattle.base.specs.Cause.{Increased}
use Rattle.frame_core.specs.Column.{Column, left_column}
use Rattle.frame_core.specs.Grows.{GrowsTo}
use Rattle.frame_core.proofs.GrowsLemmas.{GrowsTo-refl}
use Rattle.frame_table.specs.declared.pass.Pass.{Pass}
use Rattle.frame_table.specs.declared.view.View.{View}
use Rattle.frame_table.specs.declared.seen.Seen.{Seen}
use Rattle.frame_table.specs.declared.table.FrameTable.{FrameTable}
use Rattle.frame_table.specs.Part.{Part, OthersStay, part_of}
use Rattle.frame_table.specs.Word.{one_if}
use Rattle.frame_table.specs.Steps.{IsFound, loaded, published}
use Rattle.frame_table.specs.Calls.{view_of, standing}
use Rattle.match_net.specs.PieceTaking.{Took, NoneLeft}
use Rattle.match_serve.specs.declared.kicks.Kicks.{Kicks}
use Rattle.match_serve.specs.Passes.{IsServePass, IsTakenOut, IsKicking, Learns, SeesLeft, StayLeft}
use Rattle.match_serve.specs.Console.{ends_line, lines_of, kicks_client, holds_kick}
use Rattle.match_serve.specs.Watching.{AreNewKicks, names_client, NamesKicked, KicksBy, WatchedSoFar, WatchedLines, TakenSoFar, IsAllIf, AfterTake, WatchesConsole}
use Rattle.match_serve.proofs.LineLemmas.{lines_grow, lines_ended, lines_since, first_more, kicks_first}
use Rattle.match_serve.proofs.PassLemmas.{learns_refl, learns_trans}
use Rattle.match_serve.proofs.SeatLemmas.{taken_out}
use Rattle.match_serve.proofs.SessionLemmas.{took_more}

-- A look at one column.
pub look_learns : (p q : View) (c : ℕ) (seen : Seen) → OthersStay c p q → part_of c q ≡ loaded (part_of c p) seen → GrowsTo (part_of c p).known (part_of c q).known → Learns p q
look_learns p q c seen others part grows =
    record {
      share = others.0;
      planned = λ d. dite (ℕ_discrete d c)
          (λ same. subst (λ e. (part_of e q).planned ≡ (part_of e p).planned) (sym same) (ap (λ (x : Part). x.planned) part))
          (λ apart. ap (λ (x : Part). x.planned) (others.2 d apart));
      made = λ d. dite (ℕ_discrete d c)
          (λ same. subst (λ e. (part_of e q).made ≡ (part_of e p).made) (sym same) (ap (λ (x : Part). x.made) part))
          (λ apart. ap (λ (x : Part). x.made) (others.2 d apart));
      known = λ d. dite (ℕ_discrete d c)
          (λ same. subst (λ e. GrowsTo (part_of e p).known (part_of e q).known) (sym same) grows)
          (λ apart. subst (λ (x : Part). GrowsTo (part_of d p).known x.known) (sym (others.2 d apart)) (GrowsTo-refl (part_of d p).known));
    }

pub looks_more : (a p q : View) (c : ℕ) (seen : Seen) → Learns a p → OthersStay c p q → part_of c q ≡ loaded (part_of c p) seen → GrowsTo (part_of c p).known (part_of c q).known → Learns a q
looks_more a p q c seen far others part grows = learns_trans a p q far (look_learns p q c seen others part grows)

-- Each client that was looked at has left.
pub look_left : (p q : View) (c : ℕ) (seen : Seen) → OthersStay c p q → part_of c q ≡ loaded (part_of c p) seen → seen.left ≡ true → ((d : ℕ) → d < c → (part_of d p).reach.left ≡ true) → (d : ℕ) → d < c + 1 → (part_of d q).reach.left ≡ true
look_left p q c seen others part left before d below = dite (ℕ_discrete d c)
    (λ same. subst (λ e. (part_of e q).reach.left ≡ true) (sym same) (ap (λ (x : Part). x.reach.left) part ∙ left))
    (λ apart. ap (λ (x : Part). x.reach.left) (others.2 d apart) ∙ before d (omega arith))

-- One has not.
pub look_plays : (clients : ℕ) (p q : View) (c : ℕ) (seen : Seen) → part_of c q ≡ loaded (part_of c p) seen → seen.left ≡ false → c < clients → SeesLeft clients q false
look_plays clients p q c seen part left below = (c, below, ap (λ (x : Part). x.reach.left) part ∙ left)

-- Who was seen to have left.
pub stay_same : (p : View) → StayLeft p p
stay_same p c left = (left, refl)

pub stay_more : (a p q : View) → StayLeft a p → StayLeft p q → StayLeft a q
stay_more a p q first second c left =
    let was = first c left in
    let is = second c was.0 in
    (is.0, is.1 ∙ was.1)

out_here : (old new : Part) (K : Column) → IsFound old K → new ≡ published old K (left_column K) → old.reach.left ≡ true → (new.reach.left ≡ true) × (new.made ≡ old.made)
out_here old new K found is left = (
  ap (λ (r : Part). r.reach.left) is,
  ap (λ (r : Part). r.made) is
      ∙ ap (λ b. old.made + (1 - one_if b)) (found.reach.left left).0
      ∙ (let same : old.made + (1 - 1) ≡ old.made = omega arith in same),
)

out_stays : (c : ℕ) (p q : View) → IsTakenOut c p q → StayLeft p q
out_stays c p q (answer, (K, acted, said)) d left = dite (ℕ_discrete d c)
    (λ same.
    subst (λ e. ((part_of e q).reach.left ≡ true) × ((part_of e q).made ≡ (part_of e p).made)) (sym same)
    (out_here (part_of c p) (part_of c q) K acted.found acted.part (subst (λ e. (part_of e p).reach.left ≡ true) same left)))
    (λ apart.
    subst (λ (r : Part). (r.reach.left ≡ true) × (r.made ≡ (part_of d p).made)) (sym (acted.others.2 d apart)) (left, refl))

out_left : (c : ℕ) (p q : View) → IsTakenOut c p q → (part_of c q).known.left ≡ true
out_left c p q (answer, (K, acted, said)) = ap (λ (r : Part). r.known.left) acted.part

-- A line kicks at most one client.
or_false : (a b : Bool) → b ≡ false → (a || b) ≡ a
or_false true b is = refl
or_false false b is = is

or_true : (a b : Bool) → b ≡ true → (a || b) ≡ true
or_true true b is = refl
or_true false b is = is

or_neither : (a b : Bool) → (a || b) ≡ false → (a ≡ false) × (b ≡ false)
or_neither true b is = absurd (false≢true (sym is))
or_neither false b is = (refl, is)

pub kicks_none : (clients : ℕ) (line : List ℕ) (named : Option ℕ) (kicked : List Bool) (p : View) → named ≡ None → NamesKicked clients line named → length kicked ≡ clients → KicksBy clients line kicked kicked p p
kicks_none clients line named kicked p is names count =
    record {
      count = count;
      share = refl;
      kicked = λ c below. sym (or_false (slice_index_or kicked c false) (kicks_client c line) (names c below ∙ ap (names_client c) is));
      stays = λ c below free. refl;
      known = λ c. GrowsTo-refl (part_of c p).known;
      gone = λ c below kicks. absurd (false≢true (sym (names c below ∙ ap (names_client c) is) ∙ kicks));
      left = stay_same p;
    }

listed : (clients : ℕ) (line : List ℕ) (d : ℕ) (kicked : List Bool) → NamesKicked clients line (Some d) → length kicked ≡ clients → (c : ℕ) → c < clients →
    slice_index_or (slice_set kicked d true) c false ≡ (slice_index_or kicked c false || kicks_client c line)
listed clients line d kicked names count c below = dite (ℕ_discrete c d)
    (λ same. (subst (λ e. slice_index_or (slice_set kicked e true) c false ≡ true) same (get_or-set_same kicked c true false (omega arith))) ∙ sym (or_true (slice_index_or kicked c false) (kicks_client c line) (names c below ∙ (Decides-eqb d c).1 (sym same))))
    (λ apart. get_or-set_other kicked d c true false apart ∙ sym (or_false (slice_index_or kicked c false) (kicks_client c line) (names c below ∙ differ (d == c) refl (λ same. apart (sym same)))))
  where
    differ : (b : Bool) → (d == c) ≡ b → (d ≢ c) → b ≡ false
    differ true is apart = absurd (apart ((Decides-eqb d c).0 is))
    differ false is apart = refl

pub kicks_one : (clients : ℕ) (line : List ℕ) (named : Option ℕ) (d : ℕ) (kicked : List Bool) (p q : View) → named ≡ Some d → NamesKicked clients line named → length kicked ≡ clients → length (slice_set kicked d true) ≡ length kicked → IsTakenOut d p q →
    KicksBy clients line kicked (slice_set kicked d true) p q
kicks_one clients line named d kicked p q is names count long out =
    let all = listed clients line d kicked (subst (NamesKicked clients line) is names) count in
    record {
      count = long ∙ count;
      share = (taken_out d p q out).share;
      kicked = all;
      stays = λ c below free. (taken_out d p q out).made c (other c below free);
      known = (taken_out d p q out).known;
      gone = λ c below kicks. subst (λ e. (part_of e q).known.left ≡ true) (named_is c below kicks) (out_left d p q out);
      left = out_stays d p q out;
    }
  where
    named_is : (c : ℕ) → c < clients → kicks_client c line ≡ true → d ≡ c
    named_is c below kicks = (Decides-eqb d c).0 (sym (names c below ∙ ap (names_client c) is) ∙ kicks)

    other : (c : ℕ) → c < clients → slice_index_or (slice_set kicked d true) c false ≡ false → c ≢ d
    other c below free same = false≢true (sym free ∙ subst (λ e. slice_index_or (slice_set kicked e true) c false ≡ true) same (get_or-set_same kicked c true false (omega arith)))

module _ (clients : ℕ) (table : FrameTable) where
  -- Before anything is read.
  took_nothing : (left : Option (List ℕ)) → Took left left []
  took_nothing None = refl
  took_nothing (Some bytes) = refl

  pub taken_none : (s : SourceState) (p : Pass) (kicks : Kicks) → IsServePass clients table p → AreNewKicks clients kicks → TakenSoFar clients table s s p p kicks
  taken_none s p kicks is new =
      record {
        bytes = [];
        took = took_nothing s.left;
        later = omega arith;
        watched = record {
          ended = [];
          last = [];
          lines = refl;
          line_is = new.line_is;
          count = ap length new.nobody ∙ length-replicate clients false;
          kicked_are = λ c below. ap (λ k. slice_index_or k c false) new.nobody ∙ get_or-replicate clients c false false below;
          pass = record {
            is = is;
            share = refl;
            stays = λ c below free. refl;
            gone = λ c below kicked. absurd (false≢true (sym (ap (λ k. slice_index_or k c false) new.nobody ∙ get_or-replicate clients c false false below) ∙ kicked));
          };
        };
      }

  still_gone : (old new : Column) → GrowsTo old new → old.left ≡ true → new.left ≡ true
  still_gone old new grows left = ap (λ (k : Column). k.left) (grows.closed left) ∙ left

  -- A look at the columns.
  watched_looked : (bytes : List ℕ) (start p q : Pass) (kicks : Kicks) → WatchedSoFar clients table bytes start p kicks → IsServePass clients table q → Learns (view_of p) (view_of q) → WatchedSoFar clients table bytes start q kicks
  watched_looked bytes start p q kicks far is learns =
      record {
        ended = far.ended;
        last = far.last;
        lines = far.lines;
        line_is = far.line_is;
        count = far.count;
        kicked_are = far.kicked_are;
        pass = record {
          is = is;
          share = learns.share ∙ far.pass.share;
          stays = λ c below free. learns.made c ∙ far.pass.stays c below free;
          gone = λ c below kicked. still_gone (standing p c).known (standing q c).known (learns.known c) (far.pass.gone c below kicked);
        };
      }

  -- A byte that ends no line.
  pub byte_kept : (bytes : List ℕ) (b : ℕ) (start p : Pass) (kicks next : Kicks) → ends_line b ≡ false → next.line.items ≡ take 8 (kicks.line.items ++ b ∷ []) → next.kicked.items ≡ kicks.kicked.items → WatchedSoFar clients table bytes start p kicks → WatchedSoFar clients table (bytes ++ b ∷ []) start p next
  byte_kept bytes b start p kicks next goes kept same far =
      record {
        ended = far.ended;
        last = far.last ++ b ∷ [];
        lines = lines_grow bytes b far.ended far.last goes far.lines;
        line_is = kept ∙ ap (λ l. take 8 (l ++ b ∷ [])) far.line_is ∙ first_more 8 far.last b;
        count = ap length same ∙ far.count;
        kicked_are = λ c below. ap (λ k. slice_index_or k c false) same ∙ far.kicked_are c below;
        pass = subst (λ k. IsKicking clients table k start p) (sym same) far.pass;
      }

  -- A line that has ended.
  pub line_over : (bytes line : List ℕ) (start p q : Pass) (kicks next : Kicks) → clients ≤ MAX_CLIENTS → IsServePass clients table q → line ≡ kicks.line.items → KicksBy clients line kicks.kicked.items next.kicked.items (view_of p) (view_of q) → next.line.items ≡ [] → WatchedSoFar clients table bytes start p kicks → WatchedLines clients table bytes start q next
  line_over bytes line start p q kicks next few is same by empty far =
      record {
        line_is = empty;
        count = by.count;
        kicked_are = λ c below. by.kicked c below ∙ all c below;
        pass = record {
          is = is;
          share = by.share ∙ far.pass.share;
          stays = λ c below free. by.stays c below free ∙ far.pass.stays c below (or_neither (slice_index_or kicks.kicked.items c false) (kicks_client c line) (sym (by.kicked c below) ∙ free)).0;
          gone = λ c below kicked. gone_by c below (either (slice_index_or kicks.kicked.items c false) (kicks_client c line) (sym (by.kicked c below) ∙ kicked));
        };
      }
    where
      either : (a b : Bool) → (a || b) ≡ true → (a ≡ true) ⊎ (b ≡ true)
      either true b is = inl refl
      either false b is = inr is

      gone_by : (c : ℕ) → c < clients → (slice_index_or kicks.kicked.items c false ≡ true) ⊎ (kicks_client c line ≡ true) → (standing q c).known.left ≡ true
      gone_by c below (inl before) = still_gone (standing p c).known (standing q c).known (by.known c) (far.pass.gone c below before)
      gone_by c below (inr kicks_it) = by.gone c below kicks_it

      or_end : (a b : Bool) → (a || b) ≡ (a || (b || false))
      or_end true b = refl
      or_end false true = refl
      or_end false false = refl

      all : (c : ℕ) → c < clients → (slice_index_or kicks.kicked.items c false || kicks_client c line) ≡ holds_kick bytes c
      all c below =
          ap (λ a. a || kicks_client c line) (far.kicked_are c below)
          ∙ ap (λ b. list_any (kicks_client c) far.ended || b) (ap (kicks_client c) (same ∙ far.line_is) ∙ kicks_first c far.last (omega arith))
          ∙ or_end (list_any (kicks_client c) far.ended) (kicks_client c far.last)
          ∙ sym (list_any-append (kicks_client c) far.ended (far.last ∷ []))
          ∙ ap (list_any (kicks_client c)) (sym far.lines)

  pub next_line : (bytes : List ℕ) (b : ℕ) (start p : Pass) (kicks : Kicks) → ends_line b ≡ true → WatchedLines clients table bytes start p kicks → WatchedSoFar clients table (bytes ++ b ∷ []) start p kicks
  next_line bytes b start p kicks ends far =
      record {
        ended = lines_of bytes;
        last = [];
        lines = lines_ended bytes b ends;
        line_is = far.line_is;
        count = far.count;
        kicked_are = far.kicked_are;
        pass = far.pass;
      }

  -- Some bytes were taken, or none.
  taken_more : (first old new : SourceState) (start p q : Pass) (kicks next : Kicks) (bytes : List ℕ) → Took old.left new.left bytes → old.faults ≤ new.faults →
      ((before : List ℕ) (s : Pass) → WatchedSoFar clients table before s p kicks → WatchedSoFar clients table (before ++ bytes) s q next) →
      TakenSoFar clients table first old start p kicks → TakenSoFar clients table first new start q next
  taken_more first old new start p q kicks next bytes took later reads far =
      record {
        bytes = far.bytes ++ bytes;
        took = took_more first.left old.left new.left far.bytes bytes far.took took;
        later = (let before = far.later in omega arith);
        watched = reads far.bytes start far.watched;
      }

  pub taken_still : (first old new : SourceState) (start p q : Pass) (kicks : Kicks) → new.left ≡ old.left → old.faults ≤ new.faults → IsServePass clients table q → Learns (view_of p) (view_of q) → TakenSoFar clients table first old start p kicks → TakenSoFar clients table first new start q kicks
  taken_still first old new start p q kicks same later is learns far =
      record {
        bytes = far.bytes;
        took = far.took ∙ ap (option_map (λ left. far.bytes ++ left)) (sym same);
        later = (let before = far.later in omega arith);
        watched = watched_looked far.bytes start p q kicks far.watched is learns;
      }

  -- The end of the console, and its last line.
  pub watches : (old new : SourceState) (start p q : Pass) (kicks next : Kicks) →
      ((bytes : List ℕ) (s : Pass) → WatchedSoFar clients table bytes s p kicks → WatchedLines clients table bytes s q next) → StayLeft (view_of p) (view_of q) →
      AfterTake clients table old new start p kicks true → WatchesConsole clients table old new start q next.kicked.items
  watches old new start p q kicks next ends stay (far, all) = by_end all (ends far.bytes start far.watched)
    where
      by_end : IsAllIf clients far.bytes old new start p true → WatchedLines clients table far.bytes start q next → WatchesConsole clients table old new start q next.kicked.items
      by_end (inl rose) lines =
          record {
            read = record { bytes = far.bytes; before = lines_of far.bytes; since = []; lines = sym (append-nil (lines_of far.bytes)); took = far.took; later = far.later; done = inl rose };
            count = lines.count;
            kicked_are = lines.kicked_are;
            pass = lines.pass;
            by = λ c below none. lines.pass.stays c below (lines.kicked_are c below ∙ none);
            left = λ ended. absurd (omega arith);
          }
      by_end (inr (inl over)) lines =
          record {
            read = record { bytes = far.bytes; before = over.before; since = over.since; lines = over.lines; took = far.took; later = far.later; done = inr (inl (over.ends, over.ended)) };
            count = lines.count;
            kicked_are = lines.kicked_are;
            pass = lines.pass;
            by = λ c below none. (stay c (over.left c below)).1 ∙ over.by c below none;
            left = λ ended c below. (stay c (over.left c below)).0;
          }
      by_end (inr (inr none_left)) lines =
          record {
            read = record { bytes = far.bytes; before = lines_of far.bytes; since = []; lines = sym (append-nil (lines_of far.bytes)); took = far.took; later = far.later; done = inr (inr none_left) };
            count = lines.count;
            kicked_are = lines.kicked_are;
            pass = lines.pass;
            by = λ c below none. lines.pass.stays c below (lines.kicked_are c below ∙ none);
            left = λ ended. absurd (omega arith);
          }

  -- What was taken ends it, or not.
  all_over : (bytes more : List ℕ) (first now : SourceState) (start p mid q : Pass) (kicks : Kicks) (over : Bool) → true ≡ list_any ends_line more → WatchedSoFar clients table bytes start p kicks → Learns (view_of p) (view_of mid) → SeesLeft clients (view_of mid) over → StayLeft (view_of mid) (view_of q) → IsAllIf clients (bytes ++ more) first now start q over
  all_over bytes more first now start p mid q kicks true ends far learns sees stay =
      let since = lines_since more bytes far.ended (far.last ∷ []) far.lines (omega arith) in
      inr (inl (record {
        before = far.ended;
        since = since.0;
        lines = since.1;
        ends = list_any-append ends_line bytes more ∙ or_true (list_any ends_line bytes) (list_any ends_line more) (sym ends);
        ended = since.2 (sym ends);
        left = λ c below. (stay c (sees c below)).0;
        by = λ c below none. (stay c (sees c below)).1 ∙ learns.made c ∙ far.pass.stays c below (far.kicked_are c below ∙ none);
      }))
  all_over bytes more first now start p mid q kicks false ends far learns sees stay = tt

  pub takes_line : (first old new : SourceState) (start p mid q : Pass) (kicks next : Kicks) (bytes : List ℕ) (over : Bool) → Took old.left new.left bytes → old.faults ≤ new.faults → IsServePass clients table mid → Learns (view_of p) (view_of mid) → SeesLeft clients (view_of mid) over →
      ((before : List ℕ) (s : Pass) → WatchedSoFar clients table before s mid kicks → WatchedSoFar clients table (before ++ bytes) s q next) → StayLeft (view_of mid) (view_of q) →
      true ≡ list_any ends_line bytes → TakenSoFar clients table first old start p kicks → AfterTake clients table first new start q next over
  unfolding taken_more
  takes_line first old new start p mid q kicks next bytes over took later is learns sees reads stay ends far = (
    taken_more first old new start p q kicks next bytes took later (λ before s seen. reads before s (watched_looked before s p mid kicks seen is learns)) far,
    all_over far.bytes bytes first new start p mid q kicks over ends far.watched learns sees stay,
  )

  pub takes_part : (first old new : SourceState) (start p mid q : Pass) (kicks next : Kicks) (bytes : List ℕ) (ended : Bool) → Took old.left new.left bytes → old.faults ≤ new.faults → IsServePass clients table mid → Learns (view_of p) (view_of mid) →
      ((before : List ℕ) (s : Pass) → WatchedSoFar clients table before s mid kicks → WatchedSoFar clients table (before ++ bytes) s q next) →
      ended ≡ false → TakenSoFar clients table first old start p kicks → AfterTake clients table first new start q next ended
  unfolding taken_more
  takes_part first old new start p mid q kicks next bytes ended took later is learns reads none far = (
    taken_more first old new start p q kicks next bytes took later (λ before s seen. reads before s (watched_looked before s p mid kicks seen is learns)) far,
    subst (IsAllIf clients (far.bytes ++ bytes) first new start q) (sym none) tt,
  )

  -- It failed, or has none left.
  pub takes_none : (first old new : SourceState) (start p : Pass) (kicks : Kicks) → new.left ≡ old.left → old.faults ≤ new.faults → IsServePass clients table p → Increased old.faults new.faults ⊎ NoneLeft new.left → TakenSoFar clients table first old start p kicks → AfterTake clients table first new start p kicks true
  unfolding taken_still
  takes_none first old new start p kicks same later is (inl rose) far = (taken_still first old new start p p kicks same later is (learns_refl (view_of p)) far, inl (let before = far.later in omega (arith, rose)))
  takes_none first old new start p kicks same later is (inr none) far = (taken_still first old new start p p kicks same later is (learns_refl (view_of p)) far, inr (inr none))

  pub new_count : (kicks : Kicks) → AreNewKicks clients kicks → length kicks.kicked.items ≡ clients
  new_count kicks new = ap length new.nobody ∙ length-replicate clients false

-- What a call took from what was left.
pub took_so : (old new : Option (List ℕ)) (into : List ℕ) (count : ℕ) → new ≡ option_map (drop count) old → IfSome old (λ bytes. take count into ≡ take count bytes) → Took old new (take count into)
took_so None new into count left moved = sym (ap (option_map (λ rest. take count into ++ rest)) left)
took_so (Some bytes) new into count left moved =
    ap Some (sym (take-append-drop count bytes) ∙ ap (λ first. first ++ drop count bytes) (sym moved))
    ∙ sym (ap (option_map (λ rest. take count into ++ rest)) left)
