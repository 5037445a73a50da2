-- Reports that are heard one after another.
use Rattle.std.proofs.Common.{◌≡◌, ◌≢◌, ℕ, zero, suc, ◌<◌, ◌≤◌, ◌⊎◌, ◌==◌, Bool, true, false, List, [], ◌∷◌, ◌++◌, length, replicate, get_or, Option, Some, None, refl, sym, ap, ◌∙◌, subst, inl, inr, ⊎_elim, arith, eq-eqb}
use Rattle.std.specs.Prelude.{if◌then◌else◌}
use Rattle.std.proofs.lemmas.Bool.Decides.{eqb_tells}
use Rattle.game_orders.specs.declared.limits.TheConstants.{MAX_FRAMES}
use Rattle.std.specs.Prelude.{slice_set}
use Rattle.server_core.specs.Board.{BoardState, board_after_report, reports_of, report_at, KeepsFirst}
use Rattle.report_line.specs.declared.report_receiver.ReportReceiver.{ReportReceiver}
use Rattle.report_line.specs.Reports.{heard, joined, IsSameReceiver}
use Rattle.report_line.specs.declared.heard.Heard.{Heard}
use Rattle.report_line.specs.Order.{of_client}
use Rattle.match_serve.specs.Heard.{first_report, HasHeard}

client_push : (c : ℕ) (xs : List Heard) (x : Heard) → of_client c (xs ++ x ∷ []) ≡ of_client c xs ++ of_client c (x ∷ [])
client_push c [] x = refl
client_push c (y ∷ xs) x = by (y.client == c) (client_push c xs x)
  where
    by : (test : Bool) → of_client c (xs ++ x ∷ []) ≡ of_client c xs ++ of_client c (x ∷ []) → (if test then y ∷ of_client c (xs ++ x ∷ []) else of_client c (xs ++ x ∷ [])) ≡ (if test then y ∷ of_client c xs else of_client c xs) ++ of_client c (x ∷ [])
    by true rest = ap (λ l. y ∷ l) rest
    by false rest = rest

-- A report of another client, or for another frame, changes nothing here.
none_here : (c n : ℕ) (x : Heard) → (c ≢ x.client) ⊎ (n ≢ x.frame) → first_report (of_client c (x ∷ [])) n ≡ None
none_here c n x apart = by (x.client == c) (eqb_tells x.client c) (x.frame == n) (eqb_tells x.frame n) refl refl
  where
    by : (client : Bool) → ((x.client == c) ≡ true) × (x.client ≡ c) ⊎ ((x.client == c) ≡ false) × (x.client ≢ c) → (frame : Bool) → ((x.frame == n) ≡ true) × (x.frame ≡ n) ⊎ ((x.frame == n) ≡ false) × (x.frame ≢ n) →
        (x.client == c) ≡ client → (x.frame == n) ≡ frame → first_report (if x.client == c then x ∷ [] else []) n ≡ None
    by false tells frame frames is of = rw is refl
    by true (inl (yes_client, same)) false frames is of = rw (is, of) refl
    by true (inl (yes_client, same)) true (inl (yes_frame, equal)) is of = absurd (⊎_elim (λ no. no (sym same)) (λ no. no (sym equal)) apart)
    by true (inl (yes_client, same)) true (inr (no_frame, differs)) is of = absurd (let e : true ≡ false = sym of ∙ no_frame in cc)
    by true (inr (no_client, differs)) frame frames is of = absurd (let e : true ≡ false = sym is ∙ no_client in cc)

some_here : (x : Heard) → first_report (of_client x.client (x ∷ [])) x.frame ≡ Some x.hash
some_here x = by (x.client == x.client) (eq-eqb x.client x.client refl) (x.frame == x.frame) (eq-eqb x.frame x.frame refl)
  where
    by : (client : Bool) → client ≡ true → (frame : Bool) → frame ≡ true → first_report (if client then x ∷ [] else []) x.frame ≡ Some x.hash
    by client is frame of = rw is (rw (eq-eqb x.frame x.frame refl) refl)

module _ (clients : ℕ) (olds news : List (List (Option ℕ))) (hs : List Heard) (x : Heard) (keeps : KeepsFirst olds news x.client x.frame x.hash) (far : HasHeard clients olds hs) where
  elsewhere : (c n : ℕ) → c < clients → n < MAX_FRAMES → (c ≢ x.client) ⊎ (n ≢ x.frame) → report_at (reports_of news c) n ≡ first_report (of_client c (hs ++ x ∷ [])) n
  elsewhere c n below within apart =
      keeps.others c n apart ∙ far c n below within
      ∙ sym (ap (λ l. first_report l n) (client_push c hs x) ∙ several (of_client c hs) (of_client c (x ∷ [])) (none_here c n x apart))
    where
      several : (xs ys : List Heard) → first_report ys n ≡ None → first_report (xs ++ ys) n ≡ first_report xs n
      several [] ys none = none
      several (y ∷ xs) ys none = ap (λ later. if y.frame == n then Some y.hash else later) (several xs ys none)

  here : x.client < clients → x.frame < MAX_FRAMES → (was : Option ℕ) → report_at (reports_of olds x.client) x.frame ≡ was → report_at (reports_of news x.client) x.frame ≡ first_report (of_client x.client (hs ++ x ∷ [])) x.frame
  here below within (Some h) is =
      keeps.stays x.client x.frame h is
      ∙ sym (ap (λ l. first_report l x.frame) (client_push x.client hs x) ∙ kept (of_client x.client hs) (of_client x.client (x ∷ [])) (sym (far x.client x.frame below within) ∙ is))
    where
      kept : (xs ys : List Heard) → first_report xs x.frame ≡ Some h → first_report (xs ++ ys) x.frame ≡ Some h
      kept [] ys some = absurd cc
      kept (y ∷ xs) ys some = by (y.frame == x.frame) some (kept xs ys)
        where
          by : (test : Bool) → (if test then Some y.hash else first_report xs x.frame) ≡ Some h → (first_report xs x.frame ≡ Some h → first_report (xs ++ ys) x.frame ≡ Some h) → (if test then Some y.hash else first_report (xs ++ ys) x.frame) ≡ Some h
          by true some rest = some
          by false some rest = rest some
  here below within None is =
      keeps.first within is
      ∙ sym (ap (λ l. first_report l x.frame) (client_push x.client hs x) ∙ later (of_client x.client hs) (of_client x.client (x ∷ [])) (sym (far x.client x.frame below within) ∙ is) ∙ some_here x)
    where
      later : (xs ys : List Heard) → first_report xs x.frame ≡ None → first_report (xs ++ ys) x.frame ≡ first_report ys x.frame
      later [] ys none = refl
      later (y ∷ xs) ys none = by (y.frame == x.frame) none (later xs ys)
        where
          by : (test : Bool) → (if test then Some y.hash else first_report xs x.frame) ≡ None → (first_report xs x.frame ≡ None → first_report (xs ++ ys) x.frame ≡ first_report ys x.frame) → (if test then Some y.hash else first_report (xs ++ ys) x.frame) ≡ first_report ys x.frame
          by true none rest = absurd cc
          by false none rest = rest none

  pub heard_one : HasHeard clients news (hs ++ x ∷ [])
  heard_one c n below within = by (eqb_tells c x.client) (eqb_tells n x.frame)
    where
      by : ((c == x.client) ≡ true) × (c ≡ x.client) ⊎ ((c == x.client) ≡ false) × (c ≢ x.client) → ((n == x.frame) ≡ true) × (n ≡ x.frame) ⊎ ((n == x.frame) ≡ false) × (n ≢ x.frame) → report_at (reports_of news c) n ≡ first_report (of_client c (hs ++ x ∷ [])) n
      by (inr (no_client, differs)) frames = elsewhere c n below within (inl differs)
      by (inl (is_client, same)) (inr (no_frame, differs)) = elsewhere c n below within (inr differs)
      by (inl (is_client, same)) (inl (is_frame, equal)) =
          let P : ℕ → ℕ → Type 0 = λ d m. report_at (reports_of news d) m ≡ first_report (of_client d (hs ++ x ∷ [])) m in
          subst (λ d. P d n) (sym same) (subst (λ m. P x.client m) (sym equal) (here (subst (λ d. d < clients) same below) (subst (λ m. m < MAX_FRAMES) equal within) (report_at (reports_of olds x.client) x.frame) refl))

-- A report of no client of the match.
pub heard_none : (clients : ℕ) (reports : List (List (Option ℕ))) (hs : List Heard) (x : Heard) → clients ≤ x.client → HasHeard clients reports hs → HasHeard clients reports (hs ++ x ∷ [])
heard_none clients reports hs x beyond far c n below within =
    far c n below within
    ∙ sym (ap (λ l. first_report l n) (client_push c hs x) ∙ several (of_client c hs) (of_client c (x ∷ [])) (none_here c n x (inl (λ same. absurd (omega arith)))))
  where
    several : (xs ys : List Heard) → first_report ys n ≡ None → first_report (xs ++ ys) n ≡ first_report xs n
    several [] ys none = none
    several (y ∷ xs) ys none = ap (λ later. if y.frame == n then Some y.hash else later) (several xs ys none)

-- Nothing was heard.
empty_at : (k d : ℕ) → get_or (replicate {A = List (Option ℕ)} k []) d [] ≡ []
empty_at zero d = refl
empty_at (suc k) zero = refl
empty_at (suc k) (suc d) = empty_at k d

pub heard_nothing : (clients : ℕ) → HasHeard clients (replicate clients []) []
heard_nothing clients c n below within = ap (λ (l : List (Option ℕ)). report_at l n) (empty_at clients c)

set_length : (xs : List (List (Option ℕ))) (c : ℕ) (own : List (Option ℕ)) → length (slice_set xs c own) ≡ length xs
set_length [] c own = refl
set_length (x ∷ xs) zero own = refl
set_length (x ∷ xs) (suc c) own = ap suc (set_length xs c own)

-- One more report was heard and told to the board.
pub hears_more : (clients : ℕ) (first receiver after : ReportReceiver) (start board told : BoardState) (x : Heard) → HasHeard clients board.reports (heard receiver) × (length board.reports ≡ clients) × (board.wanted ≡ start.wanted) × (joined receiver ≡ joined first) × IsSameReceiver first receiver →
    heard after ≡ heard receiver ++ x ∷ [] → joined after ≡ joined receiver → IsSameReceiver receiver after → told ≡ board_after_report board x.client x.frame x.hash → KeepsFirst board.reports told.reports x.client x.frame x.hash →
    HasHeard clients told.reports (heard after) × (length told.reports ≡ clients) × (told.wanted ≡ start.wanted) × (joined after ≡ joined first) × IsSameReceiver first after
hears_more clients first receiver after start board told x far more list same is keeps = (
  subst (HasHeard clients told.reports) (sym more) (heard_one clients board.reports told.reports (heard receiver) x keeps far.0),
  ap (λ (b : BoardState). length b.reports) is ∙ set_length board.reports x.client _ ∙ far.1,
  ap (λ (b : BoardState). b.wanted) is ∙ far.2,
  list ∙ far.3,
  record { queue = same.queue ∙ far.4.queue; ends = same.ends ∙ far.4.ends },
)
