-- Reports of several ends in one list.
use Rattle.std.specs.Prelude.{◌≡◌, ℕ, ◌==◌, List, [], map, slice_index_or}
use Rattle.std.specs.List.{AllByRecursion, filter}
use Rattle.report_line.specs.declared.heard.Heard.{Heard}

-- A report with the number of the end that pushed it.
abbrev pub Numbered : Type 0
Numbered = ℕ × Heard

abbrev pub report_of : Numbered → Heard
report_of one = one.1

-- Those that this end pushed, in order.
abbrev pub of_end : ℕ → List Numbered → List Heard
of_end k reports = map report_of (filter (λ one. one.0 == k) reports)

-- The list has the elements of these lists, each once, and those of each list in their order: its
-- elements can be numbered so that those of number k are the k-th list, and none has a number
-- beyond the last list's.
pub record IsInterleaving (all : List Heard) (lists : List (List Heard)) : Type 0 where
  pub numbered : List Numbered
  pub same : map report_of numbered ≡ all
  pub each : (k : ℕ) → of_end k numbered ≡ slice_index_or lists k []

-- The reports of this client, in order.
abbrev pub of_client : ℕ → List Heard → List Heard
of_client c reports = filter (λ report. report.client == c) reports

-- They are all of this client.
abbrev pub AreOf : ℕ → List Heard → Type 0
AreOf c reports = AllByRecursion (λ (report : Heard). report.client ≡ c) reports
