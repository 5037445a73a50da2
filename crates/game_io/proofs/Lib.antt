mod RemainingLemmas
mod PlannedFaults
mod LinkLemmas
