mod MigrateLemmas
mod RecordLemmas
