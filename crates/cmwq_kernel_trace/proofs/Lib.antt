mod ColumnLemmas
mod RecordingLemmas
mod SendLemmas
mod TextLemmas
