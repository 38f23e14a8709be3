mod FileLemmas
mod PageLemmas
mod PageReadingLemmas
mod ReadingLemmas
mod SizeLemmas
mod TaskLemmas
