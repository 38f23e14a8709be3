use Rattle.std.proofs.Common.{◌≡◌, ◌≤◌, false, length}
use Rattle.std.specs.Io.KnownBytes.{Consumes}
use Rattle.cmwq_types.specs.declared.limits.TheConstants.{MAX_TEXT}
use Rattle.cmwq_play.proofs.reading.read_to_end.Given as goal

-- the text is what the reader gave so far, at least a byte a turn
abbrev pub invariant-loop-turn : goal.invariant-loop-turn
invariant-loop-turn g l = record {
  read : Consumes (g.R.Read.remaining l.fn.reader) (g.R.Read.remaining l.reader) l.text.items;
  sound : g.R.Source.failed l.reader ≡ false;
  short : length l.text.items ≤ MAX_TEXT;
  long : l._turn ≤ length l.text.items;
}
