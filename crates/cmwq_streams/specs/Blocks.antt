-- A writer of text in blocks: the writer below it, what it keeps back, and what it sends.
use Rattle.std.specs.Prelude.{◌≡◌, ℕ, List, Option, ◌++◌}
use Rattle.std.specs.Borrow.{MutBor}
use Rattle.cmwq_streams.specs.Sending.{HasSent, HasSentFront}
use Rattle.cmwq_streams.specs.declared.block_writer.BlockWriter.{BlockWriter}

module _ {W : Type 0} where
  -- the writer that is given the blocks
  abbrev pub sink : BlockWriter W → W
  sink lines = lines.writer.now

  -- what is kept back
  abbrev pub kept : BlockWriter W → List ℕ
  kept lines = lines.block

  -- the writer below stands behind this reference
  abbrev pub WritesTo : BlockWriter W → MutBor W → Type 0
  WritesTo lines writer = lines.writer.ghost_name ≡ writer.ghost_name

  -- both write to the same writer
  abbrev pub SharesSink : BlockWriter W → BlockWriter W → Type 0
  SharesSink old new = new.writer.ghost_name ≡ old.writer.ghost_name

  -- the text went behind what was kept back: of both the writer below was given all but what is kept back
  abbrev pub Sends : (W → Option (List ℕ)) → BlockWriter W → BlockWriter W → List ℕ → Type 0
  Sends contents old new text = HasSent (contents (sink old)) (contents (sink new)) (kept new) (kept old ++ text)

  -- of both the writer below was given a front
  abbrev pub SendsFront : (W → Option (List ℕ)) → BlockWriter W → BlockWriter W → List ℕ → Type 0
  SendsFront contents old new text = HasSentFront (contents (sink old)) (contents (sink new)) (kept old ++ text)
