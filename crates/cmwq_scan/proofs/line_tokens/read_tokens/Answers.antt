use Rattle.std.proofs.Common.{◌+◌, refl}
use Rattle.cmwq_grammar.specs.Cutting.{words_of}
use Rattle.cmwq_scan.specs.Words.{Word, worded_part}
use Rattle.cmwq_scan.proofs.TokenLemmas.{next_read, next_rest, next_words, piece_front}
use Rattle.cmwq_scan.proofs.line_tokens.read_tokens.Goals as goal

pub loop-rest-preserved : goal.loop-rest-preserved
loop-rest-preserved c =
    let line = worded_part c.args.line.now in
    let part = c.in-Some.part.now in
    let before = c.loop-rest.before in
    let piece = c.cut_at_blank.result.0.now in
    let behind = c.cut_at_blank.result.1 in
    let words = c.loop-rest.tokens.items in
    let word : Word = record { bytes = piece; column = before + 1 } in
    let tail = piece_front (λ rest. rest.now) piece part behind c.cut_at_blank.ensures.parts in
    let so_far = rw c.in-Some.is at c.loop-rest.invariant.words in
    let at = rw c.in-Some.is at c.loop-rest.invariant.rest in
    rw c.in_ok-push_filled.ensures record {
      words = next_words (λ rest. rest.now) words word part behind (words_of c.args.line.now) so_far c.cut_at_blank.ensures.pieces;
      rest = next_rest (λ rest. rest.now) line before piece part behind at c.cut_at_blank.ensures.parts;
      read = next_read line before words word part tail.0 c.loop-rest.invariant.read at tail.1 refl;
    }
