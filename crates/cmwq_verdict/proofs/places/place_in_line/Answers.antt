use Rattle.std.proofs.Common.{ℕ, List, ◌≡◌, ◌∷◌, ◌∙◌, ap, false, true, drop, subst, sym}
use Rattle.std.specs.List.{All, AllPairs}
use Rattle.cmwq_grammar.specs.Cutting.{lines_of}
use Rattle.cmwq_grammar.specs.Meaning.{fault_at}
use Rattle.cmwq_scan.specs.Words.{IsBefore, StandsIn, Word, words_in, worded_part}
use Rattle.cmwq_verdict.proofs.PlaceLemmas.{placed}
use Rattle.cmwq_verdict.proofs.places.place_in_line.Goals as goal

pub returns : goal.returns
returns c =
    let cut = subst (λ (s : ℕ). lines_of (drop s c.args.text.now) ≡ c.args.bytes.now ∷ c.requires.line.0) c.requires.start c.requires.line.1 in
    placed c.args.text.now (fault_at c.args.fault.line c.args.fault.why) c.place_among.result c.args.bytes.now c.requires.line.0 c.deref-2.result.now c.requires.some
    (λ missing. apart (c.if-is_missing_word.ensures.1 missing)) cut
    (record {
      are = ap words_in c.deref-2.ensures ∙ c.in_ok-read_tokens.ensures.words;
      stand = subst (λ (ws : List Word). All (StandsIn (worded_part c.args.bytes.now)) ws) (sym c.deref-2.ensures) c.in_ok-read_tokens.ensures.columns;
      in_order = subst (λ (ws : List Word). AllPairs IsBefore ws) (sym c.deref-2.ensures) c.in_ok-read_tokens.ensures.order;
    })
    c.place_among.ensures
  where
    apart : {A : Type 0} → false ≡ true → A
    apart is = cc
