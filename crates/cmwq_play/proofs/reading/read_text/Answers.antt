use Rattle.std.proofs.Common.{List, ℕ, Some, subst}
use Rattle.cmwq_play.specs.Commands.{Answers}
use Rattle.cmwq_play.specs.PlayTexts.{IsSpelled, IsTextFault}
use Rattle.cmwq_play.proofs.TextLemmas.{text_answers}
use Rattle.cmwq_play.proofs.reading.read_text.Goals as goal

pub returns-clause-answers : goal.returns-clause-answers
returns-clause-answers g c =
    text_answers (g.R.Read.remaining c.read_whole.new.reader) c.in_ok-text.text.items (g.R.Read.remaining c.args.reader.now) c.assembled.result c.in_ok-text.ensures.front c.in_ok-text.ensures.whole
    (subst (λ (bytes : List ℕ). Answers IsSpelled IsTextFault (Some bytes) c.assembled.result) c.deref.ensures.value c.assembled.ensures.answers)
