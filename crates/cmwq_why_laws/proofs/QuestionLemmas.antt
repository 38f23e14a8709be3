-- What changes nothing changes no text.
use Rattle.std.proofs.Common.{ap}
use Rattle.cmwq_table.specs.Laws.{AtEveryInstruction, ChangesNothingAsked, ChangesNothingRefused}
use Rattle.cmwq_table.specs.State.{State}
use Rattle.cmwq_why_text.specs.WhyText.{why_text}
use Rattle.cmwq_why_laws.specs.Laws.{ChangesNoTextAsked, ChangesNoTextRefused}

pub changes_no_text_refused : AtEveryInstruction ChangesNothingRefused → AtEveryInstruction ChangesNoTextRefused
unfolding ChangesNothingRefused ChangesNoTextRefused
changes_no_text_refused same S valid instrs i why refused w = ap (λ (t : State). why_text S t w) (same S valid instrs i why refused)

pub changes_no_text_asked : AtEveryInstruction ChangesNothingAsked → AtEveryInstruction ChangesNoTextAsked
unfolding ChangesNothingAsked ChangesNoTextAsked
changes_no_text_asked same S valid instrs i question w = ap (λ (t : State). why_text S t w) (same S valid instrs i question)
