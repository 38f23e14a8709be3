use Rattle.cmwq_grammar.specs.Meaning.{fault_at}
use Rattle.cmwq_verdict.specs.FaultPlaces.{IsNotBefore}
use Rattle.cmwq_verdict.proofs.places.place_among.Given as goal

abbrev pub invariant-loop-number : goal.invariant-loop-number
invariant-loop-number l = IsNotBefore l.text (fault_at l.fault.line l.fault.why) l.words l.number
