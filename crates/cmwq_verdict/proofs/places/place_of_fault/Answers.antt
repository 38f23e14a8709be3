use Rattle.std.proofs.Common.{ap, sym, ◌∙◌}
use Rattle.cmwq_grammar.specs.Cutting.{lines_of}
use Rattle.cmwq_verdict.proofs.places.place_of_fault.Goals as goal

pub place_in_line-requires-clause-line : goal.place_in_line-requires-clause-line
place_in_line-requires-clause-line c = (lines_of c.in-Some.field-0-1.now, ap lines_of (sym c.rest_from.ensures) ∙ c.in-Some.ensures.lines)
