use Rattle.std.proofs.Common.{◌∙◌, get_or, sym, arith}
use Rattle.std.proofs.lemmas.Grind.{common_steps}
use Rattle.cmwq_grammar.specs.Cutting.{is_blank}
use Rattle.cmwq_scan.proofs.CuttingLemmas.{cut_at, position_within, slice_split-position_none, slice_split-position_some}
use Rattle.cmwq_scan.proofs.cutting.cut_at_blank.Goals as goal

pub returns-in-Some-clause-pieces : goal.returns-in-Some-clause-pieces
returns-in-Some-clause-pieces c =
    let pieces = slice_split-position_some is_blank c.args.bytes.now c.in-Some.place (sym c.place_of_blank.ensures ∙ c.in-Some.is) in
    grind (arith, common_steps, pieces)

pub returns-in-None-clause-pieces : goal.returns-in-None-clause-pieces
returns-in-None-clause-pieces c =
    slice_split-position_none is_blank c.args.bytes.now (sym c.place_of_blank.ensures ∙ c.in-None.is)

pub returns-in-Some-clause-parts : goal.returns-in-Some-clause-parts
returns-in-Some-clause-parts c =
    let inside = position_within is_blank c.args.bytes.now c.in-Some.place (sym c.place_of_blank.ensures ∙ c.in-Some.is) in
    (get_or c.args.bytes.now c.in-Some.place 0, cut_at c.args.bytes.now c.in-Some.place inside)
