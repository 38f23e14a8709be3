use Rattle.std.proofs.Common.{◌∙◌, Some, None, arith, sym}
use Rattle.cmwq_grammar.specs.Cutting.{is_blank}
use Rattle.cmwq_scan.proofs.CuttingLemmas.{first_byte-position}
use Rattle.cmwq_scan.proofs.cutting.place_of_blank_from.Goals as goal

pub returns-then-is_blank : goal.returns-then-is_blank
returns-then-is_blank c =
    first_byte-position is_blank c.args.bytes.now (Some c.loop-place.place)
    (record { low = omega arith; high = c.loop-place-test.true; before = c.loop-place.invariant.passed }, sym c.is_blank.ensures ∙ c.if-is_blank.true)

pub returns : goal.returns
returns c =
    first_byte-position is_blank c.args.bytes.now None
    (λ k low below. c.loop-place.invariant.passed k low (omega (arith, below, c.loop-place-test.false)))
