use Rattle.std.proofs.Common.{◌+◌, Some, arith, rules}
use Rattle.cmwq_grammar.specs.Cutting.{is_blank}
use Rattle.memchr.specs.Find.{Nowhere, Passes}
use Rattle.cmwq_scan.proofs.CuttingLemmas.{first_byte-position}
use Rattle.cmwq_scan.proofs.cutting.place_of_blank.Goals as goal

pub returns-then-run-lt-LANES : goal.returns-then-run-lt-LANES
returns-then-run-lt-LANES c =
    let place = c.loop-place.place + c.run_before_blank-run.result in
    let passed : Nowhere (Passes is_blank c.args.bytes.now) 0 place = search rules in
    first_byte-position is_blank c.args.bytes.now (Some place)
    (record { low = omega arith; high = omega (arith, c.loop-place-test.true, c.if-run-lt-LANES.true); before = passed }, c.run_before_blank-run.ensures.blank c.if-run-lt-LANES.true)
