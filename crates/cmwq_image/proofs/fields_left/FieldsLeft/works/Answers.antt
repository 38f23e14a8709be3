use Rattle.std.proofs.Common.{arith}
use Rattle.std.proofs.lemmas.Result.{err_from_is_err_and}
use Rattle.cmwq_image.proofs.LoopLemmas.{goes_on, ends}
use Rattle.cmwq_image.proofs.fields_left.FieldsLeft.works.Goals as goal
use Rattle.cmwq_image.specs.ImageFault.{read_work, many}

pub returns-in_err-work-clause-read : goal.returns-in_err-work-clause-read
returns-in_err-work-clause-read c =
    let failed = err_from_is_err_and c.from_residual.result c.from_residual.ensures.1 in
    rw (failed.1, failed.2)
    (ends c.in_err-work.field-0.0 (read_work c.args.version) c.loop.works.items c.args.count c.loop.counter c.loop.self (many (read_work c.args.version) c.args.count c.args.self.now)
    c.loop-test.true c.in_err-work.ensures.read c.loop.invariant.read)

pub loop-preserved : goal.loop-preserved
loop-preserved c = record {
  read = rw c.in_ok-push.ensures.items
      (goes_on (read_work c.args.version) c.loop.works.items c.args.count c.loop.counter c.loop.self c.in_ok-work.field-0 c.work.new.self (many (read_work c.args.version) c.args.count c.args.self.now)
      c.loop-test.true c.in_ok-work.ensures.read c.loop.invariant.read);
  ahead = omega (arith, c.in_ok-work.ensures.ahead);
}
