use Rattle.std.proofs.Common.{arith, ◌≡◌, ◌+◌, ◌*◌, ap, ◌∙◌}
use Rattle.cmwq_picture.proofs.StretchLemmas.{below-all, end-columns, starts-more}
use Rattle.cmwq_picture.proofs.folding.push_starts.Goals as goal

pub overflow_add-time : goal.overflow_add-time
overflow_add-time c =
    let most = below-all c.loop-column._column c.args.columns c.args.ticks c.args.from _ c.loop-column-test.true c.requires in
    let at = c.loop-column.invariant.time in
    omega (arith, most, at, c.from-time.ensures)

pub loop-column-preserved : goal.loop-column-preserved
loop-column-preserved c =
    let at = c.loop-column.invariant.time in
    record {
      time = (let next : (c.loop-column._column + 1) * c.args.ticks ≡ c.loop-column._column * c.args.ticks + c.args.ticks = omega arith in omega (arith, at, next, c.from-time.ensures));
      pushed = starts-more c.loop-column._column c.args.ticks c.args.from c.loop-column.time c.args.edges.now.items _ _ at c.loop-column.invariant.pushed c.in_ok-push.ensures.items;
    }

pub returns-clause-end : goal.returns-clause-end
returns-clause-end c =
    let all : c.loop-column._column ≡ c.args.columns = omega (arith, c.loop-column-test.false, c.loop-column.auto._column-end) in
    end-columns c.args.columns c.args.ticks c.args.from c.loop-column.time (c.loop-column.invariant.time ∙ ap (λ n. c.args.from + n * c.args.ticks) all)
