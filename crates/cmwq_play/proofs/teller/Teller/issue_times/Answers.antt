use Rattle.std.proofs.Common.{◌≡◌, ◌+◌, ◌-◌, ◌<◌, ℕ, suc, ap, arith, replicate}
use Rattle.std.proofs.lemmas.Result.{err_from_is_err_and}
use Rattle.cmwq_play.proofs.SessionLemmas.{begins, goes_on-one, stops-one}
use Rattle.cmwq_play.proofs.teller.Teller.issue_times.Goals as goal

pub loop-turn-init : goal.loop-turn-init
loop-turn-init g c =
    let all = replicate c.args.times c.args.instr in
    let whole : c.args.times - 0 ≡ c.args.times = omega arith in
    record {
      way = begins g.M.Reads.loaded g.M.Reads.state g.W.Write.contents g.W.Sink.failed g.Self.Teller.told g.Self.Teller.keeps c.args.session.now c.args.self.now all _ (ap (λ (n : ℕ). replicate n c.args.instr) whole) c.requires.ready;
      fits = c.requires.fits;
    }

pub loop-turn-preserved : goal.loop-turn-preserved
loop-turn-preserved g c =
    let i = c.args.instr in
    let turn = c.loop-turn._turn in
    let below : turn < c.args.times = c.loop-turn-test.true in
    let place : c.args.times - turn ≡ suc (c.args.times - (turn + 1)) = omega (arith, below) in
    let next = ap (λ (n : ℕ). replicate n i) place in
    record {
      way =
          goes_on-one g.M.Reads.loaded g.M.Reads.state g.W.Write.contents g.W.Sink.failed g.Self.Teller.told g.Self.Teller.keeps c.args.session.now c.loop-turn.session c.args.self.now c.loop-turn.self (replicate c.args.times i) (replicate (c.args.times - turn) i)
          i (replicate (c.args.times - (turn + 1)) i) next c.loop-turn.invariant.way c.issue.new.session c.issue.new.self c.in_ok-issue.ensures.told c.in_ok-issue.ensures.keeps;
      fits = c.in_ok-issue.ensures.fits;
    }

pub returns-in_err-issue-clause-told : goal.returns-in_err-issue-clause-told
returns-in_err-issue-clause-told g c =
    let i = c.args.instr in
    let turn = c.loop-turn._turn in
    let below : turn < c.args.times = c.loop-turn-test.true in
    let place : c.args.times - turn ≡ suc (c.args.times - (turn + 1)) = omega (arith, below) in
    let next = ap (λ (n : ℕ). replicate n i) place in
    let p = err_from_is_err_and c.from_residual.result c.from_residual.ensures.1 in
    rw (p.1, p.2) (stops-one g.M.Reads.loaded g.M.Reads.state g.W.Write.contents g.W.Sink.failed g.Self.Teller.told g.Self.Teller.keeps c.args.session.now c.loop-turn.session c.args.self.now c.loop-turn.self (replicate c.args.times i) (replicate (c.args.times - turn) i)
    i (replicate (c.args.times - (turn + 1)) i) next c.loop-turn.invariant.way c.issue.new.session c.in_err-issue.field-0.0 c.in_err-issue.ensures.told)
