use Rattle.std.proofs.Common.{◌≡◌, ◌-◌, [], List, ℕ, arith, ap, refl, sym, subst, append-nil, replicate}
use Rattle.std.proofs.lemmas.Bool.Decides.{nat_tests}
use Rattle.std.proofs.lemmas.Result.{err_from_is_err_and}
use Rattle.cmwq_table.specs.Table.{after_all}
use Rattle.cmwq_play.specs.Session.{Issued, Stopped}
use Rattle.cmwq_play.proofs.RepeatingLemmas.{keeping, kept-same, replies, telling}
use Rattle.cmwq_play.proofs.RunLemmas.{replicate_rest, replies-told}
use Rattle.cmwq_play.proofs.SessionLemmas.{begins, ends, goes_on, stops}
use Rattle.cmwq_play.proofs.session.Session.repeat_times.Goals as goal

pub loop-left-init : goal.loop-left-init
loop-left-init g c = begins g.M.Reads.loaded g.M.Reads.state g.W.Write.contents g.W.Sink.failed telling keeping c.args.self.now replies (replicate c.args.times c.args.instr) (replicate c.args.times c.args.instr) refl c.requires.ready

pub loop-left-preserved : goal.loop-left-preserved
loop-left-preserved g c =
    let here = c.loop-left.self in
    let S = here.scenario.now in
    let s = g.M.Reads.state here.machine in
    let i = c.args.instr in
    let left = c.loop-left.left in
    let count = c.in_ok-left.field-0 in
    let some = replicate count i in
    let done = c.in_ok-left.ensures.ok in
    goes_on g.M.Reads.loaded g.M.Reads.state g.W.Write.contents g.W.Sink.failed telling keeping c.args.self.now here replies replies (replicate c.args.times i) (replicate left i)
    some (replicate (left - count) i) (replicate_rest count left i done.few) c.loop-left.invariant c.repeat.new.self replies
    (subst (λ (text : List ℕ). Issued g.M.Reads.loaded g.M.Reads.state g.W.Write.contents g.W.Sink.failed here c.repeat.new.self (after_all S s some) text) (sym (replies-told replies S s some)) done.issued)
    (sym (kept-same replies S s some))

pub returns-in_err-left : goal.returns-in_err-left
returns-in_err-left g c =
    let old = c.args.self.now in
    let here = c.loop-left.self in
    let S = here.scenario.now in
    let s = g.M.Reads.state here.machine in
    let i = c.args.instr in
    let all = replicate c.args.times i in
    let rest = replicate c.loop-left.left i in
    let p = err_from_is_err_and c.from_residual.result c.from_residual.ensures.1 in
    rw (p.1, p.2)
    (subst (λ (text : List ℕ). Stopped g.M.Reads.loaded g.M.Reads.state g.W.Write.contents g.W.Sink.failed old c.repeat.new.self text c.in_err-left.field-0.0) (replies-told replies old.scenario.now (g.M.Reads.state old.machine) all)
    (stops g.M.Reads.loaded g.M.Reads.state g.W.Write.contents g.W.Sink.failed telling keeping old here replies replies all rest rest [] (sym (append-nil rest)) c.loop-left.invariant c.repeat.new.self c.in_err-left.field-0.0
    (subst (λ (text : List ℕ). Stopped g.M.Reads.loaded g.M.Reads.state g.W.Write.contents g.W.Sink.failed here c.repeat.new.self text c.in_err-left.field-0.0) (sym (replies-told replies S s rest)) c.in_err-left.ensures.err)))

pub returns : goal.returns
returns g c =
    let old = c.args.self.now in
    let all = replicate c.args.times c.args.instr in
    let none : c.loop-left.left ≡ 0 = grind (arith, nat_tests, c.loop-left-test.false) in
    subst (λ (text : List ℕ). Issued g.M.Reads.loaded g.M.Reads.state g.W.Write.contents g.W.Sink.failed old c.loop-left.self (after_all old.scenario.now (g.M.Reads.state old.machine) all) text) (replies-told replies old.scenario.now (g.M.Reads.state old.machine) all)
    (ends g.M.Reads.loaded g.M.Reads.state g.W.Write.contents g.W.Sink.failed telling keeping old c.loop-left.self replies replies all (replicate c.loop-left.left c.args.instr) (ap (λ (n : ℕ). replicate n c.args.instr) none) c.loop-left.invariant)
