use Rattle.std.proofs.Common.{IfErr, IfOk, subst}
use Rattle.cmwq_lock.specs.Tokens.{drawn_view, pass_view}
use Rattle.cmwq_lock.specs.Views.{caller_of}
use Rattle.cmwq_engine.specs.Issuing.{entry_of}
use Rattle.cmwq_engine.specs.Shared.{EngineLock, HasEntered, HasFoundFull, setting_of}
use Rattle.cmwq_engine.proofs.IssueLemmas.{entered, found_full, none_new}
use Rattle.cmwq_engine.proofs.shared.Shared.try_issue.Goals as goal

pub returns-clause-entered : goal.returns-clause-entered
returns-clause-entered g c = let turn = c.in_ok-pass.ensures.turn in
    subst (λ (shared : EngineLock). IfOk c.in_ok-pass.outcome
    (λ receipt. HasEntered (setting_of shared) (drawn_view c.args.drawn) (pass_view c.in_ok-pass.pass) (entry_of receipt (caller_of (drawn_view c.args.drawn)) c.args.instr) receipt.place)) c.self.view_is
    (entered (setting_of c.self.inside.lock) c.args.instr turn.before (drawn_view c.args.drawn) (pass_view c.in_ok-pass.pass) c.in_ok-pass.outcome turn.both_grow turn.found_begins turn.told)

pub returns-clause-full : goal.returns-clause-full
returns-clause-full g c = let turn = c.in_ok-pass.ensures.turn in
    subst (λ (shared : EngineLock). IfErr c.in_ok-pass.outcome (λ full. HasFoundFull (setting_of shared) (drawn_view c.args.drawn) (pass_view c.in_ok-pass.pass))) c.self.view_is
    (found_full (setting_of c.self.inside.lock) c.args.instr turn.before (drawn_view c.args.drawn) (pass_view c.in_ok-pass.pass) c.in_ok-pass.outcome turn.both_grow turn.told)

pub returns-clause-none_new : goal.returns-clause-none_new
returns-clause-none_new g c = let turn = c.in_ok-pass.ensures.turn in
    none_new (setting_of c.self.inside.lock) c.args.instr turn.before (drawn_view c.args.drawn) (pass_view c.in_ok-pass.pass) c.in_ok-pass.outcome turn.found_earlier turn.told
