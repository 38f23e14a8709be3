use Rattle.std.proofs.Common.{◌<◌, All, IfErr, IfOk, Result, refl, subst}
use Rattle.cmwq_lock.specs.Tokens.{drawn_view, pass_view}
use Rattle.cmwq_lock.specs.Views.{caller_of, seen_of, ticket_of}
use Rattle.cmwq_engine.specs.Issuing.{entry_of}
use Rattle.cmwq_engine.specs.Shared.{EngineLock, HasEntered, HasFoundFull, setting_of}
use Rattle.cmwq_engine.specs.declared.history.Full.{Full}
use Rattle.cmwq_engine.specs.declared.history.Entry.{Entry}
use Rattle.cmwq_engine.specs.declared.kept.Receipt.{Receipt}
use Rattle.cmwq_engine.proofs.IssueLemmas.{entered, found_full, none_new}
use Rattle.cmwq_engine.proofs.shared.Shared.issue_drawn.Goals as goal

pub returns-in-Ok-clause-entered : goal.returns-in-Ok-clause-entered
returns-in-Ok-clause-entered g c =
    let turn = c.take-pass.ensures.turn in
    let from = setting_of c.self.inside.lock in
    let was = drawn_view c.args.drawn in
    let is = pass_view c.take-pass.result.0 in
    let told = entered from c.args.instr turn.before was is c.take-pass.result.2 turn.both_grow turn.found_begins turn.told in
    subst (λ (shared : EngineLock). HasEntered (setting_of shared) was is (entry_of c.in-Ok.receipt (caller_of was) c.args.instr) c.in-Ok.receipt.place) c.self.view_is
    (subst (λ (outcome : Result Receipt Full). IfOk outcome (λ receipt. HasEntered from was is (entry_of receipt (caller_of was) c.args.instr) receipt.place)) c.in-Ok.is told)

pub returns-in-Err-clause-full : goal.returns-in-Err-clause-full
returns-in-Err-clause-full g c =
    let turn = c.take-pass.ensures.turn in
    let from = setting_of c.self.inside.lock in
    let was = drawn_view c.args.drawn in
    let is = pass_view c.take-pass.result.0 in
    let told = found_full from c.args.instr turn.before was is c.take-pass.result.2 turn.both_grow turn.told in (
      refl,
      subst (λ (shared : EngineLock). HasFoundFull (setting_of shared) was is) c.self.view_is
          (subst (λ (outcome : Result Receipt Full). IfErr outcome (λ full. HasFoundFull from was is)) c.in-Err.is told),
    )

pub returns-in-Err-clause-none_new : goal.returns-in-Err-clause-none_new
returns-in-Err-clause-none_new g c =
    let turn = c.take-pass.ensures.turn in
    let was = drawn_view c.args.drawn in
    let is = pass_view c.take-pass.result.0 in
    subst (λ (outcome : Result Receipt Full). IfErr outcome (λ full. All (λ (e : Entry). e.ticket < ticket_of was) (seen_of is))) c.in-Err.is
    (none_new (setting_of c.self.inside.lock) c.args.instr turn.before was is c.take-pass.result.2 turn.found_earlier turn.told)
