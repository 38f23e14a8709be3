use Rattle.std.proofs.Common.{◌≡◌, List, ℕ, Err, Ok, ap, refl, ◌∙◌}
use Rattle.std.proofs.lemmas.Result.{err_from_is_err_and}
use Rattle.cmwq_types.specs.Scenario.{expand}
use Rattle.cmwq_table.specs.Events.{events}
use Rattle.cmwq_play.proofs.CommandLemmas.{err_is, writes_more}
use Rattle.cmwq_settle.specs.Settled.{with_nexts}
use Rattle.cmwq_settle.specs.Settling.{IsFollowedOutput}
use Rattle.cmwq_settle.proofs.SettlingLemmas.{endless-output, followed-output, never-writes, sending-other, settled-output}
use Rattle.cmwq_settle.proofs.settled_run.print_followed.Goals as goal

pub returns-in_err-print_actor-clause-never_quiet : goal.returns-in_err-print_actor-clause-never_quiet
returns-in_err-print_actor-clause-never_quiet g c = λ is.
    let error = c.in_err-print_actor.field-0.0 in
    let p = err_from_is_err_and c.from_residual-in_err-print_actor.result c.from_residual-in_err-print_actor.ensures.1 in
    absurd (sending-other {A = Unit {0}} (Err error) c.in_err-print_actor.ensures.why (rw (p.1, p.2) at is))

pub returns-in_err-print_actor-clause-writes : goal.returns-in_err-print_actor-clause-writes
returns-in_err-print_actor-clause-writes g c =
    let S = c.args.scenario.now in
    let longer = c.in_ok-longer.longer in
    let is = c.in_ok-longer.ensures ∙ ap (λ (n : ℕ). with_nexts n c.args.actor.now) c.number.ensures in
    let p = err_from_is_err_and c.from_residual-in_err-print_actor.result c.from_residual-in_err-print_actor.ensures.1 in
    rw (p.1, p.2) (writes_more (λ output. output ≡ events S (expand longer)) (IsFollowedOutput S) (g.W.Write.contents c.args.writer.now) (g.W.Write.contents c.print_actor.new.writer) (g.W.Sink.failed c.print_actor.new.writer)
    (Err c.in_err-print_actor.field-0.0) (followed-output S c.args.actor.now longer c.args.nexts c.requires.runs is c.requires.counted) c.in_err-print_actor.ensures.writes)

pub returns-in-Settle-clause-quiet : goal.returns-in-Settle-clause-quiet
returns-in-Settle-clause-quiet g c =
    let wrote = c.in_ok-print_actor.ensures.writes.wrote in
    let is = c.in_ok-longer.ensures ∙ ap (λ (n : ℕ). with_nexts n c.args.actor.now) c.number.ensures in (
      wrote.0,
      settled-output c.args.scenario.now c.args.actor.now c.in_ok-longer.longer c.args.nexts c.requires.runs is c.in-Settle.field-0 wrote.0 c.in-Settle.is c.requires.counted wrote.1,
      wrote.2,
    )

pub returns-in-Settle-clause-writes : goal.returns-in-Settle-clause-writes
returns-in-Settle-clause-writes g c =
    let S = c.args.scenario.now in
    let longer = c.in_ok-longer.longer in
    let is = c.in_ok-longer.ensures ∙ ap (λ (n : ℕ). with_nexts n c.args.actor.now) c.number.ensures in
    writes_more (λ output. output ≡ events S (expand longer)) (IsFollowedOutput S) (g.W.Write.contents c.args.writer.now) (g.W.Write.contents c.print_actor.new.writer) (g.W.Sink.failed c.print_actor.new.writer)
    (Ok tt) (followed-output S c.args.actor.now longer c.args.nexts c.requires.runs is c.requires.counted) c.in_ok-print_actor.ensures.writes

pub returns-clause-never_quiet : goal.returns-clause-never_quiet
returns-clause-never_quiet g c = λ told.
    let wrote = c.in_ok-print_actor.ensures.writes.wrote in
    let is = c.in_ok-longer.ensures ∙ ap (λ (n : ℕ). with_nexts n c.args.actor.now) c.number.ensures in (
      wrote.0,
      endless-output c.args.scenario.now c.args.actor.now c.in_ok-longer.longer c.args.nexts c.requires.runs is c.in-Never.field-0 wrote.0 c.in-Never.is c.requires.counted wrote.1,
      wrote.2,
    )

pub returns-clause-writes : goal.returns-clause-writes
returns-clause-writes g c =
    let S = c.args.scenario.now in
    let longer = c.in_ok-longer.longer in
    let before = g.W.Write.contents c.args.writer.now in
    let after = g.W.Write.contents c.print_actor.new.writer in
    let failed = g.W.Sink.failed c.print_actor.new.writer in
    let is = c.in_ok-longer.ensures ∙ ap (λ (n : ℕ). with_nexts n c.args.actor.now) c.number.ensures in
    never-writes (IsFollowedOutput S) before after failed
    (writes_more (λ output. output ≡ events S (expand longer)) (IsFollowedOutput S) before after failed (Ok tt)
    (followed-output S c.args.actor.now longer c.args.nexts c.requires.runs is c.requires.counted) c.in_ok-print_actor.ensures.writes)
