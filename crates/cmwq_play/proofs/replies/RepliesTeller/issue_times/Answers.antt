use Rattle.std.proofs.Common.{◌≡◌, List, Ok, Err, Result, ℕ, arith, sym, subst, ◌∙◌, replicate}
use Rattle.std.proofs.lemmas.Bool.Decides.{nat_tests}
use Rattle.std.specs.Prelude.{OnOk}
use Rattle.cmwq_types.specs.declared.instr.Instr.{Instr}
use Rattle.cmwq_table.specs.Events.{events_from}
use Rattle.cmwq_table.specs.Table.{after_all, table}
use Rattle.cmwq_streams.specs.declared.error.PlayError.{PlayError}
use Rattle.cmwq_play.specs.Session.{Issues}
use Rattle.cmwq_play.proofs.RepeatingLemmas.{kept-same}
use Rattle.cmwq_play.proofs.RunLemmas.{events_from_one, replies-told}
use Rattle.cmwq_play.proofs.replies.RepliesTeller.issue_times.Goals as goal

where_ok : (P : Type 0) (result : Result (Unit {0}) PlayError) → P → OnOk result P
where_ok P (Ok x) holds = holds
where_ok P (Err error) holds = tt

pub returns-in-Next-clause-told : goal.returns-in-Next-clause-told
returns-in-Next-clause-told g c =
    let session = c.args.session.now in
    let S = session.scenario.now in
    let s = g.M.Reads.state session.machine in
    let all = replicate c.args.times c.args.instr in
    subst (λ (text : List ℕ). Issues g.M.Reads.loaded g.M.Reads.state g.W.Write.contents g.W.Sink.failed session c.go_times.new.self (after_all S s all) text c.go_times.result) (sym (replies-told c.args.self.now S s all))
    (subst (λ (i : Instr). Issues g.M.Reads.loaded g.M.Reads.state g.W.Write.contents g.W.Sink.failed session c.go_times.new.self (after_all S s (replicate c.args.times i)) (events_from S s (replicate c.args.times i)) c.go_times.result)
    (sym c.in-Next.is) c.go_times.ensures)

ok_also : (P Q : Type 0) (result : Result (Unit {0}) PlayError) → (P → Q) → OnOk result P → OnOk result Q
ok_also P Q (Ok x) goes holds = goes holds
ok_also P Q (Err error) goes holds = tt

pub returns-in_default : goal.returns-in_default
returns-in_default g c =
    let session = c.args.session.now in
    let S = session.scenario.now in
    let s = g.M.Reads.state session.machine in
    let instr = c.args.instr in
    let one : c.args.times ≡ 1 = let is = c.if-times-eq1.true in grind (arith, nat_tests) in
    let all = replicate c.args.times instr in
    record {
      told =
          subst (λ (text : List ℕ). Issues g.M.Reads.loaded g.M.Reads.state g.W.Write.contents g.W.Sink.failed session c.issue.new.session (after_all S s all) text c.issue.result) (sym (replies-told c.args.self.now S s all))
          (subst (λ (n : ℕ). Issues g.M.Reads.loaded g.M.Reads.state g.W.Write.contents g.W.Sink.failed session c.issue.new.session (after_all S s (replicate n instr)) (events_from S s (replicate n instr)) c.issue.result) (sym one)
          (subst (λ (text : List ℕ). Issues g.M.Reads.loaded g.M.Reads.state g.W.Write.contents g.W.Sink.failed session c.issue.new.session (table S s instr).0 text c.issue.result) (sym (events_from_one S s instr)) c.issue.ensures.told));
      keeps = ok_also _ _ c.issue.result (λ same. same ∙ sym (kept-same c.args.self.now S s all)) c.issue.ensures.keeps;
      fits = c.issue.ensures.fits;
    }

pub returns-in_default-2 : goal.returns-in_default-2
returns-in_default-2 g c =
    let session = c.args.session.now in
    let S = session.scenario.now in
    let s = g.M.Reads.state session.machine in
    let all = replicate c.args.times c.args.instr in
    record {
      told =
          subst (λ (text : List ℕ). Issues g.M.Reads.loaded g.M.Reads.state g.W.Write.contents g.W.Sink.failed session c.repeat_times.new.self (after_all S s all) text c.repeat_times.result) (sym (replies-told c.args.self.now S s all))
          c.repeat_times.ensures;
      keeps = where_ok _ c.repeat_times.result (sym (kept-same c.args.self.now S s all));
      fits = where_ok _ c.repeat_times.result tt;
    }
