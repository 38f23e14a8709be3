use Rattle.std.proofs.Common.{◌≡◌, List, ℕ, ap, append-nil, subst, sym, ◌∙◌}
use Rattle.cmwq_lines.specs.Putting.{repeated}
use Rattle.cmwq_table.specs.Events.{reply_line}
use Rattle.cmwq_play.specs.Session.{Issues}
use Rattle.cmwq_play.proofs.session.Session.tell.Goals as goal

pub returns-then-times-eq1 : goal.returns-then-times-eq1
returns-then-times-eq1 g c =
    let old = c.args.self.now in
    let line = reply_line old.scenario.now (g.M.Reads.state old.machine).time c.args.instr c.args.reply.now in
    let once : line ≡ repeated line c.args.times = sym (append-nil line) ∙ ap (repeated line) (sym c.if-times-eq1.true) in
    subst (λ (text : List ℕ). Issues g.M.Reads.loaded g.M.Reads.state g.W.Write.contents g.W.Sink.failed old c.tell_once.new.self (g.M.Reads.state old.machine) text c.tell_once.result) once c.tell_once.ensures
