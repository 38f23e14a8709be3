use Rattle.std.proofs.Common.{List, ℕ, ◌++◌, codes, ap, sym, subst, ◌∙◌}
use Rattle.std.specs.Fmt.{HasWritten}
use Rattle.cmwq_types.specs.declared.reply.Reply.{Reply}
use Rattle.cmwq_table.specs.Events.{place_text, run_text}
use Rattle.cmwq_trace.specs.Lines.{event_field, reply_fields, text_field}
use Rattle.cmwq_trace.proofs.ObjectLemmas.{found-text}
use Rattle.cmwq_trace.proofs.fields.ReplyFieldsDisplay.fmt.Goals as goal

pub returns-in-Found-clause-writes : goal.returns-in-Found-clause-writes
returns-in-Found-clause-writes g c = λ plain ok.
    let fields = c.args.self.now in
    let S = fields.scenario.now in
    let state = c.in-Found.state in
    let name = c.asked_name-work.result.now in
    let is = found-text name (place_text state.place) (run_text state.run)
    ∙ ap (λ (work : List ℕ). event_field (codes "state") ++ (text_field (codes "work") work ++ (text_field (codes "pending") (place_text state.place) ++ text_field (codes "running") (run_text state.run)))) c.asked_name-work.ensures
    ∙ ap (λ (told : Reply). reply_fields S fields.instr told fields.seat) (sym c.in-Found.is) in
    subst (λ (text : List ℕ). HasWritten {W = g.row.W.Denot} g.W.Write.write_str_gives c.args.f.now text c.write-in-Found.new.self) is (c.write-in-Found.ensures.writes plain ok)
