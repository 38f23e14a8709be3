use Rattle.std.proofs.Common.{◌∙◌, ◌++◌, ℕ, List, ap, codes, subst, sym}
use Rattle.std.specs.Fmt.{HasWritten}
use Rattle.cmwq_orders.specs.declared.question.Question.{Question}
use Rattle.cmwq_table.specs.Events.{work_name}
use Rattle.cmwq_explored.specs.Answers.{actor_name}
use Rattle.cmwq_explored.specs.Found.{kind_note}
use Rattle.cmwq_explored.proofs.steps.KindNoteDisplay.fmt.Goals as goal

pub returns-in-After-clause-writes : goal.returns-in-After-clause-writes
returns-in-After-clause-writes g c = λ plain ok.
    let S = c.args.self.now.scenario.now in
    let actor = c.actor_name-actor.result.now in
    let work = c.work_name-work.result.now in
    subst (λ (text : List ℕ). HasWritten {W = g.row.W.Denot} g.W.Write.write_str_gives c.args.f.now text c.write.new.self)
    (ap (λ (name : List ℕ). work ++ (codes " is pending or runs, and " ++ (name ++ codes " has ended"))) c.actor_name-actor.ensures
    ∙ ap (λ (name : List ℕ). name ++ (codes " is pending or runs, and " ++ (actor_name S c.in-After.actor ++ codes " has ended"))) c.work_name-work.ensures
    ∙ ap (λ (q : Question). kind_note S q) (sym c.in-After.is))
    (c.write.ensures.writes plain ok)

pub returns-in-Together-clause-writes : goal.returns-in-Together-clause-writes
returns-in-Together-clause-writes g c = λ plain ok.
    let S = c.args.self.now.scenario.now in
    let one = c.work_name-one.result.now in
    subst (λ (text : List ℕ). HasWritten {W = g.row.W.Denot} g.W.Write.write_str_gives c.args.f.now text c.write-in-Together.new.self)
    (ap (λ (name : List ℕ). one ++ (codes " and " ++ (name ++ codes " run at the same time"))) c.work_name-other.ensures
    ∙ ap (λ (name : List ℕ). name ++ (codes " and " ++ (work_name S c.in-Together.w ++ codes " run at the same time"))) c.work_name-one.ensures
    ∙ ap (λ (q : Question). kind_note S q) (sym c.in-Together.is))
    (c.write-in-Together.ensures.writes plain ok)
