use Rattle.std.proofs.Common.{◌≡◌, List, ℕ, ◌++◌, append_assoc, codes, ap, sym, subst, ◌∙◌}
use Rattle.std.specs.Fmt.{HasWritten}
use Rattle.cmwq_picture.specs.declared.cell.Cell.{Cell}
use Rattle.cmwq_svg.specs.BarTitles.{deed, subject}
use Rattle.cmwq_svg.proofs.bar_titles.DeedDisplay.fmt.Goals as goal

pub returns-in-Armed-clause-writes : goal.returns-in-Armed-clause-writes
returns-in-Armed-clause-writes g c = λ plain ok.
    let S = c.args.self.now.scenario.now in
    let row = c.args.self.now.row in
    let is = sym (append_assoc (subject S row) (codes " on a timer, set by ") c.work_name-by.result.now)
    ∙ ap (λ (name : List ℕ). subject S row ++ codes " on a timer, set by " ++ name) c.work_name-by.ensures
    ∙ ap (λ (cell : Cell). deed S row cell) (sym c.in-Armed.is) in
    subst (λ (text : List ℕ). HasWritten {W = g.row.W.Denot} g.W.Write.write_str_gives c.args.f.now text c.write-in-Armed.new.self) is (c.write-in-Armed.ensures.writes plain ok)
