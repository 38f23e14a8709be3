use Rattle.std.proofs.Common.{◌≡◌, List, ◌++◌, [], ap, sym, ◌∙◌}
use Rattle.std.specs.List.{cons_option}
use Rattle.cmwq_picture.specs.Column.{burning}
use Rattle.cmwq_picture.specs.declared.column.Burning.{Burning}
use Rattle.cmwq_picture.proofs.ListLemmas.{filter_map-more}
use Rattle.cmwq_picture.proofs.moment.Moment.burners.Goals as goal

pub loop-w-preserved : goal.loop-w-preserved
loop-w-preserved g c =
    let burns = burning c.args.self.now.scenario c.args.self.now.state in
    let w = c.loop-w.w in
    c.in_ok-push_burner.ensures ∙ ap (λ (front : List Burning). front ++ cons_option (burns w) []) c.loop-w.invariant ∙ sym (filter_map-more burns w)
