use Rattle.std.proofs.Common.{ap, sym, ◌∙◌}
use Rattle.cmwq_picture.specs.ExtentContents.{picked_works}
use Rattle.cmwq_picture.specs.Picture.{is_picked}
use Rattle.cmwq_picture.proofs.RowLemmas.{works-cut, works-uncut}
use Rattle.cmwq_picture.proofs.rows.push_works.Goals.{then-is_picked+in_ok-push_work, else-is_picked}
use Rattle.cmwq_picture.proofs.rows.push_works.Goals as goal

pub loop-w-preserved : goal.loop-w-preserved
loop-w-preserved c =
    let p = is_picked (picked_works c.args.works) in
    elim c.if-is_picked.branch [
      | then-is_picked+in_ok-push_work b ↦
          ap (λ rows. rows.items) b.rows-is ∙ works-cut c.args.scenario.now c.args.columns.now p c.loop-w.w c.args.rows.now.items _ _ c.loop-w.invariant (sym c.is_picked.ensures ∙ b.if-is_picked.true) b.in_ok-push_work.ensures
      | else-is_picked b ↦
          ap (λ rows. rows.items) b.rows-is ∙ works-uncut c.args.scenario.now c.args.columns.now p c.loop-w.w c.args.rows.now.items _ c.loop-w.invariant (sym c.is_picked.ensures ∙ b.if-is_picked.false)
    ]
