use Rattle.std.proofs.Common.{◌≡◌, ◌++◌, map}
use Rattle.cmwq_picture.specs.Column.{cut_rows}
use Rattle.cmwq_picture.specs.Picture.{below}
use Rattle.cmwq_picture.specs.declared.row.Title.TheVariants as title
use Rattle.cmwq_picture.proofs.rows.push_rescuers.Given as goal

abbrev pub invariant-loop-queue : goal.invariant-loop-queue
invariant-loop-queue l = l.rows.items ≡ l.fn.rows.items ++ cut_rows l.scenario l.columns (map (λ queue. title.Rescuer (record { 0 = queue })) (below l.queue))
