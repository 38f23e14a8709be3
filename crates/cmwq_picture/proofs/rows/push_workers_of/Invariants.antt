use Rattle.std.proofs.Common.{◌≡◌, ◌++◌, map}
use Rattle.cmwq_picture.specs.Column.{cut_rows}
use Rattle.cmwq_picture.specs.Picture.{below}
use Rattle.cmwq_picture.specs.declared.row.Title.TheVariants as title
use Rattle.cmwq_picture.proofs.rows.push_workers_of.Given as goal

abbrev pub invariant-loop-worker : goal.invariant-loop-worker
invariant-loop-worker l = l.rows.items ≡ l.fn.rows.items ++ cut_rows l.scenario l.columns (map (λ worker. title.Worker l.pool worker) (below l.worker))
