use Rattle.std.proofs.Common.{◌≡◌, ◌++◌, map}
use Rattle.cmwq_picture.specs.Column.{cut_rows}
use Rattle.cmwq_picture.specs.Picture.{below}
use Rattle.cmwq_picture.specs.declared.row.Title.TheVariants as title
use Rattle.cmwq_picture.proofs.rows.push_cpus.Given as goal

abbrev pub invariant-loop-cpu : goal.invariant-loop-cpu
invariant-loop-cpu l = l.rows.items ≡ l.fn.rows.items ++ cut_rows l.scenario l.columns (map (λ cpu. title.Cpu cpu) (below l.cpu))
