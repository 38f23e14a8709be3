use Rattle.std.proofs.Common.{◌≡◌, ◌++◌}
use Rattle.std.specs.List.{filter, flat_map}
use Rattle.cmwq_picture.specs.Column.{cut_rows}
use Rattle.cmwq_picture.specs.ExtentContents.{picked_works}
use Rattle.cmwq_picture.specs.Picture.{below, is_picked, work_titles}
use Rattle.cmwq_picture.proofs.rows.push_works.Given as goal

abbrev pub invariant-loop-w : goal.invariant-loop-w
invariant-loop-w l = l.rows.items ≡ l.fn.rows.items ++ cut_rows l.scenario l.columns (flat_map work_titles (filter (is_picked (picked_works l.works)) (below l.w)))
