use Rattle.std.proofs.Common.{◌≡◌, ◌*◌, List, [], ◌∷◌, ◌++◌, length, map, ap, ◌∙◌}
use Rattle.std.specs.List.{filter, flat_map, range_with_len}
use Rattle.cmwq_picture.specs.Column.{cut_rows}
use Rattle.cmwq_picture.specs.PictureContents.{RowContents}
use Rattle.cmwq_picture.specs.ExtentContents.{picked_works}
use Rattle.cmwq_picture.specs.Picture.{below, is_picked, work_titles, worker_titles}
use Rattle.cmwq_picture.specs.declared.row.Title.{Title}
use Rattle.cmwq_picture.specs.declared.row.Title.TheVariants as title
use Rattle.cmwq_picture.proofs.RowLemmas.{then-pushed}
use Rattle.cmwq_picture.proofs.rows.rows.Goals as goal

pub returns : goal.returns
returns c =
    let S = c.args.scenario.now in
    let columns = c.args.columns.now in
    let works : List Title = flat_map work_titles (filter (is_picked (picked_works c.args.works)) (below (length S.works))) in
    let cpus : List Title = map (λ cpu. title.Cpu cpu) (below S.cpus) in
    let workers : List Title = flat_map (worker_titles S) (range_with_len (2 * S.cpus) 2) in
    let rescuers : List Title = map (λ queue. title.Rescuer (record { 0 = queue })) (below (length S.queues)) in
    let one : c.push_works.new.rows.items ≡ [] ++ cut_rows S columns works =
    c.in_ok-push_works.ensures ∙ ap (λ (rows : List RowContents). rows ++ cut_rows S columns works) c.new-rows.ensures.items in
    let two = then-pushed S columns [] _ _ works cpus one c.in_ok-push_cpus.ensures in
    let three = then-pushed S columns [] _ _ (works ++ cpus) workers two c.in_ok-push_workers.ensures in
    let four = then-pushed S columns [] _ _ (works ++ cpus ++ workers) rescuers three c.in_ok-push_rescuers.ensures in
    let bands = then-pushed S columns _ _ _ (title.Frozen ∷ []) (title.Pressed ∷ []) c.in_ok-push.ensures c.in_ok-push-2.ensures in
    let rest = then-pushed S columns _ _ _ (title.Frozen ∷ title.Pressed ∷ []) (title.Actor ∷ []) bands c.in_ok-push-3.ensures in
    then-pushed S columns [] _ _ (works ++ cpus ++ workers ++ rescuers) (title.Frozen ∷ title.Pressed ∷ title.Actor ∷ []) four rest
