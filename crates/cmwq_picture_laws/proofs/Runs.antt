-- Which runs are folded.
use Rattle.std.proofs.Common.{ℕ, ◌||◌, ap, ◌∙◌}
use Rattle.std.proofs.lemmas.List.{length-map}
use Rattle.std.specs.Prelude.{nat_lt}
use Rattle.cmwq_table.specs.State.{State}
use Rattle.cmwq_picture.proofs.LawLemmas.{each_tick}
use Rattle.cmwq_picture.specs.Column.{column_of}
use Rattle.cmwq_picture.specs.Laws.{HasEachTick}
use Rattle.cmwq_picture.specs.Picture.{columns}
use Rattle.cmwq_picture.specs.PictureOfRun.{told_of_tick}
use Rattle.cmwq_picture.specs.declared.span.TheConstants.{MAX_COLUMNS}
use Rattle.cmwq_picture_laws.specs.Folded.{FoldsLongRuns}
use Rattle.cmwq_picture_laws.specs.Pictures.{whole}

pub folds_long_runs : FoldsLongRuns
unfolding FoldsLongRuns HasEachTick
folds_long_runs S valid instrs fold works =
    ap (λ (n : ℕ). fold || nat_lt MAX_COLUMNS n)
    (length-map (columns S instrs whole) (λ (s : State). column_of S s (told_of_tick S instrs s.time)) ∙ each_tick S valid instrs)
