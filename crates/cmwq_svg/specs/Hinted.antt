-- Which lines are left behind a rectangle, if there is one. No public clause cites this module.
use Rattle.std.specs.Prelude.{ℕ, List, Option, Some, None}
use Rattle.cmwq_picture.specs.PictureContents.{HintContents}
use Rattle.cmwq_svg.specs.BarTitles.{hints_left}
use Rattle.cmwq_svg.specs.declared.bars.Bar.{Bar}

abbrev pub hints_after : ℕ → List HintContents → Option Bar → List HintContents
hints_after at hints None = hints
hints_after at hints (Some bar) = hints_left at hints bar.cell
