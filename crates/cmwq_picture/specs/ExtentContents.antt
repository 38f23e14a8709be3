-- What contracts see of what a picture is to show.
use Rattle.std.specs.Borrow.{Bor}
use Rattle.std.specs.Prelude.{Bool, List, Option, Some, None}
use Rattle.cmwq_types.specs.declared.instr.WorkId.{WorkId}
use Rattle.cmwq_picture.specs.declared.extent.Extent.{Extent}
use Rattle.cmwq_drawing.specs.declared.drawing.Span.{Span}

-- which ticks, whether they are folded though there is room for all, and the works that have rows, where not all have
pub record ExtentContents : Type 0 where
  pub span : Span
  pub fold : Bool
  pub works : Option (List WorkId)

abbrev pub picked_works : Option (Bor (List WorkId)) → Option (List WorkId)
picked_works (Some works) = Some works.now
picked_works None = None

abbrev pub extent_contents : Extent → ExtentContents
extent_contents extent = record { span = extent.span; fold = extent.fold; works = picked_works extent.works }
