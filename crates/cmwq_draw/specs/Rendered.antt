-- The bytes of a drawing, and whether there is one.
use Rattle.std.specs.Borrow.{Bor}
use Rattle.std.specs.Prelude.{ℕ, Bool, List, Option, Some, None, codes, max}
use Rattle.cmwq_types.specs.Contents.{ActorContents, ScenarioContents}
use Rattle.cmwq_types.specs.Scenario.{expand}
use Rattle.cmwq_types.specs.declared.instr.WorkId.{WorkId}
use Rattle.cmwq_types.specs.declared.instr.Instr.{Instr}
use Rattle.cmwq_draw.specs.Hints.{hints}
use Rattle.cmwq_draw.specs.SpanEnd.{span_drawn}
use Rattle.cmwq_picture.specs.PictureContents.{PictureContents}
use Rattle.cmwq_picture.specs.PictureOfRun.{is_too_wide, picture}
use Rattle.cmwq_render.specs.Sketch.{picture_text}
use Rattle.cmwq_svg.specs.Svg.{svg_text}
use Rattle.cmwq_drawing.specs.declared.drawing.Drawing.{Drawing}
use Rattle.cmwq_drawing.specs.declared.drawing.Form.{Form}
use Rattle.cmwq_drawing.specs.declared.drawing.Form.TheVariants.{Text, Svg}

-- how wide a column is, in pixels: 10 where it isn't given, and 1 at least
abbrev pub scale_of : Option ℕ → ℕ
scale_of (Some scale) = max scale 1
scale_of None = 10

-- the picture's own name
abbrev pub id_of : Option (Bor (List ℕ)) → List ℕ
id_of (Some id) = id.now
id_of None = codes "cmwq"

-- the picture of the instructions' run as SVG, with what `why` says where works wait, or as text
abbrev pub rendered : Form → ScenarioContents → List Instr → PictureContents → List ℕ
rendered Text S instrs P = picture_text S P
rendered (Svg style) S instrs P = svg_text S P (hints S instrs P) (id_of style.id) (scale_of style.scale)

-- the drawing of the run of an actor of the scenario, with rows of these works, or of all
abbrev pub drawing_of : Drawing → ScenarioContents → ActorContents → Option (List WorkId) → List ℕ
drawing_of drawing S actor works =
    rendered drawing.form S (expand actor)
    (picture S (expand actor) (record { span = span_drawn S (expand actor) drawing.span; fold = drawing.fold; works = works }))

-- Whether it would have more columns than are drawn unasked.
abbrev pub is_wide : Drawing → ScenarioContents → ActorContents → Bool
is_wide drawing S actor = is_too_wide S (expand actor) (span_drawn S (expand actor) drawing.span)
