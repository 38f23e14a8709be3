-- What a drawing of a scenario is, and why there is none.
use Rattle.std.specs.Prelude.{◌≡◌, ℕ, Bool, true, false, List, [], ◌∷◌, Option, Some, None}
use Rattle.cmwq_types.specs.Contents.{ActorContents, ScenarioContents}
use Rattle.cmwq_play.specs.Runs.{CanRun, IsRefused}
use Rattle.cmwq_play.specs.PlayTexts.{ComesTo, IsFaultOf}
use Rattle.cmwq_settle.specs.Settled.{IsSettled, IsUnsettleable}
use Rattle.cmwq_streams.specs.declared.error.PlayError.{PlayError}
use Rattle.cmwq_streams.specs.declared.error.PlayError.TheVariants as errors
use Rattle.cmwq_types.specs.declared.instr.WorkId.{WorkId}
use Rattle.cmwq_draw.specs.Picking.{picked}
use Rattle.cmwq_draw.specs.Rendered.{drawing_of, is_wide}
use Rattle.cmwq_drawing.specs.declared.drawing.Drawing.{Drawing}

-- the scenario whose run is drawn: the text's own, which can be run, or that one settled
abbrev pub IsChosen : (settle : Bool) → ScenarioContents → ScenarioContents → Type 0
IsChosen true S T = IsSettled S T
IsChosen false S T = (T ≡ S) × CanRun S

-- The scenario T, which S comes to, has this one actor, whose run is to be drawn.
pub record IsAsked (drawing : Drawing) (S T : ScenarioContents) (actor : ActorContents) : Type 0 where
  pub chosen : IsChosen drawing.settle S T
  pub alone : T.actors ≡ actor ∷ []

-- The works that have rows are declared; and whether the run is too wide.
pub record IsDrawable (drawing : Drawing) (S T : ScenarioContents) (actor : ActorContents) (works : Option (List WorkId)) (wide : Bool) : Type 0 where
  pub asked : IsAsked drawing S T actor
  pub known : picked T drawing.works ≡ Some works
  pub width : is_wide drawing T actor ≡ wide

-- this is the drawing of the scenario
abbrev pub IsDrawing : Drawing → ScenarioContents → List ℕ → Type 0
IsDrawing drawing S output =
    (T : ScenarioContents) × (actor : ActorContents) × (works : Option (List WorkId)) × IsDrawable drawing S T actor works false
    × (output ≡ drawing_of drawing T actor works)

-- why a scenario's run can't be drawn: it can't be run, or settled where that is asked
abbrev pub IsRefusedFirst : (settle : Bool) → ScenarioContents → PlayError → Type 0
IsRefusedFirst true S error = IsUnsettleable S error
IsRefusedFirst false S error = IsRefused S error

-- why there is no drawing of a scenario
abbrev pub IsUndrawable : Drawing → ScenarioContents → PlayError → Type 0
IsUndrawable drawing S errors.NoSuchWork =
    (T : ScenarioContents) × (actor : ActorContents) × IsAsked drawing S T actor × (picked T drawing.works ≡ None)
IsUndrawable drawing S errors.TooWide =
    (T : ScenarioContents) × (actor : ActorContents) × (works : Option (List WorkId)) × IsDrawable drawing S T actor works true
IsUndrawable drawing S error = IsRefusedFirst drawing.settle S error

-- the input spells a scenario, of which this is the drawing
abbrev pub IsDrawnText : Drawing → Option (List ℕ) → List ℕ → Type 0
IsDrawnText drawing input output = ComesTo (IsDrawing drawing) input output

-- the error is the fault of the text, or why its scenario isn't drawn
abbrev pub IsDrawFault : Drawing → Option (List ℕ) → PlayError → Type 0
IsDrawFault drawing input error = IsFaultOf (IsUndrawable drawing) input error
