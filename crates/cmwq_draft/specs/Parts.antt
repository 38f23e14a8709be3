-- What contracts see of a text's works and their bodies.
use Rattle.std.specs.Prelude.{List}
use Rattle.cmwq_types.specs.Contents.{ScenarioContents, WorkContents}

-- what was told before the bodies, and the works that have theirs
pub record Bodied : Type 0 where
  pub told : ScenarioContents
  pub done : List WorkContents
