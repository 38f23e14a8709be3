-- What the image of an input comes to, and which faults it has.
use Rattle.std.specs.Prelude.{◌≡◌, ℕ, List, Option, IfSome, Err}
use Rattle.cmwq_types.specs.Contents.{ScenarioContents}
use Rattle.cmwq_types.specs.Faults.{IsValid}
use Rattle.cmwq_types.specs.Listing.{listing}
use Rattle.cmwq_image.specs.ImageFault.{reading}
use Rattle.cmwq_image.specs.Versions.{IsImageOf}
use Rattle.cmwq_types.specs.Values.{IsScenario}
use Rattle.cmwq_image.specs.declared.error.ImageError.TheVariants as errors
use Rattle.cmwq_streams.specs.declared.error.PlayError.{PlayError}
use Rattle.cmwq_streams.specs.declared.error.PlayError.TheVariants.{Image}

-- The input, where it is known, is the image of this scenario, of version 4 or of an older one, and the scenario is valid.
pub record IsImage (input : Option (List ℕ)) (S : ScenarioContents) : Type 0 where
  pub contents : IsScenario S
  pub valid : IsValid S
  pub image : IfSome input (λ bytes. IsImageOf bytes S)

-- the error is the first fault of the image
abbrev pub IsImageFault : Option (List ℕ) → PlayError → Type 0
IsImageFault input (Image errors.NoMemory) = ⊥
IsImageFault input (Image fault) = IfSome input (λ bytes. reading bytes ≡ Err fault)
IsImageFault input error = ⊥

-- the input is a scenario's image, and this is its listing
abbrev pub IsShown : Option (List ℕ) → List ℕ → Type 0
IsShown input output = (S : ScenarioContents) × IsImage input S × (output ≡ listing S)
