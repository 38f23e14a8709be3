-- What each fault says of the bytes, in words of images alone.
use Rattle.std.specs.Prelude.{◌≡◌, ℕ, ◌+◌, ◌≤◌, ◌<◌, List, ◌++◌, length, take, Some}
use Rattle.cmwq_types.specs.Contents.{ScenarioContents}
use Rattle.cmwq_types.specs.Faults.{first_fault}
use Rattle.cmwq_image.specs.Image.{image, magic}
use Rattle.cmwq_image.specs.Limits.{HasSize}
use Rattle.cmwq_image.specs.Versions.{HasVersion, IsImageOf}
use Rattle.cmwq_types.specs.Values.{IsScenario}
use Rattle.cmwq_image.specs.declared.error.ImageError.{ImageError}
use Rattle.cmwq_image.specs.declared.error.ImageError.TheVariants as errors

-- the image of a scenario, which may not be valid, has these bytes and then these
pub record IsImageInTwo (front more : List ℕ) : Type 0 where
  pub version : ℕ
  pub scenario : ScenarioContents
  pub contents : IsScenario scenario
  pub sized : HasSize scenario
  pub has : HasVersion scenario version
  pub bytes : image version scenario ≡ front ++ more

-- some image begins with these bytes
abbrev pub BeginsImage : List ℕ → Type 0
BeginsImage front = (more : List ℕ) × IsImageInTwo front more

-- no image begins with these bytes
abbrev pub BeginsNoImage : List ℕ → Type 0
BeginsNoImage front = (more : List ℕ) → IsImageInTwo front more → ⊥

-- An image begins with the bytes before offset n, but none with those up to the end of the field there,
-- which has at most 16 bytes.
abbrev pub IsBadAt : List ℕ → ℕ → Type 0
IsBadAt bytes n = (size : ℕ) × (size ≤ 16) × (n + size ≤ length bytes) × BeginsImage (take n bytes) × BeginsNoImage (take (n + size) bytes)

-- An image begins with the bytes before offset n, and is longer than the bytes, of which fewer than 16 are
-- left there; and no image is a beginning of the bytes.
abbrev pub EndsAt : List ℕ → ℕ → Type 0
EndsAt bytes n =
    (more : List ℕ) × (n ≤ length bytes) × (length bytes < n + 16) × (length bytes < n + length more) × IsImageInTwo (take n bytes) more
    × ((S : ScenarioContents) (front rest : List ℕ) → IsScenario S → HasSize S → IsImageOf front S → bytes ≡ front ++ rest → ⊥)

abbrev pub Means : List ℕ → ImageError → Type 0
Means bytes errors.Magic = (rest : List ℕ) → bytes ≡ magic ++ rest → ⊥
Means bytes errors.Version = (n : ℕ) × IsBadAt bytes n
Means bytes errors.Truncated = (n : ℕ) × EndsAt bytes n
Means bytes errors.Extra = (n : ℕ) × (n < length bytes) × ((S : ScenarioContents) × IsScenario S × HasSize S × IsImageOf (take n bytes) S)
Means bytes (errors.BadField n) = IsBadAt bytes n
Means bytes (errors.Fault fault) = (S : ScenarioContents) × IsScenario S × HasSize S × IsImageOf bytes S × (first_fault S ≡ Some fault)
Means bytes errors.NoMemory = Unit {0}
