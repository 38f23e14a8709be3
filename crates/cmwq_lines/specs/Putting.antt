-- What is put behind the first bytes of a block.
use Rattle.std.specs.Prelude.{◌≡◌, ℕ, zero, suc, ◌+◌, List, [], ◌∷◌, ◌++◌, length, take}

-- the text stands behind the first `at` bytes, which stay, and ends at `end`
pub record Puts (old : List ℕ) (at : ℕ) (new : List ℕ) (end : ℕ) (text : List ℕ) : Type 0 where
  pub text_is : take end new ≡ take at old ++ text
  pub long : length new ≡ length old
  pub ends : end ≡ at + length text

-- a blank before the text
abbrev pub spaced : List ℕ → List ℕ
spaced text = 32 ∷ text

-- a line feed behind the text
abbrev pub ended : List ℕ → List ℕ
ended text = text ++ 10 ∷ []

-- the text so many times
abbrev pub repeated : List ℕ → ℕ → List ℕ
repeated text zero = []
repeated text (suc times) = text ++ repeated text times
