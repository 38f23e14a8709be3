-- What reading a field answers.
use Rattle.std.specs.Prelude.{◌≡◌, Result, Ok, Err}

-- the answer, seen by view, is what the definition says
abbrev pub Tells : {A B E : Type 0} → (A → B) → Result A E → Result B E → Type 0
Tells view (Ok found) said = said ≡ Ok (view found)
Tells view (Err why) said = said ≡ Err why
