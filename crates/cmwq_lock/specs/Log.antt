-- What a turn does to a log, and what a log says of its callers.
use Rattle.std.specs.Prelude.{◌≡◌, ◌⊎◌, ◌==◌, ℕ, List, [], ◌∷◌, ◌++◌, length, filter, nat_le, if◌then◌else◌}

module _ {E : Type 0} where
  -- the log begins with all that was seen
  abbrev pub BeginsWith : List E → List E → Type 0
  BeginsWith log seen = (rest : List E) × (log ≡ seen ++ rest)

  -- of two logs one begins with the other
  abbrev pub OneBegins : List E → List E → Type 0
  OneBegins one other = BeginsWith one other ⊎ BeginsWith other one

  -- the longer of two logs
  abbrev pub longer : List E → List E → List E
  longer one other = if nat_le (length one) (length other) then other else one

  -- the entries of one caller, in their order
  abbrev pub calls_of : (E → ℕ) → ℕ → List E → List E
  calls_of caller c log = filter (λ e. caller e == c) log

module _ {E : Type 0} (ticket caller : E → ℕ) where
  -- the log is as before, or has one more entry, with this ticket and caller
  abbrev pub Grows : List E → List E → ℕ → ℕ → Type 0
  Grows before after t c = (after ≡ before) ⊎ ((e : E) × (after ≡ before ++ e ∷ []) × (ticket e ≡ t) × (caller e ≡ c))

  -- the log and the caller's own entries are as before, or both have one more at the end, with this ticket and caller
  abbrev pub BothGrow : List E → List E → List E → List E → ℕ → ℕ → Type 0
  BothGrow before after mine mine' t c =
      ((after ≡ before) × (mine' ≡ mine)) ⊎ ((e : E) × (after ≡ before ++ e ∷ []) × (mine' ≡ mine ++ e ∷ []) × (ticket e ≡ t) × (caller e ≡ c))
