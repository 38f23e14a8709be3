-- A name that is too long, or is taken, in a form that fits.
use Rattle.std.specs.Prelude.{ℕ, List, ◌++◌, Option, ◌==◌, option_map, take, if◌then◌else◌}
use Rattle.std.specs.Fmt.{decimal}
use Rattle.cmwq_types.specs.First.{by_least, first_below}
use Rattle.cmwq_fitting.specs.Fitting.{fits}
use Rattle.cmwq_fitting.specs.declared.shortening.TheConstants.{FORMS}

-- the name's forms, by their numbers: cut to the 15 bytes that a name may have, or to 14 and a digit
abbrev pub shortened : (name : List ℕ) → ℕ → List ℕ
shortened name n = if n == 0 then take 15 name else take 14 name ++ decimal n

-- the first form of the name that fits the place up to which this text goes
abbrev pub name_number : (line : ℕ) (front name : List ℕ) → Option ℕ
name_number line front name = first_below (by_least (λ n. n)) (λ n. fits line front (shortened name n)) FORMS

abbrev pub name_at : (line : ℕ) (front name : List ℕ) → Option (List ℕ)
name_at line front name = option_map (shortened name) (name_number line front name)
