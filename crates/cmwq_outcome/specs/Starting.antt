-- The scenario that a newcomer starts from.
use Rattle.std.specs.Prelude.{ℕ, List, Option}
use Rattle.std.specs.Io.KnownBytes.{Appends}
use Rattle.cmwq_outcome.specs.Starter.{first_scenario}
use Rattle.cmwq_grammar.specs.Grammar.{Spells}

-- a text that spells the first scenario was written
abbrev pub HasWrittenFirst : Option (List ℕ) → Option (List ℕ) → Type 0
HasWrittenFirst before after = (text : List ℕ) × Spells text first_scenario × Appends before after text
