-- The names of reasons.
use Rattle.std.specs.Prelude.{ℕ, List, codes}
use Rattle.cmwq_types.specs.declared.check.Fault.{Fault}
use Rattle.cmwq_types.specs.declared.check.Fault.TheVariants as faults
use Rattle.cmwq_grammar.specs.declared.why.Why.{Why}
use Rattle.cmwq_grammar.specs.declared.why.Why.TheVariants as whys

-- the name of a scenario's fault
abbrev pub fault_name : Fault → List ℕ
fault_name faults.Range = codes "Range"
fault_name faults.TooMany = codes "TooMany"
fault_name faults.Duplicate = codes "Duplicate"
fault_name faults.Unknown = codes "Unknown"
fault_name faults.BadBody = codes "BadBody"
fault_name faults.BadFlags = codes "BadFlags"

-- why a line is refused; a scenario's fault goes by its own name
abbrev pub why_name : Why → List ℕ
why_name whys.BadUtf8 = codes "BadUtf8"
why_name whys.BadWord = codes "BadWord"
why_name whys.BadName = codes "BadName"
why_name whys.BadNumber = codes "BadNumber"
why_name whys.MissingWord = codes "MissingWord"
why_name whys.ExtraWord = codes "ExtraWord"
why_name whys.Misplaced = codes "Misplaced"
why_name whys.TooLong = codes "TooLong"
why_name (whys.Fault fault) = fault_name fault
