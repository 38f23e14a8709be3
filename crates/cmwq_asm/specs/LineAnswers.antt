-- What reading a line answers: what a definition says, or want of memory.
use Rattle.std.specs.Prelude.{◌≡◌, Result, Ok, Err}
use Rattle.cmwq_grammar.specs.declared.why.Why.{Why}
use Rattle.cmwq_asm.specs.declared.fault.LineError.{LineError}
use Rattle.cmwq_asm.specs.declared.fault.LineError.TheVariants as error

abbrev pub RefusesLine : {B : Type 0} → LineError → Result B Why → Type 0
RefusesLine error.NoMemory said = Unit {0}
RefusesLine (error.Why why) said = said ≡ Err why

-- the answer, seen by view, is what the definition says, or memory ran out
abbrev pub Gives : {A B : Type 0} → (A → B) → Result A LineError → Result B Why → Type 0
Gives view (Ok found) said = said ≡ Ok (view found)
Gives view (Err error) said = RefusesLine error said
