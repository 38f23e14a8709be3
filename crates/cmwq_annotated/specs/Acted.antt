-- A scenario with one actor who gives certain instructions.
use Rattle.std.specs.Prelude.{ℕ, List, [], ◌∷◌, map}
use Rattle.cmwq_types.specs.Contents.{ActorContents, ScenarioContents}
use Rattle.cmwq_types.specs.declared.instr.Instr.{Instr}
use Rattle.cmwq_types.specs.declared.scenario.Line.{Line}

abbrev pub once : Instr → Line
once instr = record { instr = instr; times = 1 }

-- who gives these instructions, a line each
abbrev pub actor_of : (name : List ℕ) → List Instr → ActorContents
actor_of name instrs = record { name = name; lines = map once instrs }

-- the same scenario with this one actor
abbrev pub acted : ScenarioContents → (name : List ℕ) → List Instr → ScenarioContents
acted S name instrs = record S { actors = actor_of name instrs ∷ [] }
