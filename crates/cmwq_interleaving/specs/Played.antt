-- The text that a play leaves.
use Rattle.std.specs.Prelude.{ℕ, List, ◌++◌, codes}
use Rattle.cmwq_types.specs.Contents.{ActorContents, ScenarioContents}
use Rattle.cmwq_types.specs.Listing.{listing}
use Rattle.cmwq_types.specs.declared.instr.Instr.{Instr}
use Rattle.cmwq_table.specs.Events.{events}
use Rattle.cmwq_grammar.specs.Comments.{comments}
use Rattle.cmwq_annotated.specs.Acted.{acted, actor_of}

-- who gives these instructions, a line each
abbrev pub player : List Instr → ActorContents
player instrs = actor_of (codes "played") instrs

-- the same scenario with this one actor
abbrev pub played : ScenarioContents → List Instr → ScenarioContents
played S instrs = acted S (codes "played") instrs

-- the listing of that scenario, and behind it what running it prints
abbrev pub played_text : ScenarioContents → List Instr → List ℕ
played_text S instrs = listing (played S instrs) ++ comments (events (played S instrs) instrs)
