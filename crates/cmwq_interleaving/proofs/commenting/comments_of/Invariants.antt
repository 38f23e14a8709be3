use Rattle.std.proofs.Common.{◌≡◌, ◌≤◌, ◌*◌, ◌++◌, drop, length}
use Rattle.std.specs.Str.{IsAscii}
use Rattle.cmwq_grammar.specs.Comments.{comments}
use Rattle.cmwq_table.specs.Events.{events_from}
use Rattle.cmwq_interleaving.proofs.commenting.comments_of.Given as goal

-- so many lines are written, and what is left makes the whole
abbrev pub invariant-loop-instr : goal.invariant-loop-instr
invariant-loop-instr g l = record {
  loaded : g.M.Reads.loaded l.machine ≡ l.scenario;
  parts : l.lines ≡ l.scenario;
  text : l.text ++ comments (events_from l.scenario (g.M.Reads.state l.machine) (drop l.instr-index l.instrs))
      ≡ comments (events_from l.scenario (g.M.Reads.state l.fn.machine) l.instrs);
  ascii : IsAscii l.text;
  short : length l.text ≤ 256 * l.instr-index;
}
