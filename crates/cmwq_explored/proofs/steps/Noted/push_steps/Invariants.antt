use Rattle.std.proofs.Common.{◌≡◌, ◌++◌, drop}
use Rattle.cmwq_annotated.specs.Notes.{AreNotes, note_lines}
use Rattle.cmwq_explored.specs.Found.{step_notes}
use Rattle.cmwq_explored.proofs.steps.Noted.push_steps.Given as goal

-- so many steps are written, and what is left makes the whole; where those that are left are notes, all are
abbrev pub invariant-loop-before : goal.invariant-loop-before
invariant-loop-before g l = record {
  scenario : l.self.scenario ≡ l.fn.self.scenario;
  loaded : g.M.Reads.loaded l.self.machine ≡ l.fn.self.scenario.now;
  lines : l.self.lines ≡ l.fn.self.scenario.now;
  text : l.text ++ note_lines (step_notes l.fn.self.scenario.now l.before (g.M.Reads.state l.self.machine) (drop l.before l.steps))
      ≡ l.fn.text ++ note_lines (step_notes l.fn.self.scenario.now 0 (g.M.Reads.state l.fn.self.machine) l.steps);
  notes : AreNotes (step_notes l.fn.self.scenario.now l.before (g.M.Reads.state l.self.machine) (drop l.before l.steps))
      → AreNotes (step_notes l.fn.self.scenario.now 0 (g.M.Reads.state l.fn.self.machine) l.steps);
}
