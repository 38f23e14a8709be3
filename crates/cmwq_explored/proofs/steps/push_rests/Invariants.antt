use Rattle.std.proofs.Common.{◌≡◌, ◌++◌, drop}
use Rattle.cmwq_annotated.specs.Notes.{AreNotes, note_lines}
use Rattle.cmwq_explored.specs.Found.{rest_notes}
use Rattle.cmwq_explored.proofs.steps.push_rests.Given as goal

-- so many actors are told, and what is left makes the whole; where those that are left are notes, all are
abbrev pub invariant-loop-actor : goal.invariant-loop-actor
invariant-loop-actor l = record {
  text : l.text ++ note_lines (rest_notes l.scenario l.actor (drop l.actor l.rests)) ≡ l.fn.text ++ note_lines (rest_notes l.scenario 0 l.rests);
  notes : AreNotes (rest_notes l.scenario l.actor (drop l.actor l.rests)) → AreNotes (rest_notes l.scenario 0 l.rests);
}
