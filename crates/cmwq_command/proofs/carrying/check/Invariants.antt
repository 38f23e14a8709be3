use Rattle.std.proofs.Common.{◌≡◌, false, map}
use Rattle.cmwq_command.specs.Carried.{HasChecked}
use Rattle.cmwq_command.proofs.carrying.check.Given as goal

-- the verdicts of the files so far were told
abbrev pub invariant-loop-path : goal.invariant-loop-path
invariant-loop-path g l = record {
  output : g.O.Sink.failed l.output ≡ false;
  errors : g.E.Sink.failed l.errors ≡ false;
  checked : HasChecked (g.F.FileStore.bytes l.files) l.look (map (λ path. path.now) l.paths) l.path-index (g.O.Write.contents l.fn.output)
      (g.O.Write.contents l.output) (g.E.Write.contents l.fn.errors) (g.E.Write.contents l.errors) l.status;
}
