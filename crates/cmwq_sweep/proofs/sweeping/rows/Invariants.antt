use Rattle.std.proofs.Common.{◌≡◌, string_bytes}
use Rattle.cmwq_types.specs.Contents.{ActorContents}
use Rattle.cmwq_types.specs.Scenario.{expand}
use Rattle.cmwq_play.specs.Runs.{IsRunOf}
use Rattle.cmwq_sweep.specs.Sweeping.{sweep_text}
use Rattle.cmwq_sweep.proofs.sweeping.rows.Given as goal

-- the rows of the values that were tried
abbrev pub invariant-loop-k : goal.invariant-loop-k
invariant-loop-k g l = record {
  text : (actor : ActorContents) → IsRunOf l.scenario actor → string_bytes l.text ≡ sweep_text l.asked.format l.scenario (expand actor) l.queue l.asked.limits.low l.k;
}
