use Rattle.std.proofs.Common.{arith}
use Rattle.cmwq_runs.proofs.LineLemmas.{expand_lines-within, no_line}
use Rattle.cmwq_runs.proofs.room.room_behind.Goals as goal

pub returns-then-line-room : goal.returns-then-line-room
unfolding no_line
returns-then-line-room c =
    let within = expand_lines-within c.args.lines.now c.loop-line.line-index no_line (omega arith) in
    omega arith
