use Rattle.std.proofs.Common.{List, ℕ, ◌++◌, ap, sym, ◌∙◌, append-nil}
use Rattle.cmwq_lines.proofs.PutLemmas.{no_line}
use Rattle.cmwq_lines.proofs.reply_lines.ReplyLines.push.Goals as goal

pub returns-then-is_silent-clause-line : goal.returns-then-is_silent-clause-line
returns-then-is_silent-clause-line c =
    sym (ap (λ (line : List ℕ). c.args.block.now ++ line) (no_line c.args.self.now c.args.time c.args.instr c.args.reply.now (sym c.is_silent.ensures ∙ c.if-is_silent.true)) ∙ append-nil c.args.block.now)
