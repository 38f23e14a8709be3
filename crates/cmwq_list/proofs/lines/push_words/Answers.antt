use Rattle.std.proofs.Common.{append_assoc}
use Rattle.std.specs.Prelude.{map}
use Rattle.cmwq_list.proofs.LineLemmas.{joined_cons}
use Rattle.cmwq_list.proofs.lines.push_words.Goals as goal

pub returns : goal.returns
returns c =
    rw (joined_cons 32 c.args.first.now (map (λ word. word.now) c.args.others.now), c.in_ok-push_others.ensures, c.in_ok-extend_from_slice.ensures.items)
    (simp append_assoc)
