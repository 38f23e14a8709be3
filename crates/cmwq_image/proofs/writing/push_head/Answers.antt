use Rattle.std.proofs.Common.{append_assoc}
use Rattle.cmwq_image.proofs.writing.push_head.Goals as goal

pub returns-clause-image : goal.returns-clause-image
returns-clause-image c =
    rw (c.in_ok-push_counts.ensures, c.in_ok-push_numbers.ensures.image, c.in_ok-push_short.ensures, c.in_ok-extend_from_slice.ensures.items)
    (simp append_assoc)
