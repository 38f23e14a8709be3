use Rattle.std.proofs.Common.{append_assoc}
use Rattle.std.proofs.lemmas.Grind.{flat_map-append}
use Rattle.cmwq_list.proofs.listing.push_flags.Goals as goal

pub returns : goal.returns
returns c =
    rw (c.in_ok-push_word_if-6.ensures, c.in_ok-push_word_if-5.ensures, c.in_ok-push_word_if-4.ensures, c.in_ok-push_word_if-3.ensures, c.in_ok-push_word_if-2.ensures, c.in_ok-push_word_if.ensures)
    (simp (flat_map-append, append_assoc))
