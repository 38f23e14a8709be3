use Rattle.cmwq_grammar.proofs.CommentLemmas.{commented_spells, listing_short}
use Rattle.cmwq_grammar.proofs.laws.comments_may_follow_a_listing.Goals as goal

pub returns-clause-room : goal.returns-clause-room
returns-clause-room c = listing_short

pub returns-clause-spelled : goal.returns-clause-spelled
returns-clause-spelled c = commented_spells
