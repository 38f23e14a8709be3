use Rattle.std.proofs.Common.{◌≡◌, ◌≤◌, ◌+◌, ◌∙◌, ◌++◌, List, ℕ, arith, codes, sym, ap, subst, length, rules}
use Rattle.std.specs.Str.{IsUtf8}
use Rattle.cmwq_annotated.specs.Acted.{acted}
use Rattle.cmwq_grammar.specs.Comments.{comments, listing_room}
use Rattle.cmwq_grammar.specs.Grammar.{Spells}
use Rattle.cmwq_table.specs.Events.{events}
use Rattle.cmwq_types.specs.Contents.{ScenarioContents}
use Rattle.cmwq_types.specs.Faults.{IsValid}
use Rattle.cmwq_types.specs.Listing.{listing}
use Rattle.cmwq_types.specs.Values.{IsScenario}
use Rattle.cmwq_types.specs.declared.limits.TheConstants.{MAX_TEXT}
use Rattle.cmwq_interleaving.specs.Played.{played}
use Rattle.cmwq_interleaving.proofs.leaving.played_text.Goals as goal

pub comments-requires-clause-valid : goal.comments-requires-clause-valid
comments-requires-clause-valid c =
    subst IsValid (sym c.in_ok-played.ensures.acted) (c.in_ok-played.ensures.valid c.requires.valid c.requires.declared c.requires.few)

pub comments-requires-clause-works : goal.comments-requires-clause-works
comments-requires-clause-works c =
    let valid = subst IsValid (sym c.in_ok-played.ensures.acted) (c.in_ok-played.ensures.valid c.requires.valid c.requires.declared c.requires.few) in
    (c.in_ok-text.ensures.spells valid).is_text.scenario.works

pub returns-clause-spells : goal.returns-clause-spells
returns-clause-spells c =
    let S = c.args.scenario.now in
    let instrs = c.args.instrs.now in
    let T = played S instrs in
    let named : c.in-Some.name ≡ codes "played" = search rules in
    let same : c.in_ok-played.played ≡ T = c.in_ok-played.ensures.acted ∙ ap (λ (name : List ℕ). acted S name instrs) named in
    let valid : IsValid T = subst (λ (name : List ℕ). IsValid (acted S name instrs)) named (c.in_ok-played.ensures.valid c.requires.valid c.requires.declared c.requires.few) in
    let is : IsScenario T = subst IsScenario same (c.in_ok-text.ensures.spells (subst IsValid (sym same) valid)).is_text.scenario in
    let notes : c.in_ok-comments.comments ≡ comments (events T instrs) = c.in_ok-comments.ensures.text ∙ ap (λ (U : ScenarioContents). comments (events U instrs)) same in
    let utf8 : IsUtf8 (comments (events T instrs)) = subst IsUtf8 notes c.in_ok-comments.ensures.utf8 in
    let long : length (comments (events T instrs)) ≡ length c.in_ok-comments.comments = ap length (sym notes) in
    let room : length (comments (events T instrs)) + listing_room 1 ≤ MAX_TEXT = omega (arith, long, c.in_ok-comments.ensures.short, c.requires.few) in
    let whole : c.extend_from_slice.new.self.items ≡ listing T ++ comments (events T instrs) = search rules in
    subst (λ (text : List ℕ). Spells text T) (sym whole) (c.comments_may_follow_a_listing.ensures.spelled T (events T instrs) valid is utf8 room)
