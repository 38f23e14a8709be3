use Rattle.std.proofs.Common.{ℕ, List, [], ◌∷◌, ◌++◌, sym, ap, ◌∙◌, append_assoc}
use Rattle.std.specs.List.{flat_map, join_with_byte}
use Rattle.std.specs.Prelude.{map}
use Rattle.cmwq_types.specs.Listing.{flag_words}
use Rattle.cmwq_list.proofs.LineLemmas.{joined_more}
use Rattle.cmwq_list.proofs.listing.push_flagged.Goals as goal

pub returns : goal.returns
returns c =
    let old = c.args.text.now.items in
    let others : List (List ℕ) = map (λ word. word.now) c.args.others.now in
    let flags = flag_words c.args.flags in
    let joined = join_with_byte 32 (c.args.first.now ∷ others) in
    let behind = flat_map (λ (word : List ℕ). 32 ∷ word) flags in
    c.in_ok-push.ensures.items
    ∙ ap (λ (text : List ℕ). text ++ 10 ∷ []) (c.in_ok-push_flags.ensures ∙ ap (λ (text : List ℕ). text ++ behind) c.in_ok-push_words.ensures ∙ append_assoc old joined behind)
    ∙ append_assoc old (joined ++ behind) (10 ∷ [])
    ∙ ap (λ (line : List ℕ). old ++ (line ++ 10 ∷ [])) (sym (joined_more 32 c.args.first.now others flags))
