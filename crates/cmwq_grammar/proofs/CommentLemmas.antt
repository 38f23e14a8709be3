-- Comments behind a listing say nothing.
use Rattle.std.proofs.Common.{◌≡◌, ℕ, zero, suc, ◌+◌, ◌-◌, ◌<◌, ◌≤◌, Bool, true, false, not, ◌&&◌, List, [], ◌∷◌, ◌++◌, map, length, get_or, take, cond, eqb, arith, refl, sym, ap, ◌∙◌, subst, length-append, codes}
use Rattle.std.proofs.lemmas.Grind.{flat_map-append}
use Rattle.std.proofs.lemmas.List.Folds.{list_all-append}
use Rattle.std.proofs.lemmas.Str.{IsUtf8-append}
use Rattle.std.specs.List.{before_first, filter, flat_map, list_all, onto_first, slice_split}
use Rattle.std.specs.Str.{IsUtf8}
use Rattle.std.specs.Str.Lines.{strip_carriage_return}
use Rattle.cmwq_types.specs.Contents.{ScenarioContents}
use Rattle.cmwq_types.specs.Faults.{IsValid}
use Rattle.cmwq_types.specs.Listing.{listing, written}
use Rattle.cmwq_types.specs.Values.{IsScenario}
use Rattle.cmwq_types.specs.declared.limits.TheConstants.{MAX_TEXT}
use Rattle.cmwq_grammar.specs.Comments.{comments, listing_room}
use Rattle.cmwq_grammar.specs.Cutting.{is_blank, is_empty, is_hash, lines_of, without_empty_last, worded, words_of}
use Rattle.cmwq_grammar.specs.Grammar.{SayAll, Spells}
use Rattle.cmwq_grammar.proofs.Basics.{and_true, true_and}
use Rattle.cmwq_grammar.proofs.CanonicalLines.{fed, fed_lines, is_feed, joined, no_feeds, plain_no_feeds}
use Rattle.cmwq_grammar.proofs.GoodScenario.{Good, good_from_valid}
use Rattle.cmwq_grammar.proofs.ListingLemmas.{canonical, listing_is, listing_lines, listing_spells, written_fits, written_room}
use Rattle.cmwq_grammar.proofs.ReadingLemmas.{worded_on}

-- The lines of a text have no line feed in them.

onto_no_feed : (x : ℕ) (pieces : List (List ℕ)) → not (is_feed x) ≡ true → no_feeds pieces ≡ true → no_feeds (onto_first x pieces) ≡ true
onto_no_feed x [] here rest = true_and (not (is_feed x) && true) true (true_and (not (is_feed x)) true here refl) refl
onto_no_feed x (piece ∷ pieces) here rest =
    let none = λ (line : List ℕ). list_all (λ b. not (is_feed b)) line in
    let both : (none piece ≡ true) × (no_feeds pieces ≡ true) = and_true (none piece) (no_feeds pieces) rest in
    true_and (none (x ∷ piece)) (no_feeds pieces) (true_and (not (is_feed x)) (none piece) here both.0) both.1

pieces_no_feed : (text : List ℕ) → no_feeds (slice_split is_feed text) ≡ true
pieces_no_feed [] = refl
pieces_no_feed (x ∷ xs) = at (is_feed x) refl (pieces_no_feed xs)
  where
    at : (b : Bool) → is_feed x ≡ b → no_feeds (slice_split is_feed xs) ≡ true → no_feeds (cond b ([] ∷ slice_split is_feed xs) (onto_first x (slice_split is_feed xs))) ≡ true
    at true e rest = rest
    at false e rest = onto_no_feed x (slice_split is_feed xs) (ap not e) rest

kept_no_feed : (pieces : List (List ℕ)) → no_feeds pieces ≡ true → no_feeds (without_empty_last pieces) ≡ true
kept_no_feed [] none = refl
kept_no_feed (last ∷ []) none = at (eqb (length last) 0)
  where
    at : (b : Bool) → no_feeds (cond b [] (last ∷ [])) ≡ true
    at true = refl
    at false = none
kept_no_feed (piece ∷ next ∷ more) none =
    let here = list_all (λ b. not (is_feed b)) piece in
    let both : (here ≡ true) × (no_feeds (next ∷ more) ≡ true) = and_true here (no_feeds (next ∷ more)) none in
    true_and here (no_feeds (without_empty_last (next ∷ more))) both.0 (kept_no_feed (next ∷ more) both.1)

lines_no_feed : (text : List ℕ) → no_feeds (lines_of text) ≡ true
lines_no_feed text = kept_no_feed (slice_split is_feed text) (pieces_no_feed text)

-- Comments have no words.

abbrev comment : List ℕ → List ℕ
comment line = codes "# " ++ line

comments_fed : (lines : List (List ℕ)) → flat_map (λ line. codes "# " ++ line ++ 10 ∷ []) lines ≡ fed (map comment lines)
comments_fed [] = refl
comments_fed (line ∷ lines) = ap (λ (rest : List ℕ). (comment line ++ 10 ∷ []) ++ rest) (comments_fed lines)

comments_no_feed : (lines : List (List ℕ)) → no_feeds lines ≡ true → no_feeds (map comment lines) ≡ true
comments_no_feed [] none = refl
comments_no_feed (line ∷ lines) none =
    let here = list_all (λ b. not (is_feed b)) line in
    let both : (here ≡ true) × (no_feeds lines ≡ true) = and_true here (no_feeds lines) none in
    true_and here (no_feeds (map comment lines)) both.0 (comments_no_feed lines both.1)

hash_stays : (line : List ℕ) (n : ℕ) → 0 < n → before_first is_hash (take n (35 ∷ line)) ≡ []
hash_stays line zero some = absurd (omega arith)
hash_stays line (suc n) some = refl

stripped : (line : List ℕ) → before_first is_hash (strip_carriage_return (comment line)) ≡ []
stripped line = at (eqb (get_or (comment line) (length (comment line) - 1) 0) 13)
  where
    at : (b : Bool) → before_first is_hash (cond b (take (length (comment line) - 1) (comment line)) (comment line)) ≡ []
    at true = hash_stays (32 ∷ line) (length (comment line) - 1) (omega arith)
    at false = refl

no_words : (line : List ℕ) → words_of (comment line) ≡ []
no_words line = ap cut (stripped line)
  where
    cut : List ℕ → List (List ℕ)
    cut rest = filter (λ word. not (is_empty word)) (slice_split is_blank rest)

comments_say_nothing : (lines : List (List ℕ)) → worded (map comment lines) ≡ []
comments_say_nothing [] = refl
comments_say_nothing (line ∷ lines) =
    ap (λ (words : List (List ℕ)). worded_on words (worded (map comment lines))) (no_words line) ∙ comments_say_nothing lines

-- what says nothing may stand behind lines
worded_behind : (lines more : List (List ℕ)) → worded more ≡ [] → worded (lines ++ more) ≡ worded lines
worded_behind [] more none = none
worded_behind (line ∷ lines) more none = ap (λ (rest : List (List (List ℕ))). worded_on (words_of line) rest) (worded_behind lines more none)

-- The listing and the comments.

pub listing_short : (S : ScenarioContents) → IsValid S → IsScenario S → length (listing S) ≤ listing_room (length S.actors)
listing_short S valid is = (written_room S (good_from_valid S valid is)).short

lines_of_both : (S : ScenarioContents) (notes : List ℕ) → Good S → lines_of (listing S ++ comments notes) ≡ lines_of (listing S) ++ map comment (lines_of notes)
lines_of_both S notes good =
    let listed = map joined (map canonical (written S)) in
    let noted = map comment (lines_of notes) in
    let none : no_feeds (listed ++ noted) ≡ true =
    list_all-append (λ line. list_all (λ b. not (is_feed b)) line) listed noted
    ∙ true_and (no_feeds listed) (no_feeds noted) (plain_no_feeds (map canonical (written S)) (written_fits S good).plain) (comments_no_feed (lines_of notes) (lines_no_feed notes)) in
    ap (λ (front : List ℕ). lines_of (front ++ comments notes)) (listing_is (written S))
    ∙ ap (λ (back : List ℕ). lines_of (fed listed ++ back)) (comments_fed (lines_of notes))
    ∙ ap lines_of (sym (flat_map-append (λ line. line ++ 10 ∷ []) listed noted))
    ∙ fed_lines (listed ++ noted) none
    ∙ ap (λ (front : List (List ℕ)). front ++ noted) (sym (listing_lines S good))

pub commented_spells : (S : ScenarioContents) (notes : List ℕ) → IsValid S → IsScenario S → IsUtf8 (comments notes)
    → length (comments notes) + listing_room (length S.actors) ≤ MAX_TEXT → Spells (listing S ++ comments notes) S
commented_spells S notes valid is utf8 room =
    let good : Good S = good_from_valid S valid is in
    let spelled : Spells (listing S) S = listing_spells S valid is in
    let short : length (listing S) ≤ listing_room (length S.actors) = listing_short S valid is in
    let both : length (listing S ++ comments notes) ≡ length (listing S) + length (comments notes) = length-append (listing S) (comments notes) in
    let said : worded (lines_of (listing S ++ comments notes)) ≡ worded (lines_of (listing S)) =
    ap worded (lines_of_both S notes good) ∙ worded_behind (lines_of (listing S)) (map comment (lines_of notes)) (comments_say_nothing (lines_of notes)) in
    record {
      short = omega arith;
      is_text = record {
        utf8 = IsUtf8-append (listing S) (comments notes) spelled.is_text.utf8 utf8;
        lines = subst (λ (ws : List (List (List ℕ))). SayAll (written S) ws) (sym said) spelled.is_text.lines;
        valid = valid;
        scenario = is;
      };
    }
