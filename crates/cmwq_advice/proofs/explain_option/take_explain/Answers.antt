use Rattle.std.proofs.Common.{rules, ◌≡◌, ◌<◌, ◌+◌, ◌++◌, ℕ, suc, List, String, Global, arith, ap, codes, drop, subst, sym, take, ◌∙◌, length, map, false, true, None}
use Rattle.std.specs.Prelude.{slice_index_or, string_bytes}
use Rattle.std.specs.Str.{bytes_eq}
use Rattle.std.proofs.lemmas.List.{length-map}
use Rattle.cmwq_types.proofs.FirstLemmas.{first_below-from}
use Rattle.cmwq_advice.specs.ExplainOption.{first_place, stands_at}
use Rattle.cmwq_advice.proofs.OptionLemmas.{compared, cut, none-yet}
use Rattle.cmwq_advice.proofs.explain_option.take_explain.Goals as goal

pub returns-then-eq : goal.returns-then-eq
returns-then-eq c =
    let words = c.args.words.now.items in
    let place = c.loop-place.place in
    let same : c.loop-place.words.items ≡ words = c.loop-place.invariant.same in
    let below : place < length words = search rules in
    let word = c.index.ensures ∙ ap (λ (all : List (String Global)). slice_index_or all place c.index.result.now) same in
    let here : stands_at (map string_bytes words) place ≡ true =
    compared words place c.index.result.now below word ∙ ap (λ text. bytes_eq text (codes "--explain")) (sym c.as_str.ensures.value) ∙ sym c.eq.ensures ∙ c.if-eq.true in
    let within : place < length (map string_bytes words) = subst (λ (n : ℕ). place < n) (sym (length-map words string_bytes)) below in
    let left : c.remove-option.new.self.items ≡ take place words ++ drop (suc place) words =
    c.remove-option.ensures.by_index.2
    ∙ ap (λ (n : ℕ). take place c.loop-place.words.items ++ drop n c.loop-place.words.items) (let more : place + 1 ≡ suc place = omega arith in more)
    ∙ ap (λ (all : List (String Global)). take place all ++ drop (suc place) all) same in (
      place,
      first_below-from (stands_at (map string_bytes words)) place c.loop-place.invariant.none here (length (map string_bytes words)) within,
      ap (map string_bytes) left ∙ cut words place,
    )

pub loop-place-preserved : goal.loop-place-preserved
loop-place-preserved c =
    let words = c.args.words.now.items in
    let place = c.loop-place.place in
    let same : c.loop-place.words.items ≡ words = c.loop-place.invariant.same in
    let below : place < length words = search rules in
    let word = c.index.ensures ∙ ap (λ (all : List (String Global)). slice_index_or all place c.index.result.now) same in
    let isnt : stands_at (map string_bytes words) place ≡ false =
    compared words place c.index.result.now below word ∙ ap (λ text. bytes_eq text (codes "--explain")) (sym c.as_str.ensures.value) ∙ sym c.eq.ensures ∙ c.if-eq.false in
    let more : place + 1 ≡ suc place = omega arith in
    record {
      same = same;
      none = subst (λ (n : ℕ). first_place (map string_bytes words) n ≡ None) (sym more) (none-yet (map string_bytes words) place c.loop-place.invariant.none isnt);
    }

pub returns : goal.returns
returns c =
    let words = c.args.words.now.items in
    let count : c.loop-place.place ≡ length words = search rules in
    let all : c.loop-place.place ≡ length (map string_bytes words) = count ∙ sym (length-map words string_bytes) in
    (subst (λ (n : ℕ). first_place (map string_bytes words) n ≡ None) all c.loop-place.invariant.none, ap (map string_bytes) c.loop-place.invariant.same)
