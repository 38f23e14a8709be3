-- What was seen, as a map that keeps its order.
use Rattle.std.proofs.Common.{◌≡◌, ℕ, ◌+◌, ◌<◌, Bool, true, false, true≢false, List, [], ◌∷◌, ◌++◌, Option, Some, None, is_some, arith, refl, sym, ap, ◌∙◌, length, take, get_or, count_by}
use Rattle.std.proofs.lemmas.List.Sums.{count_by_more_no, count_by_more_yes}
use Rattle.std.proofs.lemmas.Option.{get_or_from_slice_get, slice_get_within}
use Rattle.std.specs.Prelude.{if◌then◌else◌}
use Rattle.std.specs.List.{slice_get}
use Rattle.std.specs.Map.{lookup}
use Rattle.indexmap.proofs.CallerLemmas.{insert_entry-new}
use Rattle.indexmap.specs.IndexMap.{IndexMap, insert_entry}
use Rattle.cmwq_explore.specs.Searching.{Entry, is_counted, knows}
use Rattle.cmwq_stored.specs.Stored.{StoredContents, stored_eq}
use Rattle.cmwq_explore.specs.declared.seen.Counted.{Counted}
use Rattle.cmwq_explore.specs.declared.seen.Mark.{Mark}

not-there : (o : Option Mark) → is_some o ≡ false → o ≡ None
not-there (Some m) h = absurd (true≢false h)
not-there None h = refl

-- one state more is counted
pub counted_more : (counted : Counted) (seen : List Entry) (i n r : ℕ) → n ≡ count_by (λ (x : Entry). is_counted counted x.1) (take i seen)
    → (k : StoredContents) × (m : Mark) × (slice_get seen i ≡ Some (k, m)) × (r ≡ (if is_counted counted m then 1 else 0))
    → n + r ≡ count_by (λ (x : Entry). is_counted counted x.1) (take (i + 1) seen)
counted_more counted seen i n r so_far (k, m, at, one) = by (is_counted counted m) refl one
  where
    inside : i < length seen
    inside = slice_get_within seen i (k, m) at

    here : get_or seen i (k, m) ≡ (k, m)
    here = get_or_from_slice_get seen i (k, m) (k, m) at

    by : (b : Bool) → is_counted counted m ≡ b → r ≡ (if b then 1 else 0) → n + r ≡ count_by (λ (x : Entry). is_counted counted x.1) (take (i + 1) seen)
    by true e one =
        let more = count_by_more_yes (λ (x : Entry). is_counted counted x.1) seen i (k, m) inside (ap (λ (x : Entry). is_counted counted x.1) here ∙ e) in
        omega (arith, more, so_far, one)
    by false e one =
        let more = count_by_more_no (λ (x : Entry). is_counted counted x.1) seen i (k, m) inside (ap (λ (x : Entry). is_counted counted x.1) here ∙ e) in
        omega (arith, more, so_far, one)

-- a state that wasn't known goes last
pub added_last : {H : Type 0} (m : IndexMap StoredContents Mark H) (seen new : List Entry) (k : StoredContents) (mark : Mark) → seen ≡ m.entries → knows seen k ≡ false
    → new ≡ insert_entry stored_eq m.entries k mark → new ≡ seen ++ (k, mark) ∷ []
added_last m seen new k mark is unknown added =
    added
    ∙ insert_entry-new stored_eq m k mark (not-there (lookup (stored_eq k) m.entries) (sym (ap (λ (l : List Entry). knows l k) is) ∙ unknown))
    ∙ ap (λ (l : List Entry). l ++ (k, mark) ∷ []) (sym is)
