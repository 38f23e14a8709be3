-- The flags of a queue, in any order.
use Rattle.std.proofs.Common.{◌≡◌, ℕ, ◌+◌, Bool, true, false, not, List, [], ◌∷◌, ◌++◌, cond, Ok, arith, refl, sym, ap, ◌∙◌, inl, inr, subst, append_assoc, append-nil}
use Rattle.std.proofs.lemmas.List.Sorted.{IsPermutation-refl, IsPermutation-sym, IsPermutation-trans, IsPermutation-append_left, IsPermutation-middle, IsPermutation-to_front, sum_by-IsPermutation}
use Rattle.std.proofs.lemmas.List.Sums.{sum_by-append, sum_by-cons}
use Rattle.std.specs.List.{AllByRecursion, sum_by}
use Rattle.std.specs.List.Sorted.{IsPermutation}
use Rattle.std.specs.Str.{bytes_eq}
use Rattle.cmwq_types.specs.Listing.{flag_words, word_if}
use Rattle.cmwq_types.specs.Scenario.{plain_flags}
use Rattle.cmwq_types.specs.declared.check.Fault.TheVariants as fault
use Rattle.cmwq_types.specs.declared.scenario.Flags.{Flags}
use Rattle.cmwq_grammar.specs.LineReasons.{FlagWord, add_among, add_flag, flag_table, flags_at_line, set_once}
use Rattle.cmwq_grammar.specs.declared.why.Why.TheVariants as why
use Rattle.cmwq_grammar.proofs.Basics.{one_if, bind_ok, bind_at, value_if_ok, value_if_at, either, not_true, same_word, word_is, chosen, cond_yes, cond_no}

-- The words of the flags that are set.

abbrev pub words_set : List FlagWord → Flags → List (List ℕ)
words_set [] f = []
words_set (flag ∷ more) f = word_if (flag.has f) flag.word ++ words_set more f

-- behind these words
abbrev words_behind : List (List ℕ) → List FlagWord → Flags → List (List ℕ)
words_behind words [] f = words
words_behind words (flag ∷ more) f = words_behind (words ++ word_if (flag.has f) flag.word) more f

words_are : (words : List (List ℕ)) (flags : List FlagWord) (f : Flags) → words_behind words flags f ≡ words ++ words_set flags f
words_are words [] f = sym (append-nil words)
words_are words (flag ∷ more) f =
    words_are (words ++ word_if (flag.has f) flag.word) more f ∙ append_assoc words (word_if (flag.has f) flag.word) (words_set more f)

pub flag_words_are : (f : Flags) → flag_words f ≡ words_set flag_table f
flag_words_are f = words_are [] flag_table f

words_both : (front back : List FlagWord) (f : Flags) → words_set (front ++ back) f ≡ words_set front f ++ words_set back f
words_both [] back f = refl
words_both (flag ∷ front) back f =
    ap (λ (ws : List (List ℕ)). word_if (flag.has f) flag.word ++ ws) (words_both front back f)
    ∙ sym (append_assoc (word_if (flag.has f) flag.word) (words_set front f) (words_set back f))

-- No two flags are one.

-- setting the one leaves the other, and their words differ
abbrev Apart : FlagWord → FlagWord → Type 0
Apart one other = ((f : Flags) → other.has (one.set f) ≡ other.has f) × (bytes_eq one.word other.word ≡ false)

-- each is set by setting it, and is apart from those before and behind it
abbrev AllApart : List FlagWord → List FlagWord → Type 0
AllApart before [] = Unit {0}
AllApart before (flag ∷ more) =
    ((f : Flags) → flag.has (flag.set f) ≡ true) × AllByRecursion (Apart flag) before × AllByRecursion (Apart flag) more × AllApart (before ++ flag ∷ []) more

flags_apart : AllApart [] flag_table
flags_apart = assumption

others_same : (flag : FlagWord) (others : List FlagWord) (f : Flags) → AllByRecursion (Apart flag) others → words_set others (flag.set f) ≡ words_set others f
others_same flag [] f apart = refl
others_same flag (other ∷ others) f apart =
    ap (λ (b : Bool). word_if b other.word ++ words_set others (flag.set f)) (apart.0.0 f)
    ∙ ap (λ (ws : List (List ℕ)). word_if (other.has f) other.word ++ ws) (others_same flag others f apart.1)

-- A flag that is read is one more word, but for the order.

-- a word in the middle moves to the end
to_end : (front back : List (List ℕ)) (x : List ℕ) → IsPermutation (front ++ x ∷ back) ((front ++ back) ++ x ∷ [])
to_end front back x =
    IsPermutation-trans (front ++ x ∷ back) (x ∷ (front ++ back)) ((front ++ back) ++ x ∷ []) (IsPermutation-middle front x back)
    (IsPermutation-sym ((front ++ back) ++ x ∷ []) (x ∷ (front ++ back)) (IsPermutation-to_front (front ++ back) x))

AddsWord : List FlagWord → Flags → List ℕ → Flags → Type 0
AddsWord flags f word g = IsPermutation (words_set flags g) (words_set flags f ++ word ∷ [])

set_adds : (front back : List FlagWord) (flag : FlagWord) (f : Flags) → ((h : Flags) → flag.has (flag.set h) ≡ true) → AllByRecursion (Apart flag) front
    → AllByRecursion (Apart flag) back → flag.has f ≡ false → AddsWord (front ++ flag ∷ back) f flag.word (flag.set f)
unfolding AddsWord
set_adds front back flag f sets before behind was =
    let a : List (List ℕ) = words_set front f in
    let b : List (List ℕ) = words_set back f in
    let old : words_set (front ++ flag ∷ back) f ≡ a ++ b =
    words_both front (flag ∷ back) f ∙ ap (λ (x : Bool). a ++ (word_if x flag.word ++ b)) was in
    let new : words_set (front ++ flag ∷ back) (flag.set f) ≡ a ++ flag.word ∷ b =
    words_both front (flag ∷ back) (flag.set f)
    ∙ ap (λ (ws : List (List ℕ)). ws ++ (word_if (flag.has (flag.set f)) flag.word ++ words_set back (flag.set f))) (others_same flag front f before)
    ∙ ap (λ (x : Bool). a ++ (word_if x flag.word ++ words_set back (flag.set f))) (sets f)
    ∙ ap (λ (ws : List (List ℕ)). a ++ flag.word ∷ ws) (others_same flag back f behind) in
    subst (λ (ws : List (List ℕ)). IsPermutation ws (words_set (front ++ flag ∷ back) f ++ flag.word ∷ [])) (sym new)
    (subst (λ (ws : List (List ℕ)). IsPermutation (a ++ flag.word ∷ b) (ws ++ flag.word ∷ [])) (sym old) (to_end a b flag.word))

among_adds : (before more : List FlagWord) (f g : Flags) (word : List ℕ) → AllApart before more → add_among more f word ≡ Ok g → AddsWord (before ++ more) f word g
among_adds before [] f g word apart e = cc
among_adds before (flag ∷ more) f g word apart e =
    elim (chosen (bytes_eq word flag.word) (set_once (flag.has f) (flag.set f)) (add_among more f word) (Ok g) e) [
      | inl it ↦ (let set : (not (flag.has f) ≡ true) × (flag.set f ≡ g) = value_if_ok (not (flag.has f)) (flag.set f) (why.Fault fault.Duplicate) g it.1 in
          subst (λ (h : Flags). AddsWord (before ++ flag ∷ more) f word h) set.1
          (subst (λ (w : List ℕ). AddsWord (before ++ flag ∷ more) f w (flag.set f)) (sym (same_word word flag.word it.0))
          (set_adds before more flag f apart.0 apart.1 apart.2 (not_true (flag.has f) set.0))))
      | inr other ↦ subst (λ (flags : List FlagWord). AddsWord flags f word g) (append_assoc before (flag ∷ []) more)
          (among_adds (before ++ flag ∷ []) more f g word apart.3 other.1)
    ]

flag_adds : (f g : Flags) (word : List ℕ) → add_flag f word ≡ Ok g → AddsWord flag_table f word g
unfolding add_flag
flag_adds f g word e = among_adds [] flag_table f g word flags_apart e

-- the flags with these words too are those, but for the order
abbrev Added : Flags → List (List ℕ) → Flags → Type 0
Added f words g = IsPermutation (words_set flag_table g) (words_set flag_table f ++ words)

added_read : (words : List (List ℕ)) (f g : Flags) → flags_at_line words f ≡ Ok g → Added f words g
unfolding flags_at_line AddsWord
added_read [] f g e =
    let same : f ≡ g = cc in
    subst (λ (h : Flags). Added f [] h) same
    (subst (λ (ws : List (List ℕ)). IsPermutation (words_set flag_table f) ws) (sym (append-nil (words_set flag_table f))) (IsPermutation-refl (words_set flag_table f)))
added_read (word ∷ rest) f g e =
    let old : List (List ℕ) = words_set flag_table f in
    let there : (h : Flags) × (add_flag f word ≡ Ok h) × (flags_at_line rest h ≡ Ok g) = bind_ok (add_flag f word) (flags_at_line rest) g e in
    let between : List (List ℕ) = words_set flag_table there.0 in
    subst (λ (ws : List (List ℕ)). IsPermutation (words_set flag_table g) ws) (append_assoc old (word ∷ []) rest)
    (IsPermutation-trans (words_set flag_table g) (between ++ rest) ((old ++ word ∷ []) ++ rest) (added_read rest there.0 g there.2)
    (IsPermutation-append_left rest between (old ++ word ∷ []) (flag_adds f there.0 word there.1)))

pub flags_read : (words : List (List ℕ)) (g : Flags) → flags_at_line words plain_flags ≡ Ok g → IsPermutation (flag_words g) words
flags_read words g e = subst (λ (ws : List (List ℕ)). IsPermutation ws words) (sym (flag_words_are g)) (added_read words plain_flags g e)

-- Again: a flag's word stands once among the words of flags where it is set, and else not.

-- how often the word stands there
abbrev how_often : List ℕ → List (List ℕ) → ℕ
how_often word words = sum_by (λ other. one_if (bytes_eq word other)) words

-- a number that counts where the test holds
abbrev number_if : Bool → ℕ → ℕ
number_if b n = cond b n 0

often_if : (word other : List ℕ) (b : Bool) → how_often word (word_if b other) ≡ number_if b (one_if (bytes_eq word other))
often_if word other true = sum_by-cons (λ x. one_if (bytes_eq word x)) other [] ∙ omega arith
often_if word other false = refl

none_if : (b : Bool) → number_if b 0 ≡ 0
none_if true = refl
none_if false = refl

none_of : (word : List ℕ) (flags : List FlagWord) (f : Flags) → AllByRecursion (λ flag. bytes_eq word flag.word ≡ false) flags → how_often word (words_set flags f) ≡ 0
none_of word [] f differ = refl
none_of word (flag ∷ more) f differ =
    let b : Bool = flag.has f in
    let both : how_often word (word_if b flag.word ++ words_set more f) ≡ how_often word (word_if b flag.word) + how_often word (words_set more f) =
    sum_by-append (λ other. one_if (bytes_eq word other)) (word_if b flag.word) (words_set more f) in
    let here : how_often word (word_if b flag.word) ≡ 0 = often_if word flag.word b ∙ ap (λ (c : Bool). number_if b (one_if c)) differ.0 ∙ none_if b in
    let later : how_often word (words_set more f) ≡ 0 = none_of word more f differ.1 in
    omega arith

differ_of : (flag : FlagWord) (others : List FlagWord) → AllByRecursion (Apart flag) others → AllByRecursion (λ other. bytes_eq flag.word other.word ≡ false) others
differ_of flag [] apart = tt
differ_of flag (other ∷ others) apart = (apart.0.1, differ_of flag others apart.1)

often_of : (front back : List FlagWord) (flag : FlagWord) (f : Flags) → AllByRecursion (Apart flag) front → AllByRecursion (Apart flag) back
    → how_often flag.word (words_set (front ++ flag ∷ back) f) ≡ one_if (flag.has f)
often_of front back flag f before behind =
    let b : Bool = flag.has f in
    let whole : how_often flag.word (words_set (front ++ flag ∷ back) f) ≡ how_often flag.word (words_set front f ++ (word_if b flag.word ++ words_set back f)) =
    ap (how_often flag.word) (words_both front (flag ∷ back) f) in
    let first : how_often flag.word (words_set front f ++ (word_if b flag.word ++ words_set back f))
    ≡ how_often flag.word (words_set front f) + how_often flag.word (word_if b flag.word ++ words_set back f) =
    sum_by-append (λ other. one_if (bytes_eq flag.word other)) (words_set front f) (word_if b flag.word ++ words_set back f) in
    let second : how_often flag.word (word_if b flag.word ++ words_set back f) ≡ how_often flag.word (word_if b flag.word) + how_often flag.word (words_set back f) =
    sum_by-append (λ other. one_if (bytes_eq flag.word other)) (word_if b flag.word) (words_set back f) in
    let none_before : how_often flag.word (words_set front f) ≡ 0 = none_of flag.word front f (differ_of flag front before) in
    let none_behind : how_often flag.word (words_set back f) ≡ 0 = none_of flag.word back f (differ_of flag back behind) in
    let here : how_often flag.word (word_if b flag.word) ≡ one_if b = often_if flag.word flag.word b ∙ ap (λ (c : Bool). number_if b (one_if c)) (word_is flag.word flag.word refl) in
    omega arith

-- what is added counts
added_often : (flags : List FlagWord) (x word : List ℕ) (rest : List (List ℕ)) (f g : Flags) → IsPermutation (words_set flags g) (words_set flags f ++ word ∷ rest)
    → how_often x (words_set flags g) ≡ how_often x (words_set flags f) + (one_if (bytes_eq x word) + how_often x rest)
added_often flags x word rest f g added =
    sym (sum_by-IsPermutation (λ other. one_if (bytes_eq x other)) (words_set flags g) (words_set flags f ++ word ∷ rest) added)
    ∙ sum_by-append (λ other. one_if (bytes_eq x other)) (words_set flags f) (word ∷ rest)
    ∙ ap (λ (n : ℕ). how_often x (words_set flags f) + n) (sum_by-cons (λ other. one_if (bytes_eq x other)) word rest)

unset : (b c : Bool) (n : ℕ) → one_if c ≡ one_if b + (1 + n) → b ≡ false
unset false c n e = refl
unset true true n e = absurd (omega arith)
unset true false n e = absurd (omega arith)

same_bit : (a b : Bool) → one_if a ≡ one_if b → a ≡ b
same_bit true true e = refl
same_bit true false e = absurd (omega arith)
same_bit false true e = absurd (omega arith)
same_bit false false e = refl

-- the word of a flag that is still to be added is one, and the flag isn't set
among_again : (before more : List FlagWord) (f g : Flags) (word : List ℕ) (rest : List (List ℕ)) → AllApart before more
    → AllByRecursion (λ flag. bytes_eq word flag.word ≡ false) before → IsPermutation (words_set (before ++ more) g) (words_set (before ++ more) f ++ word ∷ rest)
    → (h : Flags) × (add_among more f word ≡ Ok h)
among_again before [] f g word rest apart differ added =
    let flags : List FlagWord = before ++ [] in
    let all : AllByRecursion (λ flag. bytes_eq word flag.word ≡ false) flags = subst (AllByRecursion (λ flag. bytes_eq word flag.word ≡ false)) (sym (append-nil before)) differ in
    let none : how_often word (words_set flags g) ≡ 0 = none_of word flags g all in
    let count = added_often flags word word rest f g added in
    let one : one_if (bytes_eq word word) ≡ 1 = ap one_if (word_is word word refl) in
    absurd (omega arith)
among_again before (flag ∷ more) f g word rest apart differ added =
    elim (either (bytes_eq word flag.word)) [
      | inl it ↦ (
          let flags : List FlagWord = before ++ flag ∷ more in
          let count = added_often flags flag.word word rest f g added in
          let one : one_if (bytes_eq flag.word word) ≡ 1 = ap one_if (word_is flag.word word (sym (same_word word flag.word it))) in
          let new : how_often flag.word (words_set flags g) ≡ one_if (flag.has g) = often_of before more flag g apart.1 apart.2 in
          let old : how_often flag.word (words_set flags f) ≡ one_if (flag.has f) = often_of before more flag f apart.1 apart.2 in
          let was : flag.has f ≡ false = unset (flag.has f) (flag.has g) (how_often flag.word rest) (omega arith) in
          (flag.set f, cond_yes (bytes_eq word flag.word) (set_once (flag.has f) (flag.set f)) (add_among more f word) it ∙ value_if_at (not (flag.has f)) (flag.set f) (why.Fault fault.Duplicate) (ap not was)))
      | inr other ↦ (
          let later = among_again (before ++ flag ∷ []) more f g word rest apart.3 (differ_more before differ other)
          (subst (λ (flags : List FlagWord). IsPermutation (words_set flags g) (words_set flags f ++ word ∷ rest)) (sym (append_assoc before (flag ∷ []) more)) added) in
          (later.0, cond_no (bytes_eq word flag.word) (set_once (flag.has f) (flag.set f)) (add_among more f word) other ∙ later.1))
    ]
  where
    differ_more : (flags : List FlagWord) → AllByRecursion (λ x. bytes_eq word x.word ≡ false) flags → bytes_eq word flag.word ≡ false → AllByRecursion (λ x. bytes_eq word x.word ≡ false) (flags ++ flag ∷ [])
    differ_more [] all here = (here, tt)
    differ_more (x ∷ flags) all here = (all.0, differ_more flags all.1 here)

-- flags of the same words are the same
all_same : (before more : List FlagWord) (f g : Flags) → AllApart before more → IsPermutation (words_set (before ++ more) g) (words_set (before ++ more) f)
    → AllByRecursion (λ flag. flag.has f ≡ flag.has g) more
all_same before [] f g apart same = tt
all_same before (flag ∷ more) f g apart same =
    let flags : List FlagWord = before ++ flag ∷ more in
    let count : how_often flag.word (words_set flags f) ≡ how_often flag.word (words_set flags g) =
    sum_by-IsPermutation (λ other. one_if (bytes_eq flag.word other)) (words_set flags g) (words_set flags f) same in
    let here : one_if (flag.has f) ≡ one_if (flag.has g) =
    sym (often_of before more flag f apart.1 apart.2) ∙ count ∙ often_of before more flag g apart.1 apart.2 in (
      same_bit (flag.has f) (flag.has g) here,
      all_same (before ++ flag ∷ []) more f g apart.3
          (subst (λ (all : List FlagWord). IsPermutation (words_set all g) (words_set all f)) (sym (append_assoc before (flag ∷ []) more)) same),
    )

same_flags : (f g : Flags) → AllByRecursion (λ flag. flag.has f ≡ flag.has g) flag_table → f ≡ g
same_flags f g same = grind arith

added_again : (words : List (List ℕ)) (f g : Flags) → Added f words g → flags_at_line words f ≡ Ok g
unfolding flags_at_line add_flag AddsWord
added_again [] f g added =
    ap Ok (same_flags f g (all_same [] flag_table f g flags_apart (subst (IsPermutation (words_set flag_table g)) (append-nil (words_set flag_table f)) added)))
added_again (word ∷ rest) f g added =
    let old : List (List ℕ) = words_set flag_table f in
    let there = among_again [] flag_table f g word rest flags_apart tt added in
    let between : List (List ℕ) = words_set flag_table there.0 in
    let one : IsPermutation between (old ++ word ∷ []) = flag_adds f there.0 word there.1 in
    let joined : IsPermutation (words_set flag_table g) ((old ++ word ∷ []) ++ rest) =
    subst (IsPermutation (words_set flag_table g)) (sym (append_assoc old (word ∷ []) rest)) added in
    bind_at (add_flag f word) (flags_at_line rest) there.0 there.1
    ∙ added_again rest there.0 g (IsPermutation-trans (words_set flag_table g) ((old ++ word ∷ []) ++ rest) (between ++ rest) joined
    (IsPermutation-append_left rest (old ++ word ∷ []) between (IsPermutation-sym between (old ++ word ∷ []) one)))

pub flags_again : (g : Flags) (words : List (List ℕ)) → IsPermutation (flag_words g) words → flags_at_line words plain_flags ≡ Ok g
flags_again g words h = added_again words plain_flags g (subst (λ (ws : List (List ℕ)). IsPermutation ws words) (flag_words_are g) h)
