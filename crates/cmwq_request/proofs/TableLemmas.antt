-- What stands in the table of the command line is read so.
use Rattle.std.proofs.Common.{◌≡◌, ◌∙◌, ◌⊎◌, inl, inr, ap, ap₂, refl, sym, Bool, true, false, bytes_eq, List, [], ◌∷◌, codes}
use Rattle.std.proofs.lemmas.Bool.{and_parts}
use Rattle.std.specs.Cmp.Lexicographic.{bytes_decides}
use Rattle.clap.specs.Words.{Text}
use Rattle.cmwq_request.specs.Request.{IsAskedBy, IsMisuse, IsMisusedBy, IsRead, asks_for_language}
use Rattle.cmwq_request.proofs.RequestLemmas.{asm_read, check_read, check_two_read, list_read, new_file_read, new_read, play_read, run_read, run_strict_read, settle_read, show_read}
use Rattle.cmwq_request.proofs.DebugLemmas.{debug_read, input_misused}
use Rattle.cmwq_request.proofs.ExploreLemmas.{explore_read, explore_usual_read, limit_misused, never_misused, ring_misused}
use Rattle.cmwq_request.proofs.ReportLemmas.{both_kinds_misused, no_form_misused, no_limits_misused, sweep_read, times_read, trace_data_read, trace_read, two_forms_misused, whom_swept_misused}
use Rattle.cmwq_request.proofs.DrawLemmas.{backwards_misused, draw_folded_read, draw_read, draw_styled_read, draw_works_read}
use Rattle.cmwq_request.proofs.WhyLemmas.{at_both_misused, at_two_misused, both_misused, flush_first_read, flush_read, neither_misused, no_flush_misused, no_place_misused, work_first_read, work_read}

-- the words that ask what a scenario's text may say
abbrev pub language_words : List Text
language_words = codes "help" ∷ codes "scenario" ∷ []

-- what is asked for goes by clap, but for that
pub asked_read : (words : List Text) (name : Text) (given asked : List Text) → words ≡ name ∷ given → IsAskedBy given asked
    → IsRead words asked ⊎ ((given ≡ language_words) × (asked ≡ language_words))
asked_read words name given asked are IsAskedBy.new = inl (new_read words name are)
asked_read words name given asked are (IsAskedBy.new_file file plain) = inl (new_file_read words name file are plain)
asked_read words name given asked are (IsAskedBy.run kind file plain) = inl (run_read words name file kind are plain)
asked_read words name given asked are (IsAskedBy.run_strict kind file plain) = inl (run_strict_read words name file kind are plain)
asked_read words name given asked are (IsAskedBy.settle file plain) = inl (settle_read words name file are plain)
asked_read words name given asked are (IsAskedBy.list file plain) = inl (list_read words name file are plain)
asked_read words name given asked are (IsAskedBy.asm file out plain plain_out) = inl (asm_read words name file out are plain plain_out)
asked_read words name given asked are (IsAskedBy.show image plain) = inl (show_read words name image are plain)
asked_read words name given asked are (IsAskedBy.debug goes_on file plain) = inl (debug_read words name file goes_on are plain)
asked_read words name given asked are (IsAskedBy.draw goes_on svg span file plain is_span) = inl (draw_read words name file goes_on svg span are plain is_span)
asked_read words name given asked are (IsAskedBy.draw_folded goes_on svg file plain) = inl (draw_folded_read words name file goes_on svg are plain)
asked_read words name given asked are (IsAskedBy.draw_works names file plain_names plain) = inl (draw_works_read words name names file are plain_names plain)
asked_read words name given asked are (IsAskedBy.draw_styled scale id file fits plain) = inl (draw_styled_read words name file scale id are fits plain)
asked_read words name given asked are (IsAskedBy.why_work goes_on looks file work plain plain_work short) = inl (work_read words name file work goes_on looks are plain plain_work short)
asked_read words name given asked are (IsAskedBy.why_flush goes_on looks flush file plain few short) = inl (flush_read words name file flush goes_on looks are plain few short)
asked_read words name given asked are (IsAskedBy.why_work_first looks file work plain plain_work short) = inl (work_first_read words name file work looks are plain plain_work short)
asked_read words name given asked are (IsAskedBy.why_flush_first looks flush file plain few short) = inl (flush_first_read words name file flush looks are plain few short)
asked_read words name given asked are (IsAskedBy.times times file plain) = inl (times_read words name file times are plain)
asked_read words name given asked are (IsAskedBy.trace form file plain) = inl (trace_read words name file form are plain)
asked_read words name given asked are (IsAskedBy.sweep format queue limits file plain_queue fit plain) = inl (sweep_read words name file queue format limits are plain_queue fit plain)
asked_read words name given asked are (IsAskedBy.trace_data file out plain plain_out) = inl (trace_data_read words name file out are plain plain_out)
asked_read words name given asked are (IsAskedBy.play file capacity plain fits) = inl (play_read words name file capacity are plain fits)
asked_read words name given asked are (IsAskedBy.explore exploration file plain can) = inl (explore_read words name file exploration are plain can)
asked_read words name given asked are (IsAskedBy.explore_usual never before file plain can) = inl (explore_usual_read words name file never before are plain can)
asked_read words name given asked are (IsAskedBy.check file plain) = inl (check_read words name file are plain)
asked_read words name given asked are (IsAskedBy.check_two file other plain plain_other) = inl (check_two_read words name file other are plain plain_other)
asked_read words name given asked are IsAskedBy.language = inr (refl, refl)

pub given_misused : (words : List Text) (name : Text) (given : List Text) → words ≡ name ∷ given → IsMisusedBy given → IsMisuse words
given_misused words name given are (IsMisusedBy.of_neither file plain) = neither_misused words name file are plain
given_misused words name given are (IsMisusedBy.of_both number file work value plain plain_work) = both_misused words name number file work are value plain plain_work
given_misused words name given are (IsMisusedBy.of_no_number number file value none plain) = no_flush_misused words name number file are value none plain
given_misused words name given are (IsMisusedBy.at_both number file work value plain plain_work) = at_both_misused words name number file work are value plain plain_work
given_misused words name given are (IsMisusedBy.at_no_number number file work value none plain plain_work) = no_place_misused words name number file work are value none plain plain_work
given_misused words name given are (IsMisusedBy.at_position_and_time number time file work value other plain plain_work) = at_two_misused words name number time file work are value other plain plain_work
given_misused words name given are (IsMisusedBy.drawn_backwards from to file behind small plain) = backwards_misused words name from to file are behind small plain
given_misused words name given are (IsMisusedBy.explore_never options file plain names none) = never_misused words name file options are plain names none
given_misused words name given are (IsMisusedBy.explore_ring never before ring file plain names pairs is) = ring_misused words name file never before ring are plain names pairs is
given_misused words name given are (IsMisusedBy.explore_no_limit never number file plain names value none) = limit_misused words name number file never are plain names value none
given_misused words name given are (IsMisusedBy.traced_as_nothing file plain) = no_form_misused words name file are plain
given_misused words name given are (IsMisusedBy.traced_as_both file plain) = two_forms_misused words name file are plain
given_misused words name given are (IsMisusedBy.traced_as_both_kinds form file out plain plain_out) = both_kinds_misused words name file out form are plain plain_out
given_misused words name given are (IsMisusedBy.swept_over_no_limits queue word file plain plain_queue value none) = no_limits_misused words name queue word file are plain plain_queue value none
given_misused words name given are (IsMisusedBy.swept_with_whom queue word file plain plain_queue value) = whom_swept_misused words name queue word file are plain plain_queue value
given_misused words name given are IsMisusedBy.debug_of_input = input_misused words name are

-- what asks for it, word by word
pub is_language : (words : List Text) (name : Text) (given : List Text) → words ≡ name ∷ given → asks_for_language words ≡ true → given ≡ language_words
is_language words name [] are asks = absurd (let e : false ≡ true = sym (ap asks_for_language are) ∙ asks in cc)
is_language words name (one ∷ []) are asks = absurd (let e : false ≡ true = sym (ap asks_for_language are) ∙ asks in cc)
is_language words name (one ∷ other ∷ []) are asks =
    let both = and_parts (bytes_eq one (codes "help")) (bytes_eq other (codes "scenario")) (sym (ap asks_for_language are) ∙ asks) in
    ap₂ (λ (a b : Text). a ∷ b ∷ []) ((bytes_decides one (codes "help")).0 both.0) ((bytes_decides other (codes "scenario")).0 both.1)
is_language words name (one ∷ other ∷ third ∷ more) are asks = absurd (let e : false ≡ true = sym (ap asks_for_language are) ∙ asks in cc)

-- and words that don't, where `help scenario` stands behind a name
pub language_asked : (words : List Text) (name : Text) (given : List Text) → words ≡ name ∷ given → given ≡ language_words → asks_for_language words ≡ true
language_asked words name given are is = ap asks_for_language (are ∙ ap (λ (behind : List Text). name ∷ behind) is)

-- whether the first word is `help`
abbrev begins_with_help : List Text → Bool
begins_with_help [] = false
begins_with_help (word ∷ words) = bytes_eq word (codes "help")

is_no_help : (words : List Text) → begins_with_help words ≡ false → words ≡ language_words → ⊥
is_no_help words other are = let both : false ≡ true = sym other ∙ ap begins_with_help are in absurd cc

-- words that ask for it ask for nothing else
pub asked_language : (given asked : List Text) → given ≡ language_words → IsAskedBy given asked → asked ≡ language_words
asked_language given asked are IsAskedBy.language = refl
asked_language given asked are IsAskedBy.new = absurd (is_no_help given refl are)
asked_language given asked are (IsAskedBy.new_file file plain) = absurd (is_no_help given refl are)
asked_language given asked are (IsAskedBy.run kind file plain) = absurd (is_no_help given refl are)
asked_language given asked are (IsAskedBy.run_strict kind file plain) = absurd (is_no_help given refl are)
asked_language given asked are (IsAskedBy.settle file plain) = absurd (is_no_help given refl are)
asked_language given asked are (IsAskedBy.list file plain) = absurd (is_no_help given refl are)
asked_language given asked are (IsAskedBy.asm file out plain plain_out) = absurd (is_no_help given refl are)
asked_language given asked are (IsAskedBy.show image plain) = absurd (is_no_help given refl are)
asked_language given asked are (IsAskedBy.debug goes_on file plain) = absurd (is_no_help given refl are)
asked_language given asked are (IsAskedBy.draw goes_on svg span file plain is_span) = absurd (is_no_help given refl are)
asked_language given asked are (IsAskedBy.draw_folded goes_on svg file plain) = absurd (is_no_help given refl are)
asked_language given asked are (IsAskedBy.draw_works names file plain_names plain) = absurd (is_no_help given refl are)
asked_language given asked are (IsAskedBy.draw_styled scale id file fits plain) = absurd (is_no_help given refl are)
asked_language given asked are (IsAskedBy.why_work goes_on looks file work plain plain_work short) = absurd (is_no_help given refl are)
asked_language given asked are (IsAskedBy.why_flush goes_on looks flush file plain few short) = absurd (is_no_help given refl are)
asked_language given asked are (IsAskedBy.why_work_first looks file work plain plain_work short) = absurd (is_no_help given refl are)
asked_language given asked are (IsAskedBy.why_flush_first looks flush file plain few short) = absurd (is_no_help given refl are)
asked_language given asked are (IsAskedBy.times times file plain) = absurd (is_no_help given refl are)
asked_language given asked are (IsAskedBy.trace form file plain) = absurd (is_no_help given refl are)
asked_language given asked are (IsAskedBy.sweep format queue limits file plain_queue fit plain) = absurd (is_no_help given refl are)
asked_language given asked are (IsAskedBy.trace_data file out plain plain_out) = absurd (is_no_help given refl are)
asked_language given asked are (IsAskedBy.play file capacity plain fits) = absurd (is_no_help given refl are)
asked_language given asked are (IsAskedBy.explore exploration file plain can) = absurd (is_no_help given refl are)
asked_language given asked are (IsAskedBy.explore_usual never before file plain can) = absurd (is_no_help given refl are)
asked_language given asked are (IsAskedBy.check file plain) = absurd (is_no_help given refl are)
asked_language given asked are (IsAskedBy.check_two file other plain plain_other) = absurd (is_no_help given refl are)

pub misused_language : (given : List Text) → given ≡ language_words → IsMisusedBy given → ⊥
misused_language given are (IsMisusedBy.of_neither file plain) = is_no_help given refl are
misused_language given are (IsMisusedBy.of_both number file work value plain plain_work) = is_no_help given refl are
misused_language given are (IsMisusedBy.of_no_number number file value none plain) = is_no_help given refl are
misused_language given are (IsMisusedBy.at_both number file work value plain plain_work) = is_no_help given refl are
misused_language given are (IsMisusedBy.at_no_number number file work value none plain plain_work) = is_no_help given refl are
misused_language given are (IsMisusedBy.at_position_and_time number time file work value other plain plain_work) = is_no_help given refl are
misused_language given are (IsMisusedBy.drawn_backwards from to file behind small plain) = is_no_help given refl are
misused_language given are (IsMisusedBy.explore_never options file plain names none) = is_no_help given refl are
misused_language given are (IsMisusedBy.explore_ring never before ring file plain names pairs is) = is_no_help given refl are
misused_language given are (IsMisusedBy.explore_no_limit never number file plain names value none) = is_no_help given refl are
misused_language given are (IsMisusedBy.traced_as_nothing file plain) = is_no_help given refl are
misused_language given are (IsMisusedBy.traced_as_both file plain) = is_no_help given refl are
misused_language given are (IsMisusedBy.traced_as_both_kinds form file out plain plain_out) = is_no_help given refl are
misused_language given are (IsMisusedBy.swept_over_no_limits queue word file plain plain_queue value none) = is_no_help given refl are
misused_language given are (IsMisusedBy.swept_with_whom queue word file plain plain_queue value) = is_no_help given refl are
misused_language given are IsMisusedBy.debug_of_input = is_no_help given refl are
