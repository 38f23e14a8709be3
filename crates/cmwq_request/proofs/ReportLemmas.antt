-- What clap makes of the words of `times` and `trace`.
use Rattle.std.proofs.Common.{ap, inl, inr, sym, ◌≡◌, ◌∙◌, ℕ, Bool, List, [], ◌∷◌, ◌++◌, true, false, Option, None, Some, codes, refl, option_and_then, option_map}
use Rattle.clap.specs.Words.{Row, Text, subcommand_of, takes}
use Rattle.clap.proofs.OnLiterals.{clap_on_literals}
use Rattle.cmwq_reports.specs.declared.report.Format.{Format}
use Rattle.cmwq_reports.specs.declared.report.Format.TheVariants.{Text as AsWords, Json as AsJson}
use Rattle.cmwq_reports.specs.declared.report.LimitRange.{LimitRange}
use Rattle.cmwq_reports.specs.declared.report.Times.{Times}
use Rattle.cmwq_reports.specs.declared.report.TraceForm.{TraceForm}
use Rattle.cmwq_reports.specs.declared.report.TraceForm.TheVariants.{Json, Lines, Text as AsText}
use Rattle.cmwq_request.proofs.DrawLemmas.{file_begins, plain_begins}
use Rattle.cmwq_request.proofs.WalkingLemmas.{ends, has_times, has_trace, is_option_word, on, on_plain, taken, times_shape, trace_shape}
use Rattle.cmwq_command_line.specs.CommandLine.{command_line}
use Rattle.cmwq_request.proofs.LimitLemmas.{limits_plain, limits_read}
use Rattle.cmwq_request.proofs.WhyLemmas.{value_begins}
use Rattle.cmwq_request.specs.Numbers.{are_limits, limits_in, limits_word}
use Rattle.cmwq_request.specs.Request.{HasCapacity, IsFileWord, IsMisuse, IsPlainWord, IsRead, IsValueWord, asked_of, asked_times, asked_trace, data_arguments, file_to_time, file_to_trace, flag_of, is_json, option_words, sweep_arguments, times_arguments, trace_arguments}

-- clap takes these words behind the command's name, and they are what is read
abbrev IsReadOf : (command : Text) → List Text → Text → Type 0
IsReadOf command arguments name =
    (takes command_line (name ∷ command ∷ arguments) ≡ true)
    × (asked_of (subcommand_of command_line (name ∷ command ∷ arguments)) ≡ Some (command ∷ arguments))

-- clap takes these words behind the command's name, and what is read of them is this, if anything is
record Asks (command : Text) (words : List Text) (asked : Option (List Text)) : Type 0 where
  takes : (name : Text) → (takes command_line (name ∷ command ∷ words) ≡ true) × (asked_of (subcommand_of command_line (name ∷ command ∷ words)) ≡ asked)

-- no play is asked for
no_capacity_of_times : (words : List Text) → HasCapacity (codes "times" ∷ words)
no_capacity_of_times [] = tt
no_capacity_of_times (a ∷ []) = tt
no_capacity_of_times (a ∷ b ∷ []) = tt
no_capacity_of_times (a ∷ b ∷ c ∷ []) = tt
no_capacity_of_times (a ∷ b ∷ c ∷ d ∷ more) = tt

no_capacity_of_trace : (words : List Text) → HasCapacity (codes "trace" ∷ words)
no_capacity_of_trace [] = tt
no_capacity_of_trace (a ∷ []) = tt
no_capacity_of_trace (a ∷ b ∷ []) = tt
no_capacity_of_trace (a ∷ b ∷ c ∷ []) = tt
no_capacity_of_trace (a ∷ b ∷ c ∷ d ∷ more) = tt

-- `times`.

abbrev told_as : Format → Bool → Times
told_as format whom = record { format = format; whom = whom }

timed : (format : Format) (whom : Bool) (file : Text) → is_option_word file ≡ false → (name : Text) → IsReadOf (codes "times") (times_arguments (told_as format whom) file) name
unfolding clap_on_literals times_shape
timed AsWords false file p name =
    let met = taken has_times name _ _ (on_plain times_shape _ file _ _ p refl refl refl (ends times_shape _)) refl in
    (met.0, ap asked_of met.1)
timed AsWords true file p name =
    let met = taken has_times name _ _
    (on times_shape _ (codes "--whom") _ _ refl (on_plain times_shape _ file _ _ p refl refl refl (ends times_shape _)))
    refl in
    (met.0, ap asked_of met.1)
timed AsJson false file p name =
    let met = taken has_times name _ _
    (on times_shape _ (codes "--json") _ _ refl (on_plain times_shape _ file _ _ p refl refl refl (ends times_shape _)))
    refl in
    (met.0, ap asked_of met.1)
timed AsJson true file p name =
    let met = taken has_times name _ _
    (on times_shape _ (codes "--json") _ _ refl
    (on times_shape _ (codes "--whom") _ _ refl (on_plain times_shape _ file _ _ p refl refl refl (ends times_shape _))))
    refl in
    (met.0, ap asked_of met.1)

pub times_read : (words : List Text) (name file : Text) (asked : Times) → words ≡ name ∷ codes "times" ∷ times_arguments asked file → IsFileWord file
    → IsRead words (codes "times" ∷ times_arguments asked file)
times_read words name file asked are plain =
    let met = timed asked.format asked.whom file (file_begins file plain) name in
    rw are (met.0, met.1, no_capacity_of_times (times_arguments asked file))

-- what is read where --sweep has these two words
abbrev swept_by : (format : Format) → (queue word file : Text) → Option (List Text)
swept_by format queue word file = option_map (λ limits. codes "times" ∷ sweep_arguments format queue limits file) (limits_in word)

abbrev words_to_sweep : (format : Format) → (queue word file : Text) → List Text
words_to_sweep format queue word file = option_words (codes "--json") (is_json format) ++ (file ∷ codes "--sweep" ∷ queue ∷ word ∷ [])

sweeps : (format : Format) (queue word file : Text) → is_option_word queue ≡ false → is_option_word word ≡ false → is_option_word file ≡ false
    → Asks (codes "times") (words_to_sweep format queue word file) (swept_by format queue word file)
unfolding clap_on_literals times_shape
sweeps AsWords queue word file q w f = record {
  takes = λ name.
      let met = taken has_times name _ _
      (on_plain times_shape _ file _ _ f refl refl refl
      (on times_shape _ (codes "--sweep") _ _ refl
      (on_plain times_shape _ queue _ _ q refl refl refl (on_plain times_shape _ word _ _ w refl refl refl (ends times_shape _)))))
      refl in
      (met.0, ap asked_of met.1);
}
sweeps AsJson queue word file q w f = record {
  takes = λ name.
      let met = taken has_times name _ _
      (on times_shape _ (codes "--json") _ _ refl
      (on_plain times_shape _ file _ _ f refl refl refl
      (on times_shape _ (codes "--sweep") _ _ refl
      (on_plain times_shape _ queue _ _ q refl refl refl (on_plain times_shape _ word _ _ w refl refl refl (ends times_shape _))))))
      refl in
      (met.0, ap asked_of met.1);
}

pub sweep_read : (words : List Text) (name file queue : Text) (format : Format) (limits : LimitRange) → words ≡ name ∷ codes "times" ∷ sweep_arguments format queue limits file
    → IsPlainWord queue → are_limits limits.low limits.high ≡ true → IsFileWord file → IsRead words (codes "times" ∷ sweep_arguments format queue limits file)
sweep_read words name file queue format limits are plain_queue fit plain =
    let met = (sweeps format queue (limits_word limits) file (plain_begins queue plain_queue) (limits_plain limits fit) (file_begins file plain)).takes name in
    let asked = ap (option_map (λ (l : LimitRange). codes "times" ∷ sweep_arguments format queue l file)) (limits_read limits fit) in
    rw are (met.0, met.1 ∙ asked, no_capacity_of_times (sweep_arguments format queue limits file))

-- values that no max may have
pub no_limits_misused : (words : List Text) (name queue word file : Text) → words ≡ name ∷ codes "times" ∷ file ∷ codes "--sweep" ∷ queue ∷ word ∷ []
    → IsPlainWord file → IsPlainWord queue → IsValueWord word → limits_in word ≡ None → IsMisuse words
unfolding clap_on_literals times_shape
no_limits_misused words name queue word file are plain plain_queue value none =
    let met = taken has_times name _ _
    (on_plain times_shape _ file _ _ (plain_begins file plain) refl refl refl
    (on times_shape _ (codes "--sweep") _ _ refl
    (on_plain times_shape _ queue _ _ (plain_begins queue plain_queue) refl refl refl
    (on_plain times_shape _ word _ _ (value_begins word value) refl refl refl (ends times_shape _)))))
    refl in
    let nothing = ap (option_map (λ (l : LimitRange). codes "times" ∷ sweep_arguments AsWords queue l file)) none in
    rw are (met.0, _, met.1, inr (inr (inr (inr (inr (refl, (false, false, refl, refl, nothing)))))))

-- whom they waited for, in each of the runs
pub whom_swept_misused : (words : List Text) (name queue word file : Text) → words ≡ name ∷ codes "times" ∷ codes "--whom" ∷ file ∷ codes "--sweep" ∷ queue ∷ word ∷ []
    → IsPlainWord file → IsPlainWord queue → IsValueWord word → IsMisuse words
unfolding clap_on_literals times_shape
whom_swept_misused words name queue word file are plain plain_queue value =
    let met = taken has_times name _ _
    (on times_shape _ (codes "--whom") _ _ refl
    (on_plain times_shape _ file _ _ (plain_begins file plain) refl refl refl
    (on times_shape _ (codes "--sweep") _ _ refl
    (on_plain times_shape _ queue _ _ (plain_begins queue plain_queue) refl refl refl
    (on_plain times_shape _ word _ _ (value_begins word value) refl refl refl (ends times_shape _))))))
    refl in
    rw are (met.0, _, met.1, inr (inr (inr (inr (inr (refl, (false, true, refl, refl, refl)))))))

-- `trace`.

traced : (form : TraceForm) (file : Text) → is_option_word file ≡ false → (name : Text) → IsReadOf (codes "trace") (trace_arguments form file) name
unfolding clap_on_literals trace_shape
traced Json file p name =
    let met = taken has_trace name _ _
    (on trace_shape _ (codes "--json") _ _ refl (on_plain trace_shape _ file _ _ p refl refl refl (ends trace_shape _)))
    refl in
    (met.0, ap asked_of met.1)
traced Lines file p name =
    let met = taken has_trace name _ _
    (on trace_shape _ (codes "--lines") _ _ refl (on_plain trace_shape _ file _ _ p refl refl refl (ends trace_shape _)))
    refl in
    (met.0, ap asked_of met.1)
traced AsText file p name =
    let met = taken has_trace name _ _
    (on trace_shape _ (codes "--text") _ _ refl (on_plain trace_shape _ file _ _ p refl refl refl (ends trace_shape _)))
    refl in
    (met.0, ap asked_of met.1)

pub trace_read : (words : List Text) (name file : Text) (form : TraceForm) → words ≡ name ∷ codes "trace" ∷ trace_arguments form file → IsFileWord file
    → IsRead words (codes "trace" ∷ trace_arguments form file)
trace_read words name file form are plain =
    let met = traced form file (file_begins file plain) name in
    rw are (met.0, met.1, no_capacity_of_trace (trace_arguments form file))

recorded : (file out : Text) → is_option_word file ≡ false → is_option_word out ≡ false → (name : Text) → IsReadOf (codes "trace") (data_arguments file out) name
unfolding clap_on_literals trace_shape
recorded file out f o name =
    let met = taken has_trace name _ _
    (on_plain trace_shape _ file _ _ f refl refl refl
    (on trace_shape _ (codes "--dat") _ _ refl (on_plain trace_shape _ out _ _ o refl refl refl (ends trace_shape _))))
    refl in
    (met.0, ap asked_of met.1)

pub trace_data_read : (words : List Text) (name file out : Text) → words ≡ name ∷ codes "trace" ∷ data_arguments file out → IsFileWord file → IsPlainWord out
    → IsRead words (codes "trace" ∷ data_arguments file out)
trace_data_read words name file out are plain plain_out =
    let met = recorded file out (file_begins file plain) (plain_begins out plain_out) name in
    rw are (met.0, met.1, no_capacity_of_trace (data_arguments file out))

-- No form, two, and one beside a file.

no_form_met : (file : Text) → is_option_word file ≡ false → (name : Text) → IsMisuse (name ∷ codes "trace" ∷ file ∷ [])
unfolding clap_on_literals trace_shape
no_form_met file p name =
    let met = taken has_trace name _ _ (on_plain trace_shape _ file _ _ p refl refl refl (ends trace_shape _)) refl in
    (met.0, _, met.1, inr (inr (inr (inr (inl (refl, (false, false, false, refl, refl, refl, refl)))))))

pub no_form_misused : (words : List Text) (name file : Text) → words ≡ name ∷ codes "trace" ∷ file ∷ [] → IsPlainWord file → IsMisuse words
no_form_misused words name file are plain = rw are (no_form_met file (plain_begins file plain) name)

two_forms_met : (file : Text) → is_option_word file ≡ false → (name : Text) → IsMisuse (name ∷ codes "trace" ∷ codes "--json" ∷ codes "--lines" ∷ file ∷ [])
unfolding clap_on_literals trace_shape
two_forms_met file p name =
    let met = taken has_trace name _ _
    (on trace_shape _ (codes "--json") _ _ refl
    (on trace_shape _ (codes "--lines") _ _ refl (on_plain trace_shape _ file _ _ p refl refl refl (ends trace_shape _))))
    refl in
    (met.0, _, met.1, inr (inr (inr (inr (inl (refl, (true, true, false, refl, refl, refl, refl)))))))

pub two_forms_misused : (words : List Text) (name file : Text) → words ≡ name ∷ codes "trace" ∷ codes "--json" ∷ codes "--lines" ∷ file ∷ [] → IsPlainWord file
    → IsMisuse words
two_forms_misused words name file are plain = rw are (two_forms_met file (plain_begins file plain) name)

both_kinds_met : (form : TraceForm) (file out : Text) → is_option_word file ≡ false → is_option_word out ≡ false → (name : Text)
    → IsMisuse (name ∷ codes "trace" ∷ codes "--dat" ∷ out ∷ trace_arguments form file)
unfolding clap_on_literals trace_shape
both_kinds_met Json file out f o name =
    let met = taken has_trace name _ _
    (on trace_shape _ (codes "--dat") _ _ refl
    (on_plain trace_shape _ out _ _ o refl refl refl
    (on trace_shape _ (codes "--json") _ _ refl (on_plain trace_shape _ file _ _ f refl refl refl (ends trace_shape _)))))
    refl in
    (met.0, _, met.1, inr (inr (inr (inr (inl (refl, (true, false, false, refl, refl, refl, refl)))))))
both_kinds_met Lines file out f o name =
    let met = taken has_trace name _ _
    (on trace_shape _ (codes "--dat") _ _ refl
    (on_plain trace_shape _ out _ _ o refl refl refl
    (on trace_shape _ (codes "--lines") _ _ refl (on_plain trace_shape _ file _ _ f refl refl refl (ends trace_shape _)))))
    refl in
    (met.0, _, met.1, inr (inr (inr (inr (inl (refl, (false, true, false, refl, refl, refl, refl)))))))
both_kinds_met AsText file out f o name =
    let met = taken has_trace name _ _
    (on trace_shape _ (codes "--dat") _ _ refl
    (on_plain trace_shape _ out _ _ o refl refl refl
    (on trace_shape _ (codes "--text") _ _ refl (on_plain trace_shape _ file _ _ f refl refl refl (ends trace_shape _)))))
    refl in
    (met.0, _, met.1, inr (inr (inr (inr (inl (refl, (false, false, true, refl, refl, refl, refl)))))))

pub both_kinds_misused : (words : List Text) (name file out : Text) (form : TraceForm) → words ≡ name ∷ codes "trace" ∷ codes "--dat" ∷ out ∷ trace_arguments form file
    → IsPlainWord file → IsPlainWord out → IsMisuse words
both_kinds_misused words name file out form are plain plain_out = rw are (both_kinds_met form file out (plain_begins file plain) (plain_begins out plain_out) name)

-- What is read of the values.

pub times_met : (rows : List Row) (asked : List Text) → file_to_time rows ≡ Some asked
    → (json : Bool) × (whom : Bool) × (flag_of (codes "json") rows ≡ Some json) × (flag_of (codes "whom") rows ≡ Some whom) × (asked_times json whom rows ≡ Some asked)
times_met rows asked = by (flag_of (codes "json") rows) (flag_of (codes "whom") rows)
  where
    by : (json whom : Option Bool) → option_and_then (λ j. option_and_then (λ w. asked_times j w rows) whom) json ≡ Some asked
        → (j : Bool) × (w : Bool) × (json ≡ Some j) × (whom ≡ Some w) × (asked_times j w rows ≡ Some asked)
    by (Some j) (Some w) e = (j, w, refl, refl, e)
    by (Some j) None e = absurd cc
    by None whom e = absurd cc

pub trace_met : (rows : List Row) (asked : List Text) → file_to_trace rows ≡ Some asked
    → (json : Bool) × (lines : Bool) × (text : Bool) × (flag_of (codes "json") rows ≡ Some json) × (flag_of (codes "lines") rows ≡ Some lines)
    × (flag_of (codes "text") rows ≡ Some text)
    × (asked_trace json lines text rows ≡ Some asked)
trace_met rows asked = by (flag_of (codes "json") rows) (flag_of (codes "lines") rows) (flag_of (codes "text") rows)
  where
    by : (json lines text : Option Bool)
        → option_and_then (λ j. option_and_then (λ l. option_and_then (λ t. asked_trace j l t rows) text) lines) json ≡ Some asked
        → (j : Bool) × (l : Bool) × (t : Bool) × (json ≡ Some j) × (lines ≡ Some l) × (text ≡ Some t) × (asked_trace j l t rows ≡ Some asked)
    by (Some j) (Some l) (Some t) e = (j, l, t, refl, refl, refl, e)
    by (Some j) (Some l) None e = absurd cc
    by (Some j) None text e = absurd cc
    by None lines text e = absurd cc
