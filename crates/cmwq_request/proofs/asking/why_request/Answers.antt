use Rattle.std.proofs.Common.{◌≡◌, None, Option, Some, ap, codes, option_map, rules, sym, ◌∙◌}
use Rattle.clap.specs.Words.{first_of, found_of, rows_of}
use Rattle.cmwq_question.specs.declared.question.Question.{Question}
use Rattle.cmwq_request.specs.Request.{looks_in, question_arguments, request_words}
use Rattle.cmwq_request.specs.declared.request.Request.{Request}
use Rattle.cmwq_request.proofs.WhyLemmas.{no_question_met, nothing_of, why_met}
use Rattle.cmwq_request.proofs.asking.why_request.Goals as goal

pub returns-clause-words : goal.returns-clause-words
returns-clause-words c every settle flag goes_on =
    let rows = rows_of (found_of c.args.given.now) in
    let looks = c.in_ok-looks.looks in
    let question = c.in_ok-question.question in
    let found : c.looks_of.result ≡ Some looks = search rules in
    let looks_is : looks_in every (first_of (codes "K") rows) (first_of (codes "T") rows) ≡ Some looks = sym (c.looks_of.ensures every flag) ∙ found in
    let met : c.question_of.result ≡ Some question = search rules in
    c.on_file.ensures.words
    ∙ why_met every settle (first_of (codes "K") rows) (first_of (codes "T") rows) (first_of (codes "FILE") rows) (first_of (codes "WORK") rows) (first_of (codes "F") rows)
    (record { question = question; looks = looks; settle = c.flag_of.result })
    (c.flag_of.ensures settle goes_on)
    looks_is
    (λ name. sym (c.question_of.ensures settle looks name) ∙ ap (λ (o : Option Question). option_map (λ question. question_arguments question settle looks name) o) met)

pub returns-in_err-question-clause-words : goal.returns-in_err-question-clause-words
returns-in_err-question-clause-words c every settle flag goes_on =
    let rows = rows_of (found_of c.args.given.now) in
    let looks = c.in_ok-looks.looks in
    let found : c.looks_of.result ≡ Some looks = search rules in
    let looks_is : looks_in every (first_of (codes "K") rows) (first_of (codes "T") rows) ≡ Some looks = sym (c.looks_of.ensures every flag) ∙ found in
    let none : c.question_of.result ≡ None = search rules in
    let nothing : c.from_residual-in_err-question.result ≡ None = search rules in
    ap (λ (o : Option Request). option_map (λ request. request_words request) o) nothing
    ∙ sym
    (no_question_met every settle (first_of (codes "K") rows) (first_of (codes "T") rows) (first_of (codes "FILE") rows) (first_of (codes "WORK") rows) (first_of (codes "F") rows)
    looks looks_is
    (λ name. sym (c.question_of.ensures settle looks name) ∙ ap (λ (o : Option Question). option_map (λ question. question_arguments question settle looks name) o) none))

pub returns-clause-nothing : goal.returns-clause-nothing
returns-clause-nothing c (every, settle, flag, goes_on, none) =
    nothing_of _ _ (returns-clause-words c every settle flag goes_on ∙ none)
