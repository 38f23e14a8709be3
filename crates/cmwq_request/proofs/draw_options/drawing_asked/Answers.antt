use Rattle.std.proofs.Common.{rules, ◌≡◌, ◌∙◌, Some, option_map}
use Rattle.cmwq_request.proofs.DrawLemmas.{drawing_met}
use Rattle.cmwq_request.proofs.draw_options.drawing_asked.Goals as goal

pub returns-clause-words : goal.returns-clause-words
returns-clause-words c given is =
    let (settle, svg, fold, span, works, scale, id, fits) = drawing_met _ _ _ _ _ _ _ given is in
    let settle_is : c.flag_of.result ≡ given.settle = c.flag_of.ensures given.settle settle in
    let fold_is : c.flag_of-2.result ≡ given.fold = c.flag_of-2.ensures given.fold fold in
    let span_is : c.span_asked.result ≡ Some given.span = c.span_asked.ensures.span given.span span in
    let form_is = c.form_asked.ensures given.svg given.scale given.id svg scale id fits in
    let works_is : option_map (λ value. value.now) c.value_of.result ≡ given.works = c.value_of.ensures ∙ works in
    search rules

pub returns-in_err-span-clause-words : goal.returns-in_err-span-clause-words
returns-in_err-span-clause-words c given is =
    let (settle, svg, fold, span, works, scale, id, fits) = drawing_met _ _ _ _ _ _ _ given is in
    let span_is : c.span_asked.result ≡ Some given.span = c.span_asked.ensures.span given.span span in
    search rules

pub returns-in_err-form-clause-words : goal.returns-in_err-form-clause-words
returns-in_err-form-clause-words c given is =
    let (settle, svg, fold, span, works, scale, id, fits) = drawing_met _ _ _ _ _ _ _ given is in
    let form_is = c.form_asked.ensures given.svg given.scale given.id svg scale id fits in
    search rules
