use Rattle.std.proofs.Common.{rules, sym, ◌≡◌, ◌∙◌, Some, option_map, false}
use Rattle.cmwq_request.proofs.DrawLemmas.{styled_scale, styled_text}
use Rattle.cmwq_request.proofs.draw_options.form_asked.Goals.{in_default-via-in-None+in_default, in_default-via-in_default}
use Rattle.cmwq_request.proofs.draw_options.form_asked.Goals as goal

pub returns-in_err-scale : goal.returns-in_err-scale
returns-in_err-scale c svg scale id flag width name fits =
    let met : c.scale_asked.result ≡ Some scale = c.scale_asked.ensures scale width (styled_scale svg scale id fits) in
    search rules

pub returns-in_default : goal.returns-in_default
returns-in_default c svg scale id flag width name fits =
    let flag_is : c.flag_of.result ≡ svg = c.flag_of.ensures svg flag in
    let off : c.flag_of.result ≡ false = search rules in
    let (no_scale, no_id) = styled_text svg scale id (sym flag_is ∙ off) fits in
    let met : c.scale_asked.result ≡ Some scale = c.scale_asked.ensures scale width (styled_scale svg scale id fits) in
    let value : option_map (λ value. value.now) c.value_of-id.result ≡ id = c.value_of-id.ensures ∙ name in
    elim c.in_default.branch [
      | in_default-via-in-None+in_default w ↦ search rules
      | in_default-via-in_default w ↦ search rules
    ]
