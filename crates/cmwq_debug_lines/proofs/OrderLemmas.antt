-- An order of three words behind `break work`.
use Rattle.std.proofs.Common.{◌≡◌, ℕ, ◌<◌, ◌≤◌, Bool, true, cond, List, [], ◌∷◌, length, arith, ap, sym, ◌∙◌}
use Rattle.std.specs.Prelude.{codes, slice_index_or}
use Rattle.std.specs.Str.{bytes_eq}
use Rattle.cmwq_types.specs.Contents.{ScenarioContents}
use Rattle.cmwq_scan.specs.Words.{Word, words_in}
use Rattle.cmwq_debug.specs.EventWords.{kind_of}
use Rattle.cmwq_debug_lines.specs.Orders.{on_work, work_break}
use Rattle.cmwq_types.specs.Scenario.{work_named}
use Rattle.cmwq_debug_lines.specs.declared.order.Order.{Order}
use Rattle.cmwq_debug_lines.specs.declared.order.Order.TheVariants.{Bad}

pub break-is : (S : ScenarioContents) (words : List Word) (first second third : Word) (name word event : List ℕ) (order : Order) → 3 ≤ length words → length words < 4
    → first ≡ slice_index_or words 0 first → second ≡ slice_index_or words 1 second → third ≡ slice_index_or words 2 third
    → name ≡ first.bytes → word ≡ second.bytes → event ≡ third.bytes → bytes_eq word (codes "event") ≡ true
    → order ≡ on_work (work_named S name) (kind_of event) → order ≡ work_break S (words_in words)
break-is S [] first second third name word event order some few one two three named worded told test is = absurd (omega arith)
break-is S (a ∷ []) first second third name word event order some few one two three named worded told test is = absurd (omega arith)
break-is S (a ∷ b ∷ []) first second third name word event order some few one two three named worded told test is = absurd (omega arith)
break-is S (a ∷ b ∷ c ∷ d ∷ rest) first second third name word event order some few one two three named worded told test is = absurd (omega arith)
break-is S (a ∷ b ∷ c ∷ []) first second third name word event order some few one two three named worded told test is =
    let name_is : name ≡ a.bytes = named ∙ ap (λ (w : Word). w.bytes) one in
    let word_is : word ≡ b.bytes = worded ∙ ap (λ (w : Word). w.bytes) two in
    let event_is : event ≡ c.bytes = told ∙ ap (λ (w : Word). w.bytes) three in
    let tested : bytes_eq b.bytes (codes "event") ≡ true = ap (λ (w : List ℕ). bytes_eq w (codes "event")) (sym word_is) ∙ test in
    is ∙ ap (λ (n : List ℕ). on_work (work_named S n) (kind_of event)) name_is
    ∙ ap (λ (e : List ℕ). on_work (work_named S a.bytes) (kind_of e)) event_is
    ∙ sym (ap (λ (t : Bool). cond t (on_work (work_named S a.bytes) (kind_of c.bytes)) Bad) tested)
