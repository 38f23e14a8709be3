use Rattle.std.proofs.Common.{◌∙◌, ◌+◌, [], sym, arith}
use Rattle.std.proofs.lemmas.Grind.{common_steps}
use Rattle.std.proofs.lemmas.Str.{IsUtf8-nil, is_utf8-from_IsUtf8}
use Rattle.cmwq_grammar.specs.Cutting.{lines_of}
use Rattle.cmwq_scan.proofs.CuttingLemmas.{lines_of-some, lines_of-none, rest_is, utf8_parts}
use Rattle.cmwq_scan.proofs.cutting.next_line.Goals as goal

pub returns-in-Some-clause-lines : goal.returns-in-Some-clause-lines
returns-in-Some-clause-lines c =
    lines_of-some c.args.text.now c.in-Some.place (sym c.place_of.ensures ∙ c.in-Some.is)
    ∙ rest_is (λ rest. lines_of rest) _ (c.in-Some.place + 1) c.args.text.now

pub returns-in-None-clause-lines : goal.returns-in-None-clause-lines
returns-in-None-clause-lines c =
    lines_of-none c.args.text.now (sym c.place_of.ensures ∙ c.in-None.is) (grind (arith, common_steps))

pub returns-in-Some-clause-utf8 : goal.returns-in-Some-clause-utf8
returns-in-Some-clause-utf8 c = utf8_parts c.args.text.now c.in-Some.place (sym c.place_of.ensures ∙ c.in-Some.is)

pub returns-in-None-clause-utf8 : goal.returns-in-None-clause-utf8
returns-in-None-clause-utf8 c whole = (whole, is_utf8-from_IsUtf8 [] IsUtf8-nil)
