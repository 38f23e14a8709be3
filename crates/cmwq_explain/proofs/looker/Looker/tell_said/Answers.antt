use Rattle.std.proofs.Common.{◌≡◌, List, ℕ, Option, [], ◌++◌, Bool, Err, Some, ap, append_assoc, codes, if◌then◌else◌, refl, rules, string_bytes, sym, true, ◌∙◌}
use Rattle.std.proofs.lemmas.Result.{err_from_is_err_and}
use Rattle.std.specs.Fmt.{decimal}
use Rattle.cmwq_play.proofs.TellerLemmas.{wrote_once}
use Rattle.cmwq_explain.specs.Changes.{is_new, said_line, position_text, words_said}
use Rattle.cmwq_explain.specs.Looking.{line_here}
use Rattle.cmwq_explain.proofs.looker.Looker.tell_said.Goals as goal

-- the parts of a line, as they are written
in_order : (d n m s t : List ℕ) → (((d ++ n) ++ m) ++ s) ++ t ≡ d ++ (n ++ (m ++ (s ++ t)))
in_order d n m s t = append_assoc ((d ++ n) ++ m) s t ∙ append_assoc (d ++ n) m (s ++ t) ∙ append_assoc d n (m ++ (s ++ t))

line_new : (k time : ℕ) (before : Option (List ℕ)) (text : List ℕ) → is_new before text ≡ true → position_text k time text ≡ said_line k time before (Some text)
line_new k time before text new = sym (ap (λ (is : Bool). if is then position_text k time text else []) new)

pub returns-in_err-write-clause-told : goal.returns-in_err-write-clause-told
returns-in_err-write-clause-told g c =
    let a = c.args.session.now in
    let l = c.args.self.now in
    let s = g.M.Reads.state a.machine in
    let text = string_bytes c.in-Some.text in
    let now = c.now-now.result in
    let written : List ℕ = codes "at " ++ (decimal l.position ++ (codes " now " ++ (decimal now ++ (codes " " ++ text)))) in
    let new : is_new l.said text ≡ true = search rules in
    let is : written ≡ line_here l s (words_said c.args.said) =
    ap (λ (more : List ℕ). codes "at " ++ more) (sym (in_order (decimal l.position) (codes " now ") (decimal now) (codes " ") text))
    ∙ ap (λ (n : ℕ). position_text l.position n text) c.now-now.ensures
    ∙ line_new l.position s.time l.said text new
    ∙ ap (λ (said : Option (List ℕ)). said_line l.position s.time l.said said) (sym (ap words_said c.in-Some.is)) in
    let out = c.in_err-write.ensures in
    let p = err_from_is_err_and c.from_residual.result c.from_residual.ensures.1 in
    rw (p.1, p.2) (wrote_once g.M.Reads.loaded g.M.Reads.state g.W.Write.contents g.W.Sink.failed a (record a { lines = c.write.new.self }) s written (line_here l s (words_said c.args.said)) (Err c.in_err-write.field-0.0)
    c.requires.has_scenario c.requires.has_lines refl refl is out.same tt out.err out.failed out.why)
