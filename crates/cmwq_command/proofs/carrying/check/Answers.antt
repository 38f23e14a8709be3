use Rattle.std.proofs.Common.{rules, ◌≡◌, ◌+◌, ◌<◌, [], IfSome, List, arith, length, map, subst, suc, sym, ℕ}
use Rattle.std.proofs.lemmas.List.{get_or-map}
use Rattle.cmwq_command.specs.Carried.{HasChecked, IsJudged}
use Rattle.cmwq_command.proofs.carrying.check.Goals as goal

pub loop-path-preserved : goal.loop-path-preserved
loop-path-preserved g c =
    let output = g.O.Write.contents in
    let errors = g.E.Write.contents in
    let store = g.F.FileStore.bytes c.args.files.now in
    let paths = c.args.paths.now in
    let index = c.loop-path.path-index in
    let inside : index < length paths = search rules in
    let more : index + 1 ≡ suc index = omega arith in
    record {
      output = c.in_ok-judged.ensures.output;
      errors = c.in_ok-judged.ensures.errors;
      checked = subst
          (λ (n : ℕ). HasChecked store c.args.look (map (λ path. path.now) paths) n (output c.args.output.now) (output c.check_file.new.output) (errors c.args.errors.now) (errors c.check_file.new.errors) c.max-status.result)
          (sym more) (
            output c.loop-path.output,
            errors c.loop-path.errors,
            c.loop-path.status,
            c.in_ok-judged.judged,
            c.loop-path.invariant.checked,
            subst (λ (file : List ℕ). IfSome (store file) (λ bytes. IsJudged c.args.look file bytes (output c.loop-path.output) (output c.check_file.new.output) (errors c.loop-path.errors) (errors c.check_file.new.errors) c.in_ok-judged.judged))
                (sym (get_or-map (λ path. path.now) paths index _ [] inside)) c.in_ok-judged.ensures.judged,
            search rules,
          );
    }
