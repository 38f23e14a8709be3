use Rattle.std.proofs.Common.{ap, refl, bytes_eq, if◌then◌else◌, ◌≡◌, ◌∙◌, Bool, Option, None, Some, true, false, codes}
use Rattle.std.specs.Cmp.Lexicographic.{bytes_decides}
use Rattle.clap.specs.Words.{Text, found_of, one_of, one_text, rows_of}
use Rattle.clap.proofs.WalkLemmas.{one_text-rows}
use Rattle.cmwq_request.specs.Request.{flag_in}
use Rattle.cmwq_request.proofs.draw_options.flag_of.Goals as goal

pub returns : goal.returns
returns c holds = of (one_of c.args.id.now (rows_of (found_of c.args.given.now))) (one_text-rows (found_of c.args.given.now) c.args.id.now)
  where
    by : (text : Text) (yes nope : Bool) → bytes_eq text (codes "true") ≡ yes → bytes_eq text (codes "false") ≡ nope → one_text (found_of c.args.given.now) c.args.id.now ≡ Some text
        → (if yes then Some true else if nope then Some false else None) ≡ Some holds → c.get_flag.result ≡ holds
    by text true nope yes_is no_is same is =
        let given : c.get_flag.result ≡ true = c.get_flag.ensures.value (same ∙ ap Some ((bytes_decides text _).0 yes_is)) in cc
    by text false true yes_is no_is same is =
        let given : c.get_flag.result ≡ false = c.get_flag.ensures.other (same ∙ ap Some ((bytes_decides text _).0 no_is)) in cc
    by text false false yes_is no_is same is = cc

    of : (o : Option Text) → one_text (found_of c.args.given.now) c.args.id.now ≡ o → flag_in o ≡ Some holds → c.get_flag.result ≡ holds
    of None same is = let given : c.get_flag.result ≡ false = c.get_flag.ensures.none same in cc
    of (Some text) same is = by text (bytes_eq text (codes "true")) (bytes_eq text (codes "false")) refl refl same is
