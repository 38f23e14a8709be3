use Rattle.std.proofs.Common.{rules, ap, codes, option_map, ◌∷◌, ◌≡◌, ◌∙◌, Option, Some}
use Rattle.clap.specs.Words.{Text, first_of, found_of, rows_of}
use Rattle.cmwq_request.specs.Request.{DrawingWords, draw_arguments, drawing_words}
use Rattle.cmwq_request.proofs.DrawLemmas.{drawn_met}
use Rattle.cmwq_request.proofs.draw_options.draw_request.Goals as goal

pub returns-clause-words : goal.returns-clause-words
returns-clause-words c asked is =
    let rows = rows_of (found_of c.args.given.now) in
    let (given, name, drawing_are, file_is, words_are) = drawn_met _ _ asked is in
    let met = c.drawing_asked.ensures.words given drawing_are in
    let drawing_is : drawing_words c.in_ok-drawing.drawing ≡ given = search rules in
    c.on_file.ensures.words
    ∙ ap (λ (drawing : DrawingWords). option_map (λ file. codes "draw" ∷ draw_arguments drawing file) (first_of (codes "FILE") rows)) drawing_is
    ∙ ap (λ (file : Option Text). option_map (λ file. codes "draw" ∷ draw_arguments given file) file) file_is
    ∙ ap Some words_are

pub returns-in_err-drawing-clause-words : goal.returns-in_err-drawing-clause-words
returns-in_err-drawing-clause-words c asked is =
    let (given, name, drawing_are, file_is, words_are) = drawn_met _ _ asked is in
    let met = c.drawing_asked.ensures.words given drawing_are in
    search rules
