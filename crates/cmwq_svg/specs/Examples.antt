-- Worked pictures as SVG, written by hand.
use Rattle.std.specs.Prelude.{List, ℕ, [], ◌∷◌, ◌++◌, codes, replicate}
use Rattle.cmwq_types.specs.Contents.{ScenarioContents}
use Rattle.cmwq_types.specs.Listing.{text_of_lines}
use Rattle.cmwq_picture.specs.PictureContents.{HintContents, PictureContents}
use Rattle.cmwq_picture.specs.declared.cell.Cell.TheVariants.{Burner, Acts, Lasts, Armed}
use Rattle.cmwq_picture.specs.declared.cell.Sign.TheVariants as sign
use Rattle.cmwq_picture.specs.declared.row.Title.TheVariants as title
use Rattle.cmwq_render.specs.Examples.{drawn_row, empty_cells, for, id, named_work, names, queued}
use Rattle.cmwq_svg.specs.Svg.{with_id}
use Rattle.cmwq_svg.specs.declared.style.TheConstants.{OPENING, STYLE}

-- a waits for a tick and burns for two, which the CPU's row shows too
abbrev pub one_name : ScenarioContents
one_name = names (named_work (codes "ab") ∷ [])

abbrev pub two_rows : PictureContents
two_rows =
    record {
      edges = 0 ∷ 1 ∷ 2 ∷ 3 ∷ [];
      rows =
          drawn_row (title.Work (id 0)) (for 1 sign.Listed ++ for 2 sign.Burns)
          ∷ drawn_row (title.Cpu 0) (empty_cells 1 ++ replicate 2 (Burner (id 0))) ∷ [];
      acts = queued 0 0 ∷ [];
    }

-- Labels of five letters: the columns begin at 56 and are 12 wide, and rows at 28 and 48, with what the actor did at 68. Behind the style come
-- times, the rows, the actor's instruction, and the legend.
abbrev pub two_rows_svg : List ℕ
two_rows_svg =
    with_id (codes "one") OPENING.now ++ codes " width='472' height='168' viewBox='0 0 472 168'>\n" ++ with_id (codes "one") STYLE.now
    ++ text_of_lines (
    codes "<path class='grid' d='M56 22V88'/>" ∷ codes "<text class='time' x='56' y='16'>0</text>" ∷ codes "<text class='time' x='56' y='104'>0</text>" ∷
    codes "<text class='name' x='48' y='42'>ab</text>" ∷
    codes "<rect class='listed' x='56' y='31' width='12' height='14'><title>ab why" ∷ codes "ab listed, from 0 to 1</title></rect>" ∷
    codes "<rect class='burns' x='68' y='31' width='24' height='14'><title>ab burns, from 1 to 3</title></rect>" ∷
    codes "<text class='who' x='80' y='42'>ab</text>" ∷ codes "<text class='name' x='48' y='62'>cpu 0</text>" ∷
    codes "<rect class='burns' x='68' y='51' width='24' height='14'><title>ab burns on cpu 0, from 1 to 3</title></rect>" ∷
    codes "<text class='who' x='80' y='62'>ab</text>" ∷
    codes "<rect class='acts' x='56' y='71' width='12' height='14'><title>queue ab 0, at 0</title></rect>" ∷
    codes "<text class='act' x='72' y='82'>queue ab 0</text>" ∷
    codes "<rect class='burns' x='56' y='119' width='20' height='14'><title>burns</title></rect>" ∷ codes "<text class='key' x='84' y='130'>burns</text>" ∷
    codes "<rect class='listed' x='56' y='139' width='20' height='14'><title>listed</title></rect>" ∷ codes "<text class='key' x='84' y='150'>listed</text>" ∷
    codes "</svg>" ∷ [])

-- ab and cd
abbrev pub two_names : ScenarioContents
two_names = names (named_work (codes "ab") ∷ named_work (codes "cd") ∷ [])

-- cd is on a timer, which ab has set in the first tick
abbrev pub armed_row : PictureContents
armed_row = record { edges = 3 ∷ 4 ∷ 5 ∷ []; rows = drawn_row (title.Work (id 1)) (Armed (id 0) ∷ for 1 sign.Timed) ∷ []; acts = [] }

-- Columns begin at 32 and are 20 wide, which is room for a name of two letters: that of ab in the first.
abbrev pub armed_row_svg : List ℕ
armed_row_svg =
    with_id (codes "one") OPENING.now ++ codes " width='448' height='128' viewBox='0 0 448 128'>\n" ++ with_id (codes "one") STYLE.now
    ++ text_of_lines (
    codes "<path class='grid' d='M32 22V48'/>" ∷ codes "<text class='time' x='32' y='16'>3</text>" ∷ codes "<text class='time' x='32' y='64'>3</text>" ∷
    codes "<text class='name' x='24' y='42'>cd</text>" ∷
    codes "<rect class='armed' x='32' y='31' width='20' height='14'><title>1st" ∷ codes "cd on a timer, set by ab, from 3 to 4</title></rect>" ∷
    codes "<text class='who' x='42' y='42'>ab</text>" ∷
    codes "<rect class='timed' x='52' y='31' width='20' height='14'><title>2nd" ∷ codes "cd on a timer, from 4 to 5</title></rect>" ∷
    codes "<text class='who' x='62' y='42'>cd</text>" ∷
    codes "<rect class='timed' x='32' y='79' width='20' height='14'><title>on a timer</title></rect>" ∷ codes "<text class='key' x='60' y='90'>on a timer</text>" ∷
    codes "<rect class='armed' x='32' y='99' width='20' height='14'><title>on a timer that a work has just set</title></rect>" ∷
    codes "<text class='key' x='60' y='110'>on a timer that a work has just set</text>" ∷ codes "</svg>" ∷ [])

-- ab with its pending instance, cd, who burns on the CPU, memory pressure, and the actor, in five columns, of which the fourth stands for 27 ticks
abbrev pub six_rows : PictureContents
six_rows =
    record {
      edges = 0 ∷ 1 ∷ 2 ∷ 3 ∷ 30 ∷ 31 ∷ [];
      rows =
          drawn_row (title.Work (id 0)) (for 1 sign.Waits ++ for 1 sign.Burns ++ for 2 sign.Sleeps ++ for 1 sign.Burns)
          ∷ drawn_row (title.Pending (id 0)) (empty_cells 1 ++ for 2 sign.Deferred ++ empty_cells 2)
          ∷ drawn_row (title.Work (id 1)) (for 2 sign.Timed ++ for 2 sign.Inactive ++ for 1 sign.Listed)
          ∷ drawn_row (title.Cpu 0) (Burner (id 1) ∷ Burner (id 0) ∷ empty_cells 2 ++ Burner (id 0) ∷ [])
          ∷ drawn_row title.Pressed (empty_cells 1 ++ replicate 3 Lasts ++ empty_cells 1)
          ∷ drawn_row title.Actor (Acts ∷ empty_cells 3 ++ Acts ∷ []) ∷ [];
      acts = queued 0 0 ∷ queued 30 1 ∷ [];
    }

abbrev pub said : ℕ → List ℕ → HintContents
said row text = record { row = row; text = text }

abbrev pub six_rows_hints : List HintContents
six_rows_hints = said 0 (codes "1st\n") ∷ said 0 (codes "2nd\n") ∷ said 1 (codes "3rd\n") ∷ said 2 (codes "4th\n") ∷ said 2 (codes "5th\n") ∷ []

-- Labels of eight letters: the columns begin at 80 and are 220 wide, so that the picture is large, and has its labels twice; what the actor did
-- stands at 148 and 168.
abbrev pub six_rows_svg : List ℕ
six_rows_svg =
    codes "<svg xmlns='http://www.w3.org/2000/svg' role='img' class='p7' width='1360' height='428' viewBox='0 0 1360 428'>\n" ++ with_id (codes "p7") STYLE.now
    ++ text_of_lines (
    codes "<path class='grid' d='M80 22V188'/>" ∷ codes "<text class='time' x='80' y='16'>0</text>" ∷ codes "<text class='time' x='80' y='204'>0</text>" ∷
    codes "<path class='grid' d='M1180 22V188'/>" ∷ codes "<text class='time' x='1180' y='16'>31</text>" ∷ codes "<text class='time' x='1180' y='204'>31</text>" ∷
    codes "<text class='name' x='72' y='42'>ab</text>" ∷
    codes "<rect class='waits' x='80' y='31' width='220' height='14'><title>1st" ∷ codes "ab runnable, without the CPU, from 0 to 1</title></rect>" ∷
    codes "<text class='who' x='190' y='42'>ab</text>" ∷
    codes "<rect class='burns' x='300' y='31' width='220' height='14'><title>ab burns, from 1 to 2</title></rect>" ∷
    codes "<text class='who' x='410' y='42'>ab</text>" ∷
    codes "<rect class='sleeps' x='520' y='31' width='440' height='14'><title>2nd" ∷ codes "ab asleep, from 2 to 30</title></rect>" ∷
    codes "<text class='who' x='740' y='42'>ab</text>" ∷
    codes "<rect class='burns' x='960' y='31' width='220' height='14'><title>ab burns, from 30 to 31</title></rect>" ∷
    codes "<text class='who' x='1070' y='42'>ab</text>" ∷ codes "<text class='again' x='1188' y='42'>ab</text>" ∷
    codes "<text class='name' x='72' y='62'>ab+</text>" ∷
    codes "<rect class='deferred' x='300' y='51' width='440' height='14'><title>3rd" ∷ codes "ab deferred, from 1 to 3</title></rect>" ∷
    codes "<text class='who' x='520' y='62'>ab</text>" ∷ codes "<text class='again' x='1188' y='62'>ab+</text>" ∷
    codes "<text class='name' x='72' y='82'>cd</text>" ∷
    codes "<rect class='timed' x='80' y='71' width='440' height='14'><title>4th" ∷ codes "cd on a timer, from 0 to 2</title></rect>" ∷
    codes "<text class='who' x='300' y='82'>cd</text>" ∷
    codes "<rect class='inactive' x='520' y='71' width='440' height='14'><title>5th" ∷ codes "cd inactive, from 2 to 30</title></rect>" ∷
    codes "<text class='who' x='740' y='82'>cd</text>" ∷
    codes "<rect class='listed' x='960' y='71' width='220' height='14'><title>cd listed, from 30 to 31</title></rect>" ∷
    codes "<text class='who' x='1070' y='82'>cd</text>" ∷ codes "<text class='again' x='1188' y='82'>cd</text>" ∷
    codes "<text class='name' x='72' y='102'>cpu 0</text>" ∷
    codes "<rect class='burns' x='80' y='91' width='220' height='14'><title>cd burns on cpu 0, from 0 to 1</title></rect>" ∷
    codes "<text class='who' x='190' y='102'>cd</text>" ∷
    codes "<rect class='burns' x='300' y='91' width='220' height='14'><title>ab burns on cpu 0, from 1 to 2</title></rect>" ∷
    codes "<text class='who' x='410' y='102'>ab</text>" ∷
    codes "<rect class='burns' x='960' y='91' width='220' height='14'><title>ab burns on cpu 0, from 30 to 31</title></rect>" ∷
    codes "<text class='who' x='1070' y='102'>ab</text>" ∷ codes "<text class='again' x='1188' y='102'>cpu 0</text>" ∷
    codes "<text class='name' x='72' y='122'>pressure</text>" ∷
    codes "<rect class='lasts' x='300' y='111' width='660' height='14'><title>pressure, from 1 to 30</title></rect>" ∷
    codes "<text class='again' x='1188' y='122'>pressure</text>" ∷
    codes "<text class='name' x='72' y='142'>actor</text>" ∷
    codes "<rect class='acts' x='80' y='131' width='220' height='14'><title>the actor acts, from 0 to 1</title></rect>" ∷
    codes "<rect class='acts' x='960' y='131' width='220' height='14'><title>the actor acts, from 30 to 31</title></rect>" ∷
    codes "<text class='again' x='1188' y='142'>actor</text>" ∷
    codes "<rect class='acts' x='80' y='151' width='220' height='14'><title>queue ab 0, at 0</title></rect>" ∷
    codes "<text class='act' x='304' y='162'>queue ab 0</text>" ∷
    codes "<rect class='acts' x='960' y='171' width='220' height='14'><title>queue cd 0, at 30</title></rect>" ∷
    codes "<text class='act' x='1184' y='182'>queue cd 0</text>" ∷
    codes "<rect class='gap' x='740' y='22' width='220' height='126'><title>27 ticks from 3 on: nothing changes</title></rect>" ∷
    codes "<rect class='burns' x='80' y='219' width='20' height='14'><title>burns</title></rect>" ∷ codes "<text class='key' x='108' y='230'>burns</text>" ∷
    codes "<rect class='waits' x='80' y='239' width='20' height='14'><title>runnable, without the CPU</title></rect>" ∷
    codes "<text class='key' x='108' y='250'>runnable, without the CPU</text>" ∷
    codes "<rect class='sleeps' x='80' y='259' width='20' height='14'><title>asleep</title></rect>" ∷ codes "<text class='key' x='108' y='270'>asleep</text>" ∷
    codes "<rect class='listed' x='80' y='279' width='20' height='14'><title>listed</title></rect>" ∷ codes "<text class='key' x='108' y='290'>listed</text>" ∷
    codes "<rect class='inactive' x='80' y='299' width='20' height='14'><title>inactive</title></rect>" ∷ codes "<text class='key' x='108' y='310'>inactive</text>" ∷
    codes "<rect class='timed' x='80' y='319' width='20' height='14'><title>on a timer</title></rect>" ∷ codes "<text class='key' x='108' y='330'>on a timer</text>" ∷
    codes "<rect class='deferred' x='80' y='339' width='20' height='14'><title>deferred</title></rect>" ∷ codes "<text class='key' x='108' y='350'>deferred</text>" ∷
    codes "<rect class='lasts' x='80' y='359' width='20' height='14'><title>in effect</title></rect>" ∷ codes "<text class='key' x='108' y='370'>in effect</text>" ∷
    codes "<rect class='acts' x='80' y='379' width='20' height='14'><title>the actor acts</title></rect>" ∷ codes "<text class='key' x='108' y='390'>the actor acts</text>" ∷
    codes "<rect class='gap' x='80' y='399' width='20' height='14'><title>27 ticks from 3 on: nothing changes</title></rect>" ∷
    codes "<text class='key' x='108' y='410'>27 ticks from 3 on: nothing changes</text>" ∷ codes "</svg>" ∷ [])
