-- How the rows of a picture are named.
use Rattle.std.specs.Prelude.{ℕ, List, [], ◌∷◌, ◌++◌, codes, length, max}
use Rattle.std.specs.Fmt.{decimal}
use Rattle.cmwq_types.specs.Contents.{ScenarioContents}
use Rattle.cmwq_types.specs.Scenario.{queue_at, work_at}
use Rattle.cmwq_picture.specs.PictureContents.{RowContents}
use Rattle.cmwq_picture.specs.declared.row.Title.{Title}
use Rattle.cmwq_picture.specs.declared.row.Title.TheVariants as title
use Rattle.cmwq_render.specs.Letters.{letter_before, letter_shown}

abbrev pub label : ScenarioContents → Title → List ℕ
label S (title.Work w) = (work_at S w.0).name
label S (title.Pending w) = (work_at S w.0).name ++ codes "+"
label S (title.Cpu cpu) = codes "cpu " ++ decimal cpu
label S (title.Worker pool worker) = codes "worker " ++ decimal pool ++ codes "/" ++ decimal worker
label S (title.Rescuer queue) = codes "rescuer " ++ (queue_at S queue.0).name
label S title.Frozen = codes "frozen"
label S title.Pressed = codes "pressure"
label S title.Actor = codes "actor"

-- behind the letter of its work, where the works have these
abbrev pub lettered : ScenarioContents → List ℕ → Title → List ℕ
lettered S letters row = letter_before (letter_shown S letters row) ++ label S row

-- how many bytes the longest of these rows' labels has
abbrev pub longest : ScenarioContents → List ℕ → List RowContents → ℕ
longest S letters [] = 0
longest S letters (row ∷ rows) = max (length (lettered S letters row.title)) (longest S letters rows)
