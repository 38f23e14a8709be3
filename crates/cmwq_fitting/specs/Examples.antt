-- Short texts up to a place.
use Rattle.std.specs.Prelude.{ℕ, List, ◌++◌, codes}
use Rattle.cmwq_fitting.specs.KnownWords.{fixed_words}

-- up to a place of the second line, the fifth, the seventh, the eighth and the tenth
abbrev pub front_of_head : List ℕ → List ℕ
front_of_head behind = codes "cpus 1\n" ++ behind

abbrev pub front_of_queue : List ℕ → List ℕ
front_of_queue behind = codes "cpus 1\nworkers 1\nsteps 8\nflushes 0\nqueue " ++ behind

abbrev pub after_work : List ℕ → List ℕ
after_work behind = front_of_queue (codes "q max 1\nwork a q\n" ++ behind)

abbrev pub front_of_body : List ℕ → List ℕ
front_of_body behind = after_work (codes "body a\n" ++ behind)

abbrev pub front_of_actor : List ℕ → List ℕ
front_of_actor behind = front_of_body (codes "finish\nactor t\n" ++ behind)

-- these behind the fixed words
abbrev pub fixed_and : List (List ℕ) → List (List ℕ)
fixed_and names = fixed_words ++ names
