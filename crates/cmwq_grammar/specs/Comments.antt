-- Comments behind a listing, and the room for them.
use Rattle.std.specs.Prelude.{ℕ, ◌+◌, ◌*◌, List, [], ◌∷◌, ◌++◌, codes}
use Rattle.std.specs.List.{flat_map}
use Rattle.cmwq_grammar.specs.Cutting.{lines_of}

-- each line of the notes after `# `
abbrev pub comments : List ℕ → List ℕ
comments notes = flat_map (λ line. codes "# " ++ line ++ 10 ∷ []) (lines_of notes)

-- how long the listing of a valid scenario with so many actors may be, at most
abbrev pub listing_room : ℕ → ℕ
listing_room actors = 510599 + actors * 213014
