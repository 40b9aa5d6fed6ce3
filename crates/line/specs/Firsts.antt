-- The first of a list, and the others.
use Rattle.std.specs.Prelude.{List, [], ◌∷◌, Some, None, Option}

abbrev pub first : {X : Type 0} → List X → Option X
first [] = None
first (x ∷ xs) = Some x

abbrev pub others : {X : Type 0} → List X → List X
others [] = []
others (x ∷ xs) = xs
