-- The search for the first letter that passes a test.
use Rattle.std.proofs.Common.{◌≡◌, Bool, cond, List, [], ◌∷◌, Some, None, Option, refl, ap}
use Rattle.std.specs.List.{find}
use Rattle.std.specs.Option.{option_map}
use Rattle.rulebook.specs.declared.Letter.{Letter}
use Rattle.rulebook.specs.Meaning.{first}

-- the library's search is this one
pub find_first : (test : Letter → Bool) (list : List Letter) → find test list ≡ first test list
find_first test [] = refl
find_first test (letter ∷ later) = ap (cond (test letter) (Some letter)) (find_first test later)

-- of an answer that is told as it is
pub found_as_it_is : (found : Option Letter) → found ≡ option_map (λ letter. letter) found
found_as_it_is None = refl
found_as_it_is (Some letter) = refl
